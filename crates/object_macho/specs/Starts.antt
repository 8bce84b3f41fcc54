-- Where the parts of a file start.
use Rattle.std.specs.Prelude.{◌≡◌}
use Rattle.object_core.specs.LinkTable.{MachTable}
use Rattle.object_macho.specs.declared.commands.Starts.{Starts}
use Rattle.object_macho.specs.Layout.{end_of_sections, contents_size, data_start, relocations_start, symbols_start, strings_start, mach_length}

-- these are the places of the file of a table
pub record AreStarts (t : MachTable) (s : Starts) : Type 0 where
  pub memory : s.memory ≡ end_of_sections t.sections
  pub contents : s.contents ≡ contents_size t
  pub start : s.start ≡ data_start t
  pub relocations : s.relocations ≡ relocations_start t
  pub symbols : s.symbols ≡ symbols_start t
  pub strings : s.strings ≡ strings_start t
  pub length : s.length ≡ mach_length t
