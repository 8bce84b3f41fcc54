-- The numbers that are compared with the limits, by the sections and symbols of an object.
use Rattle.std.specs.Prelude.{ℕ, ◌+◌, length, count_by, sum_by, if◌then◌else◌}
use Rattle.object_core.specs.Object.{SymbolData, SectionData, ObjectData}
use Rattle.object_elf.specs.Counts.{Counts}
use Rattle.object_elf.specs.Writing.{has_relocations}

abbrev pub symbol_name_size : SymbolData → ℕ
symbol_name_size s = length s.name + 1

-- the name of a section, and that of its relocations
abbrev pub section_name_size : SectionData → ℕ
section_name_size s = if has_relocations s then length s.name + 1 + (length s.name + 6) else length s.name + 1

-- the counts of an object; five headers and 43 bytes of names are the same in each file
abbrev pub plain_counts : ObjectData → Counts
plain_counts o =
    record {
      sections = length o.sections + count_by has_relocations o.sections + 5;
      symbols = length o.symbols + 1;
      contents = o.content_sum;
      names = 1 + sum_by symbol_name_size o.symbols + (43 + sum_by section_name_size o.sections);
    }
