-- What is taken out of a fat file.
use Rattle.std.specs.Prelude.{◌≡◌, ℕ, List, ◌++◌, codes, Option, Some, None}
use Rattle.goblin_mach.specs.FatTable.{fat_table}
use Rattle.fat_macho.specs.Reader.{reader_cause, extract_of}
use Rattle.fat_macho.specs.Texts.{error_text}
use Rattle.fat_commands.specs.declared.extract.Unextracted.{Unextracted}
use Rattle.fat_commands.specs.declared.extract.Unextracted.TheVariants.{Refused, Absent}

-- the slice is that of the name's architecture in a fat file
pub record IsExtracted (b name slice : List ℕ) : Type 0 where
  pub reader : reader_cause b ≡ None
  pub found : extract_of (fat_table b) name ≡ Some slice

-- why no slice is taken out: the bytes are no fat file that is read, or have no slice of that name's architecture
abbrev pub TellsUnextracted : List ℕ → List ℕ → Unextracted → Type 0
TellsUnextracted b name (Refused error) = reader_cause b ≡ Some error
TellsUnextracted b name Absent = (reader_cause b ≡ None) × (extract_of (fat_table b) name ≡ None)

-- the text of a refusal; that of the reader of tables is its own
abbrev pub unextracted_text : List ℕ → Unextracted → Option (List ℕ)
unextracted_text name (Refused error) = error_text error
unextracted_text name Absent = Some (codes "no such architecture: " ++ name)
