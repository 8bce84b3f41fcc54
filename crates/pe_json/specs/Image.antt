-- What the readers of a directory are given, as a JSON value gives it.
use Rattle.std.specs.Prelude.{ℕ, true, List, [], ◌∷◌, replicate, codes, if◌then◌else◌, Option, Some, None}
use Rattle.serde_json.specs.Data.{Data}
use Rattle.serde_json.specs.Find.{get}
use Rattle.json_form.specs.Form.{◌>>=◌, each_of, items_at, u32_at, mark_or, hex_at, u32_in, ended_before}
use Rattle.pe_core.specs.declared.section_table.SectionTable.{SectionTable}
use Rattle.pe_core.specs.declared.section_table.DataDirectory.{DataDirectory}
use Rattle.pe_core.specs.declared.section_table.ParseOptions.{ParseOptions}

-- a file, its section table, a directory in it, and how addresses are resolved
pub record ImageData : Type 0 where
  pub bytes : List ℕ
  pub directory : DataDirectory
  pub sections : List SectionTable
  pub file_alignment : ℕ
  pub options : ParseOptions

-- a row of the section table, without a name and characteristics, which no reader looks at
abbrev pub plain_section : ℕ → ℕ → ℕ → ℕ → SectionTable
plain_section address size pointer raw_size =
    record { name = replicate 8 0; virtual_size = size; virtual_address = address; size_of_raw_data = raw_size; pointer_to_raw_data = pointer; characteristics = 0 }

-- a row is a list of its address, its size in memory, its pointer and its size in the file
unfoldable pub section_of : Data → Option SectionTable
section_of d = ended_before 4 d do
  address ← u32_in 0 d
  size ← u32_in 1 d
  pointer ← u32_in 2 d
  raw_size ← u32_in 3 d
  Some (plain_section address size pointer raw_size)

-- the rows of the list under a key
abbrev pub sections_at : List ℕ → Data → Option (List SectionTable)
sections_at key d = items_at key d >>= λ ds. each_of section_of ds

-- an entry of the data directory is a list of its address and its size
unfoldable pub directory_of : Data → Option DataDirectory
directory_of d = ended_before 2 d do
  address ← u32_in 0 d
  size ← u32_in 1 d
  Some (record { virtual_address = address; size = size })

-- the keys of what is said of a file and a directory in it
abbrev pub image_keys : List (List ℕ)
image_keys = codes "bytes" ∷ codes "directory" ∷ codes "sections" ∷ codes "file_alignment" ∷ codes "resolve_rva" ∷ []

-- what an object says of a file and a directory in it; addresses are resolved where it doesn't say otherwise
unfoldable pub image_of : Data → Option ImageData
image_of d = do
  bytes ← hex_at (codes "bytes") d
  entry ← get (codes "directory") d
  directory ← directory_of entry
  sections ← sections_at (codes "sections") d
  file_alignment ← u32_at (codes "file_alignment") d
  resolve_rva ← mark_or (codes "resolve_rva") true d
  Some (record { bytes = bytes; directory = directory; sections = sections; file_alignment = file_alignment; options = record { resolve_rva = resolve_rva } })
