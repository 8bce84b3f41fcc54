-- The inputs of the commands, as JSON values give them. Each object has no other keys than those that are named.
use Rattle.std.specs.Prelude.{ℕ, Bool, List, [], ◌∷◌, codes, Option, Some, None}
use Rattle.std.specs.declared.ops.Range.{Range}
use Rattle.serde_json.specs.Data.{Data}
use Rattle.serde_json.specs.Find.{get}
use Rattle.json_form.specs.Form.{◌>>=◌, with_keys, unless_null, number_at, mark_at, hex_at, number_in, ended_before}
use Rattle.pe_core.specs.declared.section_table.SectionTable.{SectionTable}
use Rattle.pe_signed.specs.declared.authenticode.ExcludedSections.{ExcludedSections}
use Rattle.pe_json.specs.Image.{ImageData, image_of, image_keys, sections_at}

-- -- `signed`

-- a file, its section table, and the places that its signature leaves out where they are known
pub record SignedData : Type 0 where
  pub bytes : List ℕ
  pub sections : List SectionTable
  pub excluded : Option ExcludedSections

-- a range is a list of its start and its end
unfoldable pub range_of : Data → Option (Range ℕ)
range_of d = ended_before 2 d do
  start ← number_in 0 d
  end ← number_in 1 d
  Some (record { start = start; end = end })

-- the places that a signature leaves out
unfoldable pub places_of : Data → Option ExcludedSections
places_of d = with_keys (codes "checksum" ∷ codes "certificate_entry" ∷ codes "certificate_size" ∷ codes "header_end" ∷ []) d do
  checksum_value ← get (codes "checksum") d
  checksum ← range_of checksum_value
  entry_value ← get (codes "certificate_entry") d
  entry ← range_of entry_value
  certificate_size ← number_at (codes "certificate_size") d
  header_end ← number_at (codes "header_end") d
  Some (record { checksum = checksum; datadir_entry_certtable = entry; certificate_table_size = certificate_size; end_image_header = header_end })

-- the same, or none where the value is null
abbrev pub excluded_of : Data → Option (Option ExcludedSections)
excluded_of d = unless_null places_of d

-- the input of `signed`
unfoldable pub signed_input : Data → Option SignedData
signed_input d = with_keys (codes "bytes" ∷ codes "sections" ∷ codes "excluded" ∷ []) d do
  bytes ← hex_at (codes "bytes") d
  sections ← sections_at (codes "sections") d
  value ← get (codes "excluded") d
  excluded ← excluded_of value
  Some (record { bytes = bytes; sections = sections; excluded = excluded })

-- -- `clr`

unfoldable pub clr_input : Data → Option ImageData
clr_input d = with_keys image_keys d (image_of d)

-- -- `loadconfig`

-- a file of 64 or 32 bits, and a directory in it
pub record WideData : Type 0 where
  pub image : ImageData
  pub is_64 : Bool

unfoldable pub load_config_input : Data → Option WideData
load_config_input d = with_keys (codes "is_64" ∷ image_keys) d do
  image ← image_of d
  is_64 ← mark_at (codes "is_64") d
  Some (record { image = image; is_64 = is_64 })

-- -- `tls`

-- the same, with the address at which the image stands in memory
pub record BasedData : Type 0 where
  pub image : ImageData
  pub is_64 : Bool
  pub image_base : ℕ

unfoldable pub tls_input : Data → Option BasedData
tls_input d = with_keys (codes "image_base" ∷ codes "is_64" ∷ image_keys) d do
  image ← image_of d
  is_64 ← mark_at (codes "is_64") d
  image_base ← number_at (codes "image_base") d
  Some (record { image = image; is_64 = is_64; image_base = image_base })
