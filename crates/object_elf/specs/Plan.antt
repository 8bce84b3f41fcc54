-- The numbers of an ELF file that are counted before it is written.
use Rattle.std.specs.Prelude.{◌≡◌, ℕ, ◌≤◌, ◌^◌, List, map, Option, MatchOption}
use Rattle.std.specs.List.{enumerate_from}
use Rattle.object_core.specs.Object.{SymbolData, ObjectData}
use Rattle.object_core.specs.LinkTable.{ElfTable}
use Rattle.object_core.specs.ElfRows.{elf_table_of, row_in}
use Rattle.object_elf.specs.Counts.{elf_counts}
use Rattle.object_elf.specs.Layout.{Part, parts_of, start_of, file_length}
use Rattle.object_elf.specs.Limits.{IsWithinLimits}

-- the row of each symbol, in order of creation; where each part starts; and the length of the file
pub record PlanData : Type 0 where
  pub rows : List ℕ
  pub places : List ℕ
  pub length : ℕ

abbrev pub row_of : List SymbolData → ℕ × SymbolData → ℕ
row_of symbols s = row_in symbols s.0

-- the row of each symbol in the table, in order of creation
abbrev pub rows_of : List SymbolData → List ℕ
rows_of symbols = map (row_of symbols) (enumerate_from 0 symbols)

abbrev pub place_of : List Part → ℕ × Part → ℕ
place_of parts p = start_of parts p.0 p.1

-- where each part starts
abbrev pub places_of : List Part → List ℕ
places_of parts = map (place_of parts) (enumerate_from 0 parts)

-- the numbers of an object's file
unfoldable pub plan_of : ObjectData → PlanData
plan_of o = record { rows = rows_of o.symbols; places = places_of (parts_of (elf_table_of o)); length = file_length (elf_table_of o) }

-- the object reaches no limit, and the plan has its numbers
pub record IsPlanOf (plan : PlanData) (o : ObjectData) : Type 0 where
  pub limits : IsWithinLimits (elf_counts (elf_table_of o) o.content_sum)
  pub numbers : plan ≡ plan_of o

-- the parts of a table start at these places, and its file has this length
pub record HasPlaces (places : List ℕ) (length : ℕ) (t : ElfTable) : Type 0 where
  pub starts : places ≡ places_of (parts_of t)
  pub end : length ≡ file_length t

-- an answer that tells the length of a table's file; none where its parts don't start at these places, or its file is longer than 64 bits tell
abbrev pub LengthAt : Option ℕ → List ℕ → ElfTable → Type 0
LengthAt answer places t = MatchOption answer (places ≡ places_of (parts_of t) → 2 ^ 64 ≤ file_length t) (λ length. HasPlaces places length t)
