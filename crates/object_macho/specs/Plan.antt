-- The numbers of a Mach-O file that are counted before it is written.
use Rattle.std.specs.Prelude.{◌≡◌, ℕ, ◌^◌, ◌<◌, Bool, List, ◌++◌, map, filter}
use Rattle.std.specs.List.{enumerate_from}
use Rattle.object_core.specs.Object.{SymbolData, SectionData, ObjectData, is_global}
use Rattle.object_core.specs.MachRows.{is_mach_stored, is_mach_zero_fill, section_number_in, addresses_in, is_mach_local, mach_row_in, macho_table_of}
use Rattle.object_macho.specs.Layout.{record_count, mach_length}
use Rattle.object_macho.specs.Counts.{MachCounts, mach_counts}

-- the numbers of the elements that pass, in their order
abbrev pub numbers_of : {A : Type 0} → (A → Bool) → List A → List ℕ
numbers_of p xs = map (λ e. e.0) (filter (λ e. p e.1) (enumerate_from 0 xs))

-- the sections by their numbers in the object, in the order of their headers
unfoldable pub section_order : List SectionData → List ℕ
section_order sections = numbers_of is_mach_stored sections ++ numbers_of is_mach_zero_fill sections

-- the symbols by their numbers in the object, in the order of their rows
unfoldable pub symbol_order : List SymbolData → List ℕ
symbol_order symbols = numbers_of is_mach_local symbols ++ numbers_of is_global symbols

abbrev pub number_of : List SectionData → ℕ × SectionData → ℕ
number_of sections s = section_number_in sections s.0

-- the number of each section's header, from 0, in order of creation
abbrev pub section_numbers : List SectionData → List ℕ
section_numbers sections = map (number_of sections) (enumerate_from 0 sections)

abbrev pub row_of : List SymbolData → ℕ × SymbolData → ℕ
row_of symbols s = mach_row_in symbols s.0

-- the row of each symbol in the table, in order of creation
abbrev pub rows_of : List SymbolData → List ℕ
rows_of symbols = map (row_of symbols) (enumerate_from 0 symbols)

-- the orders of sections and symbols, the numbers of headers and rows, the addresses in the order of headers, how many records
-- there are, and the length of the file
pub record PlanData : Type 0 where
  pub sections : List ℕ
  pub numbers : List ℕ
  pub addresses : List ℕ
  pub symbols : List ℕ
  pub rows : List ℕ
  pub records : ℕ
  pub length : ℕ

-- the numbers of an object's file
unfoldable pub plan_of : ObjectData → PlanData
plan_of o =
    record {
      sections = section_order o.sections;
      numbers = section_numbers o.sections;
      addresses = addresses_in o.sections;
      symbols = symbol_order o.symbols;
      rows = rows_of o.symbols;
      records = record_count (macho_table_of o).cputype (macho_table_of o).sections;
      length = mach_length (macho_table_of o);
    }

-- the plan has the numbers of an object's file
pub record HasNumbers (plan : PlanData) (o : ObjectData) : Type 0 where
  pub sections : plan.sections ≡ section_order o.sections
  pub numbers : plan.numbers ≡ section_numbers o.sections
  pub addresses : plan.addresses ≡ addresses_in o.sections
  pub symbols : plan.symbols ≡ symbol_order o.symbols
  pub rows : plan.rows ≡ rows_of o.symbols
  pub records : plan.records ≡ record_count (macho_table_of o).cputype (macho_table_of o).sections
  pub length : plan.length ≡ mach_length (macho_table_of o)

-- no limit is reached
pub record IsWithinLimits (counts : MachCounts) : Type 0 where
  pub sections : counts.sections < 256
  pub symbols : counts.symbols < 2 ^ 24
  pub contents : counts.contents < 2 ^ 31
  pub file : counts.file < 2 ^ 32

-- the object reaches no limit, and the plan has its numbers
pub record IsPlanOf (plan : PlanData) (o : ObjectData) : Type 0 where
  pub limits : IsWithinLimits (mach_counts (macho_table_of o) o.content_sum)
  pub numbers : plan ≡ plan_of o
