-- The laws of the constants, of the names and of the table.
use Rattle.std.specs.Prelude.{◌≡◌, ℕ, ◌+◌, ◌<◌, ◌≤◌, ◌==◌, ◌↔◌, ◌++◌, List, length, slice_get, IsTrue, Some, Ok, Err, Contains, bytes_eq}
use Rattle.std.specs.List.{list_all}
use Rattle.goblin_mach.specs.declared.mach_error.Error.TheVariants.{BufferTooShort}
use Rattle.goblin_mach.specs.FatFile.{FatFile}
use Rattle.goblin_mach.specs.FatTable.{place_of_arch, arch_at, fat_items}
use Rattle.goblin_mach.specs.Architectures.{arch, architectures, aliases, pair_named, name_of_pair}

-- each constant is the number beside it
abbrev pub AreNumbers : List (ℕ × ℕ) → Type 0
AreNumbers rows = IsTrue (list_all (λ row. row.0 == row.1) rows)

-- each constant is the text beside it
abbrev pub AreTexts : List (List ℕ × List ℕ) → Type 0
AreTexts rows = IsTrue (list_all (λ row. bytes_eq row.0 row.1) rows)

-- a name stands for a type and subtype exactly where the architectures or their other names have such a row
abbrev pub NamesAreRows : Type 0
NamesAreRows =
    (name : List ℕ) (cputype cpusubtype : ℕ)
    → (pair_named name ≡ Some (cputype, cpusubtype)) ↔ Contains (architectures ++ aliases) (arch name cputype cpusubtype)

-- a type and subtype have a name exactly where the architectures have such a row
abbrev pub PairsAreRows : Type 0
PairsAreRows =
    (name : List ℕ) (cputype cpusubtype : ℕ)
    → (name_of_pair cputype cpusubtype ≡ Some name) ↔ Contains architectures (arch name cputype cpusubtype)

-- the name that a type and subtype have stands for them
abbrev pub NamesLeadBack : Type 0
NamesLeadBack = (name : List ℕ) (cputype cpusubtype : ℕ) → name_of_pair cputype cpusubtype ≡ Some name → pair_named name ≡ Some (cputype, cpusubtype)

-- the file has each entry before number k whole
abbrev pub HasEntries : FatFile → ℕ → Type 0
HasEntries fat k = (i : ℕ) → i < k → place_of_arch (i + 1) ≤ length fat.bytes

-- entry k, where it is asked for and the file has it whole, is item k of an iteration
abbrev pub EntriesByPlace : Type 0
EntriesByPlace = (fat : FatFile) (k : ℕ) → k < fat.narches → HasEntries fat (k + 1) → slice_get (fat_items fat) k ≡ Some (Ok (arch_at fat.bytes k))

-- the first entry that the file doesn't have whole is an error, and the last item
abbrev pub ErrorIsLast : Type 0
ErrorIsLast =
    (fat : FatFile) (k : ℕ)
    → k < fat.narches → HasEntries fat k → length fat.bytes < place_of_arch (k + 1)
    → (slice_get (fat_items fat) k ≡ Some (Err BufferTooShort)) × (length (fat_items fat) ≡ k + 1)

-- where the file has all entries whole, they are all items
abbrev pub AllAreItems : Type 0
AllAreItems = (fat : FatFile) → HasEntries fat fat.narches → length (fat_items fat) ≡ fat.narches
