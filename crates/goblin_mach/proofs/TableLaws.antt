-- The items of a table by their numbers.
use Rattle.std.proofs.Common.{◌≡◌, ℕ, zero, suc, ◌+◌, ◌<◌, ◌≤◌, List, length, slice_get, Some, Ok, Err, refl, arith}
use Rattle.goblin_mach.specs.declared.mach_error.Error.TheVariants.{BufferTooShort}
use Rattle.goblin_mach.specs.FatFile.{FatFile}
use Rattle.goblin_mach.specs.FatTable.{place_of_arch, arch_at, whole_entries, items_from, fat_items}
use Rattle.goblin_mach.specs.Laws.{HasEntries}
use Rattle.goblin_mach.proofs.Items.{item_next, items_end, item_missing}

-- each of the entries before number k lies in the file
entries_whole : (fat : FatFile) (k : ℕ) → HasEntries fat k → k ≤ whole_entries fat.bytes
entries_whole fat zero h = omega arith
entries_whole fat (suc k) h = omega (arith, h k (omega arith))

item_at : (b : List ℕ) (n i k m : ℕ) → i + k ≡ m → m < n → m < whole_entries b → slice_get (items_from b i n) k ≡ Some (Ok (arch_at b m))
item_at b n i zero m e h w =
    let same : i ≡ m = omega arith in
    rw (item_next b i n (omega arith) (omega arith), same) refl
item_at b n i (suc k) m e h w = rw (item_next b i n (omega arith) (omega arith)) (item_at b n (i + 1) k m (omega arith) h w)

error_at : (b : List ℕ) (n i k m : ℕ) → i + k ≡ m → m < n → m ≡ whole_entries b → (slice_get (items_from b i n) k ≡ Some (Err BufferTooShort)) × (length (items_from b i n) ≡ k + 1)
error_at b n i zero m e h w =
    let here : i ≤ whole_entries b = omega arith in
    rw (item_missing b i n (omega arith) here (omega arith), items_end b i here) (refl, refl)
error_at b n i (suc k) m e h w =
    let rest = error_at b n (i + 1) k m (omega arith) h w in
    rw (item_next b i n (omega arith) (omega arith)) (rest.0, omega (arith, rest.1))

all_at : (b : List ℕ) (n i k : ℕ) → i + k ≡ n → n ≤ whole_entries b → length (items_from b i n) ≡ k
all_at b n i zero e w =
    let same : i ≡ n = omega arith in
    rw (← same, items_end b i (omega arith)) refl
all_at b n i (suc k) e w = rw (item_next b i n (omega arith) (omega arith)) (omega (arith, all_at b n (i + 1) k (omega arith) w))

pub entries_by_place : (fat : FatFile) (k : ℕ) → k < fat.narches → HasEntries fat (k + 1) → slice_get (fat_items fat) k ≡ Some (Ok (arch_at fat.bytes k))
entries_by_place fat k h entries = item_at fat.bytes fat.narches 0 k k (omega arith) h (omega (arith, entries_whole fat (k + 1) entries))

pub error_is_last : (fat : FatFile) (k : ℕ) → k < fat.narches → HasEntries fat k → length fat.bytes < place_of_arch (k + 1)
    → (slice_get (fat_items fat) k ≡ Some (Err BufferTooShort)) × (length (fat_items fat) ≡ k + 1)
error_is_last fat k h entries short = error_at fat.bytes fat.narches 0 k k (omega arith) h (omega (arith, entries_whole fat k entries))

pub all_are_items : (fat : FatFile) → HasEntries fat fat.narches → length (fat_items fat) ≡ fat.narches
all_are_items fat entries = all_at fat.bytes fat.narches 0 fat.narches (omega arith) (entries_whole fat fat.narches entries)
