-- What the definitions give on a small fat file and on some names.
use Rattle.std.proofs.Common.{◌≡◌, ℕ, List, [], ◌∷◌, Some, None, Ok, Err, codes, refl}
use Rattle.byte_core.specs.Number.{big_number_at, little_number, bytes_at}
use Rattle.goblin_mach.specs.declared.fat.FatArch.{FatArch}
use Rattle.goblin_mach.specs.declared.mach_error.Error.TheVariants.{BufferTooShort}
use Rattle.goblin_mach.specs.FatTable.{fat_table, fat_items, arches_from, items_from, arch_at}
use Rattle.goblin_mach.specs.Architectures.{architectures, aliases, pair_named, name_of_pair}

-- the header and the two entries of a fat file with 100 bytes for x86_64 and 50 for arm64
abbrev two_entries : List ℕ
two_entries =
    0xca ∷ 0xfe ∷ 0xba ∷ 0xbe ∷ 0 ∷ 0 ∷ 0 ∷ 2
    ∷ 1 ∷ 0 ∷ 0 ∷ 7 ∷ 0 ∷ 0 ∷ 0 ∷ 3 ∷ 0 ∷ 0 ∷ 0x40 ∷ 0 ∷ 0 ∷ 0 ∷ 0 ∷ 0x64 ∷ 0 ∷ 0 ∷ 0 ∷ 0x0e
    ∷ 1 ∷ 0 ∷ 0 ∷ 0x0c ∷ 0 ∷ 0 ∷ 0 ∷ 0 ∷ 0 ∷ 0 ∷ 0x80 ∷ 0 ∷ 0 ∷ 0 ∷ 0 ∷ 0x32 ∷ 0 ∷ 0 ∷ 0 ∷ 0x0e ∷ []

abbrev first_entry : FatArch
first_entry = record { cputype = 0x01000007; cpusubtype = 3; offset = 16384; size = 100; align = 14 }

abbrev second_entry : FatArch
second_entry = record { cputype = 0x0100000c; cpusubtype = 0; offset = 32768; size = 50; align = 14 }

both_entries : fat_items (fat_table two_entries) ≡ Ok first_entry ∷ Ok second_entry ∷ []
unfolding items_from arches_from arch_at big_number_at little_number bytes_at
both_entries = refl

-- where more entries are asked for than the file has
past_the_end : fat_items (record { bytes = two_entries; narches = 4294967295 }) ≡ Ok first_entry ∷ Ok second_entry ∷ Err BufferTooShort ∷ []
unfolding items_from arches_from arch_at big_number_at little_number bytes_at
past_the_end = refl

another_name : pair_named (codes "pentium") ≡ Some (7, 5)
unfolding architectures aliases
another_name = refl

its_name : name_of_pair 7 5 ≡ Some (codes "i586")
unfolding architectures
its_name = refl

feature_bits : name_of_pair 0x0100000c 0x80000002 ≡ None
unfolding architectures
feature_bits = refl
