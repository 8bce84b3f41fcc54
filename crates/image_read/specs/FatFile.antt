-- The table of a fat file by its places: Apple's mach-o/fat.h, `struct fat_header`, `struct fat_arch` and `struct fat_arch_64`.
-- All its numbers are big-endian.
use Rattle.std.specs.Prelude.{ℕ, ◌+◌, ◌*◌, ◌==◌, Bool, List, if◌then◌else◌}
use Rattle.byte_core.specs.Number.{big_number_at}

-- FAT_MAGIC 0xcafebabe or FAT_MAGIC_64 0xcafebabf: `struct fat_header`
abbrev pub fat_magic : List ℕ → ℕ
fat_magic b = big_number_at b 0 4

-- how many entries the table has: `struct fat_header`
abbrev pub fat_count : List ℕ → ℕ
fat_count b = big_number_at b 4 4

-- offsets and sizes have 64 bits
abbrev pub has_wide_entries : List ℕ → Bool
has_wide_entries b = fat_magic b == 0xcafebabf

-- the size of an entry: `struct fat_arch`, `struct fat_arch_64`
abbrev pub fat_entry_size : Bool → ℕ
fat_entry_size wide = if wide then 32 else 20

-- where the table of so many entries ends, and where the entry of that number begins
abbrev pub fat_table_end : Bool → ℕ → ℕ
fat_table_end wide count = 8 + fat_entry_size wide * count

-- the numbers of an entry; an entry of 32 bits has no reserved number, which counts as 0
pub record FatEntry : Type 0 where
  pub cputype : ℕ
  pub cpusubtype : ℕ
  pub offset : ℕ
  pub size : ℕ
  pub align : ℕ
  pub reserved : ℕ

-- the entry at place p: `struct fat_arch`
abbrev pub narrow_entry_at : List ℕ → ℕ → FatEntry
narrow_entry_at b p = record { cputype = big_number_at b p 4; cpusubtype = big_number_at b (p + 4) 4; offset = big_number_at b (p + 8) 4; size = big_number_at b (p + 12) 4; align = big_number_at b (p + 16) 4; reserved = 0 }

-- the entry at place p: `struct fat_arch_64`
abbrev pub wide_entry_at : List ℕ → ℕ → FatEntry
wide_entry_at b p = record { cputype = big_number_at b p 4; cpusubtype = big_number_at b (p + 4) 4; offset = big_number_at b (p + 8) 8; size = big_number_at b (p + 16) 8; align = big_number_at b (p + 24) 4; reserved = big_number_at b (p + 28) 4 }

-- entry k of a table of this width
unfoldable pub fat_entry : List ℕ → Bool → ℕ → FatEntry
fat_entry b wide k = if wide then wide_entry_at b (fat_table_end wide k) else narrow_entry_at b (fat_table_end wide k)
