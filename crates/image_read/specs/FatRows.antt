-- What a reader of a fat file asks of its table, one entry after the other, and what it keeps of it.
use Rattle.std.specs.Prelude.{◌≡◌, ℕ, ◌+◌, ◌≤◌, ◌⊎◌, List, length}
use Rattle.image_read.specs.FatFile.{fat_magic, fat_count, has_wide_entries, fat_table_end, FatEntry, fat_entry}
use Rattle.image_read.specs.declared.fat.file.EntryNumbers.{EntryNumbers}

-- the number of a fat file with entries of 32 or of 64 bits: FAT_MAGIC 0xcafebabe, FAT_MAGIC_64 0xcafebabf
abbrev pub IsFatMagic : ℕ → Type 0
IsFatMagic magic = (magic ≡ 0xcafebabe) ⊎ (magic ≡ 0xcafebabf)

-- the file begins as a fat file, and its table lies in it: fat_header
pub record HasFatTable (b : List ℕ) : Type 0 where
  pub header : 8 ≤ length b
  pub magic : IsFatMagic (fat_magic b)
  pub table : fat_table_end (has_wide_entries b) (fat_count b) ≤ length b

-- the numbers of an entry that was read are these: fat_arch, fat_arch_64
pub record SameFatEntry (entry : EntryNumbers) (e : FatEntry) : Type 0 where
  pub cputype : entry.cputype ≡ e.cputype
  pub cpusubtype : entry.cpusubtype ≡ e.cpusubtype
  pub offset : entry.offset ≡ e.offset
  pub size : entry.size ≡ e.size
  pub align : entry.align ≡ e.align

-- the slice of entry k lies in the file
pub record IsSoundSlice (b : List ℕ) (k : ℕ) : Type 0 where
  pub inside : (fat_entry b (has_wide_entries b) k).offset + (fat_entry b (has_wide_entries b) k).size ≤ length b
