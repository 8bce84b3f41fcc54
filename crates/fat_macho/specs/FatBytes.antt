-- The bytes of a fat file, one part behind the other: Apple's mach-o/fat.h.
use Rattle.std.specs.Prelude.{ℕ, ◌+◌, ◌^◌, ◌<◌, Bool, List, [], ◌∷◌, ◌++◌, length, map, reverse, if◌then◌else◌}
use Rattle.std.specs.Int.{next_multiple_of}
use Rattle.byte_core.specs.LaidOut.{Aligned, laid_out}
use Rattle.byte_core.specs.Number.{little_bytes}
use Rattle.image_read.specs.FatFile.{fat_table_end}
use Rattle.fat_macho.specs.FatHolds.{power_of}
use Rattle.fat_macho.specs.Layout.{FatLayout}
use Rattle.fat_macho.specs.Slices.{Shape, Slice, shape_of}

-- the w bytes of a number, the highest first
unfoldable pub big_bytes : ℕ → ℕ → List ℕ
big_bytes w n = reverse (little_bytes w n)

-- `struct fat_header`: FAT_MAGIC 0xcafebabe or FAT_MAGIC_64 0xcafebabf, and how many entries the table has
unfoldable pub header_bytes : Bool → ℕ → List ℕ
header_bytes wide count = big_bytes 4 (if wide then 0xcafebabf else 0xcafebabe) ++ big_bytes 4 count

-- `struct fat_arch`
unfoldable pub narrow_row : ℕ → Shape → ℕ → List ℕ
narrow_row align a offset = big_bytes 4 a.cputype ++ (big_bytes 4 a.cpusubtype ++ (big_bytes 4 offset ++ (big_bytes 4 a.size ++ big_bytes 4 (power_of align))))

-- `struct fat_arch_64`
unfoldable pub wide_row : ℕ → Shape → ℕ → List ℕ
wide_row align a offset = big_bytes 4 a.cputype ++ (big_bytes 4 a.cpusubtype ++ (big_bytes 8 offset ++ (big_bytes 8 a.size ++ (big_bytes 4 (power_of align) ++ big_bytes 4 0))))

-- the entry of a slice that stands at this offset
abbrev pub row_bytes : Bool → ℕ → Shape → ℕ → List ℕ
row_bytes wide align a offset = if wide then wide_row align a offset else narrow_row align a offset

-- the entries of slices that stand from this place on
unfoldable pub rows_from : Bool → ℕ → ℕ → List Shape → List ℕ
rows_from wide align end [] = []
rows_from wide align end (a ∷ shapes) = row_bytes wide align a (next_multiple_of end align) ++ rows_from wide align (next_multiple_of end align + a.size) shapes

abbrev pub aligned_slice : ℕ → Slice → Aligned
aligned_slice align s = record { align = align; bytes = s.bytes }

-- the slices from this place on, each behind its gap
abbrev pub contents_from : ℕ → ℕ → List Slice → List ℕ
contents_from align end slices = laid_out end (map (aligned_slice align) slices)

-- a file of slices in their order, by a layout
unfoldable pub fat_bytes : List Slice → FatLayout → List ℕ
fat_bytes slices layout =
    let start = fat_table_end layout.wide (length slices) in
    header_bytes layout.wide (length slices) ++ (rows_from layout.wide layout.align start (map shape_of slices) ++ contents_from layout.align start slices)

-- the numbers of an architecture have 32 bits
pub record FitsShape (a : Shape) : Type 0 where
  pub cputype : a.cputype < 2 ^ 32
  pub cpusubtype : a.cpusubtype < 2 ^ 32
