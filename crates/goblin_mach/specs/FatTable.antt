-- The table of a fat file by places: Apple's mach-o/fat.h, `struct fat_header` and `struct fat_arch`.
use Rattle.std.specs.Prelude.{ℕ, ◌+◌, ◌-◌, ◌*◌, ◌/◌, ◌<◌, min, nat_lt, List, [], ◌∷◌, ◌++◌, length, map, if◌then◌else◌, Result, Ok, Err}
use Rattle.std.specs.List.{range_with_len}
use Rattle.byte_core.specs.Number.{big_number_at}
use Rattle.goblin_mach.specs.declared.fat.FatArch.{FatArch}
use Rattle.goblin_mach.specs.declared.mach_error.Error.{Error}
use Rattle.goblin_mach.specs.declared.mach_error.Error.TheVariants.{BadMagic, BufferTooShort, OutOfMemory}
use Rattle.goblin_mach.specs.FatFile.{FatFile}

-- the big-endian number of the four bytes at place p
abbrev pub word_at : List ℕ → ℕ → ℕ
word_at b p = big_number_at b p 4

-- a file's table has as many entries as its header says
abbrev pub fat_table : List ℕ → FatFile
fat_table b = record { bytes = b; narches = word_at b 4 }

-- entry k begins behind the header of 8 bytes and k entries of 20 bytes
abbrev pub place_of_arch : ℕ → ℕ
place_of_arch k = 8 + 20 * k

-- entry k, field by field
unfoldable pub arch_at : List ℕ → ℕ → FatArch
arch_at b k =
    let p = place_of_arch k in
    record {
      cputype = word_at b p;
      cpusubtype = word_at b (p + 4);
      offset = word_at b (p + 8);
      size = word_at b (p + 12);
      align = word_at b (p + 16);
    }

-- how many entries the file has whole
abbrev pub whole_entries : List ℕ → ℕ
whole_entries b = (length b - 8) / 20

-- the entries of a table of n from number k on, as far as the file has them whole
unfoldable pub arches_from : List ℕ → ℕ → ℕ → List FatArch
arches_from b k n = map (arch_at b) (range_with_len k (min n (whole_entries b) - k))

-- and behind them one error, where the file ends before the last of the n
unfoldable pub items_from : List ℕ → ℕ → ℕ → List (Result FatArch Error)
items_from b k n = map Ok (arches_from b k n) ++ (if nat_lt (whole_entries b) n then Err BufferTooShort ∷ [] else [])

-- the entries that are asked for, as far as the file has them whole
abbrev pub fat_arches : FatFile → List FatArch
fat_arches fat = arches_from fat.bytes 0 fat.narches

-- what an iteration over them gives
abbrev pub fat_items : FatFile → List (Result FatArch Error)
fat_items fat = items_from fat.bytes 0 fat.narches

-- why not all entries are given: the file ends before the last, or memory ran out
abbrev pub ExplainsTable : FatFile → Error → Type 0
ExplainsTable fat (BadMagic n) = ⊥
ExplainsTable fat BufferTooShort = whole_entries fat.bytes < fat.narches
ExplainsTable fat OutOfMemory = Unit {0}
