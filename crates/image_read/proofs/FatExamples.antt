-- The definitions of fat files, computed on small files.
use Rattle.std.proofs.Common.{◌≡◌, ℕ, List, [], ◌∷◌, true, false, refl, arith, lit<, inl}
use Rattle.byte_core.specs.Number.{bytes_at, little_number, big_number_at}
use Rattle.image_read.specs.FatFile.{fat_entry}
use Rattle.image_read.specs.FatImage.{IsFat, fat_image_of}

-- a table with no entries
abbrev pub no_slices_file : List ℕ
no_slices_file = 0xca ∷ 0xfe ∷ 0xba ∷ 0xbe ∷ 0 ∷ 0 ∷ 0 ∷ 0 ∷ []

-- an entry of 32 bits for x86_64, and its slice of two bytes
abbrev pub narrow_file : List ℕ
narrow_file =
    0xca ∷ 0xfe ∷ 0xba ∷ 0xbe ∷ 0 ∷ 0 ∷ 0 ∷ 1
    ∷ 1 ∷ 0 ∷ 0 ∷ 7 ∷ 0 ∷ 0 ∷ 0 ∷ 3 ∷ 0 ∷ 0 ∷ 0 ∷ 0x20 ∷ 0 ∷ 0 ∷ 0 ∷ 2 ∷ 0 ∷ 0 ∷ 0 ∷ 5
    ∷ 0 ∷ 0 ∷ 0 ∷ 0 ∷ 0xaa ∷ 0xbb ∷ []

-- an entry of 64 bits for arm64, and its slice of one byte
abbrev pub wide_file : List ℕ
wide_file =
    0xca ∷ 0xfe ∷ 0xba ∷ 0xbf ∷ 0 ∷ 0 ∷ 0 ∷ 1
    ∷ 1 ∷ 0 ∷ 0 ∷ 0xc ∷ 0 ∷ 0 ∷ 0 ∷ 2 ∷ 0 ∷ 0 ∷ 0 ∷ 0 ∷ 0 ∷ 0 ∷ 0 ∷ 0x28 ∷ 0 ∷ 0 ∷ 0 ∷ 0 ∷ 0 ∷ 0 ∷ 0 ∷ 1 ∷ 0 ∷ 0 ∷ 0 ∷ 3 ∷ 0 ∷ 0 ∷ 0 ∷ 0
    ∷ 0xcc ∷ []

no_slices : fat_image_of no_slices_file ≡ record { is_fat64 = false; slices = [] }
unfolding fat_image_of big_number_at bytes_at little_number
no_slices = refl

narrow : fat_image_of narrow_file ≡ record { is_fat64 = false; slices = record { cputype = 0x1000007; cpusubtype = 3; align = 5; offset = 0x20; bytes = 0xaa ∷ 0xbb ∷ [] } ∷ [] }
unfolding fat_image_of fat_entry big_number_at bytes_at little_number
narrow = refl

wide : fat_image_of wide_file ≡ record { is_fat64 = true; slices = record { cputype = 0x100000c; cpusubtype = 2; align = 3; offset = 0x28; bytes = 0xcc ∷ [] } ∷ [] }
unfolding fat_image_of fat_entry big_number_at bytes_at little_number
wide = refl

no_slices_fat : IsFat no_slices_file
unfolding big_number_at bytes_at little_number
no_slices_fat = record { header = lit< tt; magic = inl refl; table = lit< tt; slices = λ k below. absurd (omega (arith, below)) }

-- a file that ends before its table is none
cut_table : IsFat (0xca ∷ 0xfe ∷ 0xba ∷ 0xbe ∷ 0 ∷ 0 ∷ 0 ∷ 1 ∷ []) → ⊥
unfolding big_number_at bytes_at little_number
cut_table f = absurd (omega (arith, f.table))
