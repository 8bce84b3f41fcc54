-- The numbers with which a file begins, and the sizes of headers in bytes: Apple's mach-o/loader.h and mach-o/fat.h.
use Rattle.std.specs.Prelude.{ℕ, List, [], ◌∷◌}
use Rattle.goblin_mach.specs.declared.header.TheConstants.{MH_MAGIC, MH_CIGAM, MH_MAGIC_64, MH_CIGAM_64, SIZEOF_HEADER_32, SIZEOF_HEADER_64}
use Rattle.goblin_mach.specs.declared.fat.TheConstants.{FAT_MAGIC, FAT_MAGIC_64, SIZEOF_FAT_HEADER, SIZEOF_FAT_ARCH}

-- each constant beside its number
unfoldable pub magic_numbers : List (ℕ × ℕ)
magic_numbers =
    (MH_MAGIC, 0xfeedface) ∷ (MH_CIGAM, 0xcefaedfe) ∷ (MH_MAGIC_64, 0xfeedfacf) ∷ (MH_CIGAM_64, 0xcffaedfe)
    ∷ (FAT_MAGIC, 0xcafebabe) ∷ (FAT_MAGIC_64, 0xcafebabf) ∷ []

-- each size beside its number of bytes
unfoldable pub header_sizes : List (ℕ × ℕ)
header_sizes = (SIZEOF_HEADER_32, 28) ∷ (SIZEOF_HEADER_64, 32) ∷ (SIZEOF_FAT_HEADER, 8) ∷ (SIZEOF_FAT_ARCH, 20) ∷ []
