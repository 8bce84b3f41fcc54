-- The names of architectures: Apple's mach/machine.h, and the names that the options `-arch` of its tools take.
use Rattle.std.specs.Prelude.{ℕ, ◌==◌, ◌&&◌, Bool, List, [], ◌∷◌, ◌++◌, codes, bytes_eq, Option, option_map}
use Rattle.std.specs.Borrow.{Bor}
use Rattle.std.specs.List.{find}

-- a name, and the type and subtype of the processor that it stands for
pub record Architecture : Type 0 where
  pub name : List ℕ
  pub cputype : ℕ
  pub cpusubtype : ℕ

-- the architecture of these
abbrev pub arch : List ℕ → ℕ → ℕ → Architecture
arch name cputype cpusubtype = record { name = name; cputype = cputype; cpusubtype = cpusubtype }

-- the architectures that have a name
unfoldable pub architectures : List Architecture
architectures =
    arch (codes "any") 0xffffffff 0xffffffff ∷ arch (codes "little") 0xffffffff 0 ∷ arch (codes "big") 0xffffffff 1
    ∷ arch (codes "m68k") 6 1 ∷ arch (codes "m68040") 6 2 ∷ arch (codes "m68030") 6 3
    ∷ arch (codes "i386") 7 3 ∷ arch (codes "i486") 7 4 ∷ arch (codes "i486SX") 7 132 ∷ arch (codes "i586") 7 5
    ∷ arch (codes "i686") 7 22 ∷ arch (codes "pentIIm3") 7 54 ∷ arch (codes "pentIIm5") 7 86 ∷ arch (codes "pentium4") 7 10
    ∷ arch (codes "x86_64") 0x01000007 3 ∷ arch (codes "x86_64h") 0x01000007 8
    ∷ arch (codes "hppa") 11 0 ∷ arch (codes "hppa7100LC") 11 1
    ∷ arch (codes "arm") 12 0 ∷ arch (codes "armv4t") 12 5 ∷ arch (codes "armv6") 12 6 ∷ arch (codes "armv5") 12 7
    ∷ arch (codes "xscale") 12 8 ∷ arch (codes "armv7") 12 9 ∷ arch (codes "armv7f") 12 10 ∷ arch (codes "armv7s") 12 11
    ∷ arch (codes "armv7k") 12 12 ∷ arch (codes "armv6m") 12 14 ∷ arch (codes "armv7m") 12 15 ∷ arch (codes "armv7em") 12 16
    ∷ arch (codes "arm64") 0x0100000c 0 ∷ arch (codes "arm64v8") 0x0100000c 1 ∷ arch (codes "arm64e") 0x0100000c 2 ∷ arch (codes "arm64_32") 0x0200000c 0
    ∷ arch (codes "arm64_32_v8") 0x0200000c 1
    ∷ arch (codes "m88k") 13 0
    ∷ arch (codes "sparc") 14 0
    ∷ arch (codes "i860") 15 0
    ∷ arch (codes "ppc") 18 0 ∷ arch (codes "ppc601") 18 1 ∷ arch (codes "ppc603") 18 3 ∷ arch (codes "ppc603e") 18 4
    ∷ arch (codes "ppc603ev") 18 5 ∷ arch (codes "ppc604") 18 6 ∷ arch (codes "ppc604e") 18 7 ∷ arch (codes "ppc750") 18 9
    ∷ arch (codes "ppc7400") 18 10 ∷ arch (codes "ppc7450") 18 11 ∷ arch (codes "ppc970") 18 100 ∷ arch (codes "ppc64") 0x01000012 0
    ∷ arch (codes "ppc970-64") 0x01000012 100 ∷ []

-- other names of some of them
unfoldable pub aliases : List Architecture
aliases = arch (codes "pentium") 7 5 ∷ arch (codes "pentpro") 7 22 ∷ arch (codes "x86") 7 3 ∷ []

-- the architecture has this name
abbrev pub is_named : List ℕ → Architecture → Bool
is_named name a = bytes_eq a.name name

-- it has this type and this subtype, feature bits and all
abbrev pub is_of : ℕ → ℕ → Architecture → Bool
is_of cputype cpusubtype a = (a.cputype == cputype) && (a.cpusubtype == cpusubtype)

-- its type and subtype
abbrev pub pair_of : Architecture → ℕ × ℕ
pair_of a = (a.cputype, a.cpusubtype)

-- the type and subtype that a name stands for in a table
abbrev pub pair_in : List Architecture → List ℕ → Option (ℕ × ℕ)
pair_in table name = option_map pair_of (find (is_named name) table)

-- the name that a table has for a type and subtype
abbrev pub name_in : List Architecture → ℕ → ℕ → Option (List ℕ)
name_in table cputype cpusubtype = option_map (λ a. a.name) (find (is_of cputype cpusubtype) table)

-- the type and subtype that a name or another name stands for
abbrev pub pair_named : List ℕ → Option (ℕ × ℕ)
pair_named name = pair_in (architectures ++ aliases) name

-- the name of a type and subtype
abbrev pub name_of_pair : ℕ → ℕ → Option (List ℕ)
name_of_pair cputype cpusubtype = name_in architectures cputype cpusubtype

-- the architecture that a row of the code stands for
abbrev pub row_view : Bor (List ℕ) × ℕ × ℕ → Architecture
row_view row = arch row.0.now row.1 row.2
