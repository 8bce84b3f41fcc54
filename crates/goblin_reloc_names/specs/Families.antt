-- The families of relocations, and which machine has which.
use Rattle.std.specs.Prelude.{ℕ, List, [], ◌∷◌, codes, ◌==◌, Option, option_map}
use Rattle.std.specs.List.{find}
use Rattle.goblin_reloc.specs.Row.{Row}
use Rattle.goblin_reloc.specs.declared.machine.TheConstants.{EM_386, EM_MIPS, EM_MIPS_RS3_LE, EM_PPC, EM_PPC64, EM_ARM, EM_MIPS_X, EM_X86_64, EM_OPENRISC, EM_AARCH64, EM_RISCV, EM_LOONGARCH}
use Rattle.goblin_reloc.specs.X86.{x86_rows}
use Rattle.goblin_reloc.specs.X86_64.{x86_64_rows}
use Rattle.goblin_reloc.specs.Aarch64.{aarch64_rows}
use Rattle.goblin_reloc.specs.Arm.{arm_rows}
use Rattle.goblin_reloc.specs.Openrisc.{openrisc_rows}
use Rattle.goblin_reloc.specs.Mips.{mips_rows}
use Rattle.goblin_reloc.specs.Riscv.{riscv_rows}
use Rattle.goblin_reloc.specs.Powerpc.{powerpc_rows}
use Rattle.goblin_reloc.specs.Powerpc64.{powerpc64_rows}
use Rattle.goblin_reloc.specs.Loongarch.{loongarch_rows}

-- the relocations of a processor: their table, how many characters are left out in front of each name, and the text for a number without a name
pub record Family : Type 0 where
  pub rows : List Row
  pub left_out : ℕ
  pub unknown : List ℕ

abbrev pub family : List Row → ℕ → List ℕ → Family
family rows left_out unknown = record { rows = rows; left_out = left_out; unknown = unknown }

-- the families whose names are told whole
unfoldable pub mips : Family
mips = family mips_rows 0 (codes "R_UNKNOWN_MIPS")

unfoldable pub riscv : Family
riscv = family riscv_rows 0 (codes "R_UNKNOWN_RISCV")

unfoldable pub powerpc : Family
powerpc = family powerpc_rows 0 (codes "R_UNKNOWN_PPC")

unfoldable pub powerpc64 : Family
powerpc64 = family powerpc64_rows 0 (codes "R_UNKNOWN_PPC64")

-- the families whose names are told without their "R_"
unfoldable pub x86 : Family
x86 = family x86_rows 2 (codes "R_UNKNOWN_386")

unfoldable pub x86_64 : Family
x86_64 = family x86_64_rows 2 (codes "R_UNKNOWN_X86_64")

unfoldable pub aarch64 : Family
aarch64 = family aarch64_rows 2 (codes "R_UNKNOWN_AARCH64")

unfoldable pub arm : Family
arm = family arm_rows 2 (codes "R_UNKNOWN_ARM")

unfoldable pub openrisc : Family
openrisc = family openrisc_rows 2 (codes "R_UNKNOWN_OR1K")

unfoldable pub loongarch : Family
loongarch = family loongarch_rows 2 (codes "R_UNKNOWN_LOONGARCH")

-- the machines with a family, by their numbers; three are of MIPS
abbrev pub machines : List (ℕ × Family)
machines =
    (EM_386, x86) ∷ (EM_MIPS, mips) ∷ (EM_MIPS_RS3_LE, mips) ∷ (EM_PPC, powerpc) ∷ (EM_PPC64, powerpc64) ∷ (EM_ARM, arm)
    ∷ (EM_MIPS_X, mips) ∷ (EM_X86_64, x86_64) ∷ (EM_OPENRISC, openrisc) ∷ (EM_AARCH64, aarch64) ∷ (EM_RISCV, riscv)
    ∷ (EM_LOONGARCH, loongarch) ∷ []

-- the family of a machine, and none for any other number
abbrev pub family_of : ℕ → Option Family
family_of machine = option_map (λ entry. entry.1) (find (λ entry. machine == entry.0) machines)
