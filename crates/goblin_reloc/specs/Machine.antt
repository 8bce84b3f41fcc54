-- The numbers of processors in the header of an ELF file.
use Rattle.std.specs.Prelude.{ℕ, List, [], ◌∷◌, codes}
use Rattle.goblin_reloc.specs.Row.{Row}
use Rattle.goblin_reloc.specs.declared.machine.TheConstants.{EM_NONE, EM_386, EM_MIPS, EM_MIPS_RS3_LE, EM_PPC, EM_PPC64, EM_ARM, EM_MIPS_X, EM_X86_64, EM_OPENRISC, EM_AARCH64, EM_RISCV, EM_LOONGARCH}

abbrev pub machine : ℕ → List ℕ → ℕ → Row
machine number name constant = record { number = number; name = name; constant = constant }

-- each number with its name, by the System V gABI ("ELF Header", e_machine), and this crate's constant of that name
unfoldable pub machine_rows : List Row
machine_rows =
    machine 0 (codes "EM_NONE") EM_NONE
    ∷ machine 3 (codes "EM_386") EM_386
    ∷ machine 8 (codes "EM_MIPS") EM_MIPS
    ∷ machine 10 (codes "EM_MIPS_RS3_LE") EM_MIPS_RS3_LE
    ∷ machine 20 (codes "EM_PPC") EM_PPC
    ∷ machine 21 (codes "EM_PPC64") EM_PPC64
    ∷ machine 40 (codes "EM_ARM") EM_ARM
    ∷ machine 51 (codes "EM_MIPS_X") EM_MIPS_X
    ∷ machine 62 (codes "EM_X86_64") EM_X86_64
    ∷ machine 92 (codes "EM_OPENRISC") EM_OPENRISC
    ∷ machine 183 (codes "EM_AARCH64") EM_AARCH64
    ∷ machine 243 (codes "EM_RISCV") EM_RISCV
    ∷ machine 258 (codes "EM_LOONGARCH") EM_LOONGARCH
    ∷ []
