-- The relocations of the OpenRISC 1000.
use Rattle.std.specs.Prelude.{List, [], ◌∷◌, codes}
use Rattle.goblin_reloc.specs.Row.{Row, relocation}
use Rattle.goblin_reloc.specs.declared.openrisc.TheConstants.{R_OR1K_NONE, R_OR1K_32, R_OR1K_16, R_OR1K_8, R_OR1K_LO_16_IN_INSN, R_OR1K_HI_16_IN_INSN, R_OR1K_INSN_REL_26, R_OR1K_GNU_VTENTRY, R_OR1K_GNU_VTINHERIT, R_OR1K_32_PCREL, R_OR1K_16_PCREL, R_OR1K_8_PCREL, R_OR1K_GOTPC_HI16, R_OR1K_GOTPC_LO16, R_OR1K_GOT16, R_OR1K_PLT26, R_OR1K_GOTOFF_HI16, R_OR1K_GOTOFF_LO16, R_OR1K_COPY, R_OR1K_GLOB_DAT, R_OR1K_JMP_SLOT, R_OR1K_RELATIVE, R_OR1K_TLS_GD_HI16, R_OR1K_TLS_GD_LO16, R_OR1K_TLS_LDM_HI16, R_OR1K_TLS_LDM_LO16, R_OR1K_TLS_LDO_HI16, R_OR1K_TLS_LDO_LO16, R_OR1K_TLS_IE_HI16, R_OR1K_TLS_IE_LO16, R_OR1K_TLS_LE_HI16, R_OR1K_TLS_LE_LO16, R_OR1K_TLS_TPOFF, R_OR1K_TLS_DTPOFF, R_OR1K_TLS_DTPMOD, R_OR1K_NUM}

-- each number with its name, by the GNU C library's `elf.h` ("OpenRISC 1000 specific relocs"), and this crate's constant of that name
unfoldable pub openrisc_rows : List Row
openrisc_rows =
    relocation 0 (codes "R_OR1K_NONE") R_OR1K_NONE
    ∷ relocation 1 (codes "R_OR1K_32") R_OR1K_32
    ∷ relocation 2 (codes "R_OR1K_16") R_OR1K_16
    ∷ relocation 3 (codes "R_OR1K_8") R_OR1K_8
    ∷ relocation 4 (codes "R_OR1K_LO_16_IN_INSN") R_OR1K_LO_16_IN_INSN
    ∷ relocation 5 (codes "R_OR1K_HI_16_IN_INSN") R_OR1K_HI_16_IN_INSN
    ∷ relocation 6 (codes "R_OR1K_INSN_REL_26") R_OR1K_INSN_REL_26
    ∷ relocation 7 (codes "R_OR1K_GNU_VTENTRY") R_OR1K_GNU_VTENTRY
    ∷ relocation 8 (codes "R_OR1K_GNU_VTINHERIT") R_OR1K_GNU_VTINHERIT
    ∷ relocation 9 (codes "R_OR1K_32_PCREL") R_OR1K_32_PCREL
    ∷ relocation 10 (codes "R_OR1K_16_PCREL") R_OR1K_16_PCREL
    ∷ relocation 11 (codes "R_OR1K_8_PCREL") R_OR1K_8_PCREL
    ∷ relocation 12 (codes "R_OR1K_GOTPC_HI16") R_OR1K_GOTPC_HI16
    ∷ relocation 13 (codes "R_OR1K_GOTPC_LO16") R_OR1K_GOTPC_LO16
    ∷ relocation 14 (codes "R_OR1K_GOT16") R_OR1K_GOT16
    ∷ relocation 15 (codes "R_OR1K_PLT26") R_OR1K_PLT26
    ∷ relocation 16 (codes "R_OR1K_GOTOFF_HI16") R_OR1K_GOTOFF_HI16
    ∷ relocation 17 (codes "R_OR1K_GOTOFF_LO16") R_OR1K_GOTOFF_LO16
    ∷ relocation 18 (codes "R_OR1K_COPY") R_OR1K_COPY
    ∷ relocation 19 (codes "R_OR1K_GLOB_DAT") R_OR1K_GLOB_DAT
    ∷ relocation 20 (codes "R_OR1K_JMP_SLOT") R_OR1K_JMP_SLOT
    ∷ relocation 21 (codes "R_OR1K_RELATIVE") R_OR1K_RELATIVE
    ∷ relocation 22 (codes "R_OR1K_TLS_GD_HI16") R_OR1K_TLS_GD_HI16
    ∷ relocation 23 (codes "R_OR1K_TLS_GD_LO16") R_OR1K_TLS_GD_LO16
    ∷ relocation 24 (codes "R_OR1K_TLS_LDM_HI16") R_OR1K_TLS_LDM_HI16
    ∷ relocation 25 (codes "R_OR1K_TLS_LDM_LO16") R_OR1K_TLS_LDM_LO16
    ∷ relocation 26 (codes "R_OR1K_TLS_LDO_HI16") R_OR1K_TLS_LDO_HI16
    ∷ relocation 27 (codes "R_OR1K_TLS_LDO_LO16") R_OR1K_TLS_LDO_LO16
    ∷ relocation 28 (codes "R_OR1K_TLS_IE_HI16") R_OR1K_TLS_IE_HI16
    ∷ relocation 29 (codes "R_OR1K_TLS_IE_LO16") R_OR1K_TLS_IE_LO16
    ∷ relocation 30 (codes "R_OR1K_TLS_LE_HI16") R_OR1K_TLS_LE_HI16
    ∷ relocation 31 (codes "R_OR1K_TLS_LE_LO16") R_OR1K_TLS_LE_LO16
    ∷ relocation 32 (codes "R_OR1K_TLS_TPOFF") R_OR1K_TLS_TPOFF
    ∷ relocation 33 (codes "R_OR1K_TLS_DTPOFF") R_OR1K_TLS_DTPOFF
    ∷ relocation 34 (codes "R_OR1K_TLS_DTPMOD") R_OR1K_TLS_DTPMOD
    ∷ relocation 35 (codes "R_OR1K_NUM") R_OR1K_NUM
    ∷ []
