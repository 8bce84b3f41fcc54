-- The relocations of the Intel 80386.
use Rattle.std.specs.Prelude.{List, [], ◌∷◌, codes}
use Rattle.goblin_reloc.specs.Row.{Row, relocation}
use Rattle.goblin_reloc.specs.declared.x86.TheConstants.{R_386_NONE, R_386_32, R_386_PC32, R_386_GOT32, R_386_PLT32, R_386_COPY, R_386_GLOB_DAT, R_386_JMP_SLOT, R_386_RELATIVE, R_386_GOTOFF, R_386_GOTPC, R_386_32PLT, R_386_TLS_TPOFF, R_386_TLS_IE, R_386_TLS_GOTIE, R_386_TLS_LE, R_386_TLS_GD, R_386_TLS_LDM, R_386_16, R_386_PC16, R_386_8, R_386_PC8, R_386_TLS_GD_32, R_386_TLS_GD_PUSH, R_386_TLS_GD_CALL, R_386_TLS_GD_POP, R_386_TLS_LDM_32, R_386_TLS_LDM_PUSH, R_386_TLS_LDM_CALL, R_386_TLS_LDM_POP, R_386_TLS_LDO_32, R_386_TLS_IE_32, R_386_TLS_LE_32, R_386_TLS_DTPMOD32, R_386_TLS_DTPOFF32, R_386_TLS_TPOFF32, R_386_SIZE32, R_386_TLS_GOTDESC, R_386_TLS_DESC_CALL, R_386_TLS_DESC, R_386_IRELATIVE, R_386_GOT32X, R_386_NUM}

-- each number with its name, by the Intel386 supplement of the System V ABI ("Relocation Types"), and this crate's constant of that name
unfoldable pub x86_rows : List Row
x86_rows =
    relocation 0 (codes "R_386_NONE") R_386_NONE
    ∷ relocation 1 (codes "R_386_32") R_386_32
    ∷ relocation 2 (codes "R_386_PC32") R_386_PC32
    ∷ relocation 3 (codes "R_386_GOT32") R_386_GOT32
    ∷ relocation 4 (codes "R_386_PLT32") R_386_PLT32
    ∷ relocation 5 (codes "R_386_COPY") R_386_COPY
    ∷ relocation 6 (codes "R_386_GLOB_DAT") R_386_GLOB_DAT
    ∷ relocation 7 (codes "R_386_JMP_SLOT") R_386_JMP_SLOT
    ∷ relocation 8 (codes "R_386_RELATIVE") R_386_RELATIVE
    ∷ relocation 9 (codes "R_386_GOTOFF") R_386_GOTOFF
    ∷ relocation 10 (codes "R_386_GOTPC") R_386_GOTPC
    ∷ relocation 11 (codes "R_386_32PLT") R_386_32PLT
    ∷ relocation 14 (codes "R_386_TLS_TPOFF") R_386_TLS_TPOFF
    ∷ relocation 15 (codes "R_386_TLS_IE") R_386_TLS_IE
    ∷ relocation 16 (codes "R_386_TLS_GOTIE") R_386_TLS_GOTIE
    ∷ relocation 17 (codes "R_386_TLS_LE") R_386_TLS_LE
    ∷ relocation 18 (codes "R_386_TLS_GD") R_386_TLS_GD
    ∷ relocation 19 (codes "R_386_TLS_LDM") R_386_TLS_LDM
    ∷ relocation 20 (codes "R_386_16") R_386_16
    ∷ relocation 21 (codes "R_386_PC16") R_386_PC16
    ∷ relocation 22 (codes "R_386_8") R_386_8
    ∷ relocation 23 (codes "R_386_PC8") R_386_PC8
    ∷ relocation 24 (codes "R_386_TLS_GD_32") R_386_TLS_GD_32
    ∷ relocation 25 (codes "R_386_TLS_GD_PUSH") R_386_TLS_GD_PUSH
    ∷ relocation 26 (codes "R_386_TLS_GD_CALL") R_386_TLS_GD_CALL
    ∷ relocation 27 (codes "R_386_TLS_GD_POP") R_386_TLS_GD_POP
    ∷ relocation 28 (codes "R_386_TLS_LDM_32") R_386_TLS_LDM_32
    ∷ relocation 29 (codes "R_386_TLS_LDM_PUSH") R_386_TLS_LDM_PUSH
    ∷ relocation 30 (codes "R_386_TLS_LDM_CALL") R_386_TLS_LDM_CALL
    ∷ relocation 31 (codes "R_386_TLS_LDM_POP") R_386_TLS_LDM_POP
    ∷ relocation 32 (codes "R_386_TLS_LDO_32") R_386_TLS_LDO_32
    ∷ relocation 33 (codes "R_386_TLS_IE_32") R_386_TLS_IE_32
    ∷ relocation 34 (codes "R_386_TLS_LE_32") R_386_TLS_LE_32
    ∷ relocation 35 (codes "R_386_TLS_DTPMOD32") R_386_TLS_DTPMOD32
    ∷ relocation 36 (codes "R_386_TLS_DTPOFF32") R_386_TLS_DTPOFF32
    ∷ relocation 37 (codes "R_386_TLS_TPOFF32") R_386_TLS_TPOFF32
    ∷ relocation 38 (codes "R_386_SIZE32") R_386_SIZE32
    ∷ relocation 39 (codes "R_386_TLS_GOTDESC") R_386_TLS_GOTDESC
    ∷ relocation 40 (codes "R_386_TLS_DESC_CALL") R_386_TLS_DESC_CALL
    ∷ relocation 41 (codes "R_386_TLS_DESC") R_386_TLS_DESC
    ∷ relocation 42 (codes "R_386_IRELATIVE") R_386_IRELATIVE
    ∷ relocation 43 (codes "R_386_GOT32X") R_386_GOT32X
    ∷ relocation 44 (codes "R_386_NUM") R_386_NUM
    ∷ []
