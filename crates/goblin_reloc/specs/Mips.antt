-- The relocations of MIPS.
use Rattle.std.specs.Prelude.{List, [], ◌∷◌, codes}
use Rattle.goblin_reloc.specs.Row.{Row, relocation}
use Rattle.goblin_reloc.specs.declared.mips.TheConstants.{R_MIPS_NONE, R_MIPS_16, R_MIPS_32, R_MIPS_REL32, R_MIPS_26, R_MIPS_HI16, R_MIPS_LO16, R_MIPS_GPREL16, R_MIPS_LITERAL, R_MIPS_GOT16, R_MIPS_PC16, R_MIPS_CALL16, R_MIPS_GPREL32, R_MIPS_SHIFT5, R_MIPS_SHIFT6, R_MIPS_64, R_MIPS_GOT_DISP, R_MIPS_GOT_PAGE, R_MIPS_GOT_OFST, R_MIPS_GOT_HI16, R_MIPS_GOT_LO16, R_MIPS_SUB, R_MIPS_INSERT_A, R_MIPS_INSERT_B, R_MIPS_DELETE, R_MIPS_HIGHER, R_MIPS_HIGHEST, R_MIPS_CALL_HI16, R_MIPS_CALL_LO16, R_MIPS_SCN_DISP, R_MIPS_REL16, R_MIPS_ADD_IMMEDIATE, R_MIPS_PJUMP, R_MIPS_RELGOT, R_MIPS_JALR, R_MIPS_TLS_DTPMOD32, R_MIPS_TLS_DTPREL32, R_MIPS_TLS_DTPMOD64, R_MIPS_TLS_DTPREL64, R_MIPS_TLS_GD, R_MIPS_TLS_LDM, R_MIPS_TLS_DTPREL_HI16, R_MIPS_TLS_DTPREL_LO16, R_MIPS_TLS_GOTTPREL, R_MIPS_TLS_TPREL32, R_MIPS_TLS_TPREL64, R_MIPS_TLS_TPREL_HI16, R_MIPS_TLS_TPREL_LO16, R_MIPS_GLOB_DAT, R_MIPS_COPY, R_MIPS_JUMP_SLOT, R_MIPS_NUM}

-- each number with its name, by the MIPS RISC Processor Supplement of the System V ABI and the "64-bit ELF Object File Specification", and this crate's constant of that name
unfoldable pub mips_rows : List Row
mips_rows =
    relocation 0 (codes "R_MIPS_NONE") R_MIPS_NONE
    ∷ relocation 1 (codes "R_MIPS_16") R_MIPS_16
    ∷ relocation 2 (codes "R_MIPS_32") R_MIPS_32
    ∷ relocation 3 (codes "R_MIPS_REL32") R_MIPS_REL32
    ∷ relocation 4 (codes "R_MIPS_26") R_MIPS_26
    ∷ relocation 5 (codes "R_MIPS_HI16") R_MIPS_HI16
    ∷ relocation 6 (codes "R_MIPS_LO16") R_MIPS_LO16
    ∷ relocation 7 (codes "R_MIPS_GPREL16") R_MIPS_GPREL16
    ∷ relocation 8 (codes "R_MIPS_LITERAL") R_MIPS_LITERAL
    ∷ relocation 9 (codes "R_MIPS_GOT16") R_MIPS_GOT16
    ∷ relocation 10 (codes "R_MIPS_PC16") R_MIPS_PC16
    ∷ relocation 11 (codes "R_MIPS_CALL16") R_MIPS_CALL16
    ∷ relocation 12 (codes "R_MIPS_GPREL32") R_MIPS_GPREL32
    ∷ relocation 16 (codes "R_MIPS_SHIFT5") R_MIPS_SHIFT5
    ∷ relocation 17 (codes "R_MIPS_SHIFT6") R_MIPS_SHIFT6
    ∷ relocation 18 (codes "R_MIPS_64") R_MIPS_64
    ∷ relocation 19 (codes "R_MIPS_GOT_DISP") R_MIPS_GOT_DISP
    ∷ relocation 20 (codes "R_MIPS_GOT_PAGE") R_MIPS_GOT_PAGE
    ∷ relocation 21 (codes "R_MIPS_GOT_OFST") R_MIPS_GOT_OFST
    ∷ relocation 22 (codes "R_MIPS_GOT_HI16") R_MIPS_GOT_HI16
    ∷ relocation 23 (codes "R_MIPS_GOT_LO16") R_MIPS_GOT_LO16
    ∷ relocation 24 (codes "R_MIPS_SUB") R_MIPS_SUB
    ∷ relocation 25 (codes "R_MIPS_INSERT_A") R_MIPS_INSERT_A
    ∷ relocation 26 (codes "R_MIPS_INSERT_B") R_MIPS_INSERT_B
    ∷ relocation 27 (codes "R_MIPS_DELETE") R_MIPS_DELETE
    ∷ relocation 28 (codes "R_MIPS_HIGHER") R_MIPS_HIGHER
    ∷ relocation 29 (codes "R_MIPS_HIGHEST") R_MIPS_HIGHEST
    ∷ relocation 30 (codes "R_MIPS_CALL_HI16") R_MIPS_CALL_HI16
    ∷ relocation 31 (codes "R_MIPS_CALL_LO16") R_MIPS_CALL_LO16
    ∷ relocation 32 (codes "R_MIPS_SCN_DISP") R_MIPS_SCN_DISP
    ∷ relocation 33 (codes "R_MIPS_REL16") R_MIPS_REL16
    ∷ relocation 34 (codes "R_MIPS_ADD_IMMEDIATE") R_MIPS_ADD_IMMEDIATE
    ∷ relocation 35 (codes "R_MIPS_PJUMP") R_MIPS_PJUMP
    ∷ relocation 36 (codes "R_MIPS_RELGOT") R_MIPS_RELGOT
    ∷ relocation 37 (codes "R_MIPS_JALR") R_MIPS_JALR
    ∷ relocation 38 (codes "R_MIPS_TLS_DTPMOD32") R_MIPS_TLS_DTPMOD32
    ∷ relocation 39 (codes "R_MIPS_TLS_DTPREL32") R_MIPS_TLS_DTPREL32
    ∷ relocation 40 (codes "R_MIPS_TLS_DTPMOD64") R_MIPS_TLS_DTPMOD64
    ∷ relocation 41 (codes "R_MIPS_TLS_DTPREL64") R_MIPS_TLS_DTPREL64
    ∷ relocation 42 (codes "R_MIPS_TLS_GD") R_MIPS_TLS_GD
    ∷ relocation 43 (codes "R_MIPS_TLS_LDM") R_MIPS_TLS_LDM
    ∷ relocation 44 (codes "R_MIPS_TLS_DTPREL_HI16") R_MIPS_TLS_DTPREL_HI16
    ∷ relocation 45 (codes "R_MIPS_TLS_DTPREL_LO16") R_MIPS_TLS_DTPREL_LO16
    ∷ relocation 46 (codes "R_MIPS_TLS_GOTTPREL") R_MIPS_TLS_GOTTPREL
    ∷ relocation 47 (codes "R_MIPS_TLS_TPREL32") R_MIPS_TLS_TPREL32
    ∷ relocation 48 (codes "R_MIPS_TLS_TPREL64") R_MIPS_TLS_TPREL64
    ∷ relocation 49 (codes "R_MIPS_TLS_TPREL_HI16") R_MIPS_TLS_TPREL_HI16
    ∷ relocation 50 (codes "R_MIPS_TLS_TPREL_LO16") R_MIPS_TLS_TPREL_LO16
    ∷ relocation 51 (codes "R_MIPS_GLOB_DAT") R_MIPS_GLOB_DAT
    ∷ relocation 126 (codes "R_MIPS_COPY") R_MIPS_COPY
    ∷ relocation 127 (codes "R_MIPS_JUMP_SLOT") R_MIPS_JUMP_SLOT
    ∷ relocation 128 (codes "R_MIPS_NUM") R_MIPS_NUM
    ∷ []
