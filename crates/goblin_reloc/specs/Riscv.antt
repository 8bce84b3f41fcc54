-- The relocations of RISC-V.
use Rattle.std.specs.Prelude.{List, [], ◌∷◌, codes}
use Rattle.goblin_reloc.specs.Row.{Row, relocation}
use Rattle.goblin_reloc.specs.declared.riscv.TheConstants.{R_RISCV_NONE, R_RISCV_32, R_RISCV_64, R_RISCV_RELATIVE, R_RISCV_COPY, R_RISCV_JUMP_SLOT, R_RISCV_TLS_DTPMOD32, R_RISCV_TLS_DTPMOD64, R_RISCV_TLS_DTPREL32, R_RISCV_TLS_DTPREL64, R_RISCV_TLS_TPREL32, R_RISCV_TLS_TPREL64, R_RISCV_BRANCH, R_RISCV_JAL, R_RISCV_CALL, R_RISCV_CALL_PLT, R_RISCV_GOT_HI20, R_RISCV_TLS_GOT_HI20, R_RISCV_TLS_GD_HI20, R_RISCV_PCREL_HI20, R_RISCV_PCREL_LO12_I, R_RISCV_PCREL_LO12_S, R_RISCV_HI20, R_RISCV_LO12_I, R_RISCV_LO12_S, R_RISCV_TPREL_HI20, R_RISCV_TPREL_LO12_I, R_RISCV_TPREL_LO12_S, R_RISCV_TPREL_ADD, R_RISCV_ADD8, R_RISCV_ADD16, R_RISCV_ADD32, R_RISCV_ADD64, R_RISCV_SUB8, R_RISCV_SUB16, R_RISCV_SUB32, R_RISCV_SUB64, R_RISCV_GNU_VTINHERIT, R_RISCV_GNU_VTENTRY, R_RISCV_ALIGN, R_RISCV_RVC_BRANCH, R_RISCV_RVC_JUMP, R_RISCV_RVC_LUI, R_RISCV_GPREL_I, R_RISCV_GPREL_S, R_RISCV_TPREL_I, R_RISCV_TPREL_S, R_RISCV_RELAX, R_RISCV_SUB6, R_RISCV_SET6, R_RISCV_SET8, R_RISCV_SET16, R_RISCV_SET32, R_RISCV_32_PCREL, R_RISCV_IRELATIVE, R_RISCV_PLT32, R_RISCV_SET_ULEB128, R_RISCV_SUB_ULEB128, R_RISCV_TLSDESC_HI20, R_RISCV_TLSDESC_LOAD_LO12, R_RISCV_TLSDESC_ADD_LO12, R_RISCV_TLSDESC_CALL, R_RISCV_VENDOR}

-- each number with its name, by the RISC-V ELF psABI specification ("Relocations"), and this crate's constant of that name
unfoldable pub riscv_rows : List Row
riscv_rows =
    relocation 0 (codes "R_RISCV_NONE") R_RISCV_NONE
    ∷ relocation 1 (codes "R_RISCV_32") R_RISCV_32
    ∷ relocation 2 (codes "R_RISCV_64") R_RISCV_64
    ∷ relocation 3 (codes "R_RISCV_RELATIVE") R_RISCV_RELATIVE
    ∷ relocation 4 (codes "R_RISCV_COPY") R_RISCV_COPY
    ∷ relocation 5 (codes "R_RISCV_JUMP_SLOT") R_RISCV_JUMP_SLOT
    ∷ relocation 6 (codes "R_RISCV_TLS_DTPMOD32") R_RISCV_TLS_DTPMOD32
    ∷ relocation 7 (codes "R_RISCV_TLS_DTPMOD64") R_RISCV_TLS_DTPMOD64
    ∷ relocation 8 (codes "R_RISCV_TLS_DTPREL32") R_RISCV_TLS_DTPREL32
    ∷ relocation 9 (codes "R_RISCV_TLS_DTPREL64") R_RISCV_TLS_DTPREL64
    ∷ relocation 10 (codes "R_RISCV_TLS_TPREL32") R_RISCV_TLS_TPREL32
    ∷ relocation 11 (codes "R_RISCV_TLS_TPREL64") R_RISCV_TLS_TPREL64
    ∷ relocation 16 (codes "R_RISCV_BRANCH") R_RISCV_BRANCH
    ∷ relocation 17 (codes "R_RISCV_JAL") R_RISCV_JAL
    ∷ relocation 18 (codes "R_RISCV_CALL") R_RISCV_CALL
    ∷ relocation 19 (codes "R_RISCV_CALL_PLT") R_RISCV_CALL_PLT
    ∷ relocation 20 (codes "R_RISCV_GOT_HI20") R_RISCV_GOT_HI20
    ∷ relocation 21 (codes "R_RISCV_TLS_GOT_HI20") R_RISCV_TLS_GOT_HI20
    ∷ relocation 22 (codes "R_RISCV_TLS_GD_HI20") R_RISCV_TLS_GD_HI20
    ∷ relocation 23 (codes "R_RISCV_PCREL_HI20") R_RISCV_PCREL_HI20
    ∷ relocation 24 (codes "R_RISCV_PCREL_LO12_I") R_RISCV_PCREL_LO12_I
    ∷ relocation 25 (codes "R_RISCV_PCREL_LO12_S") R_RISCV_PCREL_LO12_S
    ∷ relocation 26 (codes "R_RISCV_HI20") R_RISCV_HI20
    ∷ relocation 27 (codes "R_RISCV_LO12_I") R_RISCV_LO12_I
    ∷ relocation 28 (codes "R_RISCV_LO12_S") R_RISCV_LO12_S
    ∷ relocation 29 (codes "R_RISCV_TPREL_HI20") R_RISCV_TPREL_HI20
    ∷ relocation 30 (codes "R_RISCV_TPREL_LO12_I") R_RISCV_TPREL_LO12_I
    ∷ relocation 31 (codes "R_RISCV_TPREL_LO12_S") R_RISCV_TPREL_LO12_S
    ∷ relocation 32 (codes "R_RISCV_TPREL_ADD") R_RISCV_TPREL_ADD
    ∷ relocation 33 (codes "R_RISCV_ADD8") R_RISCV_ADD8
    ∷ relocation 34 (codes "R_RISCV_ADD16") R_RISCV_ADD16
    ∷ relocation 35 (codes "R_RISCV_ADD32") R_RISCV_ADD32
    ∷ relocation 36 (codes "R_RISCV_ADD64") R_RISCV_ADD64
    ∷ relocation 37 (codes "R_RISCV_SUB8") R_RISCV_SUB8
    ∷ relocation 38 (codes "R_RISCV_SUB16") R_RISCV_SUB16
    ∷ relocation 39 (codes "R_RISCV_SUB32") R_RISCV_SUB32
    ∷ relocation 40 (codes "R_RISCV_SUB64") R_RISCV_SUB64
    ∷ relocation 41 (codes "R_RISCV_GNU_VTINHERIT") R_RISCV_GNU_VTINHERIT
    ∷ relocation 42 (codes "R_RISCV_GNU_VTENTRY") R_RISCV_GNU_VTENTRY
    ∷ relocation 43 (codes "R_RISCV_ALIGN") R_RISCV_ALIGN
    ∷ relocation 44 (codes "R_RISCV_RVC_BRANCH") R_RISCV_RVC_BRANCH
    ∷ relocation 45 (codes "R_RISCV_RVC_JUMP") R_RISCV_RVC_JUMP
    ∷ relocation 46 (codes "R_RISCV_RVC_LUI") R_RISCV_RVC_LUI
    ∷ relocation 47 (codes "R_RISCV_GPREL_I") R_RISCV_GPREL_I
    ∷ relocation 48 (codes "R_RISCV_GPREL_S") R_RISCV_GPREL_S
    ∷ relocation 49 (codes "R_RISCV_TPREL_I") R_RISCV_TPREL_I
    ∷ relocation 50 (codes "R_RISCV_TPREL_S") R_RISCV_TPREL_S
    ∷ relocation 51 (codes "R_RISCV_RELAX") R_RISCV_RELAX
    ∷ relocation 52 (codes "R_RISCV_SUB6") R_RISCV_SUB6
    ∷ relocation 53 (codes "R_RISCV_SET6") R_RISCV_SET6
    ∷ relocation 54 (codes "R_RISCV_SET8") R_RISCV_SET8
    ∷ relocation 55 (codes "R_RISCV_SET16") R_RISCV_SET16
    ∷ relocation 56 (codes "R_RISCV_SET32") R_RISCV_SET32
    ∷ relocation 57 (codes "R_RISCV_32_PCREL") R_RISCV_32_PCREL
    ∷ relocation 58 (codes "R_RISCV_IRELATIVE") R_RISCV_IRELATIVE
    ∷ relocation 59 (codes "R_RISCV_PLT32") R_RISCV_PLT32
    ∷ relocation 60 (codes "R_RISCV_SET_ULEB128") R_RISCV_SET_ULEB128
    ∷ relocation 61 (codes "R_RISCV_SUB_ULEB128") R_RISCV_SUB_ULEB128
    ∷ relocation 62 (codes "R_RISCV_TLSDESC_HI20") R_RISCV_TLSDESC_HI20
    ∷ relocation 63 (codes "R_RISCV_TLSDESC_LOAD_LO12") R_RISCV_TLSDESC_LOAD_LO12
    ∷ relocation 64 (codes "R_RISCV_TLSDESC_ADD_LO12") R_RISCV_TLSDESC_ADD_LO12
    ∷ relocation 65 (codes "R_RISCV_TLSDESC_CALL") R_RISCV_TLSDESC_CALL
    ∷ relocation 191 (codes "R_RISCV_VENDOR") R_RISCV_VENDOR
    ∷ []
