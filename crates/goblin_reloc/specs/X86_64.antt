-- The relocations of x86-64.
use Rattle.std.specs.Prelude.{List, [], ◌∷◌, codes}
use Rattle.goblin_reloc.specs.Row.{Row, relocation}
use Rattle.goblin_reloc.specs.declared.x86_64.TheConstants.{R_X86_64_NONE, R_X86_64_64, R_X86_64_PC32, R_X86_64_GOT32, R_X86_64_PLT32, R_X86_64_COPY, R_X86_64_GLOB_DAT, R_X86_64_JUMP_SLOT, R_X86_64_RELATIVE, R_X86_64_GOTPCREL, R_X86_64_32, R_X86_64_32S, R_X86_64_16, R_X86_64_PC16, R_X86_64_8, R_X86_64_PC8, R_X86_64_DTPMOD64, R_X86_64_DTPOFF64, R_X86_64_TPOFF64, R_X86_64_TLSGD, R_X86_64_TLSLD, R_X86_64_DTPOFF32, R_X86_64_GOTTPOFF, R_X86_64_TPOFF32, R_X86_64_PC64, R_X86_64_GOTOFF64, R_X86_64_GOTPC32, R_X86_64_GOT64, R_X86_64_GOTPCREL64, R_X86_64_GOTPC64, R_X86_64_GOTPLT64, R_X86_64_PLTOFF64, R_X86_64_SIZE32, R_X86_64_SIZE64, R_X86_64_GOTPC32_TLSDESC, R_X86_64_TLSDESC_CALL, R_X86_64_TLSDESC, R_X86_64_IRELATIVE, R_X86_64_RELATIVE64, R_X86_64_GOTPCRELX, R_X86_64_REX_GOTPCRELX, R_X86_64_NUM}

-- each number with its name, by the AMD64 supplement of the System V ABI ("Relocation Types"), and this crate's constant of that name
unfoldable pub x86_64_rows : List Row
x86_64_rows =
    relocation 0 (codes "R_X86_64_NONE") R_X86_64_NONE
    ∷ relocation 1 (codes "R_X86_64_64") R_X86_64_64
    ∷ relocation 2 (codes "R_X86_64_PC32") R_X86_64_PC32
    ∷ relocation 3 (codes "R_X86_64_GOT32") R_X86_64_GOT32
    ∷ relocation 4 (codes "R_X86_64_PLT32") R_X86_64_PLT32
    ∷ relocation 5 (codes "R_X86_64_COPY") R_X86_64_COPY
    ∷ relocation 6 (codes "R_X86_64_GLOB_DAT") R_X86_64_GLOB_DAT
    ∷ relocation 7 (codes "R_X86_64_JUMP_SLOT") R_X86_64_JUMP_SLOT
    ∷ relocation 8 (codes "R_X86_64_RELATIVE") R_X86_64_RELATIVE
    ∷ relocation 9 (codes "R_X86_64_GOTPCREL") R_X86_64_GOTPCREL
    ∷ relocation 10 (codes "R_X86_64_32") R_X86_64_32
    ∷ relocation 11 (codes "R_X86_64_32S") R_X86_64_32S
    ∷ relocation 12 (codes "R_X86_64_16") R_X86_64_16
    ∷ relocation 13 (codes "R_X86_64_PC16") R_X86_64_PC16
    ∷ relocation 14 (codes "R_X86_64_8") R_X86_64_8
    ∷ relocation 15 (codes "R_X86_64_PC8") R_X86_64_PC8
    ∷ relocation 16 (codes "R_X86_64_DTPMOD64") R_X86_64_DTPMOD64
    ∷ relocation 17 (codes "R_X86_64_DTPOFF64") R_X86_64_DTPOFF64
    ∷ relocation 18 (codes "R_X86_64_TPOFF64") R_X86_64_TPOFF64
    ∷ relocation 19 (codes "R_X86_64_TLSGD") R_X86_64_TLSGD
    ∷ relocation 20 (codes "R_X86_64_TLSLD") R_X86_64_TLSLD
    ∷ relocation 21 (codes "R_X86_64_DTPOFF32") R_X86_64_DTPOFF32
    ∷ relocation 22 (codes "R_X86_64_GOTTPOFF") R_X86_64_GOTTPOFF
    ∷ relocation 23 (codes "R_X86_64_TPOFF32") R_X86_64_TPOFF32
    ∷ relocation 24 (codes "R_X86_64_PC64") R_X86_64_PC64
    ∷ relocation 25 (codes "R_X86_64_GOTOFF64") R_X86_64_GOTOFF64
    ∷ relocation 26 (codes "R_X86_64_GOTPC32") R_X86_64_GOTPC32
    ∷ relocation 27 (codes "R_X86_64_GOT64") R_X86_64_GOT64
    ∷ relocation 28 (codes "R_X86_64_GOTPCREL64") R_X86_64_GOTPCREL64
    ∷ relocation 29 (codes "R_X86_64_GOTPC64") R_X86_64_GOTPC64
    ∷ relocation 30 (codes "R_X86_64_GOTPLT64") R_X86_64_GOTPLT64
    ∷ relocation 31 (codes "R_X86_64_PLTOFF64") R_X86_64_PLTOFF64
    ∷ relocation 32 (codes "R_X86_64_SIZE32") R_X86_64_SIZE32
    ∷ relocation 33 (codes "R_X86_64_SIZE64") R_X86_64_SIZE64
    ∷ relocation 34 (codes "R_X86_64_GOTPC32_TLSDESC") R_X86_64_GOTPC32_TLSDESC
    ∷ relocation 35 (codes "R_X86_64_TLSDESC_CALL") R_X86_64_TLSDESC_CALL
    ∷ relocation 36 (codes "R_X86_64_TLSDESC") R_X86_64_TLSDESC
    ∷ relocation 37 (codes "R_X86_64_IRELATIVE") R_X86_64_IRELATIVE
    ∷ relocation 38 (codes "R_X86_64_RELATIVE64") R_X86_64_RELATIVE64
    ∷ relocation 41 (codes "R_X86_64_GOTPCRELX") R_X86_64_GOTPCRELX
    ∷ relocation 42 (codes "R_X86_64_REX_GOTPCRELX") R_X86_64_REX_GOTPCRELX
    ∷ relocation 43 (codes "R_X86_64_NUM") R_X86_64_NUM
    ∷ []
