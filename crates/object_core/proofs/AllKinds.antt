-- The kinds of relocations, each by its place in the list of all.
use Rattle.std.proofs.Common.{◌≡◌, ℕ, List, [], ◌∷◌, slice_get, Some, refl}
use Rattle.ir_core.specs.declared.reloc.Reloc.{Reloc}
use Rattle.ir_core.specs.declared.reloc.Reloc.TheVariants.{Abs4, Abs8, X86PCRel4, X86CallPCRel4, X86CallPLTRel4, X86GOTPCRel4, X86SecRel, Arm64Call, S390xPCRel32Dbl, S390xPLTRel32Dbl}
use Rattle.ir_core.specs.declared.reloc.Reloc.TheVariants.{ElfX86_64TlsGd, MachOX86_64Tlv, MachOAarch64TlsAdrPage21, MachOAarch64TlsAdrPageOff12, Aarch64TlsDescAdrPage21, Aarch64TlsDescLd64Lo12, Aarch64TlsDescAddLo12, Aarch64TlsDescCall, Aarch64AdrGotPage21, Aarch64Ld64GotLo12Nc}
use Rattle.ir_core.specs.declared.reloc.Reloc.TheVariants.{Aarch64AdrPrelPgHi21, Aarch64AddAbsLo12Nc, RiscvCallPlt, RiscvTlsGdHi20, RiscvPCRelLo12I, RiscvGotHi20, RiscvPCRelHi20, S390xTlsGd64, S390xTlsGdCall}

abbrev pub all_kinds : List Reloc
all_kinds =
    Abs4 ∷ Abs8 ∷ X86PCRel4 ∷ X86CallPCRel4 ∷ X86CallPLTRel4 ∷ X86GOTPCRel4 ∷ X86SecRel ∷ Arm64Call ∷ S390xPCRel32Dbl ∷ S390xPLTRel32Dbl
    ∷ ElfX86_64TlsGd ∷ MachOX86_64Tlv ∷ MachOAarch64TlsAdrPage21 ∷ MachOAarch64TlsAdrPageOff12 ∷ Aarch64TlsDescAdrPage21 ∷ Aarch64TlsDescLd64Lo12 ∷ Aarch64TlsDescAddLo12 ∷ Aarch64TlsDescCall ∷ Aarch64AdrGotPage21 ∷ Aarch64Ld64GotLo12Nc
    ∷ Aarch64AdrPrelPgHi21 ∷ Aarch64AddAbsLo12Nc ∷ RiscvCallPlt ∷ RiscvTlsGdHi20 ∷ RiscvPCRelLo12I ∷ RiscvGotHi20 ∷ RiscvPCRelHi20 ∷ S390xTlsGd64 ∷ S390xTlsGdCall ∷ []

-- what holds of each kind of the list holds of every kind
pub every_kind : (P : Reloc → Type 0) → ((k : ℕ) (kind : Reloc) → slice_get all_kinds k ≡ Some kind → P kind) → (kind : Reloc) → P kind
every_kind P all Abs4 = all 0 Abs4 refl
every_kind P all Abs8 = all 1 Abs8 refl
every_kind P all X86PCRel4 = all 2 X86PCRel4 refl
every_kind P all X86CallPCRel4 = all 3 X86CallPCRel4 refl
every_kind P all X86CallPLTRel4 = all 4 X86CallPLTRel4 refl
every_kind P all X86GOTPCRel4 = all 5 X86GOTPCRel4 refl
every_kind P all X86SecRel = all 6 X86SecRel refl
every_kind P all Arm64Call = all 7 Arm64Call refl
every_kind P all S390xPCRel32Dbl = all 8 S390xPCRel32Dbl refl
every_kind P all S390xPLTRel32Dbl = all 9 S390xPLTRel32Dbl refl
every_kind P all ElfX86_64TlsGd = all 10 ElfX86_64TlsGd refl
every_kind P all MachOX86_64Tlv = all 11 MachOX86_64Tlv refl
every_kind P all MachOAarch64TlsAdrPage21 = all 12 MachOAarch64TlsAdrPage21 refl
every_kind P all MachOAarch64TlsAdrPageOff12 = all 13 MachOAarch64TlsAdrPageOff12 refl
every_kind P all Aarch64TlsDescAdrPage21 = all 14 Aarch64TlsDescAdrPage21 refl
every_kind P all Aarch64TlsDescLd64Lo12 = all 15 Aarch64TlsDescLd64Lo12 refl
every_kind P all Aarch64TlsDescAddLo12 = all 16 Aarch64TlsDescAddLo12 refl
every_kind P all Aarch64TlsDescCall = all 17 Aarch64TlsDescCall refl
every_kind P all Aarch64AdrGotPage21 = all 18 Aarch64AdrGotPage21 refl
every_kind P all Aarch64Ld64GotLo12Nc = all 19 Aarch64Ld64GotLo12Nc refl
every_kind P all Aarch64AdrPrelPgHi21 = all 20 Aarch64AdrPrelPgHi21 refl
every_kind P all Aarch64AddAbsLo12Nc = all 21 Aarch64AddAbsLo12Nc refl
every_kind P all RiscvCallPlt = all 22 RiscvCallPlt refl
every_kind P all RiscvTlsGdHi20 = all 23 RiscvTlsGdHi20 refl
every_kind P all RiscvPCRelLo12I = all 24 RiscvPCRelLo12I refl
every_kind P all RiscvGotHi20 = all 25 RiscvGotHi20 refl
every_kind P all RiscvPCRelHi20 = all 26 RiscvPCRelHi20 refl
every_kind P all S390xTlsGd64 = all 27 S390xTlsGd64 refl
every_kind P all S390xTlsGdCall = all 28 S390xTlsGdCall refl
