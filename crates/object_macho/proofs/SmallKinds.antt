-- The numbers of Mach-O's kinds are small.
use Rattle.std.proofs.Common.{◌≡◌, ◌<◌, ◌==◌, ◌⊎◌, inl, inr, true, false, Some, IfSome, refl, subst, lit<}
use Rattle.std.specs.Prelude.{Option}
use Rattle.ir_core.specs.declared.reloc.Reloc.{Reloc}
use Rattle.ir_core.specs.declared.reloc.Reloc.TheVariants.{Abs4, Abs8, X86PCRel4, X86CallPCRel4, X86CallPLTRel4, X86GOTPCRel4, X86SecRel, Arm64Call, S390xPCRel32Dbl, S390xPLTRel32Dbl}
use Rattle.ir_core.specs.declared.reloc.Reloc.TheVariants.{ElfX86_64TlsGd, MachOX86_64Tlv, MachOAarch64TlsAdrPage21, MachOAarch64TlsAdrPageOff12, Aarch64TlsDescAdrPage21, Aarch64TlsDescLd64Lo12, Aarch64TlsDescAddLo12, Aarch64TlsDescCall, Aarch64AdrGotPage21, Aarch64Ld64GotLo12Nc}
use Rattle.ir_core.specs.declared.reloc.Reloc.TheVariants.{Aarch64AdrPrelPgHi21, Aarch64AddAbsLo12Nc, RiscvCallPlt, RiscvTlsGdHi20, RiscvPCRelLo12I, RiscvGotHi20, RiscvPCRelHi20, S390xTlsGd64, S390xTlsGdCall}
use Rattle.ir_core.specs.declared.target.Architecture.{Architecture}
use Rattle.ir_core.specs.declared.target.Architecture.TheVariants.{X86_32, X86_64, Arm, Aarch64, Riscv64, S390x}
use Rattle.ir_core.specs.declared.mach_o.MachNumber.{MachNumber}
use Rattle.ir_core.specs.MachKind.{mach_x86_64_number, mach_aarch64_number, mach_number}

-- a field of four or eight bytes, a type below that of records of addends, and no relative address of type 0
abbrev pub IsSmall : MachNumber → Type 0
IsSmall n = ((n.length ≡ 2) ⊎ (n.length ≡ 3)) × (n.r_type < 10) × (n.pcrel ≡ true → (n.r_type == 0) ≡ false)

small_x86_64 : (kind : Reloc) → IfSome (mach_x86_64_number kind) IsSmall
small_x86_64 Abs4 = (inl refl, lit< tt, λ p. absurd (cc))
small_x86_64 Abs8 = (inr refl, lit< tt, λ p. absurd (cc))
small_x86_64 X86PCRel4 = (inl refl, lit< tt, λ p. refl)
small_x86_64 X86CallPCRel4 = (inl refl, lit< tt, λ p. refl)
small_x86_64 X86CallPLTRel4 = (inl refl, lit< tt, λ p. refl)
small_x86_64 X86GOTPCRel4 = (inl refl, lit< tt, λ p. refl)
small_x86_64 X86SecRel = tt
small_x86_64 Arm64Call = tt
small_x86_64 S390xPCRel32Dbl = tt
small_x86_64 S390xPLTRel32Dbl = tt
small_x86_64 ElfX86_64TlsGd = tt
small_x86_64 MachOX86_64Tlv = (inl refl, lit< tt, λ p. refl)
small_x86_64 MachOAarch64TlsAdrPage21 = tt
small_x86_64 MachOAarch64TlsAdrPageOff12 = tt
small_x86_64 Aarch64TlsDescAdrPage21 = tt
small_x86_64 Aarch64TlsDescLd64Lo12 = tt
small_x86_64 Aarch64TlsDescAddLo12 = tt
small_x86_64 Aarch64TlsDescCall = tt
small_x86_64 Aarch64AdrGotPage21 = tt
small_x86_64 Aarch64Ld64GotLo12Nc = tt
small_x86_64 Aarch64AdrPrelPgHi21 = tt
small_x86_64 Aarch64AddAbsLo12Nc = tt
small_x86_64 RiscvCallPlt = tt
small_x86_64 RiscvTlsGdHi20 = tt
small_x86_64 RiscvPCRelLo12I = tt
small_x86_64 RiscvGotHi20 = tt
small_x86_64 RiscvPCRelHi20 = tt
small_x86_64 S390xTlsGd64 = tt
small_x86_64 S390xTlsGdCall = tt

small_aarch64 : (kind : Reloc) → IfSome (mach_aarch64_number kind) IsSmall
small_aarch64 Abs4 = (inl refl, lit< tt, λ p. absurd (cc))
small_aarch64 Abs8 = (inr refl, lit< tt, λ p. absurd (cc))
small_aarch64 X86PCRel4 = tt
small_aarch64 X86CallPCRel4 = tt
small_aarch64 X86CallPLTRel4 = tt
small_aarch64 X86GOTPCRel4 = tt
small_aarch64 X86SecRel = tt
small_aarch64 Arm64Call = (inl refl, lit< tt, λ p. refl)
small_aarch64 S390xPCRel32Dbl = tt
small_aarch64 S390xPLTRel32Dbl = tt
small_aarch64 ElfX86_64TlsGd = tt
small_aarch64 MachOX86_64Tlv = tt
small_aarch64 MachOAarch64TlsAdrPage21 = (inl refl, lit< tt, λ p. refl)
small_aarch64 MachOAarch64TlsAdrPageOff12 = (inl refl, lit< tt, λ p. absurd (cc))
small_aarch64 Aarch64TlsDescAdrPage21 = tt
small_aarch64 Aarch64TlsDescLd64Lo12 = tt
small_aarch64 Aarch64TlsDescAddLo12 = tt
small_aarch64 Aarch64TlsDescCall = tt
small_aarch64 Aarch64AdrGotPage21 = (inl refl, lit< tt, λ p. refl)
small_aarch64 Aarch64Ld64GotLo12Nc = (inl refl, lit< tt, λ p. absurd (cc))
small_aarch64 Aarch64AdrPrelPgHi21 = (inl refl, lit< tt, λ p. refl)
small_aarch64 Aarch64AddAbsLo12Nc = (inl refl, lit< tt, λ p. absurd (cc))
small_aarch64 RiscvCallPlt = tt
small_aarch64 RiscvTlsGdHi20 = tt
small_aarch64 RiscvPCRelLo12I = tt
small_aarch64 RiscvGotHi20 = tt
small_aarch64 RiscvPCRelHi20 = tt
small_aarch64 S390xTlsGd64 = tt
small_aarch64 S390xTlsGdCall = tt

small_by : (architecture : Architecture) (kind : Reloc) → IfSome (mach_number architecture kind) IsSmall
small_by X86_64 kind = small_x86_64 kind
small_by Aarch64 kind = small_aarch64 kind
small_by X86_32 kind = tt
small_by Arm kind = tt
small_by Riscv64 kind = tt
small_by S390x kind = tt

pub small_kind : (architecture : Architecture) (kind : Reloc) (n : MachNumber) → mach_number architecture kind ≡ Some n → IsSmall n
small_kind architecture kind n e = subst (λ (o : Option MachNumber). IfSome o IsSmall) e (small_by architecture kind)
