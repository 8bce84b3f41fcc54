-- The relocation kinds that each processor has in Mach-O, by type, relative mark and width: Apple's mach-o/x86_64/reloc.h and
-- mach-o/arm64/reloc.h. The pairing of a kind with its type is this project's own.
use Rattle.std.specs.Prelude.{ℕ, Bool, true, false, Option, Some, None, is_some}
use Rattle.ir_core.specs.declared.reloc.Reloc.{Reloc}
use Rattle.ir_core.specs.declared.reloc.Reloc.TheVariants.{Abs4, Abs8, X86PCRel4, X86CallPCRel4, X86CallPLTRel4, X86GOTPCRel4, MachOX86_64Tlv, Arm64Call, Aarch64AdrPrelPgHi21, Aarch64AddAbsLo12Nc, Aarch64AdrGotPage21, Aarch64Ld64GotLo12Nc, MachOAarch64TlsAdrPage21, MachOAarch64TlsAdrPageOff12}
use Rattle.ir_core.specs.declared.target.Architecture.{Architecture}
use Rattle.ir_core.specs.declared.target.Architecture.TheVariants.{X86_64, Aarch64}
use Rattle.ir_core.specs.declared.target.BinaryFormat.{BinaryFormat}
use Rattle.ir_core.specs.declared.target.BinaryFormat.TheVariants.{Macho}
use Rattle.ir_core.specs.declared.mach_o.MachNumber.{MachNumber}
use Rattle.ir_core.specs.Kind.{elf_number}

abbrev pub mach_kind : ℕ → Bool → ℕ → Option MachNumber
mach_kind r_type pcrel length = Some (record { r_type = r_type; pcrel = pcrel; length = length })

-- X86_64_RELOC_UNSIGNED 0, SIGNED 1, BRANCH 2, GOT 4, TLV 9
abbrev pub mach_x86_64_number : Reloc → Option MachNumber
mach_x86_64_number Abs4 = mach_kind 0 false 2
mach_x86_64_number Abs8 = mach_kind 0 false 3
mach_x86_64_number X86PCRel4 = mach_kind 1 true 2
mach_x86_64_number X86CallPCRel4 = mach_kind 2 true 2
mach_x86_64_number X86CallPLTRel4 = mach_kind 2 true 2
mach_x86_64_number X86GOTPCRel4 = mach_kind 4 true 2
mach_x86_64_number MachOX86_64Tlv = mach_kind 9 true 2
mach_x86_64_number _ = None

-- ARM64_RELOC_UNSIGNED 0, BRANCH26 2, PAGE21 3, PAGEOFF12 4, GOT_LOAD_PAGE21 5, GOT_LOAD_PAGEOFF12 6, TLVP_LOAD_PAGE21 8,
-- TLVP_LOAD_PAGEOFF12 9
abbrev pub mach_aarch64_number : Reloc → Option MachNumber
mach_aarch64_number Abs4 = mach_kind 0 false 2
mach_aarch64_number Abs8 = mach_kind 0 false 3
mach_aarch64_number Arm64Call = mach_kind 2 true 2
mach_aarch64_number Aarch64AdrPrelPgHi21 = mach_kind 3 true 2
mach_aarch64_number Aarch64AddAbsLo12Nc = mach_kind 4 false 2
mach_aarch64_number Aarch64AdrGotPage21 = mach_kind 5 true 2
mach_aarch64_number Aarch64Ld64GotLo12Nc = mach_kind 6 false 2
mach_aarch64_number MachOAarch64TlsAdrPage21 = mach_kind 8 true 2
mach_aarch64_number MachOAarch64TlsAdrPageOff12 = mach_kind 9 false 2
mach_aarch64_number _ = None

-- the numbers of a kind in a Mach-O file, where the processor has the kind
abbrev pub mach_number : Architecture → Reloc → Option MachNumber
mach_number X86_64 kind = mach_x86_64_number kind
mach_number Aarch64 kind = mach_aarch64_number kind
mach_number _ kind = None

-- the processor has the kind in this format
abbrev pub has_kind_in : BinaryFormat → Architecture → Reloc → Bool
has_kind_in Macho architecture kind = is_some (mach_number architecture kind)
has_kind_in _ architecture kind = is_some (elf_number architecture kind)
