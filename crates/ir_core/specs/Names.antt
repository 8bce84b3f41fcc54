-- The printed names of the code generator's values.
use Rattle.std.specs.Prelude.{ℕ, List, [], codes}
use Rattle.ir_core.specs.declared.reloc.Reloc.{Reloc}
use Rattle.ir_core.specs.declared.reloc.Reloc.TheVariants.{Abs4, Abs8, X86PCRel4, X86CallPCRel4, X86CallPLTRel4, X86GOTPCRel4, X86SecRel, Arm64Call, S390xPCRel32Dbl, S390xPLTRel32Dbl, ElfX86_64TlsGd, MachOX86_64Tlv, MachOAarch64TlsAdrPage21, MachOAarch64TlsAdrPageOff12, Aarch64TlsDescAdrPage21, Aarch64TlsDescLd64Lo12, Aarch64TlsDescAddLo12, Aarch64TlsDescCall, Aarch64AdrGotPage21, Aarch64Ld64GotLo12Nc, Aarch64AdrPrelPgHi21, Aarch64AddAbsLo12Nc, RiscvCallPlt, RiscvTlsGdHi20, RiscvPCRelLo12I, RiscvGotHi20, RiscvPCRelHi20, S390xTlsGd64, S390xTlsGdCall}
use Rattle.ir_core.specs.declared.reloc.LibCall.{LibCall}
use Rattle.ir_core.specs.declared.reloc.LibCall.TheVariants.{Probestack, CeilF32, CeilF64, FloorF32, FloorF64, TruncF32, TruncF64, NearestF32, NearestF64, FmaF32, FmaF64, Memcpy, Memset, Memmove, Memcmp, ElfTlsGetAddr, ElfTlsGetOffset, X86Pshufb}
use Rattle.ir_core.specs.declared.reloc.KnownSymbol.{KnownSymbol}
use Rattle.ir_core.specs.declared.reloc.KnownSymbol.TheVariants.{ElfGlobalOffsetTable, CoffTlsIndex}
use Rattle.ir_core.specs.declared.types.ValueType.{ValueType}
use Rattle.ir_core.specs.declared.types.ValueType.TheVariants.{I8, I16, I32, I64, I128, F32, F64}
use Rattle.ir_core.specs.declared.types.ArgumentExtension.{ArgumentExtension}
use Rattle.ir_core.specs.declared.types.ArgumentExtension.TheVariants.{None, Uext, Sext}
use Rattle.ir_core.specs.declared.types.ArgumentPurpose.{ArgumentPurpose}
use Rattle.ir_core.specs.declared.types.ArgumentPurpose.TheVariants.{Normal, StructReturn, VMContext}
use Rattle.ir_core.specs.declared.types.CallConv.{CallConv}
use Rattle.ir_core.specs.declared.types.CallConv.TheVariants.{Fast, Tail, SystemV, WindowsFastcall, AppleAarch64}

-- a relocation kind prints as its name
abbrev pub reloc_name : Reloc → List ℕ
reloc_name Abs4 = codes "Abs4"
reloc_name Abs8 = codes "Abs8"
reloc_name X86PCRel4 = codes "X86PCRel4"
reloc_name X86CallPCRel4 = codes "X86CallPCRel4"
reloc_name X86CallPLTRel4 = codes "X86CallPLTRel4"
reloc_name X86GOTPCRel4 = codes "X86GOTPCRel4"
reloc_name X86SecRel = codes "X86SecRel"
reloc_name Arm64Call = codes "Arm64Call"
reloc_name S390xPCRel32Dbl = codes "S390xPCRel32Dbl"
reloc_name S390xPLTRel32Dbl = codes "S390xPLTRel32Dbl"
reloc_name ElfX86_64TlsGd = codes "ElfX86_64TlsGd"
reloc_name MachOX86_64Tlv = codes "MachOX86_64Tlv"
reloc_name MachOAarch64TlsAdrPage21 = codes "MachOAarch64TlsAdrPage21"
reloc_name MachOAarch64TlsAdrPageOff12 = codes "MachOAarch64TlsAdrPageOff12"
reloc_name Aarch64TlsDescAdrPage21 = codes "Aarch64TlsDescAdrPage21"
reloc_name Aarch64TlsDescLd64Lo12 = codes "Aarch64TlsDescLd64Lo12"
reloc_name Aarch64TlsDescAddLo12 = codes "Aarch64TlsDescAddLo12"
reloc_name Aarch64TlsDescCall = codes "Aarch64TlsDescCall"
reloc_name Aarch64AdrGotPage21 = codes "Aarch64AdrGotPage21"
reloc_name Aarch64Ld64GotLo12Nc = codes "Aarch64Ld64GotLo12Nc"
reloc_name Aarch64AdrPrelPgHi21 = codes "Aarch64AdrPrelPgHi21"
reloc_name Aarch64AddAbsLo12Nc = codes "Aarch64AddAbsLo12Nc"
reloc_name RiscvCallPlt = codes "RiscvCallPlt"
reloc_name RiscvTlsGdHi20 = codes "RiscvTlsGdHi20"
reloc_name RiscvPCRelLo12I = codes "RiscvPCRelLo12I"
reloc_name RiscvGotHi20 = codes "RiscvGotHi20"
reloc_name RiscvPCRelHi20 = codes "RiscvPCRelHi20"
reloc_name S390xTlsGd64 = codes "S390xTlsGd64"
reloc_name S390xTlsGdCall = codes "S390xTlsGdCall"

-- a call into the runtime prints as its name
abbrev pub libcall_name : LibCall → List ℕ
libcall_name Probestack = codes "Probestack"
libcall_name CeilF32 = codes "CeilF32"
libcall_name CeilF64 = codes "CeilF64"
libcall_name FloorF32 = codes "FloorF32"
libcall_name FloorF64 = codes "FloorF64"
libcall_name TruncF32 = codes "TruncF32"
libcall_name TruncF64 = codes "TruncF64"
libcall_name NearestF32 = codes "NearestF32"
libcall_name NearestF64 = codes "NearestF64"
libcall_name FmaF32 = codes "FmaF32"
libcall_name FmaF64 = codes "FmaF64"
libcall_name Memcpy = codes "Memcpy"
libcall_name Memset = codes "Memset"
libcall_name Memmove = codes "Memmove"
libcall_name Memcmp = codes "Memcmp"
libcall_name ElfTlsGetAddr = codes "ElfTlsGetAddr"
libcall_name ElfTlsGetOffset = codes "ElfTlsGetOffset"
libcall_name X86Pshufb = codes "X86Pshufb"

-- a known symbol prints as its name
abbrev pub known_symbol_name : KnownSymbol → List ℕ
known_symbol_name ElfGlobalOffsetTable = codes "ElfGlobalOffsetTable"
known_symbol_name CoffTlsIndex = codes "CoffTlsIndex"

-- a type prints as its name in lower case
abbrev pub type_name : ValueType → List ℕ
type_name I8 = codes "i8"
type_name I16 = codes "i16"
type_name I32 = codes "i32"
type_name I64 = codes "i64"
type_name I128 = codes "i128"
type_name F32 = codes "f32"
type_name F64 = codes "f64"

-- the mark of an extension, with a space before it
abbrev pub extension_mark : ArgumentExtension → List ℕ
extension_mark None = []
extension_mark Uext = codes " uext"
extension_mark Sext = codes " sext"

-- the mark of a purpose, with a space before it
abbrev pub purpose_mark : ArgumentPurpose → List ℕ
purpose_mark Normal = []
purpose_mark StructReturn = codes " sret"
purpose_mark VMContext = codes " vmctx"

-- a calling convention prints as its name in lower case
abbrev pub convention_name : CallConv → List ℕ
convention_name Fast = codes "fast"
convention_name Tail = codes "tail"
convention_name SystemV = codes "system_v"
convention_name WindowsFastcall = codes "windows_fastcall"
convention_name AppleAarch64 = codes "apple_aarch64"
