-- The kinds that are applied are those of the numbers that Mach-O files have for them.
use Rattle.std.proofs.Common.{◌≡◌, refl}
use Rattle.std.specs.Prelude.{List}
use Rattle.ir_core.specs.declared.reloc.Reloc.{Reloc}
use Rattle.ir_core.specs.declared.target.Architecture.TheVariants.{X86_64}
use Rattle.ir_core.specs.declared.target.BinaryFormat.TheVariants.{Macho}
use Rattle.ir_core.specs.declared.reloc.Reloc.TheVariants.{Abs4, Abs8, X86PCRel4, X86CallPCRel4, X86CallPLTRel4, X86GOTPCRel4, MachOX86_64Tlv}
use Rattle.object_core.specs.Object.{SymbolData}
use Rattle.object_core.specs.MachRows.{mach_relocation}
use Rattle.object_core.specs.declared.relocation.Relocation.{Relocation}
use Rattle.object_macho.specs.Layout.{record_for}
use Rattle.cranelift_object.specs.Linked.{relocation_flags}
use Rattle.image_place.specs.Memory.{fix_kind}
use Rattle.image_view.specs.View.{mach_kind}

-- the record of a relocation is of the kind that is applied, if one is
pub mach-kinds : (kind : Reloc) (symbols : List SymbolData) (r : Relocation) → r.flags ≡ relocation_flags Macho X86_64 kind → mach_kind (record_for (mach_relocation symbols r)) ≡ fix_kind Macho kind
mach-kinds Abs8 symbols r e = rw e refl
mach-kinds Abs4 symbols r e = rw e refl
mach-kinds X86PCRel4 symbols r e = rw e refl
mach-kinds X86CallPCRel4 symbols r e = rw e refl
mach-kinds X86CallPLTRel4 symbols r e = rw e refl
mach-kinds X86GOTPCRel4 symbols r e = rw e refl
mach-kinds MachOX86_64Tlv symbols r e = rw e refl
mach-kinds kind symbols r e = rw e refl
