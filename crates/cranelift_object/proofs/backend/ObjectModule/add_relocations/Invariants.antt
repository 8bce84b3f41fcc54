use Rattle.std.proofs.Common.{◌≡◌, map, take}
use Rattle.cranelift_object.specs.Linked.{object_relocation}
use Rattle.cranelift_object.specs.Product.{with_relocations}
use Rattle.cranelift_object.proofs.backend.ObjectModule.add_relocations.Given as goal

-- those so far stand in the section
abbrev pub invariant-loop-reloc : goal.invariant-loop-reloc
invariant-loop-reloc l = l.object ≡ with_relocations l.fn.object l.section (map (object_relocation l.self.settings l.self.state l.offset) (take l.reloc-index l.relocs))
