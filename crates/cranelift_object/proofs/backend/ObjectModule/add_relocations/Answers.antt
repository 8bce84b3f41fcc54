use Rattle.std.proofs.Common.{map, take, arith}
use Rattle.cranelift_object.specs.Linked.{object_relocation}
use Rattle.cranelift_object.proofs.RelocateLaws.{relocated_none, relocated_next, relocated_sections}
use Rattle.cranelift_object.proofs.backend.ObjectModule.add_relocations.Goals as goal

pub loop-reloc-init : goal.loop-reloc-init
loop-reloc-init c = relocated_none c.args.object.now c.args.section

pub add_relocation-requires : goal.add_relocation-requires
add_relocation-requires c =
    let same = relocated_sections c.args.object.now c.loop-reloc.object c.args.section (map (object_relocation c.args.self.now.settings c.args.self.now.state c.args.offset) (take c.loop-reloc.reloc-index c.args.relocs.now)) c.loop-reloc.invariant in
    omega (arith, c.requires.section, same)

pub loop-reloc-preserved : goal.loop-reloc-preserved
loop-reloc-preserved c =
    relocated_next c.args.object.now c.loop-reloc.object c.add_relocation.new.self c.args.section (object_relocation c.args.self.now.settings c.args.self.now.state c.args.offset) c.args.relocs.now c.loop-reloc.reloc-index c.reloc-item.result c.in_ok-relocation.relocation
    c.loop-reloc-test.true c.reloc-item.is c.in_ok-relocation.ensures c.loop-reloc.invariant c.in_ok-add_relocation.ensures.ok
