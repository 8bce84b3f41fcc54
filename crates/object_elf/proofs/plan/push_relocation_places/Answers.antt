use Rattle.std.proofs.Common.{◌∙◌, ◌*◌, ap, length}
use Rattle.object_core.specs.Object.{body_of}
use Rattle.object_elf.proofs.Items.{item_of, own_relocations, records_same}
use Rattle.object_elf.proofs.SectionLoops.{has_none, has_some}
use Rattle.object_elf.proofs.PartLoops.{from_next, from_passed, pushes_none, pushes_more, place_is}
use Rattle.object_elf.proofs.plan.push_relocation_places.Goals as goal

pub loop-k-init : goal.loop-k-init
loop-k-init c = pushes_none _ _

pub loop-k-preserved-then-is_empty : goal.loop-k-preserved-then-is_empty
loop-k-preserved-then-is_empty c =
    let o = c.args.object.now in
    let item = item_of body_of o.sections _ c.loop-k.k c.index-sections-k.result c.sections-sections.ensures.value c.loop-k-test.true c.index-sections-k.is in
    let s = item.whole in
    let e = item.found in
    let none = has_none s c.is_empty.result (length c.relocations.result.now) (ap length (own_relocations s _ _ item.same c.relocations.ensures)) c.is_empty.ensures c.if-is_empty.true in
    rw (from_passed c.args.link o.sections c.loop-k.k s e none) c.loop-k.invariant

pub loop-k-preserved : goal.loop-k-preserved
loop-k-preserved c =
    let o = c.args.object.now in
    let item = item_of body_of o.sections _ c.loop-k.k c.index-sections-k.result c.sections-sections.ensures.value c.loop-k-test.true c.index-sections-k.is in
    let s = item.whole in
    let e = item.found in
    let some = has_some s c.is_empty.result (length c.relocations.result.now) (ap length (own_relocations s _ _ item.same c.relocations.ensures)) c.is_empty.ensures c.if-is_empty.false in
    let size = place_is c.records_size.result _ c.in_ok-size.size c.records_size.ensures c.in_ok-size.ensures.ok_part ∙ ap (λ n. 24 * n) (records_same s _ item.same) in
    let part = c.relocation_part-part.ensures s (c.section_name.ensures s e) size in
    pushes_more _ _ _ _ _ _ _ _ _ c.loop-k.invariant (rw part at c.in_ok-next.ensures) (from_next c.args.link o.sections c.loop-k.k s e some)
