use Rattle.std.proofs.Common.{◌∙◌}
use Rattle.object_core.specs.Object.{body_of}
use Rattle.object_elf.specs.PartView.{content_part_of}
use Rattle.object_elf.proofs.Items.{item_of, size_within, content_same}
use Rattle.object_elf.proofs.PartLoops.{map_next, pushes_none, pushes_more}
use Rattle.object_elf.proofs.plan.push_content_places.Goals as goal

pub loop-k-init : goal.loop-k-init
loop-k-init c = pushes_none _ _

pub content_part-part-requires : goal.content_part-part-requires
content_part-part-requires c =
    let o = c.args.object.now in
    let item = item_of body_of o.sections _ c.loop-k.k c.index-sections-k.result c.sections-sections.ensures.value c.loop-k-test.true c.index-sections-k.is in
    size_within o c.loop-k.k item.whole _ c.sections-sections.ensures.sound c.requires item.found item.same

pub loop-k-preserved : goal.loop-k-preserved
loop-k-preserved c =
    let o = c.args.object.now in
    let item = item_of body_of o.sections _ c.loop-k.k c.index-sections-k.result c.sections-sections.ensures.value c.loop-k-test.true c.index-sections-k.is in
    let s = item.whole in
    let e = item.found in
    let part = c.content_part-part.ensures ∙ content_same s _ _ item.same (c.section_name.ensures s e) in
    pushes_more _ _ _ _ _ _ _ _ _ c.loop-k.invariant (rw part at c.in_ok-next.ensures) (map_next content_part_of o.sections c.loop-k.k s e)
