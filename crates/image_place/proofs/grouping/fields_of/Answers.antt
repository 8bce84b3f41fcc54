use Rattle.std.proofs.Common.{◌≡◌, ◌<◌, List, length, map, ap, ◌∙◌, arith, get_or}
use Rattle.byte_core.proofs.Lists.{item_get}
use Rattle.image_view.specs.View.{ViewSection}
use Rattle.image_place.proofs.DefinitionLaws.{long_map}
use Rattle.image_place.proofs.GroupLaws.{items_of, grouped_start, grouped_next, grouped_end}
use Rattle.image_place.proofs.grouping.fields_of.Goals as goal

pub loop-k-init : goal.loop-k-init
loop-k-init c = grouped_start c.args.view.now c.args.definitions.now (map items_of c.in_ok-fields.fields.items) c.in_ok-fields.ensures

pub group_section-requires : goal.group_section-requires
group_section-requires c = record { long = omega (arith, c.loop-k.invariant.long, long_map items_of c.loop-k.fields.items) }

pub loop-k-preserved : goal.loop-k-preserved
loop-k-preserved c =
    let section = c.section-item.result in
    let is : section ≡ get_or c.args.view.now.sections c.loop-k.k section = c.section-item.is ∙ ap (λ (xs : List ViewSection). get_or xs c.loop-k.k section) c.sections-section-items.ensures in
    let below : c.loop-k.k < length c.args.view.now.sections = omega (arith, c.loop-k-test.true, ap length c.sections-section-items.ensures) in
    grouped_next c.args.view.now c.args.definitions.now c.loop-k.k section (map items_of c.loop-k.fields.items) (map items_of c.group_section.new.fields.items) (item_get c.args.view.now.sections c.loop-k.k section below is) c.loop-k.invariant c.in_ok-group_section.ensures

pub returns : goal.returns
returns c = grouped_end c.args.view.now c.args.definitions.now c.loop-k.k (map items_of c.loop-k.fields.items) (omega (arith, c.loop-k-test.false, ap length c.sections-section-items.ensures)) c.loop-k.invariant
