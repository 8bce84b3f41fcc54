use Rattle.std.proofs.Common.{◌<◌, List, length, map, ap, subst, arith, get_or, None}
use Rattle.std.specs.Prelude.{pos}
use Rattle.image_view.specs.declared.view.ViewReloc.{ViewReloc}
use Rattle.image_place.specs.Grouped.{Groups, holds_here}
use Rattle.image_place.proofs.DefinitionLaws.{long_map}
use Rattle.image_place.proofs.GroupLaws.{items_of, one_if, groups_start, groups_more, groups_end}
use Rattle.image_place.proofs.grouping.group_section.Goals as goal

pub loop-relocation-init : goal.loop-relocation-init
loop-relocation-init c = groups_start c.args.definitions.now (map items_of c.args.fields.now.items)

pub group_one-requires : goal.group_one-requires
group_one-requires c = record { long = omega (arith, c.requires.long, c.loop-relocation.invariant.long, long_map items_of c.args.fields.now.items, long_map items_of c.loop-relocation.fields.items) }

pub loop-relocation-preserved : goal.loop-relocation-preserved
loop-relocation-preserved c =
    let ds = c.args.definitions.now in
    let z : ViewReloc = record { offset = 0; symbol = 0; kind = None; number = 0; addend = pos 0 } in
    let k = c.args.k in
    let rs = c.args.section.now.relocations in
    let i = c.loop-relocation.relocation-index in
    let below : i < length rs = omega (arith, c.loop-relocation-test.true, ap length c.relocations-relocation-items.ensures) in
    groups_more ds k c.args.section.now.start rs i z (map items_of c.args.fields.now.items) (map items_of c.loop-relocation.fields.items) (map items_of c.group_one.new.fields.items) below c.loop-relocation.invariant
    (subst (λ (xs : List ViewReloc). Groups ds (λ d. one_if (holds_here k c.args.section.now.start d (get_or xs i z)) (get_or xs i z)) (map items_of c.loop-relocation.fields.items) (map items_of c.group_one.new.fields.items)) c.relocations-relocation-items.ensures
    (subst (λ at. Groups ds (λ d. one_if (holds_here k at d (get_or c.relocations-relocation-items.result.now i z)) (get_or c.relocations-relocation-items.result.now i z)) (map items_of c.loop-relocation.fields.items) (map items_of c.group_one.new.fields.items)) c.start.ensures c.in_ok-group_one.ensures))

pub returns : goal.returns
returns c =
    groups_end c.args.definitions.now c.args.k c.args.section.now.start c.args.section.now.relocations c.loop-relocation.relocation-index (map items_of c.args.fields.now.items) (map items_of c.loop-relocation.fields.items)
    (omega (arith, c.loop-relocation-test.false, ap length c.relocations-relocation-items.ensures)) c.loop-relocation.invariant
