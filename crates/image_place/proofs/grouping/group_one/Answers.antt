use Rattle.std.proofs.Common.{◌≡◌, ◌+◌, ◌-◌, ◌<◌, length, map, subst, arith}
use Rattle.image_place.specs.Indexed.{line_place}
use Rattle.image_place.proofs.DefinitionLaws.{long_map}
use Rattle.image_place.proofs.JudgingLaws.{same_place}
use Rattle.image_place.proofs.GroupLaws.{WritesFrom, items_of, writes_none, writes_next, groups_all, groups_kindless, writes_held}
use Rattle.image_place.proofs.grouping.group_one.Goals as goal

pub loop-place-init : goal.loop-place-init
loop-place-init c =
    let ps = c.spans-spans.result.now in
    writes_none ps (line_place c.args.k (c.args.start + c.args.r.offset)) c.width_of-width.result c.last_holder-place.result c.args.r (map items_of c.args.fields.now.items)
    (same_place ps c.args.k c.args.start c.args.r.offset (length ps) c.last_holder-place.result _ _ _ c.width_of-width.result c.from.ensures c.from-2.ensures c.line_place-at.ensures.place c.last_holder-place.ensures)

pub number-requires : goal.number-requires
number-requires c = record { more = c.loop-place-test.true; inside = c.loop-place.invariant.inside }

pub push_field-requires : goal.push_field-requires
push_field-requires c =
    let near : c.args.start + c.args.r.offset < 73786976294838206464 = omega arith in
    record {
      inside =
          omega (
            arith,
            writes_held c.args.definitions.now c.spans-spans.result.now c.args.k (c.args.start + c.args.r.offset) c.width_of-width.result c.loop-place.place c.number.result c.args.r (map items_of c.args.fields.now.items) (map items_of c.loop-place.fields.items) c.spans-spans.ensures near
                c.loop-place-test.true c.number.ensures c.loop-place.invariant,
            c.requires.long,
            c.loop-place.invariant.long,
            long_map items_of c.args.fields.now.items,
            long_map items_of c.loop-place.fields.items,
          );
    }

pub holder_before-place-requires : goal.holder_before-place-requires
holder_before-place-requires c = record { near = c.line_place-at.ensures.near; inside = omega (arith, c.loop-place.invariant.inside) }

pub loop-place-preserved : goal.loop-place-preserved
loop-place-preserved c =
    let ps = c.spans-spans.result.now in
    writes_next c.args.definitions.now ps (line_place c.args.k (c.args.start + c.args.r.offset)) c.width_of-width.result c.loop-place.place c.holder_before-place.result c.number.result c.args.r (map items_of c.args.fields.now.items) (map items_of c.loop-place.fields.items) (map items_of c.push_field.new.fields.items)
    c.spans-spans.ensures c.loop-place-test.true c.number.ensures c.loop-place.invariant c.in_ok-push_field.ensures
    (same_place ps c.args.k c.args.start c.args.r.offset (c.loop-place.place - 1) c.holder_before-place.result _ _ _ c.width_of-width.result c.from.ensures c.from-2.ensures c.line_place-at.ensures.place c.holder_before-place.ensures)

pub returns : goal.returns
returns c =
    let ps = c.spans-spans.result.now in
    let at = line_place c.args.k (c.args.start + c.args.r.offset) in
    let olds = map items_of c.args.fields.now.items in
    let news = map items_of c.loop-place.fields.items in
    let none : c.loop-place.place ≡ 0 = omega (arith, c.loop-place-test.false) in
    let all : WritesFrom ps at c.width_of-width.result 0 c.args.r olds news = subst (λ n. WritesFrom ps at c.width_of-width.result n c.args.r olds news) none c.loop-place.invariant in
    groups_all c.args.definitions.now ps c.args.k c.args.start c.args.r c.in-Some.kind olds news c.spans-spans.ensures (omega arith) c.in-Some.is (subst (λ w. WritesFrom ps at w 0 c.args.r olds news) c.width_of-width.ensures.width all)

pub returns-in_default : goal.returns-in_default
returns-in_default c = groups_kindless c.args.definitions.now c.args.k c.args.start c.args.r (map items_of c.args.fields.now.items) c.in_default.is
