use Rattle.std.proofs.lemmas.List.{length-map}
use Rattle.std.proofs.Common.{◌<◌, ◌*◌, ◌+◌, ◌∷◌, [], arith, ap, sym, ◌∙◌, length, take, drop, length-append, length-take-le}
use Rattle.object_core.specs.Object.{body_of}
use Rattle.object_elf.specs.PartView.{relocation_parts_from, relocation_part_of}
use Rattle.object_elf.proofs.Items.{item_of, own_relocations, records_same}
use Rattle.object_elf.proofs.SectionLoops.{has_none, has_some}
use Rattle.object_elf.proofs.PartLoops.{from_next, from_passed, from_split, length-from-le, records_over, stand_none, stand_more, over_as, stops}
use Rattle.object_elf.proofs.plan_check.end_of_relocations.Goals as goal

pub loop-k-init : goal.loop-k-init
loop-k-init c = record { parts = stand_none _ _ _; number = omega (arith, ap length c.sections-sections.ensures.value, length-map c.args.object.now.sections body_of) }

pub loop-k-preserved-then-is_empty : goal.loop-k-preserved-then-is_empty
loop-k-preserved-then-is_empty c =
    let o = c.args.object.now in
    let item = item_of body_of o.sections _ c.loop-k.k c.index-sections-k.result c.sections-sections.ensures.value c.loop-k-test.true c.index-sections-k.is in
    let s = item.whole in
    let e = item.found in
    let none = has_none s c.is_empty.result (length c.relocations.result.now) (ap length (own_relocations s _ _ item.same c.relocations.ensures)) c.is_empty.ensures c.if-is_empty.true in
    let same = from_passed c.args.link o.sections c.loop-k.k s e none in
    record {
      parts = rw same c.loop-k.invariant.parts;
      number = c.loop-k.invariant.number ∙ ap (λ l. length o.sections + 1 + length l) (sym same);
    }

pub returns-in_err-size : goal.returns-in_err-size
returns-in_err-size c =
    let o = c.args.object.now in
    let item = item_of body_of o.sections _ c.loop-k.k c.index-sections-k.result c.sections-sections.ensures.value c.loop-k-test.true c.index-sections-k.is in
    let s = item.whole in
    let e = item.found in
    let some = has_some s c.is_empty.result (length c.relocations.result.now) (ap length (own_relocations s _ _ item.same c.relocations.ensures)) c.is_empty.ensures c.if-is_empty.false in
    rw c.from_residual.ensures
    (stops _ _ _ _ _ _ (relocation_part_of c.args.link (c.loop-k.k + 1, s) ∷ []) (relocation_parts_from c.args.link (c.loop-k.k + 1 + 1) (drop (c.loop-k.k + 1) o.sections)) _ c.loop-k.invariant.parts c.loop-k.invariant.number
    (from_split c.args.link o.sections c.loop-k.k s e some)
    (λ _. records_over c.loop-k.next c.args.link (c.loop-k.k + 1) s (omega (arith, c.in_err-size.ensures, records_same s _ item.same))))

pub end_at-requires : goal.end_at-requires
end_at-requires c =
    let xs = c.args.object.now.sections in
    let h : c.loop-k.k < length xs = omega (arith, c.loop-k-test.true, ap length c.sections-sections.ensures.value, length-map xs body_of) in
    omega (arith, c.loop-k.invariant.number, length-from-le c.args.link 1 (take c.loop-k.k xs), length-take-le c.loop-k.k xs (omega (arith, h)), c.requires, h)

pub returns-in_err-next : goal.returns-in_err-next
returns-in_err-next c =
    let o = c.args.object.now in
    let item = item_of body_of o.sections _ c.loop-k.k c.index-sections-k.result c.sections-sections.ensures.value c.loop-k-test.true c.index-sections-k.is in
    let s = item.whole in
    let e = item.found in
    let some = has_some s c.is_empty.result (length c.relocations.result.now) (ap length (own_relocations s _ _ item.same c.relocations.ensures)) c.is_empty.ensures c.if-is_empty.false in
    let part = c.relocation_part-part.ensures s (c.section_name.ensures s e) (c.in_ok-size.ensures ∙ ap (λ n. 24 * n) (records_same s _ item.same)) in
    rw c.from_residual-in_err-next.ensures (stops _ _ _ _ _ _ _ _ _ c.loop-k.invariant.parts c.loop-k.invariant.number (from_split c.args.link o.sections c.loop-k.k s e some) (over_as _ _ _ _ _ part c.in_err-next.ensures))

pub overflow_add-number-in-loop-k : goal.overflow_add-number-in-loop-k
overflow_add-number-in-loop-k c =
    let xs = c.args.object.now.sections in
    let h : c.loop-k.k < length xs = omega (arith, c.loop-k-test.true, ap length c.sections-sections.ensures.value, length-map xs body_of) in
    omega (arith, c.loop-k.invariant.number, length-from-le c.args.link 1 (take c.loop-k.k xs), length-take-le c.loop-k.k xs (omega (arith, h)), c.requires, h)

pub loop-k-preserved : goal.loop-k-preserved
loop-k-preserved c =
    let o = c.args.object.now in
    let item = item_of body_of o.sections _ c.loop-k.k c.index-sections-k.result c.sections-sections.ensures.value c.loop-k-test.true c.index-sections-k.is in
    let s = item.whole in
    let e = item.found in
    let some = has_some s c.is_empty.result (length c.relocations.result.now) (ap length (own_relocations s _ _ item.same c.relocations.ensures)) c.is_empty.ensures c.if-is_empty.false in
    let part = c.relocation_part-part.ensures s (c.section_name.ensures s e) (c.in_ok-size.ensures ∙ ap (λ n. 24 * n) (records_same s _ item.same)) in
    let next = from_next c.args.link o.sections c.loop-k.k s e some in
    record {
      parts = stand_more _ _ _ _ _ _ _ _ _ c.loop-k.invariant.parts (rw part at c.in_ok-next.ensures) c.loop-k.invariant.number next;
      number = omega (arith, c.loop-k.invariant.number, ap length next ∙ length-append (relocation_parts_from c.args.link 1 (take c.loop-k.k o.sections)) (relocation_part_of c.args.link (c.loop-k.k + 1, s) ∷ []));
    }
