use Rattle.std.proofs.Common.{◌≤◌, ◌+◌, arith}
use Rattle.std.proofs.lemmas.Result.{err_from_is_err_and}
use Rattle.fat_macho.proofs.Fronts.{no_faults, faults_again}
use Rattle.fat_macho.proofs.InputLaws.{no_parts, parts_still, parts_before, table_end_le, entries_fail}
use Rattle.fat_macho.proofs.input.entry_parts.Goals as goal

pub loop-k-init : goal.loop-k-init
loop-k-init g c = record { parts = rw c.new-parts.ensures.items (no_parts _ c.args.wide); others = no_faults _ }

pub next_part-requires-clause-inside : goal.next_part-requires-clause-inside
next_part-requires-clause-inside g c =
    let below : c.loop-k.k + 1 ≤ c.args.count = omega (arith, c.loop-k-test.true) in
    omega (arith, table_end_le c.args.wide (c.loop-k.k + 1) c.args.count below, c.requires, c.loop-k.invariant.others.same_length)

pub next_part-requires-clause-before : goal.next_part-requires-clause-before
next_part-requires-clause-before g c = rw c.deref.ensures.value (parts_still _ _ c.args.wide c.loop-k.k c.loop-k.parts.items c.loop-k.invariant.others c.loop-k.invariant.parts)

pub returns-in_err-part-clause-cause : goal.returns-in_err-part-clause-cause
returns-in_err-part-clause-cause g c =
    let p = err_from_is_err_and c.from_residual.result c.from_residual.ensures.1 in
    rw (p.1, p.2) (entries_fail _ _ _ c.args.wide c.loop-k.k c.args.count c.loop-k.parts.items c.in_err-part.field-0.0 c.loop-k.invariant.parts c.loop-k-test.true c.loop-k.invariant.others c.in_err-part.ensures.cause)

pub loop-k-preserved : goal.loop-k-preserved
loop-k-preserved g c =
    record {
      parts = rw c.in_ok-push.ensures.items (parts_before _ _ c.args.wide (c.loop-k.k + 1) _ c.loop-k.invariant.others (rw c.deref.ensures.value at c.in_ok-part.ensures.parts));
      others = faults_again _ _ _ c.loop-k.invariant.others c.next_part.ensures.others;
    }
