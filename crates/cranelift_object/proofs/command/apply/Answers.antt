use Rattle.cranelift_object.proofs.ApplyLaws.{run_at, run_ended, run_next, run_refused, run_free, run_whole}
use Rattle.cranelift_object.proofs.RunLaws.{whole_run, none_refused, refused_first}
use Rattle.cranelift_object.proofs.command.apply.Goals as goal

pub returns-in-Err-clause-refused : goal.returns-in-Err-clause-refused
returns-in-Err-clause-refused g c =
    run_refused _ _ _ _ _ _ c.in-Err.error (run_at _ _ _ _ _ _ c.loop-number.invariant.run c.loop-number-test.true c.index-commands-number.is) c.in-Err.ensures.call.refused

pub loop-number-preserved : goal.loop-number-preserved
loop-number-preserved g c =
    record {
      run = run_next _ _ _ _ _ _ _ (run_at _ _ _ _ _ _ c.loop-number.invariant.run c.loop-number-test.true c.index-commands-number.is) c.in_default.ensures.call.accepted c.in_default.ensures.call.stepped;
      keeps = g.met.M.Module.keeps_on _ _ _ c.loop-number.invariant.keeps c.make_call.ensures.keeps;
    }

pub returns-clause-none : goal.returns-clause-none
returns-clause-none g c = run_free _ _ _ _ (run_ended _ _ _ _ _ c.loop-number.invariant.run c.loop-number-test.false)

pub returns-clause-whole : goal.returns-clause-whole
returns-clause-whole g c target e =
    let done = run_ended _ _ _ _ _ c.loop-number.invariant.run c.loop-number-test.false in
    whole_run target _ _ _ e (run_free _ _ _ _ done) (run_whole _ _ _ _ done)

pub returns-clause-accepted : goal.returns-clause-accepted
returns-clause-accepted g c target e = none_refused target _ _ e (run_free _ _ _ _ (run_ended _ _ _ _ _ c.loop-number.invariant.run c.loop-number-test.false))

pub returns-in-Err-clause-first : goal.returns-in-Err-clause-first
returns-in-Err-clause-first g c target e =
    refused_first target _ _ c.loop-number.number c.in-Err.error e
    (run_refused _ _ _ _ _ _ c.in-Err.error (run_at _ _ _ _ _ _ c.loop-number.invariant.run c.loop-number-test.true c.index-commands-number.is) c.in-Err.ensures.call.refused)
