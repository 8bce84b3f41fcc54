use Rattle.std.proofs.Common.{ℕ, List, Bool, Option, ◌∙◌, ap, Some}
use Rattle.std.proofs.lemmas.List.{map-id}
use Rattle.serde_json.specs.View.{view}
use Rattle.ir_core.specs.Target.{Target}
use Rattle.json_form.proofs.EachOf.{each_step, each_stop, each_end}
use Rattle.objtool_run.specs.TargetForm.{flag_of}
use Rattle.objtool_run.proofs.Appending.{flagged}
use Rattle.objtool_run.proofs.script.target.push_flags.Goals as goal

pub returns-in-Err-clause-flags : goal.returns-in-Err-clause-flags
returns-in-Err-clause-flags c = each_stop flag_of c.args.values.now c.loop-value.value-index c.value-item.result _ c.in-Err.error _ c.loop-value-test.true c.value-item.is c.loop-value.invariant.flags c.in-Err.ensures.err

pub loop-value-preserved : goal.loop-value-preserved
loop-value-preserved c =
    let one = flagged c.loop-value.isa c.push_flag.new.isa (flag_of (view c.value-item.result)) c.in-Ok.ensures.ok in
    record {
      flags =
          each_step flag_of (λ (x : List ℕ × Option Bool). x) c.args.values.now c.loop-value.value-index c.value-item.result c.loop-value.isa.flags c.push_flag.new.isa.flags one.0 _
          c.loop-value-test.true c.value-item.is (ap (λ (t : Target). t.flags) one.2) c.loop-value.invariant.flags one.1;
      triple = ap (λ (t : Target). t.triple) one.2 ∙ c.loop-value.invariant.triple;
    }

pub returns-clause-flags : goal.returns-clause-flags
returns-clause-flags c = each_end flag_of c.args.values.now c.loop-value.value-index _ _ c.loop-value-test.false c.loop-value.invariant.flags ∙ ap Some (map-id c.loop-value.isa.flags)
