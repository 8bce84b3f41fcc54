use Rattle.std.proofs.Common.{◌≡◌, length, drop, take}
use Rattle.std.specs.Prelude.{zip}
use Rattle.serde_json.specs.View.{view}
use Rattle.json_form.proofs.EachOf.{with_front}
use Rattle.objtool_run.specs.TargetForm.{all_of, libcalls, libcall_text}
use Rattle.objtool_run.proofs.script.libcalls.set_texts.Given as goal

-- the texts so far, and those of the other calls, are all texts
abbrev pub invariant-loop-call : goal.invariant-loop-call
invariant-loop-call l = record {
  texts : all_of (λ row. libcall_text (view l.value) row.0 row.1) (zip libcalls l.fn.names) ≡ with_front (take l.call-index l.names) (all_of (λ row. libcall_text (view l.value) row.0 row.1) (zip (drop l.call-index libcalls) (drop l.call-index l.names)));
  len : length l.names ≡ 18;
}
