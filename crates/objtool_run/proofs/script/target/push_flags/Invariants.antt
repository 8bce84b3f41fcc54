use Rattle.std.proofs.Common.{◌≡◌, drop, map}
use Rattle.serde_json.specs.View.{items_view}
use Rattle.json_form.specs.Form.{each_of}
use Rattle.json_form.proofs.EachOf.{with_front}
use Rattle.objtool_run.specs.TargetForm.{flag_of}
use Rattle.objtool_run.proofs.script.target.push_flags.Given as goal

-- the flags so far, and those of the rest, are all flags, and the triple stays
abbrev pub invariant-loop-value : goal.invariant-loop-value
invariant-loop-value l = record {
  flags : each_of flag_of (items_view l.values) ≡ with_front (map (λ x. x) l.isa.flags) (each_of flag_of (items_view (drop l.value-index l.values)));
  triple : l.isa.triple ≡ l.fn.isa.triple;
}
