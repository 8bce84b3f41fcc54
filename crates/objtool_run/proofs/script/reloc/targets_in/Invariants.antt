use Rattle.std.proofs.Common.{◌≡◌, drop, map}
use Rattle.serde_json.specs.View.{items_view}
use Rattle.json_form.specs.Form.{each_of}
use Rattle.json_form.proofs.EachOf.{with_front}
use Rattle.objtool_run.specs.DefinitionForm.{target_of}
use Rattle.objtool_run.proofs.script.reloc.targets_in.Given as goal

-- those so far, and those of the rest, are all
abbrev pub invariant-loop-value : goal.invariant-loop-value
invariant-loop-value l = each_of target_of (items_view l.values) ≡ with_front (map (λ x. x) l.targets.items) (each_of target_of (items_view (drop l.value-index l.values)))
