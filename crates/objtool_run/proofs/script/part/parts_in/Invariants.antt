use Rattle.std.proofs.Common.{◌≡◌, drop, map}
use Rattle.std.specs.List.{All}
use Rattle.serde_json.specs.View.{items_view}
use Rattle.image_build.specs.Parts.{part_view, HasFewCalls}
use Rattle.json_form.specs.Form.{each_of}
use Rattle.objtool_run.specs.Script.{part_of}
use Rattle.json_form.proofs.EachOf.{with_front}
use Rattle.objtool_run.proofs.script.part.parts_in.Given as goal

-- the parts so far, and those of the rest, are all parts
abbrev pub invariant-loop-value : goal.invariant-loop-value
invariant-loop-value l = record {
  form : each_of part_of (items_view l.values) ≡ with_front (map part_view l.parts.items) (each_of part_of (items_view (drop l.value-index l.values)));
  few : All HasFewCalls (map part_view l.parts.items);
}
