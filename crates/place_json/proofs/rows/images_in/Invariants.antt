use Rattle.std.proofs.Common.{◌≡◌, drop, map}
use Rattle.serde_json.specs.View.{items_view}
use Rattle.json_form.specs.Form.{each_of}
use Rattle.json_form.proofs.EachOf.{with_front}
use Rattle.place_json.specs.Input.{image_of}
use Rattle.place_json.proofs.rows.images_in.Given as goal

-- the files so far, and those of the rest, are all files
abbrev pub invariant-loop-value : goal.invariant-loop-value
invariant-loop-value l = each_of image_of (items_view l.values) ≡ with_front (map (λ b. b.items) l.images.items) (each_of image_of (items_view (drop l.value-index l.values)))
