use Rattle.std.proofs.Common.{◌≡◌, drop, map}
use Rattle.serde_json.specs.View.{items_view}
use Rattle.json_form.specs.Form.{each_of}
use Rattle.json_form.proofs.EachOf.{with_front}
use Rattle.image_place.specs.Views.{extern_view}
use Rattle.place_json.specs.Input.{extern_of}
use Rattle.place_json.proofs.rows.externs_in.Given as goal

-- the names so far, and those of the rest, are all names
abbrev pub invariant-loop-value : goal.invariant-loop-value
invariant-loop-value l = each_of extern_of (items_view l.values) ≡ with_front (map extern_view l.externs.items) (each_of extern_of (items_view (drop l.value-index l.values)))
