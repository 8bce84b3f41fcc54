use Rattle.std.proofs.Common.{◌≡◌, drop, map}
use Rattle.serde_json.specs.View.{items_view}
use Rattle.json_form.specs.Form.{each_of}
use Rattle.json_form.proofs.EachOf.{with_front}
use Rattle.place_json.specs.Input.{address_of}
use Rattle.place_json.proofs.rows.addresses_in.Given as goal

-- the rows so far, and those of the rest, are all rows
abbrev pub invariant-loop-value : goal.invariant-loop-value
invariant-loop-value l = each_of address_of (items_view l.values) ≡ with_front (map (λ a. a) l.addresses.items) (each_of address_of (items_view (drop l.value-index l.values)))
