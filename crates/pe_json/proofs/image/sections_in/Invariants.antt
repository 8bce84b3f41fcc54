use Rattle.std.proofs.Common.{◌≡◌, drop, map}
use Rattle.serde_json.specs.View.{items_view}
use Rattle.json_form.specs.Form.{each_of}
use Rattle.json_form.proofs.EachOf.{with_front}
use Rattle.pe_json.specs.Image.{section_of}
use Rattle.pe_json.proofs.image.sections_in.Given as goal

-- the rows so far, and those of the rest, are all rows
abbrev pub invariant-loop-value : goal.invariant-loop-value
invariant-loop-value l = each_of section_of (items_view l.values) ≡ with_front (map (λ s. s) l.sections.items) (each_of section_of (items_view (drop l.value-index l.values)))
