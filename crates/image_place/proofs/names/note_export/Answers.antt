use Rattle.std.proofs.Common.{◌≡◌, ℕ, ap, ◌∙◌, Some, bytes_eq}
use Rattle.std.specs.Prelude.{Option, if◌then◌else◌}
use Rattle.std.proofs.lemmas.Map.Text.{hash_map_updates_str}
use Rattle.image_place.specs.Naming.{at_name, told_next}
use Rattle.image_place.proofs.names.note_export.Goals as goal

pub returns : goal.returns
returns c =
    let told : c.told_next-told.result ≡ told_next (at_name c.args.exports.now c.args.name.now) c.args.address = cc in
    λ x. hash_map_updates_str c.args.name.now c.args.exports.now c.insert.new.self _ c.in_ok-insert.ensures.updates x ∙ ap (λ (t : Option ℕ). if bytes_eq c.args.name.now x then Some t else at_name c.args.exports.now x) told
