use Rattle.std.proofs.Common.{◌≡◌, ℕ, Some, ap, ◌∙◌, bytes_eq}
use Rattle.std.specs.Prelude.{unwrap_or, if◌then◌else◌}
use Rattle.std.proofs.lemmas.Map.Text.{hash_map_updates_str}
use Rattle.image_place.specs.Naming.{at_name}
use Rattle.image_place.proofs.NamingLaws.{outside_first}
use Rattle.image_place.proofs.names.note_outside.Goals as goal

pub returns : goal.returns
returns c =
    let first : c.first_of-first.result ≡ unwrap_or (at_name c.args.names.now c.args.name.now) c.args.address = cc in
    λ x. hash_map_updates_str c.args.name.now c.args.names.now c.insert.new.self _ c.in_ok-insert.ensures.updates x ∙ ap (λ (a : ℕ). if bytes_eq c.args.name.now x then Some a else at_name c.args.names.now x) first
    ∙ outside_first (at_name c.args.names.now) x c.args.name.now c.args.address
