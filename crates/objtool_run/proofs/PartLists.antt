-- Parts that were taken out of a list so far.
use Rattle.std.proofs.Common.{◌≡◌, List, [], ◌∷◌, ◌++◌, map}
use Rattle.std.specs.List.{All}
use Rattle.std.proofs.lemmas.List.{map-append}
use Rattle.std.proofs.lemmas.List.Elements.{All-push}
use Rattle.image_build.specs.declared.part.Part.{Part}
use Rattle.image_build.specs.Parts.{part_view, HasFewCalls}

pub few_pushed : (before after : List Part) (part : Part) → after ≡ before ++ part ∷ [] → All HasFewCalls (map part_view before) → HasFewCalls (part_view part) → All HasFewCalls (map part_view after)
few_pushed before after part e h k = rw (e, map-append part_view before (part ∷ [])) (All-push HasFewCalls (map part_view before) (part_view part) h k)
