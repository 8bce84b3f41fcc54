use Rattle.std.proofs.Common.{map}
use Rattle.image_place.specs.Grouped.{AreEmpty}
use Rattle.image_place.proofs.grouping.no_fields.Given as goal

abbrev pub invariant-loop : goal.invariant-loop
invariant-loop l = AreEmpty l.index (map (λ f. f.items) l.fields.items)
