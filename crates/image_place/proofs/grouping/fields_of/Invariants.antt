use Rattle.std.proofs.Common.{map}
use Rattle.image_place.proofs.GroupLaws.{GroupedTo, items_of}
use Rattle.image_place.proofs.grouping.fields_of.Given as goal

abbrev pub invariant-loop-k : goal.invariant-loop-k
invariant-loop-k l = GroupedTo l.view l.definitions l.k (map items_of l.fields.items)
