use Rattle.std.proofs.Common.{◌≡◌, List, ℕ, map, take, drop, bytes_eq}
use Rattle.std.specs.Prelude.{is_some}
use Rattle.std.specs.List.{list_any}
use Rattle.std.specs.HashMap as hash
use Rattle.ir_core.specs.Moments.{moments, moments_after}
use Rattle.image_place.specs.Placed.{first_fault, twice_fault, exports_as}
use Rattle.image_place.specs.DefinitionRows.{found_seen}
use Rattle.image_place.proofs.twice.second_definition.Given as goal

abbrev pub invariant-loop-definition : goal.invariant-loop-definition
invariant-loop-definition l = record {
  names : (x : List ℕ) → is_some (hash.get_by (λ w. bytes_eq x w.now) l.names) ≡ list_any (exports_as x) (map found_seen (take l.definition-index l.definitions));
  rest : first_fault (map twice_fault (moments (map found_seen l.definitions))) ≡ first_fault (map twice_fault (moments_after (map found_seen (take l.definition-index l.definitions)) (map found_seen (drop l.definition-index l.definitions))));
}
