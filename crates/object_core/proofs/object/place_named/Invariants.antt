use Rattle.std.proofs.Common.{◌≡◌, drop}
use Rattle.std.specs.List.{position_from}
use Rattle.std.specs.Str.{bytes_eq}
use Rattle.object_core.specs.Names.{text_at}
use Rattle.object_core.proofs.object.place_named.Given as goal

abbrev pub invariant-loop-number : goal.invariant-loop-number
invariant-loop-number l = position_from (λ place. bytes_eq (text_at l.names.texts place) l.name) l.number (drop l.number l.places) ≡ position_from (λ place. bytes_eq (text_at l.fn.names.texts place) l.fn.name) 0 l.fn.places
