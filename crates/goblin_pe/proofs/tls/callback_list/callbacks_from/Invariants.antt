-- the callbacks so far stand in front of those behind this place
use Rattle.std.proofs.Common.{◌≡◌, ◌+◌, ◌-◌, length}
use Rattle.pe_core.specs.Steps.{address_width}
use Rattle.goblin_pe.specs.Tls.{callbacks_among, numbers_behind}
use Rattle.goblin_pe.specs.AddressMap.{map_view}
use Rattle.goblin_pe.proofs.Callbacks.{all_in_front}
use Rattle.goblin_pe.proofs.tls.callback_list.callbacks_from.Given as goal

abbrev pub invariant-reading : goal.invariant-reading
invariant-reading l =
    callbacks_among (map_view l.map) (numbers_behind l.bytes (address_width l.is_64) l.fn.start)
    ≡ all_in_front l.callbacks.items (callbacks_among (map_view l.map) (numbers_behind l.bytes (address_width l.is_64) l.place))

abbrev pub decreases-reading : goal.decreases-reading
decreases-reading l = length l.bytes + 8 - l.place
