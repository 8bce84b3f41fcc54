use Rattle.std.proofs.Common.{◌≡◌, drop, map}
use Rattle.std.specs.List.{position_from}
use Rattle.fat_macho.specs.Named.{is_shape_of}
use Rattle.fat_macho.proofs.named.place_of_arch.Given as goal

-- the place is not among the first i
abbrev pub invariant-loop-i : goal.invariant-loop-i
invariant-loop-i g l =
    position_from (is_shape_of l.pair) l.i (map g.T.Shaped.shape (drop l.i l.slices)) ≡ position_from (is_shape_of l.pair) 0 (map g.T.Shaped.shape l.slices)
