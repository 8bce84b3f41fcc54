use Rattle.std.proofs.Common.{◌≡◌, map, drop, find}
use Rattle.fat_macho.specs.Input.{is_among}
use Rattle.fat_macho.proofs.joining.first_among.Given as goal

-- the first of what is left is the first of all
abbrev pub invariant-loop-slice : goal.invariant-loop-slice
invariant-loop-slice g l =
    let shape = g.T.Shaped.shape in
    find (is_among (map shape l.held)) (map shape (drop l.slice-index l.new)) ≡ find (is_among (map shape l.held)) (map shape l.new)
