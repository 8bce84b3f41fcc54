use Rattle.std.proofs.Common.{◌≡◌, ◌++◌, map, drop}
use Rattle.fat_macho.specs.ShapeView.{shape_view}
use Rattle.fat_macho.proofs.joining.shapes_of.Given as goal

-- the shapes so far and those that are left are all
abbrev pub invariant-loop-slice : goal.invariant-loop-slice
invariant-loop-slice g l =
    let shape = g.T.Shaped.shape in
    map shape_view l.shapes.items ++ map shape (drop l.slice-index l.slices) ≡ map shape l.slices
