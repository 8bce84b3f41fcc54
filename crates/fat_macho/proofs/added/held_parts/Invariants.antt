use Rattle.std.proofs.Common.{take}
use Rattle.std.specs.List.{AllZip}
use Rattle.fat_macho.specs.AddedViews.{IsSliceOf}
use Rattle.fat_macho.proofs.added.held_parts.Given as goal

-- these are the first parts
abbrev pub invariant-loop-part : goal.invariant-loop-part
invariant-loop-part l = AllZip (IsSliceOf l.input) (take l.part-index l.parts) l.slices.items
