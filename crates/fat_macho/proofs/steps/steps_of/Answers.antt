use Rattle.std.proofs.Common.{length, map, sym, arith}
use Rattle.std.proofs.lemmas.List.{length-map}
use Rattle.fat_macho.specs.HeldViews.{raw_shape}
use Rattle.fat_macho.proofs.StepLaws.{starts_at, steps_are, layout_short}
use Rattle.fat_macho.proofs.steps.steps_of.Goals as goal

pub invariant_of-result : goal.invariant_of-result
invariant_of-result c =
    let n = c.layout_of-layout.ensures.numbers in
    let s = starts_at (map raw_shape c.args.slices.now) _ _ (length c.args.slices.now) _ n.wide n.align (sym (length-map c.args.slices.now raw_shape)) c.table_end.ensures.value in
    (c.layout_of-layout.ensures.some, c.layout_of-layout.ensures.bound, omega (arith, s.end, layout_short (map raw_shape c.args.slices.now) c.requires.short))

pub returns : goal.returns
returns c =
    let n = c.layout_of-layout.ensures.numbers in
    let s = starts_at (map raw_shape c.args.slices.now) _ _ (length c.args.slices.now) _ n.wide n.align (sym (length-map c.args.slices.now raw_shape)) c.table_end.ensures.value in
    steps_are (map raw_shape c.args.slices.now) _ _ s
