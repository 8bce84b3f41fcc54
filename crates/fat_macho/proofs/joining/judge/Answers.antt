use Rattle.std.proofs.Common.{◌≡◌, None, map, find, sym, ap, ◌∙◌, option_map}
use Rattle.fat_macho.specs.Input.{is_among}
use Rattle.fat_macho.specs.ShapeView.{shape_view}
use Rattle.fat_macho.proofs.JoiningLaws.{large_tells, none_tells, total_is, few_shapes}
use Rattle.fat_macho.proofs.joining.judge.Goals as goal

pub returns-then-amount-ge-TOO_LARGE-clause-cause : goal.returns-then-amount-ge-TOO_LARGE-clause-cause
returns-then-amount-ge-TOO_LARGE-clause-cause g c =
    let none : find (is_among (map g.T.Shaped.shape c.args.held.now)) (map g.T.Shaped.shape c.args.new.now) ≡ None = sym c.first_among.ensures ∙ ap (option_map shape_view) c.in_default.is in
    large_tells _ _ c.total_of-amount.result none (few_shapes g.T.Shaped.shape c.args.held.now c.args.new.now c.if-count-ge-TOO_MANY.false)
    (total_is g.T.Shaped.shape c.args.held.now c.args.new.now c.in_ok-shapes.shapes.items c.deref.result.now c.total_of-amount.result c.requires.order none c.deref.ensures.value c.in_ok-shapes.ensures.shapes c.total_of-amount.ensures)
    c.if-amount-ge-TOO_LARGE.true

pub returns-clause-none : goal.returns-clause-none
returns-clause-none g c =
    let none : find (is_among (map g.T.Shaped.shape c.args.held.now)) (map g.T.Shaped.shape c.args.new.now) ≡ None = sym c.first_among.ensures ∙ ap (option_map shape_view) c.in_default.is in
    none_tells _ _ c.total_of-amount.result none (few_shapes g.T.Shaped.shape c.args.held.now c.args.new.now c.if-count-ge-TOO_MANY.false)
    (total_is g.T.Shaped.shape c.args.held.now c.args.new.now c.in_ok-shapes.shapes.items c.deref.result.now c.total_of-amount.result c.requires.order none c.deref.ensures.value c.in_ok-shapes.ensures.shapes c.total_of-amount.ensures)
    c.if-amount-ge-TOO_LARGE.false
