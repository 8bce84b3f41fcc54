use Rattle.std.proofs.Common.{ap, sym, ◌∙◌, ◌++◌, List, arith}
use Rattle.std.specs.Prelude.{filter}
use Rattle.image_place.specs.Placed.{At, symbols_at}
use Rattle.image_place.specs.DefinitionRows.{is_found}
use Rattle.image_place.proofs.DefinitionLaws.{found_next, found_all}
use Rattle.image_place.proofs.definitions.definitions_of.Goals as goal

pub loop-image-preserved : goal.loop-image-preserved
loop-image-preserved c =
    c.in_ok-append_definitions.ensures.ok ∙ ap (λ (xs : List At). xs ++ filter is_found (symbols_at (c.loop-image.image, c.index-views-image.result))) c.loop-image.invariant
    ∙ sym (found_next c.args.views.now c.loop-image.image c.index-views-image.result c.loop-image-test.true c.index-views-image.is)

pub returns-clause-ok : goal.returns-clause-ok
returns-clause-ok c = c.loop-image.invariant ∙ found_all c.args.views.now c.loop-image.image (omega arith)
