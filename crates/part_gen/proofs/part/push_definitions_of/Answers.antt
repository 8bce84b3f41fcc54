use Rattle.std.proofs.Common.{◌*◌, ◌++◌, ap, ◌∙◌, map}
use Rattle.cranelift_object.specs.Command.{command_view}
use Rattle.part_gen.proofs.Numbers.{four_drawn, definitions_drawn, two_pushed}
use Rattle.part_gen.proofs.part.push_definitions_of.Goals as goal

pub returns-clause-pushed : goal.returns-clause-pushed
returns-clause-pushed c seed here =
    two_pushed _ _ _ _ _ _ _ c.in_ok-push.ensures.items c.in_ok-push-2.ensures.items c.in_ok-function_definition.ensures c.in_ok-data_definition.ensures
    ∙ ap (λ calls. map command_view c.args.commands.now.items ++ calls)
    (definitions_drawn seed c.args.n c.args.k c.args.draws.now c.draw.new.self c.draw-2.new.self c.draw-byte.new.self c.draw-3.new.self c.draw.result c.draw-2.result c.draw-byte.result c.draw-3.result
    (record { second = c.draw.ensures.left; third = c.draw-2.ensures.left; fourth = c.draw-byte.ensures.left; fifth = c.draw-3.ensures.left; draw0 = c.draw.ensures.drawn; draw1 = c.draw-2.ensures.drawn; draw2 = c.draw-byte.ensures.drawn; draw3 = c.draw-3.ensures.drawn }) here)

pub returns-clause-drawn : goal.returns-clause-drawn
returns-clause-drawn c seed here =
    four_drawn seed (4 * c.args.k) c.args.draws.now c.draw.new.self c.draw-2.new.self c.draw-byte.new.self c.draw-3.new.self c.draw.result c.draw-2.result c.draw-byte.result c.draw-3.result
    (record { second = c.draw.ensures.left; third = c.draw-2.ensures.left; fourth = c.draw-byte.ensures.left; fifth = c.draw-3.ensures.left; draw0 = c.draw.ensures.drawn; draw1 = c.draw-2.ensures.drawn; draw2 = c.draw-byte.ensures.drawn; draw3 = c.draw-3.ensures.drawn }) here
