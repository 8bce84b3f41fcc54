use Rattle.std.proofs.Common.{ap, ◌∙◌, length}
use Rattle.cranelift_object.specs.Part.{PartData}
use Rattle.part_gen.proofs.Numbers.{call_count, calls_pushed, part_is, target_is}
use Rattle.part_gen.proofs.part.gen_part.Goals as goal

pub returns-clause-stated : goal.returns-clause-stated
returns-clause-stated c =
    part_is c.args.seed c.args.n _ _ _ _ _ c.set_commands.ensures c.in_ok-part.ensures c.in_ok-names.ensures (target_is _ _ c.new-isa.ensures c.target_triple.ensures)
    (calls_pushed c.args.seed c.args.n _ _ _ c.in_ok-commands.ensures.items c.in_ok-push_declarations.ensures c.in_ok-push_definitions.ensures)

pub returns-clause-count : goal.returns-clause-count
returns-clause-count c = ap (λ (part : PartData). length part.calls) (returns-clause-stated c) ∙ call_count c.args.seed c.args.n
