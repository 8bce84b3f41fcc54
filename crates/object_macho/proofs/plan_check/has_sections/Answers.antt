use Rattle.std.proofs.Common.{[], false}
use Rattle.std.proofs.lemmas.Bool.{eqb-true, eq-eqb}
use Rattle.object_macho.specs.Orders.{is_section_in}
use Rattle.object_macho.specs.Plan.{numbers_of, section_order}
use Rattle.object_macho.proofs.Comparing.{stand_whole, stand_second, stand_end}
use Rattle.object_macho.proofs.plan_check.has_sections.Goals as goal

pub returns-in-Some-behind_sections-clause-yes : goal.returns-in-Some-behind_sections-clause-yes
unfolding section_order
returns-in-Some-behind_sections-clause-yes c = λ h. stand_whole c.args.order.now _ _ _ _ c.in-Some.ensures c.in-Some-behind_sections.ensures (eqb-true _ _ h)

pub returns-in-Some-behind_sections-clause-all : goal.returns-in-Some-behind_sections-clause-all
unfolding section_order
returns-in-Some-behind_sections-clause-all c = λ e. eq-eqb _ _ (stand_end c.args.order.now _ _ _ _ c.in-Some.ensures c.in-Some-behind_sections.ensures e)

pub returns-in-None-behind_sections-clause-all : goal.returns-in-None-behind_sections-clause-all
unfolding section_order
returns-in-None-behind_sections-clause-all c = λ e. absurd (c.in-None-behind_sections.ensures [] (stand_second c.args.order.now _ _ _ c.in-Some.ensures e))

pub returns-in-None-clause-all : goal.returns-in-None-clause-all
unfolding section_order
returns-in-None-clause-all c = λ e. absurd (c.in-None.ensures (numbers_of (is_section_in false) c.args.object.now.sections) e)
