use Rattle.std.proofs.Common.{ap}
use Rattle.fat_macho.specs.ClassView.{class_view}
use Rattle.fat_macho.proofs.Results.{ok_as, err_as}
use Rattle.fat_macho.proofs.InputLaws.{fat_input_parts, fat_input_fails, one_input_part}
use Rattle.fat_macho.proofs.input.input_parts.Goals as goal

pub returns-in-Fat-clause-parts : goal.returns-in-Fat-clause-parts
returns-in-Fat-clause-parts g c =
    ok_as c.fat_parts.result _ _
    (λ parts are. fat_input_parts _ _ c.in-Fat.wide c.in_ok-class.class parts.items c.len-len.ensures.known (rw c.len-len.ensures.length at c.in_ok-class.ensures.class) (ap class_view c.in-Fat.is) c.class_at.ensures.others are)
    c.fat_parts.ensures.parts

pub returns-in-Fat-clause-cause : goal.returns-in-Fat-clause-cause
returns-in-Fat-clause-cause g c =
    err_as c.fat_parts.result _ _
    (λ e fails. fat_input_fails _ _ _ c.in-Fat.wide c.in_ok-class.class e c.len-len.ensures.known (rw c.len-len.ensures.length at c.in_ok-class.ensures.class) (ap class_view c.in-Fat.is) c.class_at.ensures.others fails)
    c.fat_parts.ensures.cause

pub returns-in_ok-one_part-in_default : goal.returns-in_ok-one_part-in_default
returns-in_ok-one_part-in_default g c =
    record {
      parts = one_input_part _ c.in_default.class c.in_ok-part-in_default.part c.in_ok-one_part-in_default.field-0.items c.len-len.ensures.known (rw (← c.in_default.class-is) (rw c.len-len.ensures.length at c.in_ok-class.ensures.class)) (rw (← c.in_default.class-is) (rw c.len-len.ensures.length at c.in_ok-part-in_default.ensures.part)) c.in_ok-one_part-in_default.ensures;
      cause = tt;
      others = c.class_at.ensures.others;
      known = c.len-len.ensures.known;
    }
