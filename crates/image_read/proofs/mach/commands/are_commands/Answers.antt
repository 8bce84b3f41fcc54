use Rattle.std.proofs.Common.{arith, sym, refl, ◌∙◌}
use Rattle.image_read.proofs.Rows.{each_none, each_next}
use Rattle.image_read.proofs.MachCommands.{first_place, next_place, command_by_place}
use Rattle.image_read.proofs.mach.commands.are_commands.Goals as goal

pub commands-init : goal.commands-init
commands-init c = record { each = each_none _ 0 0 (omega arith); place = sym (first_place _); inside = omega arith }

pub commands-preserved : goal.commands-preserved
commands-preserved c =
    let met = c.if-not-is_command.ensures.0 refl in
    record {
      each = each_next _ 0 c.commands.counter c.commands.invariant.each (command_by_place _ _ _ c.commands.invariant.place met);
      place = c.next_command-at.ensures ∙ next_place _ _ _ c.commands.invariant.place;
      inside = omega (arith, met.inside, c.next_command-at.ensures);
    }
