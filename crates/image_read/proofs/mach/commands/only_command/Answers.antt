use Rattle.std.proofs.Common.{arith, sym, ◌∙◌}
use Rattle.image_read.specs.MachRows.{IsOnly}
use Rattle.image_read.proofs.MachCommands.{walk_start, walk_first, walk_other, walk_twice, walk_end, when_none}
use Rattle.image_read.proofs.MachInside.{command_inside}
use Rattle.image_read.proofs.mach.commands.only_command.Goals.{then-command-cmd+in_ok-first_place, else-command-cmd}
use Rattle.image_read.proofs.mach.commands.only_command.Goals as goal

pub commands-init : goal.commands-init
commands-init c = walk_start _ _

pub command-requires : goal.command-requires
command-requires c = command_inside _ _ c.commands.counter _ c.requires.commands (omega arith) c.commands.invariant.at c.requires.header.area

pub returns-in_err-first_place-clause-none : goal.returns-in_err-first_place-clause-none
returns-in_err-first_place-clause-none c =
    let never : IsOnly c.args.file.now c.args.cmd → ⊥ =
    walk_twice _ _ c.commands.counter _ _ c.commands.invariant c.in_err-first_place.ensures.second (sym c.command.ensures.cmd ∙ c.if-command-cmd.true) (omega arith) in
    when_none _ _ never

pub commands-preserved : goal.commands-preserved
commands-preserved c =
    rw c.next_command-at.ensures (elim c.if-command-cmd.branch [
      | then-command-cmd+in_ok-first_place w ↦
          rw (w.found-is, w.in_ok-first_place.ensures.first) (walk_first _ _ c.commands.counter _ _ c.commands.invariant w.in_ok-first_place.ensures.alone (c.requires.commands.at c.commands.counter (omega arith) (omega arith)) c.requires.header.area (sym c.command.ensures.cmd ∙ w.if-command-cmd.true))
      | else-command-cmd w ↦
          rw w.found-is (walk_other _ _ c.commands.counter _ _ c.commands.invariant (λ e. w.if-command-cmd.false (c.command.ensures.cmd ∙ e)))
    ])

pub returns-clause-found : goal.returns-clause-found
returns-clause-found c = walk_end _ _ c.commands.counter _ _ c.commands.invariant (omega arith)
