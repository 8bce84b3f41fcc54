use Rattle.image_read.specs.MachRows.{IsWalked}
use Rattle.image_read.proofs.mach.commands.only_command.Given as goal

abbrev pub invariant-commands : goal.invariant-commands
invariant-commands l = IsWalked l.file l.cmd l.counter l.at l.found
