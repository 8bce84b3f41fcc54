use Rattle.std.proofs.Common.{◌≡◌, ◌≤◌}
use Rattle.image_read.specs.ElfRows.{EachRow}
use Rattle.image_read.specs.MachFile.{command_place, commands_end}
use Rattle.image_read.specs.MachImage.{IsCommand}
use Rattle.image_read.proofs.mach.commands.are_commands.Given as goal

abbrev pub invariant-commands : goal.invariant-commands
invariant-commands l = record {
  each : EachRow (IsCommand l.file) 0 l.counter;
  place : l.at ≡ command_place l.file l.counter;
  inside : l.at ≤ commands_end l.file;
}
