use Rattle.std.proofs.Common.{◌≡◌, drop, map}
use Rattle.serde_json.specs.View.{items_view}
use Rattle.cranelift_object.specs.Command.{command_view}
use Rattle.json_form.specs.Form.{each_of}
use Rattle.objtool_run.specs.Script.{command_of}
use Rattle.json_form.proofs.EachOf.{with_front}
use Rattle.objtool_run.proofs.script.command.commands_of.Given as goal

-- the commands so far, and those of the rest, are all commands
abbrev pub invariant-loop-value : goal.invariant-loop-value
invariant-loop-value l = each_of (command_of l.convention) (items_view l.values) ≡ with_front (map command_view l.commands.items) (each_of (command_of l.convention) (items_view (drop l.value-index l.values)))
