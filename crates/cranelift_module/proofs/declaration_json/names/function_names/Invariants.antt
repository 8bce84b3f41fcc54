use Rattle.std.proofs.Common.{[], take}
use Rattle.cranelift_module.specs.Declarations.{IsSound}
use Rattle.cranelift_module.proofs.declaration_json.names.function_names.Given as goal

-- the names so far are found
abbrev pub invariant-loop-i : goal.invariant-loop-i
invariant-loop-i l = IsSound l.names (take l.i l.functions) []
