use Rattle.std.proofs.Common.{take}
use Rattle.cranelift_module.specs.Declarations.{IsSound}
use Rattle.cranelift_module.proofs.declaration_json.names.names_of.Given as goal

-- the names so far are found, beside those of the functions
abbrev pub invariant-loop-i : goal.invariant-loop-i
invariant-loop-i l = IsSound l.names l.functions (take l.i l.objects)
