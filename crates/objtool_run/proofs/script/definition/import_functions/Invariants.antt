use Rattle.std.proofs.Common.{◌≡◌, ◌++◌, take}
use Rattle.objtool_run.proofs.script.definition.import_functions.Given as goal

-- those so far stand behind what was there
abbrev pub invariant-loop-target : goal.invariant-loop-target
invariant-loop-target l = l.desc ≡ record l.fn.desc { function_decls = l.fn.desc.function_decls ++ take l.target-index l.targets }
