use Rattle.std.proofs.Common.{◌≡◌, ◌++◌, take}
use Rattle.cranelift_module.proofs.declaration_json.read.push_returns.Given as goal

-- those so far stand behind what was there
abbrev pub invariant-loop-param : goal.invariant-loop-param
invariant-loop-param l = l.signature ≡ record l.fn.signature { returns = l.fn.signature.returns ++ take l.param-index l.params }
