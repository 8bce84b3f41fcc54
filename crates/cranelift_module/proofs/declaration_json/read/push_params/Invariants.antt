use Rattle.std.proofs.Common.{◌≡◌, ◌++◌, take}
use Rattle.cranelift_module.proofs.declaration_json.read.push_params.Given as goal

-- those so far stand behind what was there
abbrev pub invariant-loop-param : goal.invariant-loop-param
invariant-loop-param l = l.signature ≡ record l.fn.signature { params = l.fn.signature.params ++ take l.param-index l.params }
