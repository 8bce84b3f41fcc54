use Rattle.std.proofs.Common.{◌∙◌, ◌≡◌, rules}
use Rattle.ir_core.specs.declared.signature.AbiParam.{AbiParam}
use Rattle.ir_core.specs.Signature.{is_same_param}
use Rattle.ir_core.specs.contracts.signature.AbiParamPartialEq.TheImpl.{ghosts}
use Rattle.ir_core.proofs.Same.{pointwise-alike}
use Rattle.ir_core.proofs.signature.are_same_params.Goals as goal

alike : (p q : AbiParam) → ghosts.eq p q ≡ is_same_param p q
alike p q = search rules

pub returns : goal.returns
returns c = c.eq.ensures ∙ pointwise-alike ghosts.eq is_same_param alike c.args.params.now c.args.others.now
