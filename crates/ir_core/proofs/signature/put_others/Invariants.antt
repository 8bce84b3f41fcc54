use Rattle.std.proofs.Common.{take, flat_map, ◌++◌, codes}
use Rattle.std.specs.Fmt.{HasWritten, IsPlainFormatter}
use Rattle.ir_core.specs.Signature.{param_text}
use Rattle.ir_core.proofs.signature.put_others.Given as goal

abbrev pub invariant-loop-param : goal.invariant-loop-param
invariant-loop-param g l =
    IsPlainFormatter l.initial.f → HasWritten g.W.Write.write_str_gives l.initial.f (flat_map (λ q. codes ", " ++ param_text q) (take l.param-index l.others)) l.f
