use Rattle.std.proofs.Common.{◌≤◌, length, ap, arith}
use Rattle.cranelift_object.specs.Opened.{OpenModule}
use Rattle.cranelift_object.proofs.DefineLaws.{all_added}
use Rattle.cranelift_object.proofs.backend.ObjectModule.add_definitions.Goals as goal

pub returns : goal.returns
returns c =
    let past : length c.args.self.now.state.definitions ≤ c.loop-number.number = omega (arith, c.loop-number-test.false, c.len-number-end.ensures, c.self.inside.definitions.ok.0, ap (λ (o : OpenModule). length o.state.definitions) c.self.view_is) in
    all_added c.args.self.now c.loop-number.number _ past c.loop-number.invariant
