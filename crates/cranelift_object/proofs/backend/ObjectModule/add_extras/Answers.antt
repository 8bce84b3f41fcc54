use Rattle.std.proofs.Common.{length, take, ap, arith}
use Rattle.cranelift_object.proofs.TargetLaws.{extras_had}
use Rattle.cranelift_object.proofs.AddingLaws.{added_all, keeps_identifiers, function_at}
use Rattle.cranelift_object.proofs.backend.ObjectModule.add_extras.Goals as goal

pub add_extra-requires-clause-identifiers : goal.add_extra-requires-clause-identifiers
add_extra-requires-clause-identifiers c =
    keeps_identifiers c.args.self.now.settings c.args.self.now.state c.args.object.now c.loop-extra.object (take c.loop-extra.extra-index c.args.extras.now) c.requires.identifiers c.loop-extra.invariant

pub add_extra-requires-clause-function : goal.add_extra-requires-clause-function
add_extra-requires-clause-function c =
    let had = extras_had c.args.self.now.settings c.args.self.now.state c.args.extras.now c.requires.extras c.requires.targets in
    function_at c.args.self.now.settings c.args.self.now.state c.args.extras.now c.as_slice-extra-items.result.now c.loop-extra.extra-index c.extra-item.result had c.as_slice-extra-items.ensures c.loop-extra-test.true c.extra-item.is

pub returns : goal.returns
returns c =
    added_all c.args.self.now.settings c.args.self.now.state c.args.object.now c.loop-extra.object c.args.extras.now c.loop-extra.extra-index c.requires.defined c.requires.extras
    (omega (arith, c.loop-extra-test.false, ap length c.as_slice-extra-items.ensures)) c.loop-extra.invariant
