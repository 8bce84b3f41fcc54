use Rattle.cranelift_object.proofs.ExtraLaws.{none_noted}
use Rattle.cranelift_object.proofs.backend.ObjectModule.extras.Goals as goal

pub loop-number-init : goal.loop-number-init
loop-number-init c = rw c.new-extras.ensures (none_noted c.args.self.now.settings)
