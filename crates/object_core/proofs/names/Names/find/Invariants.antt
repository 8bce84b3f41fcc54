use Rattle.object_core.proofs.Texts.{IsLeft, through}
use Rattle.object_core.proofs.names.Names.find.Given as goal

abbrev pub invariant-loop-place : goal.invariant-loop-place
invariant-loop-place l = IsLeft l.text l.self.texts l.place

abbrev pub decreases-loop-place : goal.decreases-loop-place
decreases-loop-place l = through l.place
