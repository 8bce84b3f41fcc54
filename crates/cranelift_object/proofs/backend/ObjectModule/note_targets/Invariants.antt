use Rattle.std.proofs.Common.{◌++◌, List, take}
use Rattle.cranelift_object.specs.Targets.{RelocationTarget}
use Rattle.cranelift_object.specs.Extras.{AreAdded, targets_in}
use Rattle.cranelift_object.proofs.backend.ObjectModule.note_targets.Given as goal

-- what the relocations so far add is noted
abbrev pub invariant-loop-reloc : goal.invariant-loop-reloc
invariant-loop-reloc l = (ts : List RelocationTarget) → AreAdded l.self.settings ts l.initial.extras → AreAdded l.self.settings (ts ++ targets_in l.self.settings l.self.state (take l.reloc-index l.relocs)) l.extras
