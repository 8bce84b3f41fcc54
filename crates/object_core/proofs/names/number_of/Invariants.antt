use Rattle.std.proofs.Common.{◌≡◌, take}
use Rattle.std.specs.Prelude.{fold}
use Rattle.object_core.specs.Names.{hashed}
use Rattle.object_core.proofs.names.number_of.Given as goal

abbrev pub invariant-loop-byte : goal.invariant-loop-byte
invariant-loop-byte l = l.number ≡ fold hashed 0xcbf29ce484222325 (take l.byte-index l.text)
