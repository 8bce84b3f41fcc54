-- the streams gone over have other names
use Rattle.std.proofs.Common.{◌≡◌}
use Rattle.pe_clr.specs.Streams.{first_named}
use Rattle.pe_clr.proofs.clr.streams.first_named.Given as goal

abbrev pub invariant-loop-answer : goal.invariant-loop-answer
invariant-loop-answer l = first_named l.name l.streams.answers ≡ first_named l.name l.initial.streams.answers

abbrev pub decreases-loop-answer : goal.decreases-loop-answer
decreases-loop-answer l = l.streams.left
