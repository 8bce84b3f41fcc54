-- the streams gone over are values, before those that are left
use Rattle.std.proofs.Common.{◌≡◌, map}
use Rattle.serde_json.specs.View.{view}
use Rattle.pe_json.specs.Clr.{stream_values}
use Rattle.pe_json.proofs.Streams.{values_behind}
use Rattle.pe_json.proofs.clr.stream_values.Given as goal

abbrev pub invariant-loop-answer : goal.invariant-loop-answer
invariant-loop-answer l = stream_values l.initial.streams.answers ≡ values_behind (map view l.values.items) (stream_values l.streams.answers)

abbrev pub decreases-loop-answer : goal.decreases-loop-answer
decreases-loop-answer l = l.streams.left
