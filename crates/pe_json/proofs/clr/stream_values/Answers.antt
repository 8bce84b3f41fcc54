use Rattle.std.proofs.Common.{◌≡◌, ◌∷◌, map, Vec, Global}
use Rattle.serde_json.specs.View.{view}
use Rattle.serde_json.specs.declared.value.Value.{Value}
use Rattle.pe_clr.specs.Storage.{stream_view}
use Rattle.pe_clr.specs.Streams.{stream_answer}
use Rattle.pe_json.specs.Clr.{stream_values}
use Rattle.pe_json.proofs.Streams.{streams_step, streams_stop, streams_end, refused}
use Rattle.pe_json.proofs.clr.stream_values.Goals as goal

pub loop-answer-preserved : goal.loop-answer-preserved
loop-answer-preserved c =
    let next : c.loop-answer.streams.answers ≡ stream_answer c.in-Some.answer ∷ c.next.new.self.answers = c.in-Some.ensures.steps.next in
    streams_step (stream_values c.args.streams.answers) c.loop-answer.values.items c.push.new.self.items c.in_ok-stream_value-in-Ok.field-0 (stream_view c.in-Ok.stream) c.loop-answer.streams.answers c.next.new.self.answers
    (rw c.in-Ok.is at next) c.in_ok-push-in-Ok.ensures.items c.in_ok-stream_value-in-Ok.ensures c.loop-answer.invariant

pub returns-in-Err : goal.returns-in-Err
returns-in-Err c =
    let next : c.loop-answer.streams.answers ≡ stream_answer c.in-Some.answer ∷ c.next.new.self.answers = c.in-Some.ensures.steps.next in
    refused (λ (v : Vec Value Global). map view v.items) c.in-Err.error (stream_values c.args.streams.answers)
    (streams_stop (stream_values c.args.streams.answers) (map view c.loop-answer.values.items) c.in-Err.error c.loop-answer.streams.answers c.next.new.self.answers (rw c.in-Err.is at next) c.loop-answer.invariant)

pub returns : goal.returns
returns c = streams_end (stream_values c.args.streams.answers) (map view c.loop-answer.values.items) c.loop-answer.streams.answers c.in_default.ensures.steps.next.0 c.loop-answer.invariant
