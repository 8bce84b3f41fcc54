-- What a contract sees of a sink in memory.
use Rattle.std.specs.Prelude.{ℕ, ◌-◌, List, ◌++◌, take, Some, option_map}
use Rattle.std.specs.Vec.{vec_len}
use Rattle.byte_core.specs.MemoryHost.{next_call}
use Rattle.byte_core.specs.Streams.{SinkData}
use Rattle.byte_core.specs.declared.memory_sink.MemSink.TheInside.{Inside}

-- the sink that it stands for, the numbers of the writes that fail, the number of the next write, and how many bytes it
-- still has room for
pub record MemSinkData : Type 0 where
  pub sink : SinkData
  pub failing : List ℕ
  pub writes : ℕ
  pub room : ℕ

abbrev pub sink_view : Inside → MemSinkData
sink_view s =
    record {
      sink = record { written = Some s.taken.items; faults = s.faults };
      failing = s.fails.now;
      writes = s.writes;
      room = s.room - vec_len s.taken;
    }

-- the sink after a write that took n bytes of these: they are behind what it took, and the room is less
abbrev pub after_write : MemSinkData → List ℕ → ℕ → MemSinkData
after_write s bytes n =
    record s {
      sink = record s.sink { written = option_map (λ before. before ++ take n bytes) s.sink.written };
      writes = next_call s.writes;
      room = s.room - n;
    }

-- the sink after a write that failed
abbrev pub after_failed_write : MemSinkData → MemSinkData
after_failed_write s = record s { sink = record s.sink { faults = next_call s.sink.faults }; writes = next_call s.writes }
