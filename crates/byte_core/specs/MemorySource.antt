-- What a contract sees of a source in memory.
use Rattle.std.specs.Prelude.{ℕ, nat_lt, List, length, Some}
use Rattle.byte_core.specs.MemoryHost.{next_call}
use Rattle.byte_core.specs.Streams.{SourceData}
use Rattle.byte_core.specs.declared.memory_source.MemSource.TheInside.{Inside}

-- the source that it stands for, the numbers of the reads that fail, and the number of the next read
pub record MemSourceData : Type 0 where
  pub source : SourceData
  pub failing : List ℕ
  pub reads : ℕ

abbrev pub source_view : Inside → MemSourceData
source_view s =
    record {
      source = record { length = length s.bytes.now; bytes = Some s.bytes.now; can_fail = nat_lt 0 (length s.fails.now); faults = s.faults };
      failing = s.fails.now;
      reads = s.reads;
    }

-- the source after a read that gave bytes
abbrev pub after_read : MemSourceData → MemSourceData
after_read s = record s { reads = next_call s.reads }

-- the source after a read that failed
abbrev pub after_failed_read : MemSourceData → MemSourceData
after_failed_read s = record s { source = record s.source { faults = next_call s.source.faults }; reads = next_call s.reads }
