-- What a contract sees of a source and of a sink that never fail.
use Rattle.std.specs.Prelude.{List, ℕ, length, false, Some, None}
use Rattle.byte_core.specs.Streams.{SourceData, SinkData}

-- a source of these bytes
abbrev pub plain_source : List ℕ → SourceData
plain_source bytes = record { length = length bytes; bytes = Some bytes; can_fail = false; faults = 0 }

-- what a sink took isn't known
abbrev pub plain_sink : SinkData
plain_sink = record { written = None; faults = 0 }
