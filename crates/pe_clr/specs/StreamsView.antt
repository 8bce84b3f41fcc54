-- An iterator over streams as its stored number and the answers that are left.
use Rattle.pe_clr.specs.declared.clr.streams.ClrSectionIterator.TheInside.{Inside}
use Rattle.pe_clr.specs.Streams.{StreamsLeft, streams_from}

-- the rows that are left from the next one's place on
abbrev pub streams_view : Inside → StreamsLeft
streams_view it = record { count = it.count; left = it.left; answers = streams_from it.data.now it.offset it.left }
