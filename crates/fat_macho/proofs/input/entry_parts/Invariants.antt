use Rattle.byte_core.specs.Streams.{ChangesFaults}
use Rattle.fat_macho.specs.Parts.{AreEntryParts}
use Rattle.fat_macho.proofs.input.entry_parts.Given as goal

-- these are the images of the first k entries
abbrev pub invariant-loop-k : goal.invariant-loop-k
invariant-loop-k g l =
    let source = g.S.Source.source in
    record {
      parts : AreEntryParts (source l.fn.source) l.wide l.k l.parts.items;
      others : ChangesFaults (source l.fn.source) (source l.source);
    }
