-- What a sink took.
use Rattle.std.specs.Prelude.{◌≡◌, ℕ, ◌+◌, ◌-◌, ◌<◌, List, ◌++◌, Option, Some}
use Rattle.std.specs.List.{All}
use Rattle.byte_core.specs.Number.{bytes_at}
use Rattle.byte_core.specs.Outside.{Appends, AppendsFront}
use Rattle.byte_core.specs.Streams.{SinkData}
use Rattle.fat_macho.specs.declared.error.Error.{Error}
use Rattle.fat_macho.specs.declared.error.Error.TheVariants.{Io}
use Rattle.fat_macho.specs.declared.error.IoCause.TheVariants.{Source, Sink}

-- a sink took these bytes
pub record Puts (old new : SinkData) (bytes : List ℕ) : Type 0 where
  pub put : Appends old.written new.written bytes
  pub are_bytes : All (λ x. x < 256) bytes

-- a sink took these bytes, where they are known
pub record PutsKnown (bytes : Option (List ℕ)) (old new : SinkData) : Type 0 where
  pub known : (b : List ℕ) → bytes ≡ Some b → Puts old new b

-- or a front of them
pub record FrontKnown (bytes : Option (List ℕ)) (old new : SinkData) : Type 0 where
  pub known : (b : List ℕ) → bytes ≡ Some b → AppendsFront old.written new.written b

-- a sink took a front of these bytes, and this rest is left
pub record Part (old new : SinkData) (bytes rest : List ℕ) : Type 0 where
  pub front : List ℕ
  pub puts : Puts old new front
  pub whole : front ++ rest ≡ bytes

-- a sink took the bytes of a range of a source but for those behind the first done, where they are known
pub record Copies (bytes : Option (List ℕ)) (old new : SinkData) (offset size done : ℕ) : Type 0 where
  pub known : (b : List ℕ) → bytes ≡ Some b → Part old new (bytes_at b offset size) (bytes_at b (offset + done) (size - done))

-- a call fails by a read or by a write, each with its cause
abbrev pub FailsBy : Type 0 → Type 0 → Error → Type 0
FailsBy reading writing (Io Source) = reading
FailsBy reading writing (Io Sink) = writing
FailsBy reading writing e = ⊥
