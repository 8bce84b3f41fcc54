-- The streams of CLR metadata, by ECMA-335, partition II, "Stream header".
use Rattle.std.specs.Prelude.{◌≡◌, ℕ, zero, suc, ◌-◌, ◌==◌, nat_le, List, [], ◌∷◌, length, Option, Some, None, Result, Ok, Err, MatchOption, codes, bytes_eq, if◌then◌else◌}
use Rattle.pe_clr.specs.declared.clr.storage.StorageStream.{StorageStream}
use Rattle.pe_core.specs.declared.pe_error.Case.TheVariants.{StreamBeforeMetadata}
use Rattle.pe_core.specs.declared.pe_error.Error.{Error}
use Rattle.pe_core.specs.Steps.{◌>>=◌, demand, bytes_or_short}
use Rattle.pe_clr.specs.Storage.{StreamData, stream_view, storage_stream_at, stream_end}

-- an answer with its stream's name as bytes
abbrev pub stream_answer : Result StorageStream Error → Result StreamData Error
stream_answer (Ok s) = Ok (stream_view s)
stream_answer (Err e) = Err e

-- the answer at place p, and where it is a stream, the n rows behind it
abbrev pub with_rows : Result StreamData Error → (StreamData → List (Result StreamData Error)) → List (Result StreamData Error)
with_rows (Ok s) rows = Ok s ∷ rows s
with_rows (Err e) rows = Err e ∷ []

-- n rows one behind the other from place p on, up to and with the first refusal
unfoldable pub streams_from : List ℕ → ℕ → ℕ → List (Result StreamData Error)
streams_from b p zero = []
streams_from b p (suc n) = with_rows (storage_stream_at b p) (λ s. streams_from b (stream_end p s.name) n)

-- how many rows can come: as many as are counted, and none where there are no bytes
abbrev pub rows_counted : List ℕ → ℕ → ℕ
rows_counted b n = if length b == 0 then 0 else n

-- the rows that are counted
abbrev pub streams_counted : List ℕ → ℕ → List (Result StreamData Error)
streams_counted b n = streams_from b 0 (rows_counted b n)

-- what a contract sees of an iterator over streams: the stored number, the answers that are left, and how many they are at most
pub record StreamsLeft : Type 0 where
  pub count : ℕ
  pub left : ℕ
  pub answers : List (Result StreamData Error)

-- how many rows are left behind an answer: one less, and none behind a refusal
abbrev pub left_behind : Option (Result StorageStream Error) → ℕ → ℕ
left_behind None n = n
left_behind (Some (Ok s)) n = n - 1
left_behind (Some (Err e)) n = 0

-- the next answer comes off the front
pub record GivesNext (old : StreamsLeft) (given : Option (Result StorageStream Error)) (new : StreamsLeft) : Type 0 where
  pub next : MatchOption given ((old.answers ≡ []) × (new.answers ≡ [])) (λ answer. old.answers ≡ stream_answer answer ∷ new.answers)
  pub count : new.count ≡ old.count
  pub left : new.left ≡ left_behind given old.left

-- the first stream of this name; a refusal before it is the answer
unfoldable pub first_named : List ℕ → List (Result StreamData Error) → Result (Option StreamData) Error
first_named name [] = Ok None
first_named name (Err e ∷ rest) = Err e
first_named name (Ok s ∷ rest) = if bytes_eq s.name name then Ok (Some s) else first_named name rest

-- the bytes of a stream, whose offset counts `skipped` bytes before these
unfoldable pub stream_bytes : List ℕ → ℕ → StreamData → Result (List ℕ) Error
stream_bytes b skipped s = do
  _ ← demand (nat_le skipped s.offset) StreamBeforeMetadata
  bytes_or_short b (s.offset - skipped) s.size

-- the bytes of the stream that was found, if one was
abbrev pub found_bytes : List ℕ → ℕ → Option StreamData → Result (Option (List ℕ)) Error
found_bytes b skipped None = Ok None
found_bytes b skipped (Some s) = do
  bytes ← stream_bytes b skipped s
  Ok (Some bytes)

-- the bytes of the first stream named #GUID: "#GUID heap"
unfoldable pub mvid_among : List ℕ → ℕ → List (Result StreamData Error) → Result (Option (List ℕ)) Error
mvid_among b skipped answers = do
  found ← first_named (codes "#GUID") answers
  found_bytes b skipped found
