-- The streams that a loop has gone over, before those that are left.
use Rattle.std.proofs.Common.{◌≡◌, ℕ, List, [], ◌∷◌, ◌++◌, map, Result, Ok, Err, refl, ap, sym, append_assoc, append-nil}
use Rattle.std.proofs.lemmas.List.{map-append}
use Rattle.serde_json.specs.Data.{Data}
use Rattle.serde_json.specs.View.{view}
use Rattle.serde_json.specs.declared.value.Value.{Value}
use Rattle.pe_core.specs.declared.pe_error.Error.{Error}
use Rattle.pe_core.specs.declared.pe_error.Error.TheVariants.{Malformed, BufferTooShort, OutOfMemory}
use Rattle.pe_core.specs.Steps.{◌>>=◌, GivesOrMemory}
use Rattle.pe_clr.specs.Storage.{StreamData}
use Rattle.pe_json.specs.Clr.{stream_value, stream_values}

-- values, and behind them those of an answer
abbrev pub values_behind : List Data → Result (List Data) Error → Result (List Data) Error
values_behind front (Ok ds) = Ok (front ++ ds)
values_behind front (Err e) = Err e

behind_again : (front : List Data) (d : Data) (rest : Result (List Data) Error) → values_behind front (rest >>= λ ds. Ok (d ∷ ds)) ≡ values_behind (front ++ d ∷ []) rest
behind_again front d (Err e) = refl
behind_again front d (Ok ds) = ap Ok (sym (append_assoc front (d ∷ []) ds))

one_more : (front : List Data) (s : StreamData) (answers : List (Result StreamData Error)) → values_behind front (stream_values (Ok s ∷ answers)) ≡ values_behind (front ++ stream_value s ∷ []) (stream_values answers)
unfolding stream_values
one_more front s answers = behind_again front (stream_value s) (stream_values answers)

-- one more stream is a value
pub streams_step : (all : Result (List Data) Error) (old new : List Value) (v : Value) (s : StreamData) (left now : List (Result StreamData Error)) → left ≡ Ok s ∷ now → new ≡ old ++ v ∷ [] → view v ≡ stream_value s
    → all ≡ values_behind (map view old) (stream_values left) → all ≡ values_behind (map view new) (stream_values now)
streams_step all old new v s left now e n w h = rw (h, e, n, map-append, w) (one_more (map view old) s now)

-- a refusal ends them
pub streams_stop : (all : Result (List Data) Error) (front : List Data) (e : Error) (left now : List (Result StreamData Error)) → left ≡ Err e ∷ now
    → all ≡ values_behind front (stream_values left) → all ≡ Err e
unfolding stream_values
streams_stop all front e left now is h = rw (h, is) refl

-- all were gone over
pub streams_end : (all : Result (List Data) Error) (front : List Data) (left : List (Result StreamData Error)) → left ≡ []
    → all ≡ values_behind front (stream_values left) → all ≡ Ok front
unfolding stream_values
streams_end all front left is h = rw (h, is, append-nil) refl

-- a refusal is given
pub refused : {X Y : Type 0} (seen : X → Y) (e : Error) (answer : Result Y Error) → answer ≡ Err e → GivesOrMemory seen (Err e) answer
refused seen OutOfMemory answer h = tt
refused seen BufferTooShort answer h = h
refused seen (Malformed case) answer h = h
