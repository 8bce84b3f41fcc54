-- Readers as steps: the first step that fails gives the refusal.
use Rattle.std.specs.Prelude.{◌≡◌, ℕ, ◌+◌, ◌-◌, nat_le, Bool, true, false, List, length, Option, Some, None, Result, Ok, Err, if◌then◌else◌}
use Rattle.byte_core.specs.Number.{bytes_at, number_at, where_inside}
use Rattle.pe_core.specs.declared.pe_error.Case.{Case}
use Rattle.pe_core.specs.declared.pe_error.Error.{Error}
use Rattle.pe_core.specs.declared.pe_error.Error.TheVariants.{Malformed, BufferTooShort, OutOfMemory}

infixl 10 ◌>>=◌
-- what a step gives goes on to the steps behind it, and its refusal is the answer
abbrev pub ◌>>=◌ : {A B : Type 0} → Result A Error → (A → Result B Error) → Result B Error
(Ok x) >>= f = f x
(Err e) >>= f = Err e

-- an answer whose values are seen in this way is that of a definition
abbrev pub Gives : {X Y : Type 0} → (X → Y) → Result X Error → Result Y Error → Type 0
Gives view (Ok x) answer = answer ≡ Ok (view x)
Gives view (Err e) answer = answer ≡ Err e

-- the same, where want of memory may come at any time
abbrev pub GivesOrMemory : {X Y : Type 0} → (X → Y) → Result X Error → Result Y Error → Type 0
GivesOrMemory view (Ok x) answer = answer ≡ Ok (view x)
GivesOrMemory view (Err OutOfMemory) answer = Unit {0}
GivesOrMemory view (Err BufferTooShort) answer = answer ≡ Err BufferTooShort
GivesOrMemory view (Err (Malformed case)) answer = answer ≡ Err (Malformed case)

-- goes on where a test holds, and else is malformed in this way
abbrev pub demand : Bool → Case → Result (Unit {0}) Error
demand true case = Ok tt
demand false case = Err (Malformed case)

-- the value where there is one, and else malformed in this way
abbrev pub value_or : {A : Type 0} → Option A → Case → Result A Error
value_or (Some x) case = Ok x
value_or None case = Err (Malformed case)

-- what the n bytes at place p give, or too short where they leave the file
abbrev pub within_or_short : {A : Type 0} → List ℕ → ℕ → ℕ → A → Result A Error
within_or_short b p n value = if nat_le (p + n) (length b) then Ok value else Err BufferTooShort

-- the little-endian number of the w bytes at place p
abbrev pub number_or_short : List ℕ → ℕ → ℕ → Result ℕ Error
number_or_short b p w = within_or_short b p w (number_at b p w)

-- the n bytes at place p
abbrev pub bytes_or_short : List ℕ → ℕ → ℕ → Result (List ℕ) Error
bytes_or_short b p n = within_or_short b p n (bytes_at b p n)

-- how many bytes an address has: 8 in a file of 64 bits, else 4
abbrev pub address_width : Bool → ℕ
address_width is_64 = if is_64 then 8 else 4

-- the number of the n bytes at place p, none where they pass the end
abbrev pub field_at : List ℕ → ℕ → ℕ → Option ℕ
field_at b p n = where_inside b p n (number_at b p n)

-- the bytes from place p up to place q
abbrev pub bytes_between : List ℕ → ℕ → ℕ → List ℕ
bytes_between b p q = bytes_at b p (q - p)
