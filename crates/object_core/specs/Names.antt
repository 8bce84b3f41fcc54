-- Texts that are stored once each, and where each is found.
use Rattle.std.specs.Prelude.{◌≡◌, ℕ, suc, ◌+◌, ◌*◌, ◌%◌, ◌^◌, ◌≤◌, ◌==◌, Bool, true, false, List, [], ◌∷◌, ◌++◌, map, length, fold, take, drop, slice_get, Option, Some, None, unwrap_or, bit_xor, bytes_eq, sum_by, if◌then◌else◌}
use Rattle.std.specs.List.{All, list_any}
use Rattle.object_core.specs.declared.names.Span.{Span}

-- -- texts

-- the text is one of these
abbrev pub is_among : List ℕ → List (List ℕ) → Bool
is_among text texts = list_any (bytes_eq text) texts

-- the texts, each once: of equal ones the last is kept
abbrev pub distinct : List (List ℕ) → List (List ℕ)
distinct [] = []
distinct (t ∷ ts) = if is_among t ts then distinct ts else t ∷ distinct ts

-- the texts and one more behind them, where it is not yet among them
abbrev pub with_text : List (List ℕ) → List ℕ → List (List ℕ)
with_text texts text = if is_among text texts then texts else texts ++ text ∷ []

-- the text at a place
abbrev pub text_at : List (List ℕ) → ℕ → List ℕ
text_at texts place = unwrap_or (slice_get texts place) []

-- -- their index

-- FNV-1a in 64 bits (Fowler, Noll, Vo)
abbrev pub hashed : ℕ → ℕ → ℕ
hashed number byte = bit_xor number byte * 0x100000001b3 % 2 ^ 64

unfoldable pub text_number : List ℕ → ℕ
text_number text = fold hashed 0xcbf29ce484222325 text

-- the last of a first place, where it is one, and of places behind it
abbrev pub later : Bool → Option ℕ → Option ℕ
later here (Some k) = Some (suc k)
later true None = Some 0
later false None = None

-- the place of the last text of this number
abbrev pub last_with : ℕ → List (List ℕ) → Option ℕ
last_with number [] = None
last_with number (t ∷ ts) = later (text_number t == number) (last_with number ts)

-- -- their bytes

-- the texts that lie at these places of the bytes
abbrev pub texts_in : List ℕ → List Span → List (List ℕ)
texts_in bytes spans = map (λ (s : Span). take s.len (drop s.start bytes)) spans

-- The bytes are those of the texts. The index has the last text of each number, and each text the one before it of its number.
pub record AreStored (bytes : List ℕ) (spans : List Span) (index : ℕ → Option ℕ) (older : List (Option ℕ)) : Type 0 where
  pub within : All (λ (s : Span). s.start + s.len ≤ length bytes) spans
  pub size : sum_by length (texts_in bytes spans) ≡ length bytes
  pub last : (number : ℕ) → index number ≡ last_with number (texts_in bytes spans)
  pub before : (k : ℕ) (text : List ℕ) → slice_get (texts_in bytes spans) k ≡ Some text → slice_get older k ≡ Some (last_with (text_number text) (take k (texts_in bytes spans)))
  pub count : length older ≡ length spans
