-- Texts by their places.
use Rattle.std.proofs.Common.{◌≡◌, ℕ, ◌-◌, ◌==◌, Bool, true, false, List, length, take, drop, refl, Option, Ok, Err, cond}
use Rattle.std.specs.List.{position_from}
use Rattle.std.specs.Option.{option_map}
use Rattle.std.specs.Str.{IsUtf8, is_utf8}
use Rattle.std.proofs.lemmas.Str.{is_utf8-from_IsUtf8, IsUtf8-from_is_utf8}
use Rattle.std.proofs.lemmas.List.{take_rest}
use Rattle.byte_core.specs.Number.{bytes_at, text_at}
use Rattle.pe_core.specs.declared.pe_error.Case.TheVariants.{BadText}
use Rattle.pe_core.specs.declared.pe_error.Error.TheVariants.{Malformed}
use Rattle.pe_clr.specs.Storage.{text_or_bad}

pub good_text : (b text : List ℕ) → text ≡ b → IsUtf8 b → text_or_bad b ≡ Ok text
good_text b text same h = rw (is_utf8-from_IsUtf8 b h, same) refl

pub bad_text : (b : List ℕ) → ¬ IsUtf8 b → text_or_bad b ≡ Err (Malformed BadText)
bad_text b h = bad_step (is_utf8 b) refl
  where
    bad_step : (t : Bool) → is_utf8 b ≡ t → (cond t (Ok b) (Err (Malformed BadText))) ≡ Err (Malformed BadText)
    bad_step true e = absurd (h (IsUtf8-from_is_utf8 b e))
    bad_step false e = refl

-- the text from a place on goes up to the first zero behind it
pub text_behind : (b : List ℕ) (p : ℕ) (o : Option ℕ) → o ≡ position_from (λ x. x == 0) 0 (take (length b - p) (drop p b))
    → text_at b p (length b) ≡ option_map (λ n. take n (take (length b - p) (drop p b))) o
unfolding text_at bytes_at
text_behind b p o h = let first = rw (take_rest b p) at h in rw (take_rest b p, ← first) refl
