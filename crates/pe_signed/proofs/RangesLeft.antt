-- The sections of an accepted file end inside it.
use Rattle.std.proofs.Common.{◌≡◌, ℕ, ◌+◌, ◌≤◌, Bool, true, false, List, [], ◌∷◌, refl, arith, sym, ◌∙◌, nat_lt, nat_le, ◌&&◌, Option, Some, None, length, cond, if◌then◌else◌}
use Rattle.std.specs.Prelude.{filter}
use Rattle.std.specs.List.{position_from}
use Rattle.std.proofs.lemmas.Iterator.Adapters.{position_from-zero}
use Rattle.pe_core.specs.declared.section_table.SectionTable.{SectionTable}
use Rattle.pe_signed.specs.SignedRanges.{is_filled, is_outside, placed_among, by_pointer, AreInside}
use Rattle.pe_signed.specs.RangesLeft.{EndInside}

none_first : (b : Bool) (at : ℕ) (o : Option ℕ) → cond b (Some at) o ≡ None → (b ≡ false) × (o ≡ None)
none_first true at o h = absurd (cc)
none_first false at o h = (refl, h)

filled_inside : (f : Bool) (n end : ℕ) → f ≡ true → (f && nat_lt n end) ≡ false → end ≤ n
filled_inside f n end filled h = grind (arith, filled, h)

placed_step : (n : ℕ) (s t : SectionTable) (ts : List SectionTable) (b : Bool) → s.pointer_to_raw_data + s.size_of_raw_data ≤ n → EndInside n (t ∷ ts) → EndInside n (placed_among s ts)
    → EndInside n (if b then s ∷ t ∷ ts else t ∷ placed_among s ts)
placed_step n s t ts true h all rest = (h, all)
placed_step n s t ts false h all rest = (all.0, rest)

placed_inside : (n : ℕ) (s : SectionTable) (ts : List SectionTable) → s.pointer_to_raw_data + s.size_of_raw_data ≤ n → EndInside n ts → EndInside n (placed_among s ts)
unfolding placed_among
placed_inside n s [] h all = (h, tt)
placed_inside n s (t ∷ ts) h all = placed_step n s t ts (nat_le s.pointer_to_raw_data t.pointer_to_raw_data) h all (placed_inside n s ts h all.1)

inside_step : (n : ℕ) (s : SectionTable) (ss : List SectionTable) (b : Bool) → is_filled s ≡ b → is_outside n s ≡ false → EndInside n (by_pointer (filter is_filled ss)) → EndInside n (by_pointer (cond b (s ∷ filter is_filled ss) (filter is_filled ss)))
unfolding by_pointer
inside_step n s ss true e h all = placed_inside n s (by_pointer (filter is_filled ss)) (filled_inside (is_filled s) n (s.pointer_to_raw_data + s.size_of_raw_data) e h) all
inside_step n s ss false e h all = all

inside_from : (n at : ℕ) (ss : List SectionTable) → position_from (is_outside n) at ss ≡ None → EndInside n (by_pointer (filter is_filled ss))
unfolding by_pointer
inside_from n at [] h = tt
inside_from n at (s ∷ ss) h =
    let parts = none_first (is_outside n s) at (position_from (is_outside n) (at + 1) ss) h in
    inside_step n s ss (is_filled s) refl parts.0 (inside_from n (at + 1) ss parts.1)

pub all_inside : (b : List ℕ) (ss : List SectionTable) → AreInside b ss → EndInside (length b) (by_pointer (filter is_filled ss))
all_inside b ss inside = inside_from (length b) 0 ss (sym (position_from-zero (is_outside (length b)) ss) ∙ inside)
