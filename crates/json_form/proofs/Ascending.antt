-- Members of an object whose keys ascend: the last is put first, and each before those behind it.
use Rattle.std.proofs.Common.{◌≡◌, ℕ, zero, suc, ◌+◌, ◌<◌, Bool, true, false, ◌&&◌, List, [], ◌∷◌, map, length, drop, get_or, Option, IsTrue, Ordering, Less, Equal, Greater, nat_cmp, refl, add-one, drop-cons}
use Rattle.std.specs.Cmp.Lexicographic.{slice_cmp}
use Rattle.std.specs.Ordering.{match_ordering}
use Rattle.serde_json.specs.Data.{no_members, put}
use Rattle.json_form.specs.Written.{number_or_null, number_members, is_below, are_ascending}

both : (a b : Bool) → IsTrue (a && b) → IsTrue a × IsTrue b
both true b h = (refl, h)
both false b h = absurd (cc)

is_less : (o : Ordering) → IsTrue (match_ordering o true false false) → o ≡ Less
is_less Less h = refl
is_less Equal h = absurd (cc)
is_less Greater h = absurd (cc)

put_first : (field : List ℕ × Option ℕ) (fields : List (List ℕ × Option ℕ)) → IsTrue (are_ascending (field ∷ fields)) → put field.0 (number_or_null field.1) (number_members fields) ≡ number_members (field ∷ fields)
unfolding number_members are_ascending
put_first field [] h = refl
put_first field (next ∷ fields) h = rw (is_less (slice_cmp nat_cmp field.0 next.0) (both (is_below field.0 next.0) _ h).0) refl

ascending_behind : (field : List ℕ × Option ℕ) (fields : List (List ℕ × Option ℕ)) → IsTrue (are_ascending (field ∷ fields)) → IsTrue (are_ascending fields)
unfolding are_ascending
ascending_behind field [] h = refl
ascending_behind field (next ∷ fields) h = (both (is_below field.0 next.0) _ h).1

ascending_from : {M : Type 0} (row : M → List ℕ × Option ℕ) (ms : List M) (i : ℕ) → IsTrue (are_ascending (map row ms)) → IsTrue (are_ascending (map row (drop i ms)))
ascending_from row [] zero h = h
ascending_from row [] (suc i) h = h
ascending_from row (m ∷ ms) zero h = h
ascending_from row (m ∷ ms) (suc i) h = ascending_from row ms i (ascending_behind (row m) (map row ms) h)

-- a member goes before those behind it
pub put_before : {M : Type 0} (row : M → List ℕ × Option ℕ) (ms : List M) (i next : ℕ) (d : M) → i < length ms → next ≡ i + 1 → IsTrue (are_ascending (map row ms))
    → put (row (get_or ms i d)).0 (number_or_null (row (get_or ms i d)).1) (number_members (map row (drop next ms))) ≡ number_members (map row (drop i ms))
put_before row ms i next d small behind h =
    let here : drop i ms ≡ get_or ms i d ∷ drop (i + 1) ms = rw (add-one, drop-cons ms i d) refl in
    let down : IsTrue (are_ascending (map row (drop i ms))) = ascending_from row ms i h in
    let up : IsTrue (are_ascending (row (get_or ms i d) ∷ map row (drop (i + 1) ms))) = rw here at down in
    rw (here, behind) (put_first (row (get_or ms i d)) (map row (drop (i + 1) ms)) up)

-- behind the last there is none
pub none_behind : {M : Type 0} (row : M → List ℕ × Option ℕ) (ms : List M) → no_members ≡ number_members (map row (drop (length ms) ms))
unfolding number_members
none_behind row [] = refl
none_behind row (m ∷ ms) = none_behind row ms
