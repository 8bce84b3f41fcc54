-- Texts of calls that are set one after the other.
use Rattle.std.proofs.Common.{◌≡◌, ℕ, suc, zero, ◌+◌, ◌<◌, ◌≤◌, ◌==◌, ◌&&◌, Bool, true, List, [], ◌∷◌, ◌++◌, length, take, drop, get_or, slice_set, Option, Some, None, option_map, refl, ap, sym, ◌∙◌, append_assoc, append-nil, arith}
use Rattle.std.specs.Prelude.{zip}
use Rattle.std.proofs.lemmas.Bool.{eqb-true, and_parts}
use Rattle.std.proofs.lemmas.List.{drop_all, drop_more, take_more_set, set-get_or, length-set, take_all, drop-set-lt}
use Rattle.serde_json.specs.Data.{Data}
use Rattle.serde_json.specs.Find.{get, as_str}
use Rattle.ir_core.specs.Names.{libcall_name}
use Rattle.ir_core.specs.declared.reloc.LibCall.{LibCall}
use Rattle.cranelift_module.specs.LibraryNames.{library_place}
use Rattle.json_form.specs.declared.form_error.FormError.{FormError}
use Rattle.json_form.specs.declared.form_error.FormError.TheVariants.{NotForm, OutOfMemory}
use Rattle.json_form.specs.Form.{◌>>=◌, Fails, or_else}
use Rattle.json_form.proofs.EachOf.{with_front}
use Rattle.objtool_run.specs.TargetForm.{all_of, libcalls, libcall_text, with_text}

-- the texts of calls, each that under the call's name or the one in its place
abbrev pub texts_of : Data → List LibCall → List (List ℕ) → Option (List (List ℕ))
texts_of d calls texts = all_of (λ row. libcall_text d row.0 row.1) (zip calls texts)

pub no_front : (rest : Option (List (List ℕ))) → rest ≡ with_front [] rest
no_front None = refl
no_front (Some more) = refl

front_more : (front : List (List ℕ)) (text : List ℕ) (rest : Option (List (List ℕ))) → with_front front (rest >>= λ more. Some (text ∷ more)) ≡ with_front (front ++ text ∷ []) rest
front_more front text None = refl
front_more front text (Some more) = ap Some (sym (append_assoc front (text ∷ []) more))

-- the calls stand at their places, from this one on
abbrev are_placed : ℕ → List LibCall → Bool
are_placed n [] = true
are_placed n (call ∷ calls) = (library_place call == n) && are_placed (suc n) calls

placed_from : (n : ℕ) (calls : List LibCall) (i : ℕ) (call x : LibCall) → are_placed n calls ≡ true → i < length calls → call ≡ get_or calls i x → library_place call ≡ n + i
placed_from n [] i call x are h is = absurd (omega arith)
placed_from n (c ∷ calls) zero call x are h is = ap library_place is ∙ (eqb-true (library_place c) n (and_parts (library_place c == n) (are_placed (suc n) calls) are).0 ∙ omega arith)
placed_from n (c ∷ calls) (suc i) call x are h is = placed_from (suc n) calls i call x (and_parts (library_place c == n) (are_placed (suc n) calls) are).1 (omega arith) is ∙ omega arith

placed : (i : ℕ) (call x : LibCall) → i < 18 → call ≡ get_or libcalls i x → library_place call ≡ i
placed i call x h is = placed_from 0 libcalls i call x refl h is ∙ omega arith

-- where a text is set, it is the call's, and it stands at the call's place
set_at : (i : ℕ) (call : LibCall) (old new : List (List ℕ)) (found : Option Data) → or_else (λ value. option_map (λ text. slice_set old i text) (as_str value)) old found ≡ Some new
    → (text : List ℕ) × (or_else as_str (get_or old i []) found ≡ Some text) × (new ≡ slice_set old i text)
set_at i call old new None h = let same : old ≡ new = cc in (get_or old i [], refl, sym (set-get_or old i [] ∙ same))
set_at i call old new (Some value) h = go (as_str value) h where
  go : (o : Option (List ℕ)) → option_map (λ text. slice_set old i text) o ≡ Some new → (text : List ℕ) × (o ≡ Some text) × (new ≡ slice_set old i text)
  go None e = absurd (cc)
  go (Some text) e = let same : slice_set old i text ≡ new = cc in (text, refl, sym same)

-- where no text is set, the call has none
none_at : (i : ℕ) (call : LibCall) (old : List (List ℕ)) (found : Option Data) → or_else (λ value. option_map (λ text. slice_set old i text) (as_str value)) old found ≡ None → or_else as_str (get_or old i []) found ≡ None
none_at i call old None h = absurd (cc)
none_at i call old (Some value) h = go (as_str value) h where
  go : (o : Option (List ℕ)) → option_map (λ text. slice_set old i text) o ≡ None → o ≡ None
  go None e = refl
  go (Some text) e = absurd (cc)

rest_at : (d : Data) (i : ℕ) (call x : LibCall) (old : List (List ℕ)) → i < 18 → length old ≡ 18 → call ≡ get_or libcalls i x
    → texts_of d (drop i libcalls) (drop i old) ≡ texts_of d (call ∷ drop (i + 1) libcalls) (get_or old i [] ∷ drop (i + 1) old)
rest_at d i call x old h len is =
    let calls : drop i libcalls ≡ call ∷ drop (i + 1) libcalls = drop_more libcalls i x h ∙ ap (λ c. c ∷ drop (i + 1) libcalls) (sym is) in
    let texts : drop i old ≡ get_or old i [] ∷ drop (i + 1) old = drop_more old i [] (omega arith) in
    ap (λ cs. texts_of d cs (drop i old)) calls ∙ ap (λ ts. texts_of d (call ∷ drop (i + 1) libcalls) ts) texts

one_more : (d : Data) (call : LibCall) (calls : List LibCall) (x text : List ℕ) (texts front : List (List ℕ)) → libcall_text d call x ≡ Some text → with_front front (texts_of d (call ∷ calls) (x ∷ texts)) ≡ with_front (front ++ text ∷ []) (texts_of d calls texts)
unfolding all_of
one_more d call calls x text texts front h = rw h (front_more front text (texts_of d calls texts))

no_more : (d : Data) (call : LibCall) (calls : List LibCall) (x : List ℕ) (texts front : List (List ℕ)) → libcall_text d call x ≡ None → with_front front (texts_of d (call ∷ calls) (x ∷ texts)) ≡ None
unfolding all_of
no_more d call calls x texts front h = rw h refl

-- one more text is set
pub text_step : (d : Data) (i : ℕ) (call x : LibCall) (old new : List (List ℕ)) (all : Option (List (List ℕ))) → i < 18 → call ≡ get_or libcalls i x → length old ≡ 18
    → all ≡ with_front (take i old) (texts_of d (drop i libcalls) (drop i old)) → with_text old call d ≡ Some new
    → (all ≡ with_front (take (i + 1) new) (texts_of d (drop (i + 1) libcalls) (drop (i + 1) new))) × (length new ≡ 18)
text_step d i call x old new all h is len so_far set =
    let place = placed i call x h is in
    let one = set_at i call old new (get (libcall_name call) d) (rw place at set) in
    let front : take (i + 1) new ≡ take i old ++ one.0 ∷ [] = ap (λ ts. take (i + 1) ts) one.2 ∙ take_more_set old i one.0 (omega arith) in
    let back : drop (i + 1) new ≡ drop (i + 1) old = ap (λ ts. drop (i + 1) ts) one.2 ∙ drop-set-lt (i + 1) old i one.0 (omega arith) in (
      so_far ∙ ap (λ rest. with_front (take i old) rest) (rest_at d i call x old h len is)
          ∙ one_more d call (drop (i + 1) libcalls) (get_or old i []) one.0 (drop (i + 1) old) (take i old) one.1
          ∙ sym (ap (λ ts. with_front ts (texts_of d (drop (i + 1) libcalls) (drop (i + 1) new))) front ∙ ap (λ ts. with_front (take i old ++ one.0 ∷ []) (texts_of d (drop (i + 1) libcalls) ts)) back),
      ap length one.2 ∙ length-set old i one.0 ∙ len,
    )

-- a text can't be set
pub text_stop : (d : Data) (i : ℕ) (call x : LibCall) (old : List (List ℕ)) (all : Option (List (List ℕ))) (e : FormError) → i < 18 → call ≡ get_or libcalls i x → length old ≡ 18
    → all ≡ with_front (take i old) (texts_of d (drop i libcalls) (drop i old)) → Fails e (with_text old call d) → Fails e all
text_stop d i call x old all OutOfMemory h is len so_far fails = tt
text_stop d i call x old all NotForm h is len so_far fails =
    so_far ∙ ap (λ rest. with_front (take i old) rest) (rest_at d i call x old h len is)
    ∙ no_more d call (drop (i + 1) libcalls) (get_or old i []) (drop (i + 1) old) (take i old) (none_at i call old (get (libcall_name call) d) (rw (placed i call x h is) at fails))

-- all texts are set
pub text_end : (d : Data) (i : ℕ) (new : List (List ℕ)) (all : Option (List (List ℕ))) → 18 ≤ i → length new ≡ 18 → all ≡ with_front (take i new) (texts_of d (drop i libcalls) (drop i new)) → all ≡ Some new
unfolding all_of
text_end d i new all h len so_far =
    so_far ∙ ap (λ calls. with_front (take i new) (texts_of d calls (drop i new))) (drop_all i libcalls h) ∙ ap (λ ts. Some (ts ++ [])) (take_all i new (omega arith)) ∙ ap Some (append-nil new)
