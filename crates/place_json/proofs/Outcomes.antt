-- A value has one answer at most.
use Rattle.std.proofs.Common.{◌≡◌, ℕ, zero, suc, ◌+◌, ◌<◌, List, [], ◌∷◌, length, take, slice_get, flat_map, Option, Some, None, refl, ap, sym, ◌∙◌, arith, subst, inl, inr}
use Rattle.std.specs.Prelude.{◌≢◌, ◌⊎◌}
use Rattle.std.proofs.lemmas.List.{take-take}
use Rattle.serde_json.specs.Data.{Data}
use Rattle.image_view.specs.View.{View}
use Rattle.image_place.specs.declared.rows.DefAddress.{DefAddress}
use Rattle.image_place.specs.declared.fault.PlaceFault.{PlaceFault}
use Rattle.image_place.specs.declared.fault.PlaceFault.TheVariants as faults
use Rattle.image_place.specs.declared.error.PlaceError.{PlaceError}
use Rattle.image_place.specs.declared.error.PlaceError.TheVariants as errors
use Rattle.image_view.specs.Viewed.{IsViewed}
use Rattle.image_place.specs.Placed.{PlacedEntry, Placed, AreViewed, IsUnread, IsFaulty, place_fault, placed_entries}
use Rattle.image_place.specs.Views.{TellsPlace}
use Rattle.image_view.proofs.ViewedLaws.{one_view}
use Rattle.place_json.specs.Input.{PlaceInput, place_of}
use Rattle.place_json.specs.Lines.{entry_line}
use Rattle.place_json.specs.Outcomes.{IsPlacedText, IsPlaceRefusal}

-- -- files have one list of views

same_views : (fs : List (List ℕ)) (vs ws : List View) → length vs ≡ length fs → length ws ≡ length fs
    → ((q : ℕ) (b : List ℕ) (v : View) → slice_get fs q ≡ Some b → slice_get vs q ≡ Some v → IsViewed b v)
    → ((q : ℕ) (b : List ℕ) (w : View) → slice_get fs q ≡ Some b → slice_get ws q ≡ Some w → IsViewed b w) → vs ≡ ws
same_views [] [] [] n m h k = refl
same_views [] (v ∷ vs) ws n m h k = absurd (omega (arith, n))
same_views [] [] (w ∷ ws) n m h k = absurd (omega (arith, m))
same_views (f ∷ fs) [] ws n m h k = absurd (omega (arith, n))
same_views (f ∷ fs) (v ∷ vs) [] n m h k = absurd (omega (arith, m))
same_views (f ∷ fs) (v ∷ vs) (w ∷ ws) n m h k =
    let first : v ≡ w = one_view f v w (h 0 f v refl refl) (k 0 f w refl refl) in
    let rest : vs ≡ ws = same_views fs vs ws (omega (arith, n)) (omega (arith, m)) (λ q. h (suc q)) (λ q. k (suc q)) in
    rw (first, rest) refl

pub one_views : (fs : List (List ℕ)) (vs ws : List View) → AreViewed fs vs → AreViewed fs ws → vs ≡ ws
one_views fs vs ws h k = same_views fs vs ws h.count k.count h.each k.each

-- -- the first files of files that are viewed

get_of_first : {A : Type 0} (n : ℕ) (xs : List A) (q : ℕ) (x : A) → slice_get (take n xs) q ≡ Some x → slice_get xs q ≡ Some x
get_of_first zero xs q x e = absurd (cc)
get_of_first (suc n) [] q x e = absurd (cc)
get_of_first (suc n) (y ∷ xs) zero x e = e
get_of_first (suc n) (y ∷ xs) (suc q) x e = get_of_first n xs q x e

same_length : {A B : Type 0} (n : ℕ) (xs : List A) (ys : List B) → length xs ≡ length ys → length (take n xs) ≡ length (take n ys)
same_length zero xs ys h = refl
same_length (suc n) [] [] h = refl
same_length (suc n) [] (y ∷ ys) h = absurd (omega (arith, h))
same_length (suc n) (x ∷ xs) [] h = absurd (omega (arith, h))
same_length (suc n) (x ∷ xs) (y ∷ ys) h = ap suc (same_length n xs ys (omega (arith, h)))

pub first_viewed : (n : ℕ) (fs : List (List ℕ)) (vs : List View) → AreViewed fs vs → AreViewed (take n fs) (take n vs)
first_viewed n fs vs h =
    record {
      count = same_length n vs fs h.count;
      each = λ q b v e f. h.each q b v (get_of_first n fs q b e) (get_of_first n vs q v f);
      format = λ q v w e f. h.format q v w (get_of_first n vs 0 v e) (get_of_first n vs q w f);
    }

-- -- what is placed is read and isn't faulty

pub placed_is_read : (files : List (List ℕ)) (addresses : List DefAddress) (externs : List (List ℕ × ℕ)) (out : List PlacedEntry) (q : ℕ) → Placed files addresses externs out → IsUnread files q → ⊥
placed_is_read files addresses externs out q p u = u.here (take (q + 1) p.views) (first_viewed (q + 1) files p.views p.viewed)

no_fault : (fault : Option PlaceFault) (x : PlaceFault) → fault ≡ None → fault ≡ Some x → ⊥
no_fault fault x h k = let both : None ≡ Some x = sym h ∙ k in absurd (cc)

pub placed_is_no_fault : (files : List (List ℕ)) (addresses : List DefAddress) (externs : List (List ℕ × ℕ)) (out : List PlacedEntry) (fault : PlaceFault) → Placed files addresses externs out → IsFaulty files addresses externs fault → ⊥
placed_is_no_fault files addresses externs out fault p f =
    no_fault (place_fault p.views addresses externs) fault p.none (ap (λ vs. place_fault vs addresses externs) (one_views files p.views f.views p.viewed f.viewed) ∙ f.first)

refused_by : (files : List (List ℕ)) (addresses : List DefAddress) (externs : List (List ℕ × ℕ)) (out : List PlacedEntry) (error : PlaceError) → Placed files addresses externs out → TellsPlace files addresses externs error → error ≢ errors.OutOfMemory → ⊥
refused_by files addresses externs out (errors.NoReading q) p t n = placed_is_read files addresses externs out q p t
refused_by files addresses externs out (errors.DefinedTwice q row) p t n = placed_is_no_fault files addresses externs out (faults.DefinedTwice q row) p t
refused_by files addresses externs out (errors.NoAddress q row) p t n = placed_is_no_fault files addresses externs out (faults.NoAddress q row) p t
refused_by files addresses externs out (errors.OtherKind q number) p t n = placed_is_no_fault files addresses externs out (faults.OtherKind q number) p t
refused_by files addresses externs out (errors.LooseLabel q row) p t n = placed_is_no_fault files addresses externs out (faults.LooseLabel q row) p t
refused_by files addresses externs out (errors.DoesNotFit q offset) p t n = placed_is_no_fault files addresses externs out (faults.DoesNotFit q offset) p t
refused_by files addresses externs out errors.OutOfMemory p t n = n refl

same_input : (form : Option PlaceInput) (i j : PlaceInput) → form ≡ Some i → form ≡ Some j → i ≡ j
same_input form i j h k = let both : Some i ≡ Some j = sym h ∙ k in cc

pub text_is_no_refusal : (d : Data) (text : List ℕ) (error : PlaceError) → IsPlacedText d text → IsPlaceRefusal d error → ⊥
text_is_no_refusal d text error t r =
    let same = same_input (place_of d) t.input r.input t.form r.form in
    refused_by r.input.files r.input.addresses r.input.externs t.out error (subst (λ (i : PlaceInput). Placed i.files i.addresses i.externs t.out) same t.placed) r.tells r.is_refusal

no_input : (form : Option PlaceInput) (i : PlaceInput) → form ≡ None → form ≡ Some i → ⊥
no_input form i h k = let both : None ≡ Some i = sym h ∙ k in absurd (cc)

pub text_has_form : (d : Data) (text : List ℕ) → place_of d ≡ None → IsPlacedText d text → ⊥
text_has_form d text n t = no_input (place_of d) t.input n t.form

pub refusal_has_form : (d : Data) (error : PlaceError) → place_of d ≡ None → IsPlaceRefusal d error → ⊥
refusal_has_form d error n r = no_input (place_of d) r.input n r.form

-- -- one text

one_out : (files : List (List ℕ)) (addresses : List DefAddress) (externs : List (List ℕ × ℕ)) (out other : List PlacedEntry) → Placed files addresses externs out → Placed files addresses externs other → out ≡ other
one_out files addresses externs out other p o = p.entries ∙ ap (λ vs. placed_entries vs addresses externs) (one_views files p.views o.views p.viewed o.viewed) ∙ sym o.entries

pub one_text : (d : Data) (text other : List ℕ) → IsPlacedText d text → IsPlacedText d other → text ≡ other
one_text d text other t o =
    let same = same_input (place_of d) t.input o.input t.form o.form in
    let out = one_out o.input.files o.input.addresses o.input.externs t.out o.out (subst (λ (i : PlaceInput). Placed i.files i.addresses i.externs t.out) same t.placed) o.placed in
    t.text_is ∙ ap (flat_map entry_line) out ∙ sym o.text_is

-- -- one refusal

equal_unless_apart : (q r : ℕ) → (q < r → ⊥) → (r < q → ⊥) → q ≡ r
equal_unless_apart zero zero h k = refl
equal_unless_apart zero (suc r) h k = absurd (h (omega arith))
equal_unless_apart (suc q) zero h k = absurd (k (omega arith))
equal_unless_apart (suc q) (suc r) h k = ap suc (equal_unless_apart q r (λ l. h (omega (arith, l))) (λ l. k (omega (arith, l))))

-- the files before one that is unread are read
unread_before : (files : List (List ℕ)) (q r : ℕ) → IsUnread files q → IsUnread files r → q < r → ⊥
unread_before files q r u w less =
    let viewed = first_viewed (q + 1) (take r files) w.before.0 w.before.1 in
    u.here (take (q + 1) w.before.0) (rw (take-take (q + 1) r files (omega (arith, less))) at viewed)

one_unread : (files : List (List ℕ)) (q r : ℕ) → IsUnread files q → IsUnread files r → q ≡ r
one_unread files q r u w = equal_unless_apart q r (unread_before files q r u w) (unread_before files r q w u)

faulty_is_read : (files : List (List ℕ)) (addresses : List DefAddress) (externs : List (List ℕ × ℕ)) (fault : PlaceFault) (q : ℕ) → IsFaulty files addresses externs fault → IsUnread files q → ⊥
faulty_is_read files addresses externs fault q f u = u.here (take (q + 1) f.views) (first_viewed (q + 1) files f.views f.viewed)

one_fault : (files : List (List ℕ)) (addresses : List DefAddress) (externs : List (List ℕ × ℕ)) (fault other : PlaceFault) → IsFaulty files addresses externs fault → IsFaulty files addresses externs other → fault ≡ other
one_fault files addresses externs fault other f g =
    let both : Some fault ≡ Some other = sym f.first ∙ ap (λ vs. place_fault vs addresses externs) (one_views files f.views g.views f.viewed g.viewed) ∙ g.first in
    cc

-- the error that a fault makes
abbrev error_by : PlaceFault → PlaceError
error_by (faults.DefinedTwice q row) = errors.DefinedTwice q row
error_by (faults.NoAddress q row) = errors.NoAddress q row
error_by (faults.OtherKind q number) = errors.OtherKind q number
error_by (faults.LooseLabel q row) = errors.LooseLabel q row
error_by (faults.DoesNotFit q offset) = errors.DoesNotFit q offset

-- a refusal is a file that is unread, or a fault
record ByFile (files : List (List ℕ)) (error : PlaceError) : Type 0 where
  at : ℕ
  is : error ≡ errors.NoReading at
  unread : IsUnread files at

record ByFault (files : List (List ℕ)) (addresses : List DefAddress) (externs : List (List ℕ × ℕ)) (error : PlaceError) : Type 0 where
  fault : PlaceFault
  is : error ≡ error_by fault
  faulty : IsFaulty files addresses externs fault

told : (files : List (List ℕ)) (addresses : List DefAddress) (externs : List (List ℕ × ℕ)) (error : PlaceError) → TellsPlace files addresses externs error → error ≢ errors.OutOfMemory → ByFile files error ⊎ ByFault files addresses externs error
told files addresses externs (errors.NoReading q) t n = inl (record { at = q; is = refl; unread = t })
told files addresses externs (errors.DefinedTwice q row) t n = inr (record { fault = faults.DefinedTwice q row; is = refl; faulty = t })
told files addresses externs (errors.NoAddress q row) t n = inr (record { fault = faults.NoAddress q row; is = refl; faulty = t })
told files addresses externs (errors.OtherKind q number) t n = inr (record { fault = faults.OtherKind q number; is = refl; faulty = t })
told files addresses externs (errors.LooseLabel q row) t n = inr (record { fault = faults.LooseLabel q row; is = refl; faulty = t })
told files addresses externs (errors.DoesNotFit q offset) t n = inr (record { fault = faults.DoesNotFit q offset; is = refl; faulty = t })
told files addresses externs errors.OutOfMemory t n = absurd (n refl)

same_error : (files : List (List ℕ)) (addresses : List DefAddress) (externs : List (List ℕ × ℕ)) (error other : PlaceError) → ByFile files error ⊎ ByFault files addresses externs error → ByFile files other ⊎ ByFault files addresses externs other → error ≡ other
same_error files addresses externs error other (inl e) (inl o) = e.is ∙ ap (λ q. errors.NoReading q) (one_unread files e.at o.at e.unread o.unread) ∙ sym o.is
same_error files addresses externs error other (inl e) (inr o) = absurd (faulty_is_read files addresses externs o.fault e.at o.faulty e.unread)
same_error files addresses externs error other (inr e) (inl o) = absurd (faulty_is_read files addresses externs e.fault o.at e.faulty o.unread)
same_error files addresses externs error other (inr e) (inr o) = e.is ∙ ap error_by (one_fault files addresses externs e.fault o.fault e.faulty o.faulty) ∙ sym o.is

pub one_refusal : (d : Data) (error other : PlaceError) → IsPlaceRefusal d error → IsPlaceRefusal d other → error ≡ other
one_refusal d error other r o =
    let same = same_input (place_of d) r.input o.input r.form o.form in
    let tells = subst (λ (i : PlaceInput). TellsPlace i.files i.addresses i.externs error) same r.tells in
    same_error o.input.files o.input.addresses o.input.externs error other
    (told o.input.files o.input.addresses o.input.externs error tells r.is_refusal)
    (told o.input.files o.input.addresses o.input.externs other o.tells o.is_refusal)
