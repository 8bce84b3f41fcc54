-- Names that are noted one after the other.
use Rattle.std.proofs.Common.{◌≡◌, ℕ, ◌+◌, ◌<◌, List, [], ◌∷◌, ◌++◌, length, map, take, get_or, Bool, true, false, cond, Some, None, refl, ap, sym, ◌∙◌, Bor, bytes_eq, find, slice_get}
use Rattle.std.specs.Prelude.{Option, option_map, is_some, not, ◌&&◌, unwrap_or, if◌then◌else◌}
use Rattle.std.specs.Option.{option_or}
use Rattle.std.specs.List.{filter_map, cons_option}
use Rattle.std.specs.HashMap.{HashMap}
use Rattle.std.proofs.lemmas.List.{map_more}
use Rattle.std.proofs.lemmas.Slice.Eq.{bytes_eq-Decides}
use Rattle.image_place.specs.Fixups.{outside, bound_by}
use Rattle.image_view.specs.View.{View}
use Rattle.image_place.specs.Placed.{Definition}
use Rattle.image_place.specs.Views.{extern_view}
use Rattle.image_place.specs.RangeRows.{definition_seen, one_or_none}
use Rattle.image_place.specs.Naming.{at_name, Outsides, NotesOutside, told_next, told_all, found_or, export_by, NotesAll, NotesName}
use Rattle.image_place.specs.declared.rows.Extern.{Extern}
use Rattle.image_place.specs.declared.ranges.Definition.{Definition as Row}
use Rattle.image_place.proofs.RangeSteps.{filter_map_end}

outside_by : (x : List ℕ) (e : List ℕ × ℕ) (b : Bool) (o rest : Option ℕ) (f : List ℕ × ℕ) (more : Option (List ℕ × ℕ)) → option_map (λ (y : List ℕ × ℕ). y.1) more ≡ option_or o (outside x (f ∷ [])) → option_map (λ (y : List ℕ × ℕ). y.1) (cond b (Some e) more) ≡ option_or (cond b (Some e.1) o) (outside x (f ∷ []))
outside_by x e true o rest f more h = refl
outside_by x e false o rest f more h = h

pub outside_by_first : (x : List ℕ) (e : List ℕ × ℕ) (b : Bool) (more : Option (List ℕ × ℕ)) → option_map (λ (y : List ℕ × ℕ). y.1) (cond b (Some e) more) ≡ cond b (Some e.1) (option_map (λ (y : List ℕ × ℕ). y.1) more)
outside_by_first x e true more = refl
outside_by_first x e false more = refl

pub outside_end : (x : List ℕ) (es : List (List ℕ × ℕ)) (f : List ℕ × ℕ) → outside x (es ++ f ∷ []) ≡ option_or (outside x es) (outside x (f ∷ []))
outside_end x [] f = refl
outside_end x (e ∷ es) f =
    outside_by x e (bytes_eq e.0 x) (outside x es) None f (find (λ (y : List ℕ × ℕ). bytes_eq y.0 x) (es ++ f ∷ [])) (outside_end x es f)
    ∙ ap (λ o. option_or o (outside x (f ∷ []))) (sym (outside_by_first x e (bytes_eq e.0 x) (find (λ (y : List ℕ × ℕ). bytes_eq y.0 x) es)))

pub outsides_next : {S : Type 0} (old new : HashMap (Bor (List ℕ)) ℕ S) (es : List (List ℕ × ℕ)) (name : List ℕ) (a : ℕ) → Outsides old es → NotesOutside old new name a → Outsides new (es ++ (name, a) ∷ [])
outsides_next old new es name a h n x = n x ∙ ap (λ o. option_or o (outside x ((name, a) ∷ []))) (h x) ∙ sym (outside_end x es (name, a))

-- -- one note

none_last : {A : Type 0} (o : Option A) → option_or o None ≡ o
none_last None = refl
none_last (Some x) = refl

first_is : (o : Option ℕ) (a : ℕ) → Some (unwrap_or o a) ≡ option_or o (Some a)
first_is None a = refl
first_is (Some x) a = refl

text_same : (a b : List ℕ) → bytes_eq a b ≡ true → a ≡ b
text_same a b e = (bytes_eq-Decides a b).0 e

outside_one : (x name : List ℕ) (a : ℕ) (b : Bool) → bytes_eq name x ≡ b → outside x ((name, a) ∷ []) ≡ cond b (Some a) None
outside_one x name a true e = rw e refl
outside_one x name a false e = rw e refl

first_by : (f : List ℕ → Option ℕ) (x name : List ℕ) (a : ℕ) (b : Bool) → bytes_eq name x ≡ b → cond b (Some (unwrap_or (f name) a)) (f x) ≡ option_or (f x) (cond b (Some a) None)
first_by f x name a true e = ap (λ y. Some (unwrap_or (f y) a)) (text_same name x e) ∙ first_is (f x) a
first_by f x name a false e = sym (none_last (f x))

-- an address more is noted, if it is the first of its name
pub outside_first : (f : List ℕ → Option ℕ) (x name : List ℕ) (a : ℕ) → cond (bytes_eq name x) (Some (unwrap_or (f name) a)) (f x) ≡ option_or (f x) (outside x ((name, a) ∷ []))
outside_first f x name a = first_by f x name a (bytes_eq name x) refl ∙ ap (option_or (f x)) (sym (outside_one x name a (bytes_eq name x) refl))

pub outsides_step : {S : Type 0} (old new : HashMap (Bor (List ℕ)) ℕ S) (externs : List Extern) (i : ℕ) (e : Extern) → i < length externs → e ≡ get_or externs i e → Outsides old (map extern_view (take i externs)) → NotesOutside old new e.name.items e.address
    → Outsides new (map extern_view (take (i + 1) externs))
outsides_step old new externs i e below is h n =
    rw (map_more extern_view externs i e below, ← is) (outsides_next old new (map extern_view (take i externs)) e.name.items e.address h n)

-- -- definitions that others see

pub told_end : (t : Option (Option ℕ)) (hs : List ℕ) (o : Option ℕ) → told_all t (hs ++ one_or_none o) ≡ told_all (told_all t hs) (one_or_none o)
told_end t [] o = refl
told_end t (a ∷ hs) o = told_end (Some (told_next t a)) hs o

pub told_append : (t : Option (Option ℕ)) (hs bs : List ℕ) → told_all t (hs ++ bs) ≡ told_all (told_all t hs) bs
told_append t [] bs = refl
told_append t (a ∷ hs) bs = told_append (Some (told_next t a)) hs bs

told_many : (hs : List ℕ) → told_all (Some None) hs ≡ Some None
told_many [] = refl
told_many (a ∷ hs) = told_many hs

-- a name is bound as the maps tell
pub bound_told : (hs : List ℕ) (o : Option ℕ) → found_or (told_all None hs) o ≡ bound_by hs o
bound_told [] o = refl
bound_told (a ∷ []) o = refl
bound_told (a ∷ b ∷ more) o = ap (λ t. found_or t o) (told_many more)

-- one definition more is gone over
pub notes_step : {S : Type 0} (old now new : HashMap (Bor (List ℕ)) (Option ℕ) S) (at : ℕ → ℕ) (v : View) (rows : List Row) (i : ℕ) (d : Row) → i < length rows → NotesAll old now at v (map definition_seen (take i rows)) → NotesAll now new at v (definition_seen (get_or rows i d) ∷ [])
    → NotesAll old new at v (map definition_seen (take (i + 1) rows))
notes_step old now new at v rows i d below h n x =
    n x ∙ ap (λ t. told_all t (filter_map (export_by at v x) (definition_seen (get_or rows i d) ∷ []))) (h x)
    ∙ sym (ap (λ ds. told_all (at_name old x) (filter_map (export_by at v x) ds)) (map_more definition_seen rows i d below)
    ∙ ap (told_all (at_name old x)) (filter_map_end (export_by at v x) (map definition_seen (take i rows)) (definition_seen (get_or rows i d)))
    ∙ told_append (at_name old x) (filter_map (export_by at v x) (map definition_seen (take i rows))) (one_or_none (export_by at v x (definition_seen (get_or rows i d)))))

-- a definition that is not noted, and one that is
pub notes_none : {S : Type 0} (m : HashMap (Bor (List ℕ)) (Option ℕ) S) (at : ℕ → ℕ) (v : View) (d : Definition) → ((x : List ℕ) → export_by at v x d ≡ None) → NotesAll m m at v (d ∷ [])
notes_none m at v d h x = ap (λ o. told_all (at_name m x) (cons_option o [])) (sym (h x))

one_by : (t : Option (Option ℕ)) (a : ℕ) (b : Bool) → (if b then Some (told_next t a) else t) ≡ told_all t (cons_option (if b then Some a else None) [])
one_by t a true = refl
one_by t a false = refl

told_same : (f : List ℕ → Option (Option ℕ)) (name x : List ℕ) (a : ℕ) (b : Bool) → bytes_eq name x ≡ b → (if b then Some (told_next (f name) a) else f x) ≡ (if b then Some (told_next (f x) a) else f x)
told_same f name x a true e = ap (λ y. Some (told_next (f y) a)) (text_same name x e)
told_same f name x a false e = refl

pub notes_one : {S : Type 0} (old new : HashMap (Bor (List ℕ)) (Option ℕ) S) (at : ℕ → ℕ) (v : View) (d : Definition) → is_some (slice_get v.sections d.section) ≡ true → d.symbol.is_local ≡ false → NotesName old new d.symbol.name (at d.row) → NotesAll old new at v (d ∷ [])
notes_one old new at v d shown seen n x =
    n x ∙ told_same (at_name old) d.symbol.name x (at d.row) (bytes_eq d.symbol.name x) refl ∙ one_by (at_name old x) (at d.row) (bytes_eq d.symbol.name x)
    ∙ ap (λ b. told_all (at_name old x) (cons_option (if b then Some (at d.row) else None) [])) (sym (test d x shown seen)) where
      test : (e : Definition) (y : List ℕ) → is_some (slice_get v.sections e.section) ≡ true → e.symbol.is_local ≡ false → (is_some (slice_get v.sections e.section) && not e.symbol.is_local && bytes_eq e.symbol.name y) ≡ bytes_eq e.symbol.name y
      test e y s l = rw (s, l) refl
