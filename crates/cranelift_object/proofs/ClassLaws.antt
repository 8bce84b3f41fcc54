-- The numbers of sections, and the places of definitions in them.
use Rattle.std.proofs.Common.{◌≡◌, ℕ, zero, suc, ◌+◌, ◌==◌, ◌<◌, ◌≤◌, ◌++◌, ◌∷◌, List, [], Bool, true, false, not, ◌||◌, cond, length, map, Option, Some, None, refl, ap, sym, ◌∙◌, subst, arith, length-append, inl, inr, filter}
use Rattle.std.proofs.lemmas.List.{append-nil, map-append}
use Rattle.std.proofs.lemmas.Bool.Decides.{eqb_tells}
use Rattle.std.proofs.lemmas.Bool.{cases_Bool}
use Rattle.std.proofs.lemmas.List.Folds.{list_any-append}
use Rattle.std.proofs.lemmas.List.Elements.{All-weaker, All-nil, All-push, All-cons, All-head, All-tail, All-map, All-get_or}
use Rattle.std.proofs.lemmas.Option.{get_or_from_slice_get, slice_get_within}
use Rattle.std.specs.Prelude.{slice_get, Result, Ok, Err}
use Rattle.std.specs.List.{list_any, position_or_len, All}
use Rattle.ir_core.specs.declared.target.BinaryFormat.{BinaryFormat}
use Rattle.ir_core.specs.declared.target.BinaryFormat.TheVariants.{Elf, Coff, Macho, Wasm, Unknown}
use Rattle.ir_core.specs.Moments.{Moment, moments}
use Rattle.ir_core.proofs.MomentLaws.{map_moments-end, once_each-end, by_end}
use Rattle.object_core.specs.declared.kinds.StandardSection.{StandardSection}
use Rattle.object_core.specs.declared.kinds.StandardSection.TheVariants.{Text, Data as DataSection, ReadOnlyData, ReadOnlyDataWithRel, UninitializedData, Tls, UninitializedTls}
use Rattle.cranelift_module.specs.declared.identifiers.FuncOrDataId.{FuncOrDataId}
use Rattle.cranelift_module.specs.declared.identifiers.FuncOrDataId.TheVariants.{Func, Data}
use Rattle.cranelift_object.specs.Kept.{IsPlainBody}
use Rattle.object_core.specs.Standard.{standard_place, is_same_shared}
use Rattle.object_core.specs.Places.{Extent}
use Rattle.cranelift_module.specs.declared.error.SectionFault.{SectionFault}
use Rattle.cranelift_module.specs.SectionText.{SectionText, section_text}
use Rattle.cranelift_module.specs.Definitions.{Definition}
use Rattle.cranelift_module.specs.LinkState.{LinkState}
use Rattle.cranelift_object.specs.Settings.{Settings}
use Rattle.cranelift_object.specs.SectionClass.{Class, section_class, class_by_text, standard_class, standard_class_in, standard_section, has_own_section, asked_class, custom_class, marks_section}
use Rattle.cranelift_object.specs.Placing.{Placed, share, sections_used, section_number, number_of, standing_in, placed_at, extent_of}
use Rattle.cranelift_object.specs.Partial.{placed_of}
use Rattle.cranelift_object.specs.Linked.{members}

-- -- sharing

pub equal : (a b : ℕ) → (a == b) ≡ true → a ≡ b
equal a b h = elim (eqb_tells a b) [ inl e ↦ e.1 | inr e ↦ absurd (let k : false ≡ true = sym e.0 ∙ h in cc) ]

same_along : (a b d : Option StandardSection) → is_same_shared a b ≡ true → is_same_shared b d ≡ is_same_shared a d
same_along None b d h = absurd (cc)
same_along (Some a) None d h = absurd (cc)
same_along (Some a) (Some b) None h = refl
same_along (Some a) (Some b) (Some d) h = ap (λ n. n == standard_place d) (sym (equal (standard_place a) (standard_place b) h))

any_along : (c x : Class) (cs : List Class) → share c x ≡ true → list_any (share x) cs ≡ list_any (share c) cs
any_along c x [] h = refl
any_along c x (y ∷ cs) h = rw (same_along c.shared x.shared y.shared h, any_along c x cs h) refl

-- -- sections in use

pub used-end : (cs : List Class) (c : Class) → sections_used (cs ++ c ∷ []) ≡ sections_used cs ++ cond (list_any (share c) cs) [] (c ∷ [])
unfolding sections_used
used-end cs c = once_each-end share cs c

or_false : (b : Bool) → (b || false) ≡ b
or_false true = refl
or_false false = refl

or_true : (b : Bool) → (b || true) ≡ true
or_true true = refl
or_true false = refl

any_one : (c x : Class) (cs : List Class) (known here : Bool) → list_any (share x) cs ≡ known → share c x ≡ here → list_any (share c) (sections_used cs) ≡ list_any (share c) cs
    → list_any (share c) (sections_used cs ++ cond known [] (x ∷ [])) ≡ list_any (share c) (cs ++ x ∷ [])
any_one c x cs true true k h e =
    let both : list_any (share c) cs ≡ true = sym (any_along c x cs h) ∙ k in
    rw (append-nil, list_any-append, e, both) refl
any_one c x cs true false k h e = rw (append-nil, list_any-append, e, h) (sym (or_false (list_any (share c) cs)))
any_one c x cs false here k h e = rw (list_any-append, list_any-append, e) refl

any_none : (c : Class) → list_any (share c) (sections_used []) ≡ list_any (share c) []
unfolding sections_used moments
any_none c = refl

-- a class shares a section in use where it shares one of some class
pub any_used : (c : Class) (cs : List Class) → list_any (share c) (sections_used cs) ≡ list_any (share c) cs
any_used c = by_end (λ cs. list_any (share c) (sections_used cs) ≡ list_any (share c) cs) (any_none c) (λ cs x e. ap (list_any (share c)) (used-end cs x) ∙ any_one c x cs (list_any (share x) cs) (share c x) refl refl e)

-- -- first places

place_in_from : {A : Type 0} (test : A → Bool) (x : A) (xs : List A) (b : Bool) → test x ≡ b → (list_any test xs ≡ true → position_or_len test xs < length xs) → (b || list_any test xs) ≡ true
    → cond (not b) (1 + position_or_len test xs) 0 < length (x ∷ xs)
place_in_from test x xs true e more h = omega arith
place_in_from test x xs false e more h = let below : position_or_len test xs < length xs = more h in omega arith

pub place_in : {A : Type 0} (test : A → Bool) (xs : List A) → list_any test xs ≡ true → position_or_len test xs < length xs
place_in test [] h = absurd (cc)
place_in test (x ∷ xs) h = place_in_from test x xs (test x) refl (place_in test xs) h

place_past_from : {A : Type 0} (test : A → Bool) (x : A) (xs : List A) (b : Bool) → (list_any test xs ≡ false → position_or_len test xs ≡ length xs) → (b || list_any test xs) ≡ false
    → cond (not b) (1 + position_or_len test xs) 0 ≡ length (x ∷ xs)
place_past_from test x xs true more h = absurd (cc)
place_past_from test x xs false more h = let rest : position_or_len test xs ≡ length xs = more h in omega arith

pub place_past : {A : Type 0} (test : A → Bool) (xs : List A) → list_any test xs ≡ false → position_or_len test xs ≡ length xs
place_past test [] h = refl
place_past test (x ∷ xs) h = place_past_from test x xs (test x) (place_past test xs) h

-- -- numbers of sections

-- the number of a section is one of those in use, also of its own definition
pub number_below : (cs : List Class) (c : Class) → section_number cs c < length (sections_used (cs ++ c ∷ []))
unfolding section_number
number_below cs c =
    elim (cases_Bool (list_any (share c) cs)) [
      | inl e ↦ rw (used-end cs c, e, append-nil) (place_in (share c) (sections_used cs) (any_used c cs ∙ e))
      | inr e ↦ rw (used-end cs c, e, place_past (share c) (sections_used cs) (any_used c cs ∙ e), length-append) (omega arith)
    ]

pub number_new : (cs : List Class) (c : Class) → list_any (share c) cs ≡ false → section_number cs c ≡ length (sections_used cs)
unfolding section_number
number_new cs c e = place_past (share c) (sections_used cs) (any_used c cs ∙ e)

pub used_more : (cs : List Class) (c : Class) → length (sections_used cs) ≤ length (sections_used (cs ++ c ∷ []))
used_more cs c = rw (used-end cs c, length-append) (omega arith)

-- -- placed definitions

pub placed_of-end : (settings : Settings) (s : LinkState) (ds : List Definition) (d : Definition) → placed_of settings s (ds ++ d ∷ []) ≡ placed_of settings s ds ++ placed_at settings s (record { before = ds; here = d }) ∷ []
placed_of-end settings s ds d = map_moments-end (placed_at settings s) ds d

none_below : (settings : Settings) (s : LinkState) → All (λ (p : Placed). p.section < length (sections_used (map (section_class settings s) []))) (placed_of settings s [])
unfolding moments
none_below settings s = All-nil (λ (p : Placed). p.section < length (sections_used (map (section_class settings s) [])))

one_below : (settings : Settings) (s : LinkState) (ds : List Definition) (d : Definition) → All (λ (p : Placed). p.section < length (sections_used (map (section_class settings s) ds))) (placed_of settings s ds)
    → All (λ (p : Placed). p.section < length (sections_used (map (section_class settings s) (ds ++ d ∷ [])))) (placed_of settings s (ds ++ d ∷ []))
one_below settings s ds d h =
    let class : Definition → Class = section_class settings s in
    let now : ℕ = length (sections_used (map class ds)) in
    let later : ℕ = length (sections_used (map class ds ++ class d ∷ [])) in
    let more : now ≤ later = used_more (map class ds) (class d) in
    let here : section_number (map class ds) (class d) < later = number_below (map class ds) (class d) in
    let all = All-weaker (λ (p : Placed). p.section < now) (λ (p : Placed). p.section < later) (λ p l. omega arith) (placed_of settings s ds) h in
    rw (placed_of-end settings s ds d, map-append) (All-push (λ (p : Placed). p.section < later) (placed_of settings s ds) (placed_at settings s (record { before = ds; here = d })) all here)

pub placed_below : (settings : Settings) (s : LinkState) (ds : List Definition) → All (λ (p : Placed). p.section < length (sections_used (map (section_class settings s) ds))) (placed_of settings s ds)
placed_below settings s = by_end (λ ds. All (λ (p : Placed). p.section < length (sections_used (map (section_class settings s) ds))) (placed_of settings s ds)) (none_below settings s) (λ ds d h. one_below settings s ds d h)

none_placed : (settings : Settings) (s : LinkState) → map (λ (p : Placed). p.definition) (placed_of settings s []) ≡ []
unfolding moments
none_placed settings s = refl

-- they are the definitions
pub placed_definitions : (settings : Settings) (s : LinkState) (ds : List Definition) → map (λ (p : Placed). p.definition) (placed_of settings s ds) ≡ ds
placed_definitions settings s = by_end (λ ds. map (λ (p : Placed). p.definition) (placed_of settings s ds) ≡ ds) (none_placed settings s) (λ ds d e. rw (placed_of-end settings s ds d, map-append, e) refl)

kept_same : {A B C : Type 0} (f : A → C) (g : B → C) (x : A) (y : B) (xs : List A) (ys : List B) (b : Bool) → f x ≡ g y → map f xs ≡ map g ys → map f (cond b (x ∷ xs) xs) ≡ map g (cond b (y ∷ ys) ys)
kept_same f g x y xs ys true e h = rw (e, h) refl
kept_same f g x y xs ys false e h = h

members_of : (settings : Settings) (s : LinkState) (k : ℕ) (ms : List (Moment Definition)) → map (λ (p : Placed). p.definition) (members (map (placed_at settings s) ms) k) ≡ map (λ (m : Moment Definition). m.here) (filter (λ m. number_of settings s m == k) ms)
members_of settings s k [] = refl
members_of settings s k (m ∷ ms) = kept_same (λ (p : Placed). p.definition) (λ (q : Moment Definition). q.here) (placed_at settings s m) m (members (map (placed_at settings s) ms) k) (filter (λ q. number_of settings s q == k) ms) (number_of settings s m == k) refl (members_of settings s k ms)

-- the members of a section are those that stand in it
pub members_standing : (settings : Settings) (s : LinkState) (k : ℕ) (ds : List Definition) → map (λ (p : Placed). p.definition) (members (placed_of settings s ds) k) ≡ standing_in settings s k ds
unfolding standing_in
members_standing settings s k ds = members_of settings s k (moments ds)

map_definitions : (f : Definition → Extent) (ps : List Placed) → map (λ (p : Placed). f p.definition) ps ≡ map f (map (λ (p : Placed). p.definition) ps)
map_definitions f [] = refl
map_definitions f (p ∷ ps) = rw (map_definitions f ps) refl

-- the extents of a section's members
pub members_extents : (settings : Settings) (s : LinkState) (k : ℕ) (ds : List Definition) → map (λ (p : Placed). extent_of s p.definition) (members (placed_of settings s ds) k) ≡ map (extent_of s) (standing_in settings s k ds)
members_extents settings s k ds = map_definitions (extent_of s) (members (placed_of settings s ds) k) ∙ ap (map (extent_of s)) (members_standing settings s k ds)

-- -- what holds of each class

pub All-front : {A : Type 0} (P : A → Type 0) (xs : List A) (x : A) → All P (xs ++ x ∷ []) → All P xs
All-front P [] x all = All-nil P
All-front P (y ∷ xs) x all = All-cons P y xs (All-head P y (xs ++ x ∷ []) all) (All-front P xs x (All-tail P y (xs ++ x ∷ []) all))

pub All-last : {A : Type 0} (P : A → Type 0) (xs : List A) (x : A) → All P (xs ++ x ∷ []) → P x
All-last P [] x all = All-head P x [] all
All-last P (y ∷ xs) x all = All-last P xs x (All-tail P y (xs ++ x ∷ []) all)

used_all_cond : (P : Class → Type 0) (cs : List Class) (c : Class) (b : Bool) → P c → All P cs → All P (cs ++ cond b [] (c ∷ []))
used_all_cond P cs c true here all = rw append-nil all
used_all_cond P cs c false here all = All-push P cs c all here

used_all_none : (P : Class → Type 0) → All P [] → All P (sections_used [])
unfolding sections_used moments
used_all_none P all = all

used_all_more : (P : Class → Type 0) (cs : List Class) (c : Class) → (All P cs → All P (sections_used cs)) → All P (cs ++ c ∷ []) → All P (sections_used (cs ++ c ∷ []))
used_all_more P cs c before all =
    rw (used-end cs c) (used_all_cond P (sections_used cs) c (list_any (share c) cs) (All-last P cs c all) (before (All-front P cs c all)))

-- what holds of each class holds of each section in use
pub used_all : (P : Class → Type 0) (cs : List Class) → All P cs → All P (sections_used cs)
used_all P = by_end (λ cs. All P cs → All P (sections_used cs)) (used_all_none P) (used_all_more P)

pub All-slice_get : {A : Type 0} (P : A → Type 0) (xs : List A) (k : ℕ) (x : A) → All P xs → slice_get xs k ≡ Some x → P x
All-slice_get P xs k x all at = subst P (get_or_from_slice_get xs k x x at) (All-get_or P xs k x (slice_get_within xs k x at) all)

-- -- the class of a section

-- a class that others may share is the plain one of its standard section
abbrev pub IsShareable : BinaryFormat → Class → Type 0
IsShareable format c = (standard : StandardSection) → c.shared ≡ Some standard → c ≡ standard_class_in format standard false false

shareable_own : (std : StandardSection) (own used : Bool) (standard : StandardSection) → (own ≡ false → used ≡ false) → (standard_class std own used).shared ≡ Some standard → standard_class std own used ≡ standard_class standard false false
shareable_own std true used standard h e = absurd (cc)
shareable_own std false used standard h e =
    let same : std ≡ standard = cc in
    rw (same, h refl) refl

shareable_in : (format : BinaryFormat) (std : StandardSection) (own used : Bool) → (own ≡ false → used ≡ false) → IsShareable format (standard_class_in format std own used)
shareable_in Elf std own used h standard e = shareable_own std own used standard h e
shareable_in Coff std own used h standard e = shareable_own std own used standard h e
shareable_in Macho std own used h standard e =
    let same : std ≡ standard = cc in
    rw same refl
shareable_in Wasm std own used h standard e = shareable_own std own used standard h e
shareable_in Unknown std own used h standard e = shareable_own std own used standard h e

asked_alone : (d : Definition) (retain : Bool) (text : List ℕ) (asked : Result SectionText SectionFault) → (asked_class d retain text asked).shared ≡ None
asked_alone d retain text (Ok asked) = refl
asked_alone d retain text (Err fault) = refl

-- a section under a text is shared with nothing
pub custom_alone : (format : BinaryFormat) (text : List ℕ) (d : Definition) → (custom_class format text d).shared ≡ None
custom_alone format text d = asked_alone d (marks_section format d.used) text (section_text format text)

shareable_text : (settings : Settings) (s : LinkState) (d : Definition) (text : Option (List ℕ)) → (has_own_section settings d d.identifier ≡ false → d.used ≡ false) → IsShareable s.target.triple.binary_format (class_by_text settings s d text)
shareable_text settings s d (Some text) h standard e =
    let alone = custom_alone s.target.triple.binary_format text d in
    absurd (let k : None ≡ Some standard = sym alone ∙ e in cc)
shareable_text settings s d None h standard e = shareable_in s.target.triple.binary_format (standard_section s d d.identifier) (has_own_section settings d d.identifier) d.used h standard e

second_false : (a b : Bool) → (a || b) ≡ false → b ≡ false
second_false true b h = absurd (cc)
second_false false b h = h

alone_used : (settings : Settings) (d : Definition) (id : FuncOrDataId) → IsPlainBody id d.contents d.section d.used → has_own_section settings d id ≡ false → d.used ≡ false
alone_used settings d (Func k) plain h = plain.2
alone_used settings d (Data k) plain h = second_false settings.data_sections d.used h

-- the class of a definition is one
pub shareable : (settings : Settings) (s : LinkState) (d : Definition) → IsPlainBody d.identifier d.contents d.section d.used → IsShareable s.target.triple.binary_format (section_class settings s d)
shareable settings s d plain = shareable_text settings s d d.section (alone_used settings d d.identifier plain)

asked_retain : (d : Definition) (retain : Bool) (text : List ℕ) (asked : Result SectionText SectionFault) → (asked_class d retain text asked).retain ≡ retain
asked_retain d retain text (Ok asked) = refl
asked_retain d retain text (Err fault) = refl

standard_retain : (format : BinaryFormat) (standard : StandardSection) (own used : Bool) → (standard_class_in format standard own used).retain ≡ marks_section format used
standard_retain Elf standard own used = refl
standard_retain Coff standard own used = refl
standard_retain Macho standard own used = refl
standard_retain Wasm standard own used = refl
standard_retain Unknown standard own used = refl

retain_text : (settings : Settings) (s : LinkState) (d : Definition) (text : Option (List ℕ)) → (class_by_text settings s d text).retain ≡ marks_section s.target.triple.binary_format d.used
retain_text settings s d None = standard_retain s.target.triple.binary_format (standard_section s d d.identifier) (has_own_section settings d d.identifier) d.used
retain_text settings s d (Some text) = asked_retain d (marks_section s.target.triple.binary_format d.used) text (section_text s.target.triple.binary_format text)

-- the linker keeps the section of what is used, where the format says it of sections
pub retain_is : (settings : Settings) (s : LinkState) (d : Definition) → (section_class settings s d).retain ≡ marks_section s.target.triple.binary_format d.used
retain_is settings s d = retain_text settings s d d.section

plain_retain : (format : BinaryFormat) (standard : StandardSection) → (standard_class_in format standard false false).retain ≡ false
plain_retain Elf standard = refl
plain_retain Coff standard = refl
plain_retain Macho standard = refl
plain_retain Wasm standard = refl
plain_retain Unknown standard = refl

retained_alone : (settings : Settings) (s : LinkState) (d : Definition) → IsPlainBody d.identifier d.contents d.section d.used → (shared : Option StandardSection) → (section_class settings s d).shared ≡ shared → (section_class settings s d).retain ≡ true → shared ≡ None
retained_alone settings s d plain None e marked = refl
retained_alone settings s d plain (Some standard) e marked =
    absurd (let k : false ≡ true = sym (ap (λ (c : Class). c.retain) (shareable settings s d plain standard e) ∙ plain_retain s.target.triple.binary_format standard) ∙ marked in cc)

-- a section that the linker keeps is shared with nothing
pub retained_unshared : (settings : Settings) (s : LinkState) (d : Definition) → IsPlainBody d.identifier d.contents d.section d.used → (section_class settings s d).retain ≡ true → (section_class settings s d).shared ≡ None
retained_unshared settings s d plain marked = retained_alone settings s d plain (section_class settings s d).shared refl marked

same_standard : (a b : StandardSection) → standard_place a ≡ standard_place b → a ≡ b
same_standard Text Text h = refl
same_standard DataSection DataSection h = refl
same_standard ReadOnlyData ReadOnlyData h = refl
same_standard ReadOnlyDataWithRel ReadOnlyDataWithRel h = refl
same_standard UninitializedData UninitializedData h = refl
same_standard Tls Tls h = refl
same_standard UninitializedTls UninitializedTls h = refl
same_standard Text DataSection h = absurd (omega arith)
same_standard Text ReadOnlyData h = absurd (omega arith)
same_standard Text ReadOnlyDataWithRel h = absurd (omega arith)
same_standard Text UninitializedData h = absurd (omega arith)
same_standard Text Tls h = absurd (omega arith)
same_standard Text UninitializedTls h = absurd (omega arith)
same_standard DataSection Text h = absurd (omega arith)
same_standard DataSection ReadOnlyData h = absurd (omega arith)
same_standard DataSection ReadOnlyDataWithRel h = absurd (omega arith)
same_standard DataSection UninitializedData h = absurd (omega arith)
same_standard DataSection Tls h = absurd (omega arith)
same_standard DataSection UninitializedTls h = absurd (omega arith)
same_standard ReadOnlyData Text h = absurd (omega arith)
same_standard ReadOnlyData DataSection h = absurd (omega arith)
same_standard ReadOnlyData ReadOnlyDataWithRel h = absurd (omega arith)
same_standard ReadOnlyData UninitializedData h = absurd (omega arith)
same_standard ReadOnlyData Tls h = absurd (omega arith)
same_standard ReadOnlyData UninitializedTls h = absurd (omega arith)
same_standard ReadOnlyDataWithRel Text h = absurd (omega arith)
same_standard ReadOnlyDataWithRel DataSection h = absurd (omega arith)
same_standard ReadOnlyDataWithRel ReadOnlyData h = absurd (omega arith)
same_standard ReadOnlyDataWithRel UninitializedData h = absurd (omega arith)
same_standard ReadOnlyDataWithRel Tls h = absurd (omega arith)
same_standard ReadOnlyDataWithRel UninitializedTls h = absurd (omega arith)
same_standard UninitializedData Text h = absurd (omega arith)
same_standard UninitializedData DataSection h = absurd (omega arith)
same_standard UninitializedData ReadOnlyData h = absurd (omega arith)
same_standard UninitializedData ReadOnlyDataWithRel h = absurd (omega arith)
same_standard UninitializedData Tls h = absurd (omega arith)
same_standard UninitializedData UninitializedTls h = absurd (omega arith)
same_standard Tls Text h = absurd (omega arith)
same_standard Tls DataSection h = absurd (omega arith)
same_standard Tls ReadOnlyData h = absurd (omega arith)
same_standard Tls ReadOnlyDataWithRel h = absurd (omega arith)
same_standard Tls UninitializedData h = absurd (omega arith)
same_standard Tls UninitializedTls h = absurd (omega arith)
same_standard UninitializedTls Text h = absurd (omega arith)
same_standard UninitializedTls DataSection h = absurd (omega arith)
same_standard UninitializedTls ReadOnlyData h = absurd (omega arith)
same_standard UninitializedTls ReadOnlyDataWithRel h = absurd (omega arith)
same_standard UninitializedTls UninitializedData h = absurd (omega arith)
same_standard UninitializedTls Tls h = absurd (omega arith)

shared_alike : (format : BinaryFormat) (c x : Class) (a b : Option StandardSection) → IsShareable format c → IsShareable format x → c.shared ≡ a → x.shared ≡ b → is_same_shared a b ≡ true → c ≡ x
shared_alike format c x None b h k e f same = absurd (cc)
shared_alike format c x (Some a) None h k e f same = absurd (cc)
shared_alike format c x (Some a) (Some b) h k e f same =
    h a e ∙ ap (λ (standard : StandardSection). standard_class_in format standard false false) (same_standard a b (equal (standard_place a) (standard_place b) same)) ∙ sym (k b f)

found_from : {A : Type 0} (test : A → Bool) (x : A) (xs : List A) (b : Bool) → test x ≡ b → (list_any test xs ≡ true → (y : A) × (slice_get xs (position_or_len test xs) ≡ Some y) × (test y ≡ true)) → (b || list_any test xs) ≡ true
    → (y : A) × (slice_get (x ∷ xs) (cond (not b) (1 + position_or_len test xs) 0) ≡ Some y) × (test y ≡ true)
found_from test x xs true e more h = (x, refl, e)
found_from test x xs false e more h =
    let found = more h in
    let place : 1 + position_or_len test xs ≡ suc (position_or_len test xs) = omega arith in
    (found.0, ap (slice_get (x ∷ xs)) place ∙ found.1, found.2)

-- what stands at the first place that passes a test
pub found_place : {A : Type 0} (test : A → Bool) (xs : List A) → list_any test xs ≡ true → (y : A) × (slice_get xs (position_or_len test xs) ≡ Some y) × (test y ≡ true)
found_place test [] h = absurd (cc)
found_place test (x ∷ xs) h = found_from test x xs (test x) refl (found_place test xs) h

get_last : {A : Type 0} (xs : List A) (x : A) → slice_get (xs ++ x ∷ []) (length xs) ≡ Some x
get_last [] x = refl
get_last (y ∷ xs) x = get_last xs x

class_known : (format : BinaryFormat) (cs : List Class) (c : Class) → All (IsShareable format) cs → IsShareable format c → list_any (share c) cs ≡ true → slice_get (sections_used (cs ++ c ∷ [])) (section_number cs c) ≡ Some c
unfolding section_number
class_known format cs c all here e =
    let found = found_place (share c) (sections_used cs) (any_used c cs ∙ e) in
    let x = found.0 in
    let one : IsShareable format x = All-slice_get (IsShareable format) (sections_used cs) (position_or_len (share c) (sections_used cs)) x (used_all (IsShareable format) cs all) found.1 in
    let same : c ≡ x = shared_alike format c x c.shared x.shared here one refl refl found.2 in
    rw (used-end cs c, e, append-nil) (found.1 ∙ ap Some (sym same))

class_new : (cs : List Class) (c : Class) → list_any (share c) cs ≡ false → slice_get (sections_used (cs ++ c ∷ [])) (section_number cs c) ≡ Some c
class_new cs c e = rw (number_new cs c e, used-end cs c, e) (get_last (sections_used cs) c)

-- a section in use has the class of each of its definitions
pub class_there : (format : BinaryFormat) (cs : List Class) (c : Class) → All (IsShareable format) cs → IsShareable format c → slice_get (sections_used (cs ++ c ∷ [])) (section_number cs c) ≡ Some c
class_there format cs c all here =
    elim (cases_Bool (list_any (share c) cs)) [
      | inl e ↦ class_known format cs c all here e
      | inr e ↦ class_new cs c e
    ]

get_front : {A : Type 0} (xs ys : List A) (k : ℕ) (x : A) → slice_get xs k ≡ Some x → slice_get (xs ++ ys) k ≡ Some x
get_front [] ys k x h = absurd (cc)
get_front (z ∷ xs) ys zero x h = h
get_front (z ∷ xs) ys (suc k) x h = get_front xs ys k x h

-- one more class leaves the sections in use where they are
class_stays : (cs : List Class) (c x : Class) (k : ℕ) → slice_get (sections_used cs) k ≡ Some x → slice_get (sections_used (cs ++ c ∷ [])) k ≡ Some x
class_stays cs c x k h = ap (λ (used : List Class). slice_get used k) (used-end cs c) ∙ get_front (sections_used cs) (cond (list_any (share c) cs) [] (c ∷ [])) k x h

-- a placed definition stands in a section of its class
abbrev StandsInClass : Settings → LinkState → List Definition → Placed → Type 0
StandsInClass settings s ds p = slice_get (sections_used (map (section_class settings s) ds)) p.section ≡ Some (section_class settings s p.definition)

class_none : (settings : Settings) (s : LinkState) → All (StandsInClass settings s []) (placed_of settings s [])
unfolding moments
class_none settings s = All-nil (StandsInClass settings s [])

class_more : (settings : Settings) (s : LinkState) (ds : List Definition) (d : Definition) → All (StandsInClass settings s ds) (placed_of settings s ds) → All (λ (x : Definition). IsShareable s.target.triple.binary_format (section_class settings s x)) (ds ++ d ∷ []) → All (StandsInClass settings s (ds ++ d ∷ [])) (placed_of settings s (ds ++ d ∷ []))
class_more settings s ds d h all =
    let class : Definition → Class = section_class settings s in
    let fronts = All-map (IsShareable s.target.triple.binary_format) class ds (All-front (λ (x : Definition). IsShareable s.target.triple.binary_format (class x)) ds d all) in
    let here : StandsInClass settings s (ds ++ d ∷ []) (placed_at settings s (record { before = ds; here = d })) = rw map-append (class_there s.target.triple.binary_format (map class ds) (class d) fronts (All-last (λ (x : Definition). IsShareable s.target.triple.binary_format (class x)) ds d all)) in
    let before = All-weaker (StandsInClass settings s ds) (StandsInClass settings s (ds ++ d ∷ [])) (λ p e. rw map-append (class_stays (map class ds) (class d) (class p.definition) p.section e)) (placed_of settings s ds) h in
    rw (placed_of-end settings s ds d) (All-push (StandsInClass settings s (ds ++ d ∷ [])) (placed_of settings s ds) (placed_at settings s (record { before = ds; here = d })) before here)

pub placed_class : (settings : Settings) (s : LinkState) (ds : List Definition) → All (λ (x : Definition). IsShareable s.target.triple.binary_format (section_class settings s x)) ds → All (λ (p : Placed). slice_get (sections_used (map (section_class settings s) ds)) p.section ≡ Some (section_class settings s p.definition)) (placed_of settings s ds)
placed_class settings s =
    by_end (λ ds. All (λ (x : Definition). IsShareable s.target.triple.binary_format (section_class settings s x)) ds → All (StandsInClass settings s ds) (placed_of settings s ds)) (λ all. class_none settings s)
    (λ ds d h all. class_more settings s ds d (h (All-front (λ (x : Definition). IsShareable s.target.triple.binary_format (section_class settings s x)) ds d all)) all)
