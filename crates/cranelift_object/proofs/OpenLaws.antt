-- The section of one more definition: one of its own, or the standard one.
use Rattle.std.proofs.Common.{◌≡◌, ℕ, ◌+◌, ◌||◌, ◌<◌, ◌++◌, ◌∷◌, List, [], Bool, true, false, not, cond, length, map, Option, Some, None, refl, ap, sym, ◌∙◌, arith, inl, inr}
use Rattle.std.proofs.lemmas.List.{append-nil}
use Rattle.std.proofs.lemmas.Bool.{cases_Bool}
use Rattle.std.proofs.lemmas.List.Elements.{All-weaker}
use Rattle.std.specs.Prelude.{unwrap_or}
use Rattle.std.specs.List.{list_any, position_from, position_or_len}
use Rattle.object_core.specs.declared.kinds.StandardSection.{StandardSection}
use Rattle.ir_core.specs.declared.target.BinaryFormat.{BinaryFormat}
use Rattle.ir_core.specs.declared.target.BinaryFormat.TheVariants.{Elf, Coff, Macho, Wasm, Unknown}
use Rattle.object_core.specs.Object.{SectionData, ObjectData}
use Rattle.object_core.specs.Places.{end_of, joined}
use Rattle.object_core.specs.Standard.{standard_name, is_same_shared, empty_standard, empty_standard_in}
use Rattle.object_core.specs.Appending.{standard_at, with_standard, with_standard_section, with_retain, retained}
use Rattle.cranelift_module.specs.Definitions.{Definition}
use Rattle.cranelift_module.specs.LinkState.{LinkState}
use Rattle.cranelift_object.specs.Settings.{Settings}
use Rattle.cranelift_object.specs.SectionClass.{Class, section_class, standard_class, standard_class_in, unused_class}
use Rattle.cranelift_object.specs.Placing.{Placed, share, sections_used, section_number}
use Rattle.cranelift_object.specs.Linked.{section_with, is_unstored_class}
use Rattle.cranelift_object.specs.Product.{empty_class, with_shared_class, with_class, shared_place, class_place}
use Rattle.cranelift_object.specs.Partial.{placed_of, sections_from, partial, opened, number_behind}
use Rattle.cranelift_object.proofs.SectionLaws.{sections_opened}
use Rattle.cranelift_object.proofs.ClassLaws.{placed_below, used-end, any_used, number_new, IsShareable}
use Rattle.cranelift_object.proofs.ChangeLaws.{changed_last}

-- -- numbers of sections

-- the sections of classes are shared as the classes are
shared_from : (settings : Settings) (s : LinkState) (standard : StandardSection) (i j : ℕ) (classes : List Class) (ps : List Placed) → position_from (λ (x : SectionData). is_same_shared (Some standard) x.shared) j (sections_from settings s i classes ps) ≡ position_from (λ (c : Class). is_same_shared (Some standard) c.shared) j classes
shared_from settings s standard i j [] ps = refl
shared_from settings s standard i j (c ∷ classes) ps = rw (shared_from settings s standard (i + 1) (j + 1) classes ps) refl

pub sections_length : (settings : Settings) (s : LinkState) (i : ℕ) (classes : List Class) (ps : List Placed) → length (sections_from settings s i classes ps) ≡ length classes
sections_length settings s i [] ps = refl
sections_length settings s i (c ∷ classes) ps = let rest = sections_length settings s (i + 1) classes ps in omega (arith, rest)

or_len_from : (b : Bool) (i m rest : ℕ) (o : Option ℕ) → unwrap_or o m ≡ i + 1 + rest → unwrap_or (cond b (Some i) o) m ≡ i + cond (not b) (1 + rest) 0
or_len_from true i m rest o h = omega arith
or_len_from false i m rest o h = let same : i + 1 + rest ≡ i + (1 + rest) = omega arith in h ∙ same

-- the first place, or else the place behind the last
place_or_len : {A : Type 0} (test : A → Bool) (i m : ℕ) (xs : List A) → m ≡ i + length xs → unwrap_or (position_from test i xs) m ≡ i + position_or_len test xs
place_or_len test i m [] h = h
place_or_len test i m (x ∷ xs) h = or_len_from (test x) i m (position_or_len test xs) (position_from test (i + 1) xs) (place_or_len test (i + 1) m xs (omega arith))

-- the number of a shared section is the one that an object answers
pub number_shared : (settings : Settings) (s : LinkState) (ds : List Definition) (standard : StandardSection) (classes : List Class) (class : Class) → class.shared ≡ Some standard
    → unwrap_or (standard_at (sections_from settings s 0 (sections_used classes) (placed_of settings s ds)) standard) (length (sections_from settings s 0 (sections_used classes) (placed_of settings s ds))) ≡ section_number classes class
unfolding section_number
number_shared settings s ds standard classes class e =
    let used : List Class = sections_used classes in
    let ps : List Placed = placed_of settings s ds in
    let count = sections_length settings s 0 used ps in
    let found : unwrap_or (position_from (λ (c : Class). is_same_shared (Some standard) c.shared) 0 used) (length (sections_from settings s 0 used ps)) ≡ 0 + position_or_len (λ (c : Class). is_same_shared (Some standard) c.shared) used =
    place_or_len (λ (c : Class). is_same_shared (Some standard) c.shared) 0 (length (sections_from settings s 0 used ps)) used (omega (arith, count))
    in
    let places = ap (λ (o : Option ℕ). unwrap_or o (length (sections_from settings s 0 used ps))) (shared_from settings s standard 0 0 used ps) in
    let zero_more : 0 + position_or_len (λ (c : Class). is_same_shared (Some standard) c.shared) used ≡ position_or_len (λ (c : Class). is_same_shared (Some standard) c.shared) used = omega arith in
    places ∙ found ∙ zero_more ∙ ap (λ (shared : Option StandardSection). position_or_len (λ (c : Class). is_same_shared shared c.shared) used) (sym e)

-- -- empty sections

same_either : (b : Bool) → cond {A = List ℕ} b [] [] ≡ []
same_either true = refl
same_either false = refl

-- a section in which nothing is yet
pub section_empty : (settings : Settings) (s : LinkState) (class : Class) → section_with settings s class [] ≡ empty_class class
unfolding end_of joined
section_empty settings s class = ap (λ (contents : List ℕ). record (empty_class class) { contents = contents }) (same_either (is_unstored_class s class))

plain_empty : (standard : StandardSection) → empty_class (standard_class standard false false) ≡ empty_standard standard
plain_empty standard = ap (λ (name : List ℕ). record (empty_standard standard) { name = name }) (append-nil (standard_name standard))

plain_empty_in : (format : BinaryFormat) (standard : StandardSection) → empty_class (standard_class_in format standard false false) ≡ empty_standard_in format standard
plain_empty_in Elf standard = plain_empty standard
plain_empty_in Coff standard = plain_empty standard
plain_empty_in Macho standard = refl
plain_empty_in Wasm standard = plain_empty standard
plain_empty_in Unknown standard = plain_empty standard

-- -- the section of one more definition

none_shares : (c : Class) (classes : List Class) → c.shared ≡ None → list_any (share c) classes ≡ false
none_shares c [] e = refl
none_shares c (x ∷ classes) e = rw (none_shares c classes e, e) refl

-- where no section is shared, a new one is opened
opened_new : (settings : Settings) (s : LinkState) (ds : List Definition) (d : Definition) (new : SectionData) → list_any (share (section_class settings s d)) (map (section_class settings s) ds) ≡ false → section_with settings s (section_class settings s d) [] ≡ new
    → opened settings s ds d ≡ record (partial settings s ds) { sections = (partial settings s ds).sections ++ new ∷ [] }
unfolding partial opened
opened_new settings s ds d new none e =
    let classes : List Class = map (section_class settings s) ds in
    let more = used-end classes (section_class settings s d) in
    let ps : List Placed = placed_of settings s ds in
    let listed : sections_from settings s 0 (sections_used (classes ++ section_class settings s d ∷ [])) ps ≡ sections_from settings s 0 (sections_used classes) ps ++ new ∷ [] =
    ap (λ (cs : List Class). sections_from settings s 0 cs ps) (more ∙ ap (λ (b : Bool). sections_used classes ++ cond b [] (section_class settings s d ∷ [])) none)
    ∙ sections_opened settings s 0 (sections_used classes) (section_class settings s d) ps (All-weaker (λ (p : Placed). p.section < length (sections_used classes)) (λ (p : Placed). p.section < 0 + length (sections_used classes)) (λ p l. omega arith) ps (placed_below settings s ds))
    ∙ ap (λ (x : SectionData). sections_from settings s 0 (sections_used classes) ps ++ x ∷ []) e
    in
    ap (λ (xs : List SectionData). record (partial settings s ds) { sections = xs }) listed

pub number_new_section : (settings : Settings) (s : LinkState) (ds : List Definition) (d : Definition) → (section_class settings s d).shared ≡ None → length (partial settings s ds).sections ≡ number_behind settings s ds d
unfolding partial
number_new_section settings s ds d alone =
    let classes : List Class = map (section_class settings s) ds in
    sections_length settings s 0 (sections_used classes) (placed_of settings s ds) ∙ sym (number_new classes (section_class settings s d) (none_shares (section_class settings s d) classes alone))

-- -- a shared section

found_some_from : {A : Type 0} (test : A → Bool) (i : ℕ) (xs : List A) (b : Bool) → (list_any test xs ≡ true → (k : ℕ) × (position_from test (i + 1) xs ≡ Some k)) → (b || list_any test xs) ≡ true → (k : ℕ) × (cond b (Some i) (position_from test (i + 1) xs) ≡ Some k)
found_some_from test i xs true more h = (i, refl)
found_some_from test i xs false more h = more h

found_some : {A : Type 0} (test : A → Bool) (i : ℕ) (xs : List A) → list_any test xs ≡ true → (k : ℕ) × (position_from test i xs ≡ Some k)
found_some test i [] h = absurd (cc)
found_some test i (x ∷ xs) h = found_some_from test i xs (test x) (found_some test (i + 1) xs) h

found_none_from : {A : Type 0} (test : A → Bool) (i : ℕ) (xs : List A) (b : Bool) → (list_any test xs ≡ false → position_from test (i + 1) xs ≡ None) → (b || list_any test xs) ≡ false → cond b (Some i) (position_from test (i + 1) xs) ≡ None
found_none_from test i xs true more h = absurd (cc)
found_none_from test i xs false more h = more h

found_none : {A : Type 0} (test : A → Bool) (i : ℕ) (xs : List A) → list_any test xs ≡ false → position_from test i xs ≡ None
found_none test i [] h = refl
found_none test i (x ∷ xs) h = found_none_from test i xs (test x) (found_none test (i + 1) xs) h

-- where a section is shared, none is opened
opened_known : (settings : Settings) (s : LinkState) (ds : List Definition) (d : Definition) → list_any (share (section_class settings s d)) (map (section_class settings s) ds) ≡ true → opened settings s ds d ≡ partial settings s ds
unfolding partial opened
opened_known settings s ds d known =
    let classes : List Class = map (section_class settings s) ds in
    let same = used-end classes (section_class settings s d) ∙ ap (λ (b : Bool). sections_used classes ++ cond b [] (section_class settings s d ∷ [])) known ∙ append-nil (sections_used classes) in
    ap (λ (cs : List Class). record (partial settings s ds) { sections = sections_from settings s 0 cs (placed_of settings s ds) }) same

-- where the standard section stands among those of some definitions
standard_of : (settings : Settings) (s : LinkState) (ds : List Definition) (standard : StandardSection) → standard_at (partial settings s ds).sections standard ≡ position_from (λ (c : Class). is_same_shared (Some standard) c.shared) 0 (sections_used (map (section_class settings s) ds))
unfolding partial
standard_of settings s ds standard = shared_from settings s standard 0 0 (sections_used (map (section_class settings s) ds)) (placed_of settings s ds)

any_standard : (settings : Settings) (s : LinkState) (ds : List Definition) (class : Class) (standard : StandardSection) → class.shared ≡ Some standard → list_any (λ (c : Class). is_same_shared (Some standard) c.shared) (sections_used (map (section_class settings s) ds)) ≡ list_any (share class) (map (section_class settings s) ds)
any_standard settings s ds class standard e = ap (λ (shared : Option StandardSection). list_any (λ (c : Class). is_same_shared shared c.shared) (sections_used (map (section_class settings s) ds))) (sym e) ∙ any_used class (map (section_class settings s) ds)

partial_format : (settings : Settings) (s : LinkState) (ds : List Definition) → (partial settings s ds).format ≡ s.target.triple.binary_format
unfolding partial
partial_format settings s ds = refl

opened_shared : (settings : Settings) (s : LinkState) (ds : List Definition) (d : Definition) (standard : StandardSection) → IsShareable s.target.triple.binary_format (section_class settings s d) → (section_class settings s d).shared ≡ Some standard → opened settings s ds d ≡ with_standard_section (partial settings s ds) standard
opened_shared settings s ds d standard here e =
    let empty = plain_empty_in s.target.triple.binary_format standard ∙ ap (λ (f : BinaryFormat). empty_standard_in f standard) (sym (partial_format settings s ds)) in
    let class : Class = section_class settings s d in
    let any = any_standard settings s ds class standard e in
    let test : Class → Bool = λ c. is_same_shared (Some standard) c.shared in
    let used : List Class = sections_used (map (section_class settings s) ds) in
    elim (cases_Bool (list_any (share class) (map (section_class settings s) ds))) [
      | inl known ↦ (let found = found_some test 0 used (any ∙ known) in
          opened_known settings s ds d known ∙ ap (with_standard (partial settings s ds) standard) (sym (standard_of settings s ds standard ∙ found.1)))
      | inr new ↦ (let found = found_none test 0 used (any ∙ new) in
          opened_new settings s ds d (empty_standard_in (partial settings s ds).format standard) new (section_empty settings s class ∙ ap empty_class (here standard e) ∙ empty) ∙ ap (with_standard (partial settings s ds) standard) (sym (standard_of settings s ds standard ∙ found)))
    ]

-- -- by what an object offers

opened_by : (settings : Settings) (s : LinkState) (ds : List Definition) (d : Definition) (shared : Option StandardSection) → IsShareable s.target.triple.binary_format (section_class settings s d)
    → (section_class settings s d).shared ≡ shared → opened settings s ds d ≡ with_shared_class (partial settings s ds) (section_class settings s d) shared
opened_by settings s ds d None here e =
    opened_new settings s ds d (empty_class (section_class settings s d)) (none_shares (section_class settings s d) (map (section_class settings s) ds) e) (section_empty settings s (section_class settings s d))
opened_by settings s ds d (Some standard) here e = opened_shared settings s ds d standard here e

-- the section of one more definition is that of its class
pub opened_class : (settings : Settings) (s : LinkState) (ds : List Definition) (d : Definition) → IsShareable s.target.triple.binary_format (section_class settings s d) → opened settings s ds d ≡ with_class (partial settings s ds) (section_class settings s d)
opened_class settings s ds d here = opened_by settings s ds d (section_class settings s d).shared here refl

number_by : (settings : Settings) (s : LinkState) (ds : List Definition) (d : Definition) (shared : Option StandardSection) → (section_class settings s d).shared ≡ shared → shared_place (partial settings s ds) shared ≡ number_behind settings s ds d
unfolding partial
number_by settings s ds d None e = number_new_section settings s ds d e
number_by settings s ds d (Some standard) e = number_shared settings s ds standard (map (section_class settings s) ds) (section_class settings s d) e

-- and so is its number
pub number_class : (settings : Settings) (s : LinkState) (ds : List Definition) (d : Definition) → class_place (partial settings s ds) (section_class settings s d) ≡ number_behind settings s ds d
number_class settings s ds d = number_by settings s ds d (section_class settings s d).shared refl

-- -- the mark that the linker keeps a section

retained_class : (c : Class) → retained (empty_class (unused_class c)) ≡ record (empty_class c) { retain = true }
retained_class c = refl

marked_by : (o : ObjectData) (c : Class) (shared : Option StandardSection) → shared ≡ None → c.retain ≡ true → with_retain (with_shared_class o (unused_class c) shared) (shared_place o shared) ≡ with_shared_class o c shared
marked_by o c None e marked =
    ap (λ (xs : List SectionData). record o { sections = xs }) (changed_last retained o.sections (empty_class (unused_class c)))
    ∙ ap (λ (b : Bool). record o { sections = o.sections ++ record (empty_class c) { retain = b } ∷ [] }) (sym marked)
marked_by o c (Some standard) e marked = absurd (cc)

-- a class that is marked, by a mark behind the call
pub marked_class : (o : ObjectData) (c : Class) → c.shared ≡ None → c.retain ≡ true → with_retain (with_class o (unused_class c)) (class_place o c) ≡ with_class o c
marked_class o c e marked = marked_by o c c.shared e marked

unmarked_by : (o : ObjectData) (c : Class) (shared : Option StandardSection) → c.retain ≡ false → with_shared_class o (unused_class c) shared ≡ with_shared_class o c shared
unmarked_by o c None unmarked = ap (λ (b : Bool). record o { sections = o.sections ++ record (empty_class c) { retain = b } ∷ [] }) (sym unmarked)
unmarked_by o c (Some standard) unmarked = refl

pub unmarked_class : (o : ObjectData) (c : Class) → c.retain ≡ false → with_class o (unused_class c) ≡ with_class o c
unmarked_class o c unmarked = unmarked_by o c c.shared unmarked
