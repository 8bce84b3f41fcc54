-- Texts that are cut at a separator.
use Rattle.std.proofs.Common.{◌≡◌, ℕ, ◌<◌, false, List, [], ◌∷◌, length, slice_get, Option, Some, None, refl, sym, ◌∙◌, arith, ◌==◌, ap, lt-ltb, ◌+◌, IfSome, Bor}
use Rattle.std.specs.Prelude.{nat_lt, is_some, fold}
use Rattle.std.specs.List.{slice_split, position_or_len, before_first, after_first}
use Rattle.std.proofs.lemmas.List.Splits.{slice_split_first, slice_split_none, length-slice_split}
use Rattle.std.proofs.lemmas.List.Sums.{fails_before_first}
use Rattle.std.proofs.lemmas.List.Elements.{All-from_get_or}
use Rattle.cranelift_module.specs.SectionText.{HasParts, IsCut, parts_between, with_attribute, both_bits, number_named, section_attributes, pieces_of, seen}

pub cut_there : (c : ℕ) (bs part rest : List ℕ) → position_or_len (λ b. b == c) bs < length bs → part ≡ before_first (λ b. b == c) bs → rest ≡ after_first (λ b. b == c) bs
    → slice_split (λ x. x == c) bs ≡ part ∷ slice_split (λ x. x == c) rest
cut_there c bs part rest within before after = rw (before, after) (slice_split_first (λ b. b == c) bs 0 within)

pub cut_nowhere : (c : ℕ) (bs : List ℕ) → position_or_len (λ b. b == c) bs ≡ length bs → slice_split (λ x. x == c) bs ≡ bs ∷ []
cut_nowhere c bs none =
    slice_split_none (λ b. b == c) bs (All-from_get_or (λ b. (b == c) ≡ false) bs 0 (λ i lt. fails_before_first (λ b. b == c) bs i 0 (omega (arith, lt, none))))

nothing_before : (part : List ℕ) (parts : List (List ℕ)) → [] ≡ part ∷ parts → ⊥
nothing_before part parts h = cc

-- without a text there is neither a part nor a text behind it
cut_none : (text part behind : Option (List ℕ)) → text ≡ None → IsCut text part behind → (part ≡ None) × (behind ≡ None)
cut_none text None behind none cut = (refl, cut.last refl)
cut_none text (Some part) behind none cut = absurd (nothing_before part (parts_between 44 behind) (ap (parts_between 44) (sym none) ∙ cut.parts))

goes_on : (part : List ℕ) (text behind : Option (List ℕ)) (parts : List (List ℕ)) → parts_between 44 behind ≡ parts → IsCut text (Some part) behind → parts_between 44 text ≡ part ∷ parts
goes_on part text behind parts same cut = cut.parts ∙ ap (λ l. part ∷ l) same

left_none : (text behind : Option (List ℕ)) → behind ≡ None → IsCut text None behind → parts_between 44 text ≡ []
left_none text behind none cut = cut.parts ∙ ap (parts_between 44) none

some_left : (rest : Option (List ℕ)) → is_some rest ≡ nat_lt 0 (length (parts_between 44 rest))
some_left None = refl
some_left (Some text) = sym (lt-ltb 0 (length (slice_split (λ x. x == 44) text)) (omega (arith, length-slice_split (λ x. x == 44) text)))

many_parts : (a b c d : List ℕ) (parts : List (List ℕ)) → nat_lt 4 (length (a ∷ b ∷ c ∷ d ∷ parts)) ≡ nat_lt 0 (length parts)
many_parts a b c d [] = refl
many_parts a b c d (x ∷ parts) = lt-ltb 4 (length (a ∷ b ∷ c ∷ d ∷ x ∷ parts)) (omega arith) ∙ sym (lt-ltb 0 (length (x ∷ parts)) (omega arith))

-- the parts that three cuts behind the first one give
pub parts_found : (all : List (List ℕ)) (segment : List ℕ) (text name text1 type_name text2 attributes text3 : Option (List ℕ)) → all ≡ segment ∷ parts_between 44 text
    → IsCut text name text1 → IsCut text1 type_name text2 → IsCut text2 attributes text3 → HasParts all segment name type_name attributes (is_some text3)
parts_found all s text None text1 t text2 a text3 e c1 c2 c3 =
    let n2 = cut_none text1 t text2 (c1.last refl) c2 in
    let n3 = cut_none text2 a text3 n2.1 c3 in
    let l = e ∙ ap (λ l. s ∷ l) (left_none text text1 (c1.last refl) c1) in
    record { first = ap (λ l. slice_get l 0) l; second = ap (λ l. slice_get l 1) l; third = ap (λ l. slice_get l 2) l ∙ sym n2.0; fourth = ap (λ l. slice_get l 3) l ∙ sym n3.0; more = ap (λ l. nat_lt 4 (length l)) l ∙ ap is_some (sym n3.1) }
parts_found all s text (Some n) text1 None text2 a text3 e c1 c2 c3 =
    let n3 = cut_none text2 a text3 (c2.last refl) c3 in
    let l = e ∙ ap (λ l. s ∷ l) (goes_on n text text1 [] (left_none text1 text2 (c2.last refl) c2) c1) in
    record { first = ap (λ l. slice_get l 0) l; second = ap (λ l. slice_get l 1) l; third = ap (λ l. slice_get l 2) l; fourth = ap (λ l. slice_get l 3) l ∙ sym n3.0; more = ap (λ l. nat_lt 4 (length l)) l ∙ ap is_some (sym n3.1) }
parts_found all s text (Some n) text1 (Some t) text2 None text3 e c1 c2 c3 =
    let l = e ∙ ap (λ l. s ∷ l) (goes_on n text text1 (t ∷ []) (goes_on t text1 text2 [] (left_none text2 text3 (c3.last refl) c3) c2) c1) in
    record { first = ap (λ l. slice_get l 0) l; second = ap (λ l. slice_get l 1) l; third = ap (λ l. slice_get l 2) l; fourth = ap (λ l. slice_get l 3) l; more = ap (λ l. nat_lt 4 (length l)) l ∙ ap is_some (sym (c3.last refl)) }
parts_found all s text (Some n) text1 (Some t) text2 (Some a) text3 e c1 c2 c3 =
    let l = e ∙ ap (λ l. s ∷ l) (goes_on n text text1 (t ∷ a ∷ parts_between 44 text3) (goes_on t text1 text2 (a ∷ parts_between 44 text3) c3.parts c2) c1) in
    record { first = ap (λ l. slice_get l 0) l; second = ap (λ l. slice_get l 1) l; third = ap (λ l. slice_get l 2) l; fourth = ap (λ l. slice_get l 3) l; more = ap (λ l. nat_lt 4 (length l)) l ∙ many_parts s n t a (parts_between 44 text3) ∙ sym (some_left text3) }

-- an attribute that isn't known makes the whole unknown
none_stays : (names : List (List ℕ)) → fold with_attribute None names ≡ None
none_stays [] = refl
none_stays (name ∷ names) = none_stays names

pub attribute_unknown : (bits : ℕ) (text : Option (List ℕ)) (pieces name : List ℕ) (behind : List (List ℕ)) (total : Option ℕ) → text ≡ Some pieces → parts_between 43 (Some pieces) ≡ name ∷ behind
    → number_named section_attributes name ≡ None → fold with_attribute (Some bits) (pieces_of text) ≡ total → None ≡ total
attribute_unknown bits text pieces name behind total is cut unknown whole =
    sym (none_stays behind) ∙ ap (λ o. fold with_attribute (both_bits (Some bits) o) behind) (sym unknown) ∙ ap (λ l. fold with_attribute (Some bits) l) (sym cut) ∙ ap (λ o. fold with_attribute (Some bits) (pieces_of o)) (sym is) ∙ whole

-- how much of a text is left
abbrev pub left_of : Option (List ℕ) → ℕ
left_of None = 0
left_of (Some text) = length text + 1

pub less_left : (text : Option (List ℕ)) (behind : Option (Bor (List ℕ))) (pieces : List ℕ) → text ≡ Some pieces → IfSome behind (λ rest. length rest.now < length pieces) → left_of (seen behind) < left_of text
less_left text None pieces is shorter = rw is (omega arith)
less_left text (Some rest) pieces is shorter = rw is (omega (arith, shorter))

pub same_some : (text : Option (Bor (List ℕ))) → is_some (seen text) ≡ is_some text
same_some None = refl
same_some (Some text) = refl
