-- Numbers that are compared one by one.
use Rattle.std.proofs.Common.{◌≡◌, ℕ, ◌<◌, ◌≤◌, List, [], ◌∷◌, ◌++◌, Bool, true, false, map, length, take, get_or, slice_get, Some, refl, ap, sym, ◌∙◌, arith, append_assoc, append-nil, length-take-le}
use Rattle.std.specs.List.{enumerate_from}
use Rattle.std.proofs.lemmas.List.{length-map}
use Rattle.std.proofs.lemmas.List.FromFn.{length-enumerate_from}
use Rattle.std.proofs.lemmas.Option.{get_or_from_slice_get}
use Rattle.object_core.specs.Object.{SymbolData, SectionBody, ObjectData, body_of}
use Rattle.object_macho.specs.Compared.{StandAt}
use Rattle.object_macho.specs.Plan.{row_of, rows_of, section_order}
use Rattle.object_macho.proofs.Behind.{take_all}
use Rattle.object_macho.proofs.SectionLoops.{count_order}
use Rattle.object_macho.proofs.Pushing.{next_given, whole}

pub length-rows_of : (ss : List SymbolData) → length (rows_of ss) ≡ length ss
length-rows_of ss = length-map (enumerate_from 0 ss) (row_of ss) ∙ length-enumerate_from 0 ss

-- -- a whole list

-- the next number of a list that is right
pub next_kept : (given left rest all : List ℕ) (at y : ℕ) → take at given ++ left ≡ all → left ≡ y ∷ rest → at ≤ length given → given ≡ all → get_or given at 0 ≡ y
next_kept given left rest all at y h l room e = get_or_from_slice_get given at y 0 (next_given given left rest all at y h l room e)

-- a list that is right up to its end
pub given_whole : (given left all : List ℕ) (n : ℕ) → take n given ++ left ≡ all → left ≡ [] → length given ≡ n → given ≡ all
given_whole given left all n h l e = sym (take_all given) ∙ ap (λ k. take k given) e ∙ whole (take n given) left all h l

-- -- a part of a list

-- where the numbers stand in the list, the next of them is there
pub next_there : (given left rest numbers tail : List ℕ) (from at y : ℕ) → take at given ++ left ≡ take from given ++ numbers → left ≡ y ∷ rest → at ≤ length given → given ≡ take from given ++ (numbers ++ tail) → slice_get given at ≡ Some y
next_there given left rest numbers tail from at y h l room e =
    let joined = sym (append_assoc (take at given) left tail) ∙ ap (λ xs. xs ++ tail) h ∙ append_assoc (take from given) numbers tail ∙ sym e in
    next_given given (left ++ tail) (rest ++ tail) given at y joined (ap (λ xs. xs ++ tail) l) room refl

pub same_there : (given : List ℕ) (at y : ℕ) → slice_get given at ≡ Some y → get_or given at 0 ≡ y
same_there given at y h = get_or_from_slice_get given at y 0 h

pub part_done : (given left numbers : List ℕ) (from at : ℕ) → at ≤ length given → take at given ++ left ≡ take from given ++ numbers → left ≡ [] → StandAt given from at numbers
part_done given left numbers from at room h l = record { room = room; front = whole (take at given) left (take from given ++ numbers) h l }

-- both kinds stand in the list, one behind the other, and nothing else
pub stand_whole : (given first second : List ℕ) (next end : ℕ) → StandAt given 0 next first → StandAt given next end second → end ≡ length given → given ≡ first ++ second
stand_whole given first second next end f s e = sym (take_all given) ∙ ap (λ n. take n given) (sym e) ∙ s.front ∙ ap (λ xs. xs ++ second) f.front

pub stand_second : (given first second : List ℕ) (next : ℕ) → StandAt given 0 next first → given ≡ first ++ second → given ≡ take next given ++ (second ++ [])
stand_second given first second next f e = e ∙ ap (λ xs. xs ++ second) (sym f.front) ∙ ap (λ xs. take next given ++ xs) (sym (append-nil second))

-- the second kind ends where the list does
pub stand_end : (given first second : List ℕ) (next end : ℕ) → StandAt given 0 next first → StandAt given next end second → given ≡ first ++ second → end ≡ length given
stand_end given first second next end f s e =
    let front : take end given ≡ given = s.front ∙ ap (λ xs. xs ++ second) f.front ∙ sym e in
    omega (arith, s.room, ap length front, length-take-le end given s.room)

-- an address for each section of the order
pub room_for : (addresses order : List ℕ) (bodies : List SectionBody) (o : ObjectData) (n : ℕ) → bodies ≡ map body_of o.sections → length addresses ≡ length bodies → order ≡ section_order o.sections → n < length order → n < length addresses
room_for addresses order bodies o n b e s h = omega (arith, h, e, ap length b, length-map o.sections body_of, ap length s, count_order o)

pub not_chosen : {P : Type 0} {b : Bool} → b ≡ false → b ≡ true → P
not_chosen fails passes = absurd (cc)
