-- Whether slices can be put to others.
use Rattle.std.proofs.Common.{◌≡◌, ℕ, ◌+◌, ◌^◌, ◌<◌, ◌≤◌, nat_le, Bool, true, false, List, [], ◌∷◌, ◌++◌, length, map, find, Option, Some, None, option_map, refl, ap, sym, ◌∙◌, arith, if◌then◌else◌}
use Rattle.std.specs.List.{AllByRecursion, list_any}
use Rattle.std.proofs.lemmas.List.{length-map}
use Rattle.std.proofs.lemmas.Bool.{le-leb, lt-leb, leb-false}
use Rattle.fat_macho.specs.Adding.{TellsAdd}
use Rattle.fat_macho.specs.Input.{FatRefusal, too_many, too_large, refusal_told, refuse_if, first_cause, duplicate_of, is_among, joining_cause}
use Rattle.fat_macho.specs.Layout.{total_of}
use Rattle.fat_macho.specs.ShapeView.{shape_view}
use Rattle.fat_macho.specs.Slices.{Shape, share_arch, stands_before, by_shape, all_inserted, in_order_by, shapes_in_order}
use Rattle.fat_macho.specs.declared.error.Error.{Error}
use Rattle.fat_macho.specs.declared.error.Error.TheVariants.{Io, Goblin, NotFatBinary, InvalidMachO, DuplicatedArch, TooMany, TooLarge, OutOfMemory}
use Rattle.fat_macho.specs.declared.shape.SliceShape.{SliceShape}
use Rattle.fat_macho.proofs.InputLaws.{behind_none, here_some, not_refused, refused_if, share_turn}
use Rattle.fat_macho.proofs.OrderLaws.{Differ, AllDiffer, put_in, seen_in_order, seen_all_inserted}
use Rattle.fat_macho.proofs.Pairs.{none_passes, all_map}

tells : (e : Error) (cause : Option FatRefusal) (r : FatRefusal) → refusal_told e ≡ Some r → cause ≡ Some r → TellsAdd e cause
tells (Io c) cause r told is = absurd (cc)
tells (Goblin c) cause r told is = absurd (cc)
tells NotFatBinary cause r told is = absurd (cc)
tells OutOfMemory cause r told is = tt
tells (InvalidMachO c) cause r told is = is ∙ sym told
tells (DuplicatedArch c) cause r told is = is ∙ sym told
tells (TooMany c) cause r told is = is ∙ sym told
tells (TooLarge c) cause r told is = is ∙ sym told

-- the causes behind a duplicate, and behind the count
abbrev many_on : List Shape → List Shape → Option FatRefusal
many_on held new = refuse_if (nat_le (2 ^ 32) (length held + length new)) (too_many (length held + length new))

abbrev large_on : List Shape → List Shape → Option FatRefusal
large_on held new = refuse_if (nat_le (2 ^ 63) (total_of (shapes_in_order (held ++ new)))) (too_large (total_of (shapes_in_order (held ++ new))))

behind_duplicate : (held new : List Shape) → find (is_among held) new ≡ None → joining_cause held new ≡ first_cause (many_on held new ∷ large_on held new ∷ [])
unfolding joining_cause
behind_duplicate held new none = behind_none (option_map duplicate_of (find (is_among held) new)) (many_on held new ∷ large_on held new ∷ []) (ap (option_map duplicate_of) none)

behind_many : (held new : List Shape) → find (is_among held) new ≡ None → length held + length new < 2 ^ 32 → joining_cause held new ≡ first_cause (large_on held new ∷ [])
behind_many held new none few =
    behind_duplicate held new none ∙ behind_none (many_on held new) (large_on held new ∷ []) (not_refused (nat_le (2 ^ 32) (length held + length new)) _ (lt-leb (2 ^ 32) (length held + length new) few))

pub duplicate_tells : (held new : List Shape) (shape : Shape) (e : Error) → find (is_among held) new ≡ Some shape → refusal_told e ≡ Some (duplicate_of shape) → TellsAdd e (joining_cause held new)
unfolding joining_cause
duplicate_tells held new shape e found told =
    tells e (joining_cause held new) (duplicate_of shape) told
    (here_some (option_map duplicate_of (find (is_among held) new)) (many_on held new ∷ large_on held new ∷ []) (duplicate_of shape) (ap (option_map duplicate_of) found))

pub many_tells : (held new : List Shape) (count : ℕ) → find (is_among held) new ≡ None → count ≡ length held + length new → 2 ^ 32 ≤ count
    → joining_cause held new ≡ Some (too_many count)
many_tells held new count none is many =
    behind_duplicate held new none
    ∙ here_some (many_on held new) (large_on held new ∷ []) (too_many count)
    (refused_if (nat_le (2 ^ 32) (length held + length new)) (too_many (length held + length new)) (le-leb (2 ^ 32) (length held + length new) (omega (arith, is, many))) ∙ ap (λ n. Some (too_many n)) (sym is))

pub large_tells : (held new : List Shape) (amount : ℕ) → find (is_among held) new ≡ None → length held + length new < 2 ^ 32 → amount ≡ total_of (shapes_in_order (held ++ new)) → 2 ^ 63 ≤ amount
    → joining_cause held new ≡ Some (too_large amount)
large_tells held new amount none few is large =
    behind_many held new none few
    ∙ here_some (large_on held new) [] (too_large amount)
    (refused_if (nat_le (2 ^ 63) (total_of (shapes_in_order (held ++ new)))) (too_large (total_of (shapes_in_order (held ++ new)))) (le-leb (2 ^ 63) (total_of (shapes_in_order (held ++ new))) (omega (arith, is, large))) ∙ ap (λ n. Some (too_large n)) (sym is))

pub none_tells : (held new : List Shape) (amount : ℕ) → find (is_among held) new ≡ None → length held + length new < 2 ^ 32 → amount ≡ total_of (shapes_in_order (held ++ new)) → amount < 2 ^ 63
    → joining_cause held new ≡ None
none_tells held new amount none few is short =
    behind_many held new none few
    ∙ behind_none (large_on held new) [] (not_refused (nat_le (2 ^ 63) (total_of (shapes_in_order (held ++ new)))) _ (lt-leb (2 ^ 63) (total_of (shapes_in_order (held ++ new))) (omega (arith, is, short))))

-- -- the total

found_by : {A : Type 0} (t : Bool) (x : A) (rest : Option A) → (if t then Some x else rest) ≡ None → t ≡ false
found_by true x rest e = absurd (cc)
found_by false x rest e = refl

rest_by : {A : Type 0} (t : Bool) (x : A) (rest : Option A) → (if t then Some x else rest) ≡ None → rest ≡ None
rest_by true x rest e = absurd (cc)
rest_by false x rest e = e

pub none_among : (held : List Shape) (new : List Shape) → find (is_among held) new ≡ None → AllDiffer (λ a. a) held new
none_among held [] e = tt
none_among held (y ∷ new) e =
    let free : is_among held y ≡ false = found_by (is_among held y) y (find (is_among held) new) e in
    (all_map (λ x. share_arch y x ≡ false) (λ x. Differ x y) held (λ x d. share_turn x y ∙ d) (none_each held (share_arch y) free), none_among held new (rest_by (is_among held y) y (find (is_among held) new) e))
  where
    none_each : (xs : List Shape) (p : Shape → Bool) → list_any p xs ≡ false → AllByRecursion (λ x. p x ≡ false) xs
    none_each xs p none = none_passes (λ x. x) p xs (ap (list_any p) (map_same xs) ∙ none)
      where
        map_same : (xs : List Shape) → map (λ x. x) xs ≡ xs
        map_same [] = refl
        map_same (x ∷ xs) = ap (λ ys. x ∷ ys) (map_same xs)

pub in_order_of : (held new : List Shape) → in_order_by stands_before held ≡ held → find (is_among held) new ≡ None → all_inserted stands_before new held ≡ shapes_in_order (held ++ new)
unfolding shapes_in_order
in_order_of held new stands none = put_in (λ a. a) held new stands (none_among held new none)

-- what has shapes in order has them in order
pub shapes_stand : {T : Type 0} (shape : T → Shape) (held : List T) → in_order_by (by_shape shape) held ≡ held → in_order_by stands_before (map shape held) ≡ map shape held
shapes_stand shape held stands = sym (seen_in_order shape (λ a. a) held) ∙ ap (map shape) stands

pub joined : {T : Type 0} (shape : T → Shape) (held new : List T) (shapes added both : List SliceShape) → map shape_view shapes ≡ map shape held → map shape_view added ≡ map shape new
    → both ≡ all_inserted (by_shape shape_view) added shapes → map shape_view both ≡ all_inserted stands_before (map shape new) (map shape held)
joined shape held new shapes added both h n is =
    ap (map shape_view) is ∙ seen_all_inserted shape_view (λ a. a) added shapes ∙ ap (λ xs. all_inserted stands_before xs (map shape_view shapes)) n ∙ ap (all_inserted stands_before (map shape new)) h

pub total_is : {T : Type 0} (shape : T → Shape) (held new : List T) (shapes now : List SliceShape) (amount : ℕ) → in_order_by (by_shape shape) held ≡ held → find (is_among (map shape held)) (map shape new) ≡ None
    → now ≡ shapes → map shape_view shapes ≡ all_inserted stands_before (map shape new) (map shape held) → amount ≡ total_of (map shape_view now) → amount ≡ total_of (shapes_in_order (map shape held ++ map shape new))
total_is shape held new shapes now amount stands none same is total =
    total ∙ ap total_of (ap (map shape_view) same ∙ is ∙ in_order_of (map shape held) (map shape new) (shapes_stand shape held stands) none)

pub few_shapes : {T : Type 0} (shape : T → Shape) (held new : List T) → length held + length new < 2 ^ 32 → length (map shape held) + length (map shape new) < 2 ^ 32
few_shapes shape held new few = omega (arith, length-map held shape, length-map new shape, few)

-- -- where there is no cause

first_of_none : (o : Option FatRefusal) (rest : List (Option FatRefusal)) → first_cause (o ∷ rest) ≡ None → o ≡ None
first_of_none None rest e = refl
first_of_none (Some r) rest e = absurd (cc)

rest_of_none : (o : Option FatRefusal) (rest : List (Option FatRefusal)) → first_cause (o ∷ rest) ≡ None → first_cause rest ≡ None
rest_of_none None rest e = e
rest_of_none (Some r) rest e = absurd (cc)

map_none : {A B : Type 0} (f : A → B) (o : Option A) → option_map f o ≡ None → o ≡ None
map_none f None e = refl
map_none f (Some x) e = absurd (cc)

refused_none : (t : Bool) (r : FatRefusal) → refuse_if t r ≡ None → t ≡ false
refused_none true r e = absurd (cc)
refused_none false r e = refl

-- slices that can be put to others
pub record AreAllowed (held new : List Shape) : Type 0 where
  pub none : find (is_among held) new ≡ None
  pub few : length held + length new < 2 ^ 32
  pub short : total_of (shapes_in_order (held ++ new)) < 2 ^ 63

pub allowed : (held new : List Shape) → joining_cause held new ≡ None → AreAllowed held new
unfolding joining_cause
allowed held new e =
    let rest = rest_of_none (option_map duplicate_of (find (is_among held) new)) (many_on held new ∷ large_on held new ∷ []) e in
    let last = rest_of_none (many_on held new) (large_on held new ∷ []) rest in
    record {
      none = map_none duplicate_of (find (is_among held) new) (first_of_none (option_map duplicate_of (find (is_among held) new)) (many_on held new ∷ large_on held new ∷ []) e);
      few = leb-false (2 ^ 32) (length held + length new) (refused_none (nat_le (2 ^ 32) (length held + length new)) _ (first_of_none (many_on held new) (large_on held new ∷ []) rest));
      short = leb-false (2 ^ 63) (total_of (shapes_in_order (held ++ new))) (refused_none (nat_le (2 ^ 63) (total_of (shapes_in_order (held ++ new)))) _ (first_of_none (large_on held new) [] last));
    }
