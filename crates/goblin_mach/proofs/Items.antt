-- The items of a table, one after the other.
use Rattle.std.proofs.Common.{◌≡◌, ℕ, zero, suc, ◌+◌, ◌-◌, ◌<◌, ◌≤◌, min, nat_lt, Bool, true, false, cond, List, [], ◌∷◌, ◌++◌, length, map, Result, Ok, Err, refl, ap, sym, ◌∙◌, append-nil, length-append, arith}
use Rattle.std.proofs.lemmas.List.{length-map}
use Rattle.std.proofs.lemmas.List.FromFn.{length-map-range_with_len}
use Rattle.std.proofs.lemmas.Bool.{lt-ltb, ltb-true, ltb-false}
use Rattle.goblin_mach.specs.declared.fat.FatArch.{FatArch}
use Rattle.goblin_mach.specs.declared.mach_error.Error.{Error}
use Rattle.goblin_mach.specs.declared.mach_error.Error.TheVariants.{BufferTooShort}
use Rattle.goblin_mach.specs.FatTable.{arch_at, whole_entries, arches_from, items_from, fat_arches, fat_items, place_of_arch, ExplainsTable}
use Rattle.goblin_mach.specs.FatFile.{FatFile}
use Rattle.std.specs.List.{range_with_len}

map-range_next : (b : List ℕ) (k n : ℕ) → 0 < n → map (arch_at b) (range_with_len k n) ≡ arch_at b k ∷ map (arch_at b) (range_with_len (k + 1) (n - 1))
map-range_next b k zero h = absurd (omega arith)
map-range_next b k (suc n) h = let e : suc n - 1 ≡ n = omega arith in rw e refl

-- an entry that the file has whole is the next item
pub item_next : (b : List ℕ) (k n : ℕ) → k < n → place_of_arch (k + 1) ≤ length b → items_from b k n ≡ Ok (arch_at b k) ∷ items_from b (k + 1) n
unfolding items_from arches_from
item_next b k n h l =
    let w : k < whole_entries b = omega arith in
    let left : 0 < min n (whole_entries b) - k = omega arith in
    let next : (min n (whole_entries b) - k) - 1 ≡ min n (whole_entries b) - (k + 1) = omega arith in
    rw (map-range_next b k (min n (whole_entries b) - k) left, next) refl

-- where all were given, none is left
pub items_end : (b : List ℕ) (k : ℕ) → k ≤ whole_entries b → items_from b k k ≡ []
unfolding items_from arches_from
items_end b k h =
    let none : min k (whole_entries b) - k ≡ 0 = omega arith in
    let test : nat_lt (whole_entries b) k ≡ false = grind arith in
    rw (none, test) refl

-- an entry that the file doesn't have whole is an error, and the last item
pub item_missing : (b : List ℕ) (k n : ℕ) → k < n → k ≤ whole_entries b → length b < place_of_arch (k + 1) → items_from b k n ≡ Err BufferTooShort ∷ items_from b k k
unfolding items_from arches_from
item_missing b k n h w l =
    let at_end : whole_entries b ≡ k = omega arith in
    let none : min n (whole_entries b) - k ≡ 0 = omega arith in
    let test : nat_lt (whole_entries b) n ≡ true = lt-ltb (whole_entries b) n (omega (arith, at_end)) in
    rw (items_end b k w, none, test) refl

-- entries alone are all items only where no error stands behind them
pub all_given : {X E : Type 0} (xs ys : List X) (b : Bool) (e : E) → map Ok xs ≡ map Ok ys ++ cond b (Err e ∷ []) [] → (b ≡ false) × (xs ≡ ys)
all_given [] [] true e h = absurd (cc)
all_given [] [] false e h = (refl, refl)
all_given [] (y ∷ ys) b e h = absurd (cc)
all_given (x ∷ xs) [] true e h = absurd (cc)
all_given (x ∷ xs) [] false e h = absurd (cc)
all_given {X} {E} (x ∷ xs) (y ∷ ys) b e h =
    let same : x ≡ y = cc in
    let tails : map {B = Result X E} Ok xs ≡ map Ok ys ++ cond b (Err e ∷ []) [] = cc in
    let (test, rest) = all_given xs ys b e tails in
    (test, cc)

-- an error among the items is the one behind the entries
pub error_given : {X E : Type 0} (xs ys : List X) (b : Bool) (e d : E) (rest : List (Result X E)) → map Ok xs ++ (Err d ∷ rest) ≡ map Ok ys ++ cond b (Err e ∷ []) [] → (b ≡ true) × (d ≡ e)
error_given [] [] true e d rest h = (refl, cc)
error_given [] [] false e d rest h = absurd (cc)
error_given [] (y ∷ ys) b e d rest h = absurd (cc)
error_given (x ∷ xs) [] true e d rest h = absurd (cc)
error_given (x ∷ xs) [] false e d rest h = absurd (cc)
error_given {X} {E} (x ∷ xs) (y ∷ ys) b e d rest h =
    let tails : map {B = Result X E} Ok xs ++ (Err d ∷ rest) ≡ map Ok ys ++ cond b (Err e ∷ []) [] = cc in
    error_given xs ys b e d rest tails

-- the entries are all that are asked for
pub record AllGiven (fat : FatFile) (xs : List FatArch) : Type 0 where
  pub entries : xs ≡ fat_arches fat
  pub whole : fat.narches ≤ whole_entries fat.bytes

pub all_items : (fat : FatFile) (xs : List FatArch) (left : List (Result FatArch Error)) → left ≡ [] → map Ok xs ++ left ≡ fat_items fat → AllGiven fat xs
unfolding items_from
all_items fat xs left none items =
    let (test, same) = all_given xs (fat_arches fat) (nat_lt (whole_entries fat.bytes) fat.narches) BufferTooShort (sym (append-nil (map Ok xs)) ∙ ap (λ l. map Ok xs ++ l) (sym none) ∙ items) in
    record { entries = same; whole = ltb-false (whole_entries fat.bytes) fat.narches test }

-- an error comes where the file ends before the last entry
pub error_item : (fat : FatFile) (xs : List FatArch) (left rest : List (Result FatArch Error)) (d : Error) → left ≡ Err d ∷ rest → map Ok xs ++ left ≡ fat_items fat → ExplainsTable fat d
unfolding items_from
error_item fat xs left rest d next items =
    let (test, same) = error_given xs (fat_arches fat) (nat_lt (whole_entries fat.bytes) fat.narches) BufferTooShort d rest (ap (λ l. map Ok xs ++ l) (sym next) ∙ items) in
    let short : whole_entries fat.bytes < fat.narches = ltb-true (whole_entries fat.bytes) fat.narches test in
    rw same short

error_length : (b : Bool) (e : Error) → let none : List (Result FatArch Error) = [] in length (cond b (Err e ∷ none) none) ≤ 1
error_length true e = omega arith
error_length false e = omega arith

-- an iteration has one item more than the file has entries, at most
pub length-items : (fat : FatFile) → length (fat_items fat) ≤ whole_entries fat.bytes + 1
unfolding items_from arches_from
length-items fat =
    let entries = length-map-range_with_len (arch_at fat.bytes) 0 (min fat.narches (whole_entries fat.bytes) - 0) in
    let given = fat_arches fat in
    omega (arith, length-append (map {B = Result FatArch Error} Ok given) (cond (nat_lt (whole_entries fat.bytes) fat.narches) (Err BufferTooShort ∷ []) []), length-map {B = Result FatArch Error} given Ok, entries, error_length (nat_lt (whole_entries fat.bytes) fat.narches) BufferTooShort)
