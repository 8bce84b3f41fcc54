-- Identifiers in order of creation: each is the next number of its kind.
use Rattle.std.proofs.Common.{◌≡◌, ◌≢◌, ℕ, zero, suc, ◌+◌, ◌<◌, ◌≤◌, ◌++◌, ◌∷◌, List, [], true, false, Some, refl, ap, sym, ◌∙◌, arith, inl, inr, eq-eqb}
use Rattle.std.proofs.lemmas.Bool.{cases_Bool}
use Rattle.std.proofs.lemmas.Bool.Decides.{eqb_tells}
use Rattle.std.specs.Prelude.{slice_get}
use Rattle.std.specs.List.{position_or_len, range_with_len}
use Rattle.cranelift_module.specs.declared.identifiers.FuncOrDataId.{FuncOrDataId}
use Rattle.cranelift_module.specs.declared.identifiers.FuncOrDataId.TheVariants.{Func, Data}
use Rattle.cranelift_module.specs.Refusal.{is_same_identifier}
use Rattle.cranelift_object.specs.Kept.{IsNumbered}
use Rattle.cranelift_object.specs.Marking.{functions_in, data_in}
use Rattle.cranelift_object.proofs.SectionLaws.{apart_test}

-- -- one more identifier

pub numbered-function : (f d last_f last_d : ℕ) (ids : List FuncOrDataId) → IsNumbered f d ids last_f last_d → IsNumbered f d (ids ++ Func last_f ∷ []) (last_f + 1) last_d
numbered-function f d last_f last_d [] h = (sym h.0, (ap (λ n. n + 1) h.0, h.1))
numbered-function f d last_f last_d (Func k ∷ ids) h = (h.0, numbered-function (f + 1) d last_f last_d ids h.1)
numbered-function f d last_f last_d (Data k ∷ ids) h = (h.0, numbered-function f (d + 1) last_f last_d ids h.1)

pub numbered-data : (f d last_f last_d : ℕ) (ids : List FuncOrDataId) → IsNumbered f d ids last_f last_d → IsNumbered f d (ids ++ Data last_d ∷ []) last_f (last_d + 1)
numbered-data f d last_f last_d [] h = (sym h.1, (h.0, ap (λ n. n + 1) h.1))
numbered-data f d last_f last_d (Func k ∷ ids) h = (h.0, numbered-data (f + 1) d last_f last_d ids h.1)
numbered-data f d last_f last_d (Data k ∷ ids) h = (h.0, numbered-data f (d + 1) last_f last_d ids h.1)

-- -- the numbers

numbers_rise : (f d last_f last_d : ℕ) (ids : List FuncOrDataId) → IsNumbered f d ids last_f last_d → (f ≤ last_f) × (d ≤ last_d)
numbers_rise f d last_f last_d [] h = (omega (arith, h.0), omega (arith, h.1))
numbers_rise f d last_f last_d (Func k ∷ ids) h = let rest = numbers_rise (f + 1) d last_f last_d ids h.1 in (omega (arith, rest.0), rest.1)
numbers_rise f d last_f last_d (Data k ∷ ids) h = let rest = numbers_rise f (d + 1) last_f last_d ids h.1 in (rest.0, omega (arith, rest.1))

pub function_within : (f d last_f last_d : ℕ) (ids : List FuncOrDataId) (i k : ℕ) → IsNumbered f d ids last_f last_d → slice_get ids i ≡ Some (Func k) → (f ≤ k) × (k < last_f)
function_within f d last_f last_d [] i k h at = absurd (cc)
function_within f d last_f last_d (Func j ∷ ids) zero k h at =
    let same : j ≡ k = cc in
    let rest = numbers_rise (f + 1) d last_f last_d ids h.1 in
    (omega (arith, same, h.0), omega (arith, same, h.0, rest.0))
function_within f d last_f last_d (Data j ∷ ids) zero k h at = absurd (cc)
function_within f d last_f last_d (Func j ∷ ids) (suc i) k h at = let rest = function_within (f + 1) d last_f last_d ids i k h.1 at in (omega (arith, rest.0), rest.1)
function_within f d last_f last_d (Data j ∷ ids) (suc i) k h at = function_within f (d + 1) last_f last_d ids i k h.1 at

pub data_within : (f d last_f last_d : ℕ) (ids : List FuncOrDataId) (i k : ℕ) → IsNumbered f d ids last_f last_d → slice_get ids i ≡ Some (Data k) → (d ≤ k) × (k < last_d)
data_within f d last_f last_d [] i k h at = absurd (cc)
data_within f d last_f last_d (Data j ∷ ids) zero k h at =
    let same : j ≡ k = cc in
    let rest = numbers_rise f (d + 1) last_f last_d ids h.1 in
    (omega (arith, same, h.0), omega (arith, same, h.0, rest.1))
data_within f d last_f last_d (Func j ∷ ids) zero k h at = absurd (cc)
data_within f d last_f last_d (Func j ∷ ids) (suc i) k h at = data_within (f + 1) d last_f last_d ids i k h.1 at
data_within f d last_f last_d (Data j ∷ ids) (suc i) k h at = let rest = data_within f (d + 1) last_f last_d ids i k h.1 at in (omega (arith, rest.0), rest.1)

-- -- the place of an identifier

same_itself : (id : FuncOrDataId) → is_same_identifier id id ≡ true
same_itself (Func k) = eq-eqb k k refl
same_itself (Data k) = eq-eqb k k refl

function_later : (f d last_f last_d : ℕ) (ids : List FuncOrDataId) (i : ℕ) (id : FuncOrDataId) → IsNumbered (f + 1) d ids last_f last_d → slice_get ids i ≡ Some id → is_same_identifier id (Func f) ≡ false
function_later f d last_f last_d ids i (Func k) h at =
    let above = (function_within (f + 1) d last_f last_d ids i k h at).0 in
    apart_test k f (λ e. absurd (omega (arith, above, e)))
function_later f d last_f last_d ids i (Data k) h at = refl

data_later : (f d last_f last_d : ℕ) (ids : List FuncOrDataId) (i : ℕ) (id : FuncOrDataId) → IsNumbered f (d + 1) ids last_f last_d → slice_get ids i ≡ Some id → is_same_identifier id (Data d) ≡ false
data_later f d last_f last_d ids i (Func k) h at = refl
data_later f d last_f last_d ids i (Data k) h at =
    let above = (data_within f (d + 1) last_f last_d ids i k h at).0 in
    apart_test k d (λ e. absurd (omega (arith, above, e)))

-- an identifier is found where it stands
pub place_is : (f d last_f last_d : ℕ) (ids : List FuncOrDataId) (i : ℕ) (id : FuncOrDataId) → IsNumbered f d ids last_f last_d → slice_get ids i ≡ Some id → position_or_len (is_same_identifier id) ids ≡ i
place_is f d last_f last_d [] i id h at = absurd (cc)
place_is f d last_f last_d (y ∷ ids) zero id h at =
    let same : y ≡ id = cc in
    rw (same, same_itself id) refl
place_is f d last_f last_d (Func k ∷ ids) (suc i) id h at =
    rw (h.0, function_later f d last_f last_d ids i id h.1 at, place_is (f + 1) d last_f last_d ids i id h.1 at) (omega arith)
place_is f d last_f last_d (Data k ∷ ids) (suc i) id h at =
    rw (h.0, data_later f d last_f last_d ids i id h.1 at, place_is f (d + 1) last_f last_d ids i id h.1 at) (omega arith)

pub same_is : (a b : FuncOrDataId) → is_same_identifier a b ≡ true → a ≡ b
same_is (Func a) (Func b) h = elim (eqb_tells a b) [ inl e ↦ ap (λ n. Func n) e.1 | inr e ↦ absurd (let k : false ≡ true = sym e.0 ∙ h in cc) ]
same_is (Data a) (Data b) h = elim (eqb_tells a b) [ inl e ↦ ap (λ n. Data n) e.1 | inr e ↦ absurd (let k : false ≡ true = sym e.0 ∙ h in cc) ]
same_is (Func a) (Data b) h = absurd (cc)
same_is (Data a) (Func b) h = absurd (cc)

-- no identifier stands twice
pub places_apart : (f d last_f last_d : ℕ) (ids : List FuncOrDataId) (i r : ℕ) (y id : FuncOrDataId) → IsNumbered f d ids last_f last_d → slice_get ids i ≡ Some y → slice_get ids r ≡ Some id → i ≢ r → is_same_identifier y id ≡ false
places_apart f d last_f last_d ids i r y id h at there ne =
    elim (cases_Bool (is_same_identifier y id)) [
      | inl same ↦ absurd (ne (sym (place_is f d last_f last_d ids i y h at) ∙ ap (λ (x : FuncOrDataId). position_or_len (is_same_identifier x) ids) (same_is y id same) ∙ place_is f d last_f last_d ids r id h there))
      | inr apart ↦ apart
    ]

-- each function stands somewhere
pub function_stands : (f d last_f last_d : ℕ) (ids : List FuncOrDataId) (k : ℕ) → IsNumbered f d ids last_f last_d → f ≤ k → k < last_f → (r : ℕ) × (slice_get ids r ≡ Some (Func k))
function_stands f d last_f last_d [] k h least most = absurd (omega (arith, h.0, least, most))
function_stands f d last_f last_d (Data j ∷ ids) k h least most = let rest = function_stands f (d + 1) last_f last_d ids k h.1 least most in (suc rest.0, rest.1)
function_stands f d last_f last_d (Func j ∷ ids) k h least most =
    elim (eqb_tells k f) [
      | inl e ↦ (0, ap (λ n. Some (Func n)) (h.0 ∙ sym e.1))
      | inr e ↦ (let rest = function_stands (f + 1) d last_f last_d ids k h.1 (above f k least e.1) most in (suc rest.0, rest.1))
    ] where
      above : (f k : ℕ) → f ≤ k → k ≢ f → f + 1 ≤ k
      above f k least ne = omega (arith, least, ne)

-- each data object stands somewhere
pub data_stands : (f d last_f last_d : ℕ) (ids : List FuncOrDataId) (k : ℕ) → IsNumbered f d ids last_f last_d → d ≤ k → k < last_d → (r : ℕ) × (slice_get ids r ≡ Some (Data k))
data_stands f d last_f last_d [] k h least most = absurd (omega (arith, h.1, least, most))
data_stands f d last_f last_d (Func j ∷ ids) k h least most = let rest = data_stands (f + 1) d last_f last_d ids k h.1 least most in (suc rest.0, rest.1)
data_stands f d last_f last_d (Data j ∷ ids) k h least most =
    elim (eqb_tells k d) [
      | inl e ↦ (0, ap (λ n. Some (Data n)) (h.0 ∙ sym e.1))
      | inr e ↦ (let rest = data_stands f (d + 1) last_f last_d ids k h.1 (above d k least e.1) most in (suc rest.0, rest.1))
    ] where
      above : (d k : ℕ) → d ≤ k → k ≢ d → d + 1 ≤ k
      above d k least ne = omega (arith, least, ne)

-- -- the numbers of one kind

pub functions_in-append : (xs ys : List FuncOrDataId) → functions_in (xs ++ ys) ≡ functions_in xs ++ functions_in ys
functions_in-append [] ys = refl
functions_in-append (Func k ∷ xs) ys = ap (λ ns. k ∷ ns) (functions_in-append xs ys)
functions_in-append (Data k ∷ xs) ys = functions_in-append xs ys

pub data_in-append : (xs ys : List FuncOrDataId) → data_in (xs ++ ys) ≡ data_in xs ++ data_in ys
data_in-append [] ys = refl
data_in-append (Func k ∷ xs) ys = data_in-append xs ys
data_in-append (Data k ∷ xs) ys = ap (λ ns. k ∷ ns) (data_in-append xs ys)

-- the numbers of all functions, and of all data objects
pub functions_numbered : (f d n last_f last_d : ℕ) (ids : List FuncOrDataId) → IsNumbered f d ids last_f last_d → last_f ≡ f + n → functions_in ids ≡ range_with_len f n
functions_numbered f d zero last_f last_d [] h e = refl
functions_numbered f d (suc n) last_f last_d [] h e = absurd (omega (arith, h.0, e))
functions_numbered f d zero last_f last_d (Func k ∷ ids) h e = absurd (let rise = numbers_rise (f + 1) d last_f last_d ids h.1 in omega (arith, rise.0, e))
functions_numbered f d (suc n) last_f last_d (Func k ∷ ids) h e = rw (h.0, functions_numbered (f + 1) d n last_f last_d ids h.1 (omega (arith, e))) refl
functions_numbered f d n last_f last_d (Data k ∷ ids) h e = functions_numbered f (d + 1) n last_f last_d ids h.1 e

pub data_numbered : (f d n last_f last_d : ℕ) (ids : List FuncOrDataId) → IsNumbered f d ids last_f last_d → last_d ≡ d + n → data_in ids ≡ range_with_len d n
data_numbered f d zero last_f last_d [] h e = refl
data_numbered f d (suc n) last_f last_d [] h e = absurd (omega (arith, h.1, e))
data_numbered f d n last_f last_d (Func k ∷ ids) h e = data_numbered (f + 1) d n last_f last_d ids h.1 e
data_numbered f d zero last_f last_d (Data k ∷ ids) h e = absurd (let rise = numbers_rise f (d + 1) last_f last_d ids h.1 in omega (arith, rise.1, e))
data_numbered f d (suc n) last_f last_d (Data k ∷ ids) h e = rw (h.0, data_numbered f (d + 1) n last_f last_d ids h.1 (omega (arith, e))) refl
