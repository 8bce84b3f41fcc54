-- Lists of bytes: what keeps each number below 256.
use Rattle.std.proofs.Common.{◌≡◌, ℕ, zero, suc, ◌-◌, ◌/◌, ◌%◌, ◌<◌, ◌++◌, ◌∷◌, List, [], Bool, true, false, map, drop, replicate, slice_get, Some, refl, arith, subst, ◌&&◌}
use Rattle.std.proofs.lemmas.Bool.{ltb-true}
use Rattle.std.proofs.lemmas.List.Elements.{All-nil, All-cons, All-append, All-head, All-tail, All-take, All-drop, All-replicate, All-weaker}
use Rattle.std.specs.Prelude.{nat_lt, flat_map, slice_index_or}
use Rattle.std.specs.Int.{next_multiple_of}
use Rattle.std.specs.List.{All, list_all}
use Rattle.byte_core.specs.declared.fields.Field.{Field}
use Rattle.byte_core.specs.Number.{little_bytes, bytes_at}
use Rattle.byte_core.specs.Fields.{field_bytes}
use Rattle.byte_core.specs.LaidOut.{Aligned, laid_out, end_behind}
use Rattle.byte_core.specs.Strings.{with_zero, string_bytes_of}

abbrev pub IsByte : ℕ → Type 0
IsByte x = x < 256

abbrev pub AreBytes : List ℕ → Type 0
AreBytes xs = All IsByte xs

-- -- lists

pub zero_is : IsByte 0
zero_is = omega arith

pub bytes-zeros : (n : ℕ) → AreBytes (replicate n 0)
bytes-zeros n = All-replicate IsByte n 0 zero_is

both : (a b : Bool) → (a && b) ≡ true → (a ≡ true) × (b ≡ true)
both true true h = (refl, refl)
both true false h = absurd (cc)
both false b h = absurd (cc)

is_byte : (x : ℕ) → nat_lt x 256 ≡ true → IsByte x
is_byte x h = ltb-true x 256 h

-- a text whose letters are seen
pub decided : (xs : List ℕ) → list_all (λ x. nat_lt x 256) xs ≡ true → AreBytes xs
decided [] h = All-nil IsByte
decided (x ∷ xs) h = let h = both (nat_lt x 256) (list_all (λ x. nat_lt x 256) xs) h in All-cons IsByte x xs (is_byte x h.0) (decided xs h.1)

pub every : {X : Type 0} (P : X → Type 0) → ((x : X) → P x) → (xs : List X) → All P xs
every P f [] = All-nil P
every P f (x ∷ xs) = All-cons P x xs (f x) (every P f xs)

pub all_front : {X : Type 0} (P : X → Type 0) (xs ys : List X) → All P (xs ++ ys) → All P xs
all_front P [] ys h = All-nil P
all_front P (x ∷ xs) ys h = All-cons P x xs (All-head P x (xs ++ ys) h) (all_front P xs ys (All-tail P x (xs ++ ys) h))

pub all_back : {X : Type 0} (P : X → Type 0) (xs ys : List X) → All P (xs ++ ys) → All P ys
all_back P [] ys h = h
all_back P (x ∷ xs) ys h = all_back P xs ys (All-tail P x (xs ++ ys) h)

pub all_mapped : {X Y : Type 0} (P : Y → Type 0) (f : X → Y) (xs : List X) → All P (map f xs) → All (λ x. P (f x)) xs
all_mapped P f [] h = All-nil (λ x. P (f x))
all_mapped P f (x ∷ xs) h = All-cons (λ y. P (f y)) x xs (All-head P (f x) (map f xs) h) (all_mapped P f xs (All-tail P (f x) (map f xs) h))

pub all_each : {X : Type 0} (P : X → Type 0) (xs : List X) → ((k : ℕ) (x : X) → slice_get xs k ≡ Some x → P x) → All P xs
all_each P [] h = All-nil P
all_each P (x ∷ xs) h = All-cons P x xs (h 0 x refl) (all_each P xs (λ k y e. h (suc k) y e))

pub bytes-flat_map : {X : Type 0} (f : X → List ℕ) (xs : List X) → All (λ x. AreBytes (f x)) xs → AreBytes (flat_map f xs)
bytes-flat_map f [] h = All-nil IsByte
bytes-flat_map f (x ∷ xs) h = All-append IsByte (f x) (flat_map f xs) (All-head (λ y. AreBytes (f y)) x xs h) (bytes-flat_map f xs (All-tail (λ y. AreBytes (f y)) x xs h))

pub bytes-index : (xs : List ℕ) (k : ℕ) → AreBytes xs → IsByte (slice_index_or xs k 0)
bytes-index [] k h = zero_is
bytes-index (x ∷ xs) zero h = All-head IsByte x xs h
bytes-index (x ∷ xs) (suc k) h = bytes-index xs k (All-tail IsByte x xs h)

pub bytes_read : (b : List ℕ) (p n : ℕ) → AreBytes b → AreBytes (bytes_at b p n)
unfolding bytes_at
bytes_read b p n h = All-take IsByte n (drop p b) (All-drop IsByte p b h)

-- -- numbers

pub bytes-little_bytes : (w n : ℕ) → AreBytes (little_bytes w n)
unfolding little_bytes
bytes-little_bytes zero n = All-nil IsByte
bytes-little_bytes (suc w) n = All-cons IsByte (n % 256) (little_bytes w (n / 256)) (omega arith) (bytes-little_bytes w (n / 256))

pub bytes-field_bytes : (fs : List Field) → AreBytes (field_bytes fs)
unfolding field_bytes
bytes-field_bytes [] = All-nil IsByte
bytes-field_bytes (f ∷ fs) = All-append IsByte (little_bytes f.width f.value) (field_bytes fs) (bytes-little_bytes f.width f.value) (bytes-field_bytes fs)

-- -- tables of texts

pub bytes-string_bytes_of : (names : List (List ℕ)) → All AreBytes names → AreBytes (string_bytes_of names)
unfolding string_bytes_of
bytes-string_bytes_of names h =
    let last : AreBytes (0 ∷ []) = All-cons IsByte 0 [] zero_is (All-nil IsByte) in
    let ended : All (λ (name : List ℕ). AreBytes (with_zero name)) names = All-weaker AreBytes (λ (name : List ℕ). AreBytes (with_zero name)) (λ name bytes. All-append IsByte name (0 ∷ []) bytes last) names h in
    All-cons IsByte 0 (flat_map with_zero names) zero_is (bytes-flat_map with_zero names ended)

texts_from : (names : List (List ℕ)) → AreBytes (flat_map with_zero names) → All AreBytes names
texts_from [] h = All-nil AreBytes
texts_from (name ∷ names) h =
    let first = all_front IsByte (with_zero name) (flat_map with_zero names) h in
    All-cons AreBytes name names (all_front IsByte name (0 ∷ []) first) (texts_from names (all_back IsByte (with_zero name) (flat_map with_zero names) h))

-- the texts of a table that bytes have are bytes
pub names_from : (b : List ℕ) (names : List (List ℕ)) (p n : ℕ) → AreBytes b → bytes_at b p n ≡ string_bytes_of names → All AreBytes names
unfolding string_bytes_of
names_from b names p n h e = texts_from names (All-tail IsByte 0 (flat_map with_zero names) (subst AreBytes e (bytes_read b p n h)))

-- -- contents at their alignments

abbrev pub HoldsBytes : Aligned → Type 0
HoldsBytes c = AreBytes c.bytes

pub bytes-laid_out : (at : ℕ) (cs : List Aligned) → All HoldsBytes cs → AreBytes (laid_out at cs)
unfolding laid_out
bytes-laid_out at [] h = All-nil IsByte
bytes-laid_out at (c ∷ cs) h =
    let gap : ℕ = next_multiple_of at c.align - at in
    All-append IsByte (replicate gap 0) (c.bytes ++ laid_out (end_behind at c) cs) (bytes-zeros gap) (All-append IsByte c.bytes (laid_out (end_behind at c) cs) (All-head HoldsBytes c cs h) (bytes-laid_out (end_behind at c) cs (All-tail HoldsBytes c cs h)))
