-- A class shows in the first 32 bytes.
use Rattle.std.proofs.Common.{◌≡◌, ℕ, ◌+◌, ◌≤◌, ◌==◌, min, nat_lt, Bool, true, false, List, [], ◌∷◌, length, take, drop, reverse, bytes_eq, Option, Some, None, Result, Err, IsOk, refl, ap, sym, ◌∙◌, arith, lit<, if◌then◌else◌, ◌⊎◌, inl, inr}
use Rattle.std.proofs.lemmas.List.{take-take, drop-take, length-take, take_all}
use Rattle.std.proofs.lemmas.Bool.{lt-ltb, ltb-true, ltb-false, le-ltb}
use Rattle.byte_core.specs.Number.{bytes_at, number_at, big_number_at, little_number}
use Rattle.byte_core.specs.Streams.{SourceData}
use Rattle.byte_core.specs.Count.{Rose}
use Rattle.fat_macho.specs.ClassView.{class_view}
use Rattle.fat_macho.specs.Parse.{thin, cut, fat, bitcode, archive, unknown, ThinHeader, thin_header, header_number, other_class, thin_class, class_of}
use Rattle.fat_macho.specs.Parts.{IsClassAt, ReadFails}
use Rattle.fat_macho.specs.Reading.{HoldsRange}
use Rattle.fat_macho.specs.declared.parse.InputClass.{InputClass}

-- -- bytes near the front

front_bytes : (b : List ℕ) (p n m : ℕ) → p + (n + m) ≡ 32 → bytes_at (take 32 b) p n ≡ bytes_at b p n
unfolding bytes_at
front_bytes b p n m sum =
    ap (λ k. take n (drop p (take k b))) (sym sum) ∙ ap (take n) (drop-take p (n + m) b) ∙ take-take n (n + m) (drop p b) (omega arith)

front_big : (b : List ℕ) (p m : ℕ) → p + (4 + m) ≡ 32 → big_number_at (take 32 b) p 4 ≡ big_number_at b p 4
unfolding big_number_at
front_big b p m sum = ap (λ xs. little_number (reverse xs)) (front_bytes b p 4 m sum)

front_little : (b : List ℕ) (p m : ℕ) → p + (4 + m) ≡ 32 → number_at (take 32 b) p 4 ≡ number_at b p 4
unfolding number_at
front_little b p m sum = ap little_number (front_bytes b p 4 m sum)

short_by : (n h : ℕ) (t : Bool) → h ≤ 32 → nat_lt n h ≡ t → nat_lt (min 32 n) h ≡ t
short_by n h true le e = lt-ltb (min 32 n) h (omega (arith, ltb-true n h e, le))
short_by n h false le e = le-ltb (min 32 n) h (omega (arith, ltb-false n h e, le))

short_front : (b : List ℕ) (h : ℕ) → h ≤ 32 → nat_lt (length (take 32 b)) h ≡ nat_lt (length b) h
short_front b h le = ap (λ n. nat_lt n h) (length-take 32 b) ∙ short_by (length b) h (nat_lt (length b) h) le refl

header_front : (big : Bool) (b : List ℕ) (p m : ℕ) → p + (4 + m) ≡ 32 → header_number big (take 32 b) p ≡ header_number big b p
header_front true b p m sum = front_big b p m sum
header_front false b p m sum = front_little b p m sum

-- the size of a header is at most 32
record IsSmall (o : Option ThinHeader) : Type 0 where
  size : (h : ThinHeader) → o ≡ Some h → h.size ≤ 32

small_if : (t : Bool) (h : ThinHeader) (o : Option ThinHeader) → h.size ≤ 32 → IsSmall o → IsSmall (if t then Some h else o)
small_if true h o le rest = record { size = λ g e. let same : h ≡ g = cc in omega (arith, le, ap (λ (x : ThinHeader). x.size) same) }
small_if false h o le rest = rest

small_header : (magic : ℕ) → IsSmall (thin_header magic)
small_header magic =
    small_if (magic == 0xfeedface) _ _ (lit< tt) (
    small_if (magic == 0xcefaedfe) _ _ (lit< tt) (
    small_if (magic == 0xfeedfacf) _ _ (lit< tt) (
    small_if (magic == 0xcffaedfe) _ _ (lit< tt) (
    record { size = λ g e. absurd (cc) }))))

-- -- the class

thin_front : (b : List ℕ) (o : Option ThinHeader) → IsSmall o → thin_class (take 32 b) o ≡ thin_class b o
thin_front b None small =
    ap (λ m. other_class (take 32 b) m) (front_big b 0 28 refl) ∙ ap (λ xs. if big_number_at b 0 4 == 0xcafebabe then fat false else if big_number_at b 0 4 == 0xcafebabf then fat true else if big_number_at b 0 4 == 0xdec0170b then bitcode else if bytes_eq xs (0x21 ∷ 0x3c ∷ 0x61 ∷ 0x72 ∷ 0x63 ∷ 0x68 ∷ 0x3e ∷ 0x0a ∷ []) then archive else unknown) (front_bytes b 0 8 24 refl)
thin_front b (Some h) small =
    ap (λ t. if t then cut else thin (header_number h.big (take 32 b) 4) (header_number h.big (take 32 b) 8)) (short_front b h.size (small.size h refl))
    ∙ ap (λ n. if nat_lt (length b) h.size then cut else thin n (header_number h.big (take 32 b) 8)) (header_front h.big b 4 24 refl)
    ∙ ap (λ n. if nat_lt (length b) h.size then cut else thin (header_number h.big b 4) n) (header_front h.big b 8 20 refl)

pub class_front : (b : List ℕ) → class_of (take 32 b) ≡ class_of b
unfolding class_of
class_front b =
    ap (λ t. if t then unknown else thin_class (take 32 b) (thin_header (big_number_at (take 32 b) 0 4))) (short_front b 4 (lit< tt))
    ∙ ap (λ m. if nat_lt (length b) 4 then unknown else thin_class (take 32 b) (thin_header m)) (front_big b 0 28 refl)
    ∙ ap (λ c. if nat_lt (length b) 4 then unknown else c) (thin_front b (thin_header (big_number_at b 0 4)) (small_header (big_number_at b 0 4)))

less_or_more : (n k : ℕ) → (n ≤ k) ⊎ (k ≤ n)
less_or_more n k = grind arith

take_min_by : (n k : ℕ) (xs : List ℕ) → (n ≤ k) ⊎ (k ≤ n) → take (min n k) xs ≡ take k (take n xs)
take_min_by n k xs (inl few) =
    let least : min n k ≡ n = omega arith in
    ap (λ m. take m xs) least ∙ sym (take_all k (take n xs) (omega (arith, length-take n xs, few)))
take_min_by n k xs (inr many) =
    let least : min n k ≡ k = omega arith in
    ap (λ m. take m xs) least ∙ sym (take-take k n xs many)

range_front : (b : List ℕ) (p size : ℕ) → bytes_at b p (min size 32) ≡ take 32 (bytes_at b p size)
unfolding bytes_at
range_front b p size = take_min_by size 32 (drop p b) (less_or_more size 32)

pub class_at : (o : Option (List ℕ)) (front : List ℕ) (offset size n : ℕ) (class : InputClass) → HoldsRange o front offset n → n ≡ min size 32 → class_view class ≡ class_of front → IsClassAt o offset size class
class_at o front offset size n class held len same =
    let known : (b : List ℕ) → o ≡ Some b → class_view class ≡ class_of (bytes_at b offset size) =
    λ b e. same ∙ ap class_of (held.range b e ∙ ap (bytes_at b offset) len ∙ range_front b offset size) ∙ class_front (bytes_at b offset size) in
    record { known = known }

-- a read that can't fail doesn't
can_by : {A E : Type 0} (t : Bool) (r : Result A E) (e : E) → r ≡ Err e → (t ≡ false → IsOk r) → t ≡ true
can_by true r e failed sure = refl
can_by false r e failed sure = let ok : IsOk r = sure refl in absurd (cc)

pub read_fails : {A E : Type 0} (old new : SourceData) (r : Result A E) (e : E) → r ≡ Err e → (old.can_fail ≡ false → IsOk r) → Rose old.faults new.faults → ReadFails old new
read_fails old new r e failed sure rose = record { can = can_by old.can_fail r e failed sure; rose = rose }

pub front_room : (front all : List ℕ) (n size : ℕ) → length front ≡ length (take n all) → length all ≡ 32 → n ≡ min size 32 → length front ≡ min size 32
front_room front all n size room len same = omega (arith, room, length-take n all, len, same)
