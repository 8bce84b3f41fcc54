-- Where the definitions of a section stand, and their bytes there.
use Rattle.std.proofs.Common.{◌≡◌, ℕ, zero, suc, ◌+◌, ◌-◌, ◌<◌, ◌≤◌, ◌==◌, List, [], ◌∷◌, length, map, refl, ap, sym, ◌∙◌, arith, Some, slice_get, take, drop, replicate, subst, inl, inr}
use Rattle.std.specs.Prelude.{fold}
use Rattle.std.specs.Int.{next_multiple_of}
use Rattle.std.proofs.lemmas.Bool.{eqb-true, eq-eqb, cases_lt}
use Rattle.byte_core.specs.Number.{bytes_at}
use Rattle.byte_core.proofs.Lists.{passing}
use Rattle.ir_core.specs.declared.target.BinaryFormat.{BinaryFormat}
use Rattle.ir_core.specs.declared.target.BinaryFormat.TheVariants.{Elf, Coff, Macho, Wasm, Unknown}
use Rattle.object_core.specs.Appending.{room_in}
use Rattle.object_core.specs.Places.{Extent, end_of, joined}
use Rattle.cranelift_module.specs.Definitions.{size_of}
use Rattle.cranelift_module.specs.LinkState.{LinkState}
use Rattle.cranelift_object.specs.Settings.{Settings}
use Rattle.cranelift_object.specs.Placing.{Placed, placed, extent_of, room_of, align_of}
use Rattle.cranelift_object.specs.Linked.{members, stored_of, piece_of}
use Rattle.cranelift_object.proofs.SectionLaws.{stored_length}
use Rattle.image_view.specs.declared.view.ViewReloc.{ViewReloc}
use Rattle.image_place.proofs.EntryLaws.{Among, filtered}
use Rattle.image_place.proofs.RangeLaws.{Standing, FieldsInside, StandFrom}
use Rattle.image_place.proofs.StandingLaws.{Ascend, Holds, over, members-ascend, joined-holds}

-- -- members

pub member-into : (settings : Settings) (s : LinkState) (k j : ℕ) (p : Placed) → slice_get (placed settings s) j ≡ Some p → p.section ≡ k → Among (members (placed settings s) k) p
member-into settings s k j p e section = filtered (λ (x : Placed). x.section == k) (placed settings s) j p e (eq-eqb p.section k section)

-- a member is placed there
pub record IsMember (settings : Settings) (s : LinkState) (k : ℕ) (p : Placed) : Type 0 where
  pub number : ℕ
  pub here : slice_get (placed settings s) number ≡ Some p
  pub section : p.section ≡ k

pub member-from : (settings : Settings) (s : LinkState) (k i : ℕ) (p : Placed) → slice_get (members (placed settings s) k) i ≡ Some p → IsMember settings s k p
member-from settings s k i p e =
    let h = passing (λ (x : Placed). x.section == k) (placed settings s) i p e in
    record { number = h.place; here = h.at; section = eqb-true p.section k h.passes }

-- -- ranges

pub room-over : (format : BinaryFormat) (n : ℕ) → n ≤ room_in format n
room-over Elf n = omega arith
room-over Coff n = omega arith
room-over Macho n = omega arith
room-over Wasm n = omega arith
room-over Unknown n = omega arith

ascend_low : (s : LinkState) (low : ℕ) (ps : List Placed) (j : ℕ) (r : Placed) → Ascend s low ps → slice_get ps j ≡ Some r → low ≤ r.offset
ascend_low s low [] j r h e = absurd (cc)
ascend_low s low (p ∷ ps) zero r h e = let same : p ≡ r = cc in omega (arith, ap (λ (x : Placed). x.offset) same, h.0, over low (align_of s p.definition))
ascend_low s low (p ∷ ps) (suc j) r h e = omega (arith, ascend_low s (p.offset + room_of s p.definition) ps j r h.1 e, h.0, over low (align_of s p.definition))

-- one ends before the next begins
pub ascend-apart : (s : LinkState) (low : ℕ) (ps : List Placed) (i j : ℕ) (p r : Placed) → Ascend s low ps → slice_get ps i ≡ Some p → slice_get ps j ≡ Some r → i < j → p.offset + room_of s p.definition ≤ r.offset
ascend-apart s low [] i j p r h e f less = absurd (cc)
ascend-apart s low (x ∷ ps) i zero p r h e f less = absurd (omega (arith, less))
ascend-apart s low (x ∷ ps) zero (suc j) p r h e f less =
    let same : x ≡ p = cc in
    rw (← same) (ascend_low s (x.offset + room_of s x.definition) ps j r h.1 f)
ascend-apart s low (x ∷ ps) (suc i) (suc j) p r h e f less = ascend-apart s (x.offset + room_of s x.definition) ps i j p r h.1 e f (omega (arith, less))

-- two definitions of a section whose ranges share a place are one
pub one-there : (settings : Settings) (s : LinkState) (k at i j : ℕ) (p r : Placed) → slice_get (placed settings s) i ≡ Some p → slice_get (placed settings s) j ≡ Some r → p.section ≡ k → r.section ≡ k
    → p.offset ≤ at → at < p.offset + size_of p.definition.contents → r.offset ≤ at → at < r.offset + size_of r.definition.contents → p ≡ r
one-there settings s k at i j p r e f in_p in_r a b c d =
    let one = member-into settings s k i p e in_p in
    let two = member-into settings s k j r f in_r in
    let ascend = members-ascend settings s k in
    let room_p : size_of p.definition.contents ≤ room_of s p.definition = room-over s.target.triple.binary_format (size_of p.definition.contents) in
    let room_r : size_of r.definition.contents ≤ room_of s r.definition = room-over s.target.triple.binary_format (size_of r.definition.contents) in
    elim (cases_lt one.number two.number) [
      | inl less ↦ absurd (omega (arith, ascend-apart s 0 (members (placed settings s) k) one.number two.number p r ascend one.here two.here less, a, b, c, d, room_p, room_r))
      | inr more ↦
          elim (cases_lt two.number one.number) [
            | inl less ↦ absurd (omega (arith, ascend-apart s 0 (members (placed settings s) k) two.number one.number r p ascend two.here one.here less, a, b, c, d, room_p, room_r))
            | inr other ↦
                (
                let same : one.number ≡ two.number = omega (arith, more, other) in
                let both : Some p ≡ Some r = sym one.here ∙ ap (slice_get (members (placed settings s) k)) same ∙ two.here in
                cc
                )
          ]
    ]

-- -- relocations

-- a placed definition in memory, where its section begins there, with these relocations
abbrev pub standing_at : ℕ → (Placed → List ViewReloc) → Placed → Standing
standing_at start relocs p = record { address = start + p.offset; size = size_of p.definition.contents; relocs = relocs p }

stand_lower : (low high : ℕ) (ds : List Standing) → low ≤ high → StandFrom high ds → StandFrom low ds
stand_lower low high [] h s = tt
stand_lower low high (d ∷ ds) h s = (omega (arith, h, s.0), s.1, s.2)

stand_from : (s : LinkState) (start low : ℕ) (relocs : Placed → List ViewReloc) (ps : List Placed) → Ascend s low ps → ((i : ℕ) (p : Placed) → slice_get ps i ≡ Some p → FieldsInside (size_of p.definition.contents) (relocs p))
    → StandFrom (start + low) (map (standing_at start relocs) ps)
stand_from s start low relocs [] h inside = tt
stand_from s start low relocs (p ∷ ps) h inside =
    let room : size_of p.definition.contents ≤ room_of s p.definition = room-over s.target.triple.binary_format (size_of p.definition.contents) in
    let rest = stand_from s start (p.offset + room_of s p.definition) relocs ps h.1 (λ i. inside (suc i)) in (
      omega (arith, h.0, over low (align_of s p.definition)),
      inside 0 p refl,
      stand_lower (start + p.offset + size_of p.definition.contents) (start + (p.offset + room_of s p.definition)) (map (standing_at start relocs) ps) (omega (arith, room)) rest,
    )

pub members-stand : (settings : Settings) (s : LinkState) (start k : ℕ) (relocs : Placed → List ViewReloc) → ((i : ℕ) (p : Placed) → slice_get (members (placed settings s) k) i ≡ Some p → FieldsInside (size_of p.definition.contents) (relocs p))
    → StandFrom (start + 0) (map (standing_at start relocs) (members (placed settings s) k))
members-stand settings s start k relocs inside = stand_from s start 0 relocs (members (placed settings s) k) (members-ascend settings s k) inside

-- -- bytes

bytes_from : (s : LinkState) (b : List ℕ) (low : ℕ) (ps : List Placed) (i : ℕ) (p : Placed) → Ascend s low ps → Holds b low (map (λ (x : Placed). piece_of s x.definition) ps) → slice_get ps i ≡ Some p
    → bytes_at b p.offset (length (stored_of s p.definition)) ≡ stored_of s p.definition
bytes_from s b low [] i p a h e = absurd (cc)
bytes_from s b low (x ∷ ps) zero p a h e =
    let same : x ≡ p = cc in
    rw (← same) (ap (λ n. bytes_at b n (length (stored_of s x.definition))) a.0 ∙ h.0)
bytes_from s b low (x ∷ ps) (suc i) p a h e =
    let next : next_multiple_of low (align_of s x.definition) + length (stored_of s x.definition) ≡ x.offset + room_of s x.definition = omega (arith, a.0, stored_length s x.definition) in
    bytes_from s b (x.offset + room_of s x.definition) ps i p a.1 (subst (λ n. Holds b n (map (λ (y : Placed). piece_of s y.definition) ps)) next h.1) e

-- the bytes of a member in its section
pub member-bytes : (settings : Settings) (s : LinkState) (k i : ℕ) (p : Placed) → slice_get (members (placed settings s) k) i ≡ Some p
    → bytes_at (joined (map (λ (x : Placed). piece_of s x.definition) (members (placed settings s) k))) p.offset (length (stored_of s p.definition)) ≡ stored_of s p.definition
member-bytes settings s k i p e =
    bytes_from s (joined (map (λ (x : Placed). piece_of s x.definition) (members (placed settings s) k))) 0 (members (placed settings s) k) i p (members-ascend settings s k) (joined-holds (map (λ (x : Placed). piece_of s x.definition) (members (placed settings s) k))) e

fold_over : (low : ℕ) (es : List Extent) → low ≤ fold (λ end (e : Extent). next_multiple_of end e.align + e.size) low es
fold_over low [] = omega arith
fold_over low (e ∷ es) = omega (arith, fold_over (next_multiple_of low e.align + e.size) es, over low e.align)

end_from : (s : LinkState) (low : ℕ) (ps : List Placed) (i : ℕ) (p : Placed) → Ascend s low ps → slice_get ps i ≡ Some p
    → p.offset + room_of s p.definition ≤ fold (λ end (e : Extent). next_multiple_of end e.align + e.size) low (map (λ (x : Placed). extent_of s x.definition) ps)
end_from s low [] i p a e = absurd (cc)
end_from s low (x ∷ ps) zero p a e =
    let same : x ≡ p = cc in
    let next : next_multiple_of low (align_of s x.definition) + room_of s x.definition ≡ x.offset + room_of s x.definition = omega (arith, a.0) in
    rw (← same) (omega (arith, next, fold_over (next_multiple_of low (align_of s x.definition) + room_of s x.definition) (map (λ (y : Placed). extent_of s y.definition) ps)))
end_from s low (x ∷ ps) (suc i) p a e =
    let next : x.offset + room_of s x.definition ≡ next_multiple_of low (align_of s x.definition) + room_of s x.definition = omega (arith, a.0) in
    subst (λ n. p.offset + room_of s p.definition ≤ fold (λ end (y : Extent). next_multiple_of end y.align + y.size) n (map (λ (y : Placed). extent_of s y.definition) ps)) next
    (end_from s (x.offset + room_of s x.definition) ps i p a.1 e)

-- a member ends where its section does at the latest
pub member-end : (settings : Settings) (s : LinkState) (k i : ℕ) (p : Placed) → slice_get (members (placed settings s) k) i ≡ Some p
    → p.offset + room_of s p.definition ≤ end_of (map (λ (x : Placed). extent_of s x.definition) (members (placed settings s) k))
unfolding end_of
member-end settings s k i p e = end_from s 0 (members (placed settings s) k) i p (members-ascend settings s k) e

take_same : {A : Type 0} (x : A) (n m : ℕ) → n ≤ m → take n (replicate m x) ≡ replicate n x
take_same x zero m h = refl
take_same x (suc n) zero h = absurd (omega (arith, h))
take_same x (suc n) (suc m) h = ap (λ xs. x ∷ xs) (take_same x n m (omega (arith, h)))

drop_same : {A : Type 0} (x : A) (k m : ℕ) → k ≤ m → drop k (replicate m x) ≡ replicate (m - k) x
drop_same x zero m h = let same : m ≡ m - 0 = omega arith in ap (λ n. replicate n x) same
drop_same x (suc k) zero h = absurd (omega (arith, h))
drop_same x (suc k) (suc m) h = let less : m - k ≡ suc m - suc k = omega arith in drop_same x k m (omega (arith, h)) ∙ ap (λ n. replicate n x) less

-- zeros inside of zeros
pub zeros-at : (size k n : ℕ) → k + n ≤ size → bytes_at (replicate size 0) k n ≡ replicate n 0
unfolding bytes_at
zeros-at size k n h = let nothing : ℕ = 0 in ap (take n) (drop_same nothing k size (omega (arith, h))) ∙ take_same nothing n (size - k) (omega (arith, h))
