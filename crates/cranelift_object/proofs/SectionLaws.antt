-- One more definition in the sections of a state.
use Rattle.std.proofs.Common.{◌≡◌, ℕ, zero, suc, ◌+◌, ◌-◌, ◌==◌, ◌<◌, ◌++◌, ◌∷◌, List, [], Bool, true, false, cond, max, length, replicate, map, Some, refl, ap, ◌∙◌, arith, length-append, eq-eqb, inl, inr, ◌≢◌}
use Rattle.std.proofs.lemmas.List.{append-nil, length-replicate, map-append}
use Rattle.std.proofs.lemmas.Bool.Decides.{eqb_tells}
use Rattle.std.proofs.lemmas.List.Sums.{fold_push}
use Rattle.std.proofs.lemmas.List.Concat.{flat_map-append}
use Rattle.std.proofs.lemmas.List.Elements.{filter-append, All-head, All-tail, All-weaker}
use Rattle.std.specs.Prelude.{slice_get}
use Rattle.std.specs.List.{All}
use Rattle.std.specs.Int.{next_multiple_of}
use Rattle.ir_core.proofs.MomentLaws.{by_end}
use Rattle.object_core.specs.Places.{Extent, Piece, end_of, greatest_align, joined}
use Rattle.object_core.specs.declared.relocation.Relocation.{Relocation}
use Rattle.object_core.specs.Object.{SectionData}
use Rattle.object_core.specs.Appending.{changed_at, with_contents, with_room, stored_in, room_in}
use Rattle.ir_core.specs.declared.target.BinaryFormat.{BinaryFormat}
use Rattle.ir_core.specs.declared.target.BinaryFormat.TheVariants.{Elf, Coff, Macho, Wasm, Unknown}
use Rattle.cranelift_module.specs.Call.{Contents, bytes, zeros}
use Rattle.cranelift_module.specs.Definitions.{Definition, contents_of, size_of}
use Rattle.cranelift_module.specs.LinkState.{LinkState}
use Rattle.cranelift_object.specs.Settings.{Settings}
use Rattle.cranelift_object.specs.SectionClass.{Class}
use Rattle.cranelift_object.specs.Placing.{Placed, align_of, extent_of, room_of}
use Rattle.cranelift_object.specs.Partial.{sections_from}
use Rattle.cranelift_object.specs.Linked.{section_with, members, relocations_of, object_relocation, stored_of, piece_of, is_unstored_class}
use Rattle.cranelift_object.specs.Product.{relocated_by}

-- -- one more member of one section

pub end_of-end : (extents : List Extent) (e : Extent) → end_of (extents ++ e ∷ []) ≡ next_multiple_of (end_of extents) e.align + e.size
unfolding end_of
end_of-end extents e = fold_push (λ end x. next_multiple_of end x.align + x.size) 0 extents e

pub greatest_align-end : (extents : List Extent) (e : Extent) → greatest_align (extents ++ e ∷ []) ≡ max (greatest_align extents) e.align
greatest_align-end extents e = fold_push (λ align (x : Extent). max align x.align) 1 extents e

pub joined-end : (pieces : List Piece) (p : Piece) → joined (pieces ++ p ∷ []) ≡ joined pieces ++ replicate (next_multiple_of (length (joined pieces)) p.align - length (joined pieces)) 0 ++ p.contents
unfolding joined
joined-end pieces p = fold_push (λ front q. front ++ replicate (next_multiple_of (length front) q.align - length front) 0 ++ q.contents) [] pieces p

-- how many bytes the contents are
pub contents_length : (c : Contents) → length (contents_of c) ≡ size_of c
contents_length (bytes xs) = refl
contents_length (zeros n) = let nothing : ℕ = 0 in length-replicate n nothing

-- contents are stored in the room that they take
stored_room : (format : BinaryFormat) (xs : List ℕ) → length (stored_in format xs) ≡ room_in format (length xs)
stored_room Elf xs = refl
stored_room Coff xs = refl
stored_room Macho [] = refl
stored_room Macho (x ∷ xs) = omega arith
stored_room Wasm xs = refl
stored_room Unknown xs = refl

pub stored_length : (s : LinkState) (d : Definition) → length (stored_of s d) ≡ room_of s d
stored_length s d = stored_room s.target.triple.binary_format (contents_of d.contents) ∙ ap (room_in s.target.triple.binary_format) (contents_length d.contents)

abbrev piece : LinkState → Placed → Piece
piece s p = piece_of s p.definition

abbrev extent : LinkState → Placed → Extent
extent s p = extent_of s p.definition

joined_one : (s : LinkState) (ps : List Placed) (p : Placed) → length (joined (map (piece s) ps)) ≡ end_of (map (extent s) ps) → length (joined (map (piece s) (ps ++ p ∷ []))) ≡ end_of (map (extent s) (ps ++ p ∷ []))
joined_one s ps p h =
    let front : List ℕ = joined (map (piece s) ps) in
    let gap : ℕ = next_multiple_of (length front) (align_of s p.definition) - length front in
    let nothing : ℕ = 0 in
    rw (map-append, map-append, joined-end, end_of-end, length-append, length-append, length-replicate gap nothing, stored_length s p.definition, ← h) (omega arith)

-- as many bytes are joined as the extents take
pub joined_length : (s : LinkState) (ps : List Placed) → length (joined (map (piece s) ps)) ≡ end_of (map (extent s) ps)
unfolding joined end_of
joined_length s = by_end (λ ps. length (joined (map (piece s) ps)) ≡ end_of (map (extent s) ps)) refl (λ ps p h. joined_one s ps p h)

-- -- a section with one more definition in it

-- a section with the contents of one more definition, or with their room alone
abbrev pub grown : Bool → LinkState → Definition → SectionData → SectionData
grown true s d = with_room (room_of s d) (align_of s d)
grown false s d = with_contents (stored_of s d) (align_of s d)

-- the relocations of a definition, in its section
abbrev pub relocations_at : Settings → LinkState → Placed → List Relocation
relocations_at settings s p = map (object_relocation settings s p.offset) p.definition.relocs

relocations-end : (settings : Settings) (s : LinkState) (ps : List Placed) (p : Placed) → relocations_of settings s (ps ++ p ∷ []) ≡ relocations_of settings s ps ++ relocations_at settings s p
relocations-end settings s ps p = flat_map-append (relocations_at settings s) ps (p ∷ []) ∙ ap (λ rs. relocations_of settings s ps ++ rs) (append-nil (relocations_at settings s p))

pub section_with-end : (b : Bool) (settings : Settings) (s : LinkState) (class : Class) (ps : List Placed) (p : Placed) → is_unstored_class s class ≡ b
    → section_with settings s class (ps ++ p ∷ []) ≡ relocated_by (relocations_at settings s p) (grown b s p.definition (section_with settings s class ps))
section_with-end true settings s class ps p holds =
    let aligns = ap greatest_align (map-append (extent s) ps (p ∷ [])) ∙ greatest_align-end (map (extent s) ps) (extent s p) in
    let sizes = ap end_of (map-append (extent s) ps (p ∷ [])) ∙ end_of-end (map (extent s) ps) (extent s p) in
    rw (aligns, sizes, holds, relocations-end settings s ps p) refl
section_with-end false settings s class ps p holds =
    let aligns = ap greatest_align (map-append (extent s) ps (p ∷ [])) ∙ greatest_align-end (map (extent s) ps) (extent s p) in
    let sizes = ap end_of (map-append (extent s) ps (p ∷ [])) ∙ end_of-end (map (extent s) ps) (extent s p) in
    let contents = ap joined (map-append (piece s) ps (p ∷ [])) ∙ joined-end (map (piece s) ps) (piece s p) in
    rw (aligns, sizes, contents, holds, joined_length s ps, stored_length s p.definition, relocations-end settings s ps p) refl

-- -- the sections of a list of classes

one_if : {A : Type 0} (b : Bool) (x : A) (xs : List A) → b ≡ false → xs ++ cond b (x ∷ []) [] ≡ xs
one_if true x xs h = absurd (cc)
one_if false x xs h = append-nil xs

one_where : {A : Type 0} (b : Bool) (x : A) (xs : List A) → b ≡ true → xs ++ cond b (x ∷ []) [] ≡ xs ++ x ∷ []
one_where true x xs h = refl
one_where false x xs h = absurd (cc)

pub apart_test : (a b : ℕ) → a ≢ b → (a == b) ≡ false
apart_test a b h = elim (eqb_tells a b) [ inl e ↦ absurd (h e.1) | inr e ↦ e.0 ]

members_same : (ps : List Placed) (p : Placed) (k : ℕ) → p.section ≢ k → members (ps ++ p ∷ []) k ≡ members ps k
members_same ps p k h = filter-append (λ (q : Placed). q.section == k) ps (p ∷ []) ∙ one_if (p.section == k) p (members ps k) (apart_test p.section k h)

members_more : (ps : List Placed) (p : Placed) (k : ℕ) → p.section ≡ k → members (ps ++ p ∷ []) k ≡ members ps k ++ p ∷ []
members_more ps p k h = filter-append (λ (q : Placed). q.section == k) ps (p ∷ []) ∙ one_where (p.section == k) p (members ps k) (eq-eqb p.section k h)

sections_above : (settings : Settings) (s : LinkState) (i : ℕ) (classes : List Class) (ps : List Placed) (p : Placed) → p.section < i → sections_from settings s i classes (ps ++ p ∷ []) ≡ sections_from settings s i classes ps
sections_above settings s i [] ps p h = refl
sections_above settings s i (c ∷ classes) ps p h =
    let ne : p.section ≢ i = omega arith in
    let below : p.section < i + 1 = omega arith in
    rw (members_same ps p i ne, sections_above settings s (i + 1) classes ps p below) refl

-- one more definition changes its own section alone
pub sections_changed : (b : Bool) (settings : Settings) (s : LinkState) (i k : ℕ) (classes : List Class) (c : Class) (ps : List Placed) (p : Placed) → p.section ≡ i + k → slice_get classes k ≡ Some c → is_unstored_class s c ≡ b
    → sections_from settings s i classes (ps ++ p ∷ []) ≡ changed_at k (λ x. relocated_by (relocations_at settings s p) (grown b s p.definition x)) (sections_from settings s i classes ps)
sections_changed b settings s i k [] c ps p e at holds = absurd (cc)
sections_changed b settings s i zero (d ∷ classes) c ps p e at holds =
    let same : d ≡ c = cc in
    let here : p.section ≡ i = omega arith in
    let below : p.section < i + 1 = omega arith in
    let kind : is_unstored_class s d ≡ b = rw same holds in
    rw (members_more ps p i here, section_with-end b settings s d (members ps i) p kind, sections_above settings s (i + 1) classes ps p below) refl
sections_changed b settings s i (suc k) (d ∷ classes) c ps p e at holds =
    let ne : p.section ≢ i = omega arith in
    let next : p.section ≡ i + 1 + k = omega arith in
    rw (members_same ps p i ne, sections_changed b settings s (i + 1) k classes c ps p next at holds) refl

members_none : (ps : List Placed) (n : ℕ) → All (λ (p : Placed). p.section < n) ps → members ps n ≡ []
members_none [] n h = refl
members_none (p ∷ ps) n h =
    let here : p.section < n = All-head (λ (q : Placed). q.section < n) p ps h in
    let ne : p.section ≢ n = omega arith in
    rw (apart_test p.section n ne) (members_none ps n (All-tail (λ (q : Placed). q.section < n) p ps h))

-- a section that is opened is empty
pub sections_opened : (settings : Settings) (s : LinkState) (i : ℕ) (classes : List Class) (c : Class) (ps : List Placed) → All (λ (p : Placed). p.section < i + length classes) ps
    → sections_from settings s i (classes ++ c ∷ []) ps ≡ sections_from settings s i classes ps ++ section_with settings s c [] ∷ []
sections_opened settings s i [] c ps h =
    let none : members ps i ≡ [] = members_none ps i (All-weaker (λ (q : Placed). q.section < i + 0) (λ (q : Placed). q.section < i) (λ q l. omega arith) ps h) in
    rw none refl
sections_opened settings s i (d ∷ classes) c ps h =
    let next = All-weaker (λ (q : Placed). q.section < i + length (d ∷ classes)) (λ (q : Placed). q.section < i + 1 + length classes) (λ q l. omega arith) ps h in
    rw (sections_opened settings s (i + 1) classes c ps next) refl
