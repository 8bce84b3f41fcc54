-- The images of an input, one entry after the other.
use Rattle.std.proofs.Common.{◌≡◌, ℕ, zero, suc, ◌+◌, ◌<◌, ◌≤◌, ◌==◌, ◌&&◌, nat_lt, Bool, true, false, List, [], ◌∷◌, ◌++◌, length, take, drop, map, Option, Some, None, IsSomeAnd, IfSome, refl, ap, sym, ◌∙◌, arith, if◌then◌else◌, ◌⊎◌, inl, inr, subst}
use Rattle.std.specs.List.{AllByRecursion, range_with_len, filter_map}
use Rattle.std.proofs.lemmas.List.{length-take, length-drop, map-append, take_all}
use Rattle.std.proofs.lemmas.List.Elements.{filter_map-append}
use Rattle.std.proofs.lemmas.Bool.{lt-ltb, le-ltb}
use Rattle.byte_core.specs.Count.{Rose}
use Rattle.byte_core.specs.Number.{bytes_at}
use Rattle.byte_core.specs.Streams.{SourceData, HasLength, ChangesFaults}
use Rattle.image_read.specs.FatFile.{fat_count, fat_entry, fat_table_end}
use Rattle.fat_macho.specs.ClassView.{class_view}
use Rattle.fat_macho.specs.Parse.{Class, thin, cut, fat, bitcode, archive, unknown, class_of}
use Rattle.fat_macho.specs.ShapeView.{shape_view}
use Rattle.fat_macho.specs.Slices.{Shape, Slice, shape_of, share_arch, plain_subtype}
use Rattle.fat_macho.specs.Input.{FatRefusal, invalid, refusal_told, refuse_if, first_cause, class_cause, slice_of, entry_bytes, entry_slices, entry_cause, duplicate_cause, duplicate_of, is_among, fat_cause, cause_by, slices_by, input_cause, input_slices}
use Rattle.fat_macho.specs.Parts.{IsClassAt, ReadFails, TellsCause, Fails, IsThin, IsPartAt, IsCount, IsEntryAt, part_slice, IsInside, AreApart, IsEntryPart, AreEntryParts, AreFatParts, AreParts}
use Rattle.fat_macho.specs.declared.error.Error.{Error}
use Rattle.fat_macho.specs.declared.error.Error.TheVariants.{Io, Goblin, NotFatBinary, InvalidMachO, DuplicatedArch, TooMany, TooLarge, OutOfMemory}
use Rattle.fat_macho.specs.declared.error.IoCause.TheVariants.{Source, Sink, Open}
use Rattle.fat_macho.specs.declared.error.InvalidCase.TheVariants.{ShortFatHeader, TablePastEnd, SlicePastEnd}
use Rattle.fat_macho.specs.declared.input.Entry.{Entry}
use Rattle.fat_macho.specs.declared.input.Part.{Part}
use Rattle.fat_macho.specs.declared.parse.InputClass.{InputClass}
use Rattle.fat_macho.proofs.Pairs.{all_snoc, pairs_snoc, all_map, none_passes, range_more}

-- -- refusals that come later

rose_again : (a b c : ℕ) → a ≤ b → Rose b c → Rose a c
rose_again a b c le rose = omega (arith, le, rose)

read_fails_again : (old mid new : SourceData) → ChangesFaults old mid → ReadFails mid new → ReadFails old new
read_fails_again old mid new changes fails = record { can = sym changes.can_fail ∙ fails.can; rose = rose_again old.faults mid.faults new.faults changes.rises fails.rose }

tells_as : (bytes other : Option (List ℕ)) (cause more : List ℕ → Option FatRefusal) (told : Option FatRefusal) → other ≡ bytes
    → ((b : List ℕ) → bytes ≡ Some b → (r : FatRefusal) → cause b ≡ Some r → more b ≡ Some r) → TellsCause other cause told → TellsCause bytes more told
tells_as bytes other cause more None same leads tells = absurd tells
tells_as bytes other cause more (Some r) same leads tells = record { known = λ b e. leads b e r (tells.known b (same ∙ e)) }

-- a refusal after further reads is one of the whole
pub fails_as : (old mid new : SourceData) (cause more : List ℕ → Option FatRefusal) (e : Error) → ChangesFaults old mid
    → ((b : List ℕ) → old.bytes ≡ Some b → (r : FatRefusal) → cause b ≡ Some r → more b ≡ Some r) → Fails mid new cause e → Fails old new more e
fails_as old mid new cause more (Io Source) changes leads fails = read_fails_again old mid new changes fails
fails_as old mid new cause more (Io Sink) changes leads fails = absurd fails
fails_as old mid new cause more (Io Open) changes leads fails = absurd fails
fails_as old mid new cause more (Goblin c) changes leads fails = absurd fails
fails_as old mid new cause more NotFatBinary changes leads fails = absurd fails
fails_as old mid new cause more OutOfMemory changes leads fails = tt
fails_as old mid new cause more (InvalidMachO c) changes leads fails = tells_as old.bytes mid.bytes cause more (refusal_told (InvalidMachO c)) changes.bytes leads fails
fails_as old mid new cause more (DuplicatedArch c) changes leads fails = tells_as old.bytes mid.bytes cause more (refusal_told (DuplicatedArch c)) changes.bytes leads fails
fails_as old mid new cause more (TooMany c) changes leads fails = tells_as old.bytes mid.bytes cause more (refusal_told (TooMany c)) changes.bytes leads fails
fails_as old mid new cause more (TooLarge c) changes leads fails = tells_as old.bytes mid.bytes cause more (refusal_told (TooLarge c)) changes.bytes leads fails

pub io_fails_as : (old mid new : SourceData) (cause : List ℕ → Option FatRefusal) (e : Error) → ChangesFaults old mid → e ≡ Io Source → ReadFails mid new → Fails old new cause e
io_fails_as old mid new cause e changes same fails = rw same (read_fails_again old mid new changes fails)

-- a refusal whose cause the bytes have
pub fails_by : (old new : SourceData) (cause : List ℕ → Option FatRefusal) (e : Error) (r : FatRefusal) → refusal_told e ≡ Some r → ((b : List ℕ) → old.bytes ≡ Some b → cause b ≡ Some r) → Fails old new cause e
fails_by old new cause (Io c) r told has = absurd (cc)
fails_by old new cause (Goblin c) r told has = absurd (cc)
fails_by old new cause NotFatBinary r told has = absurd (cc)
fails_by old new cause OutOfMemory r told has = absurd (cc)
fails_by old new cause (InvalidMachO c) r told has = record { known = λ b e. has b e ∙ sym told }
fails_by old new cause (DuplicatedArch c) r told has = record { known = λ b e. has b e ∙ sym told }
fails_by old new cause (TooMany c) r told has = record { known = λ b e. has b e ∙ sym told }
fails_by old new cause (TooLarge c) r told has = record { known = λ b e. has b e ∙ sym told }

-- -- causes in order

known_length : (s : SourceData) (b : List ℕ) → HasLength s → s.bytes ≡ Some b → length b ≡ s.length
known_length s b h e = known_by s.bytes b s.length h e
  where
    known_by : (o : Option (List ℕ)) (b : List ℕ) (n : ℕ) → IfSome o (λ xs. length xs ≡ n) → o ≡ Some b → length b ≡ n
    known_by None b n h e = absurd (cc)
    known_by (Some xs) b n h e = let same : xs ≡ b = cc in ap length (sym same) ∙ h

refused_first : (t : Bool) (r : FatRefusal) (rest : List (Option FatRefusal)) → t ≡ true → first_cause (refuse_if t r ∷ rest) ≡ Some r
refused_first true r rest e = refl
refused_first false r rest e = absurd (cc)

pub not_refused : (t : Bool) (r : FatRefusal) → t ≡ false → refuse_if t r ≡ None
not_refused true r e = absurd (cc)
not_refused false r e = refl

pub behind_none : (o : Option FatRefusal) (rest : List (Option FatRefusal)) → o ≡ None → first_cause (o ∷ rest) ≡ first_cause rest
behind_none None rest e = refl
behind_none (Some r) rest e = absurd (cc)

pub here_some : (o : Option FatRefusal) (rest : List (Option FatRefusal)) (r : FatRefusal) → o ≡ Some r → first_cause (o ∷ rest) ≡ Some r
here_some None rest r e = absurd (cc)
here_some (Some q) rest r e = e

-- -- the image of an entry

entry_range : (b : List ℕ) (bytes : Option (List ℕ)) (wide : Bool) (k : ℕ) (entry : Entry) → IsEntryAt bytes wide k entry → bytes ≡ Some b → entry_bytes b wide k ≡ bytes_at b entry.offset entry.size
entry_range b bytes wide k entry is e = sym (ap (λ p. bytes_at b p entry.size) (is.offset b e) ∙ ap (bytes_at b (fat_entry b wide k).offset) (is.size b e))

entry_end : (b : List ℕ) (bytes : Option (List ℕ)) (wide : Bool) (k : ℕ) (entry : Entry) → IsEntryAt bytes wide k entry → bytes ≡ Some b → (fat_entry b wide k).offset + (fat_entry b wide k).size ≡ entry.offset + entry.size
entry_end b bytes wide k entry is e = omega (arith, is.offset b e, is.size b e)

-- the causes of an entry behind its range, and behind its class
abbrev class_on : List ℕ → Bool → ℕ → List (Option FatRefusal)
class_on b wide k = class_cause (class_of (entry_bytes b wide k)) ∷ duplicate_cause (entry_slices b wide k) (slice_of (entry_bytes b wide k)) ∷ []

abbrev duplicate_on : List ℕ → Bool → ℕ → List (Option FatRefusal)
duplicate_on b wide k = duplicate_cause (entry_slices b wide k) (slice_of (entry_bytes b wide k)) ∷ []

pub past_fails : (old new : SourceData) (wide : Bool) (k : ℕ) (entry : Entry) → HasLength old → IsEntryAt old.bytes wide k entry → old.length < entry.offset + entry.size
    → Fails old new (λ b. entry_cause b wide k) (InvalidMachO SlicePastEnd)
past_fails old new wide k entry len is past =
    fails_by old new (λ b. entry_cause b wide k) (InvalidMachO SlicePastEnd) (invalid SlicePastEnd) refl
    (λ b e. refused_first (nat_lt (length b) ((fat_entry b wide k).offset + (fat_entry b wide k).size)) (invalid SlicePastEnd) (class_on b wide k) (lt-ltb (length b) _ (omega (arith, known_length old b len e, entry_end b old.bytes wide k entry is e, past))))

in_range : (s : SourceData) (b : List ℕ) (wide : Bool) (k : ℕ) (entry : Entry) → HasLength s → IsEntryAt s.bytes wide k entry → entry.offset + entry.size ≤ s.length → s.bytes ≡ Some b
    → refuse_if (nat_lt (length b) ((fat_entry b wide k).offset + (fat_entry b wide k).size)) (invalid SlicePastEnd) ≡ None
in_range s b wide k entry len is inside e =
    not_refused (nat_lt (length b) ((fat_entry b wide k).offset + (fat_entry b wide k).size)) (invalid SlicePastEnd) (le-ltb (length b) _ (omega (arith, known_length s b len e, entry_end b s.bytes wide k entry is e, inside)))

pub entry_fails : (old mid new : SourceData) (wide : Bool) (k : ℕ) (entry : Entry) (e : Error) → HasLength old → IsEntryAt old.bytes wide k entry → entry.offset + entry.size ≤ old.length → ChangesFaults old mid
    → Fails mid new (λ b. class_cause (class_of (bytes_at b entry.offset entry.size))) e → Fails old new (λ b. entry_cause b wide k) e
entry_fails old mid new wide k entry e len is inside changes fails =
    fails_as old mid new (λ b. class_cause (class_of (bytes_at b entry.offset entry.size))) (λ b. entry_cause b wide k) e changes
    (λ b h r c. behind_none (refuse_if (nat_lt (length b) ((fat_entry b wide k).offset + (fat_entry b wide k).size)) (invalid SlicePastEnd)) (class_on b wide k) (in_range old b wide k entry len is inside h)
    ∙ here_some (class_cause (class_of (entry_bytes b wide k))) (duplicate_on b wide k) r (ap (λ xs. class_cause (class_of xs)) (entry_range b old.bytes wide k entry is h) ∙ c))
    fails

pub entry_part : (old mid : SourceData) (wide : Bool) (k : ℕ) (entry : Entry) (part : Part) → HasLength old → IsEntryAt old.bytes wide k entry → entry.offset + entry.size ≤ old.length → ChangesFaults old mid
    → IsPartAt mid.bytes entry.offset entry.size part → IsEntryPart old wide k part
entry_part old mid wide k entry part len is inside changes at =
    record {
      inside = record { inside = omega (arith, at.offset_is, at.size_is, inside) };
      slice = λ b e. ap slice_of (entry_range b old.bytes wide k entry is e) ∙ at.slice b (changes.bytes ∙ e);
      range = λ b e. in_range old b wide k entry len is inside e;
      none = λ b e. ap (λ xs. class_cause (class_of xs)) (entry_range b old.bytes wide k entry is e) ∙ at.none b (changes.bytes ∙ e);
    }

-- -- one image more

pub range_len : (b : List ℕ) (o s : ℕ) → o + s ≤ length b → length (bytes_at b o s) ≡ s
unfolding bytes_at
range_len b o s h = omega (arith, length-take s (drop o b), length-drop o b, h)

pub part_shape : (b : List ℕ) (p : Part) → IsInside (length b) p → shape_of (part_slice b p) ≡ shape_view p.shape
part_shape b p h = ap (λ n. record { cputype = p.shape.cputype; cpusubtype = p.shape.cpusubtype; size = n }) (range_len b p.offset p.shape.size h.inside)

abbrev pub shapes_of_parts : List Part → List Shape
shapes_of_parts parts = map (λ (p : Part). shape_view p.shape) parts

pub parts_shapes : (b : List ℕ) (parts : List Part) → AllByRecursion (IsInside (length b)) parts → map shape_of (map (part_slice b) parts) ≡ shapes_of_parts parts
parts_shapes b [] all = refl
parts_shapes b (p ∷ parts) all = ap (λ s. s ∷ map shape_of (map (part_slice b) parts)) (part_shape b p all.0) ∙ ap (λ ss. shape_view p.shape ∷ ss) (parts_shapes b parts all.1)

duplicate_is : (s : SourceData) (b : List ℕ) (wide : Bool) (k : ℕ) (parts : List Part) (part : Part) → HasLength s → AreEntryParts s wide k parts → IsEntryPart s wide k part → s.bytes ≡ Some b
    → duplicate_cause (entry_slices b wide k) (slice_of (entry_bytes b wide k)) ≡ refuse_if (is_among (shapes_of_parts parts) (shape_view part.shape)) (duplicate_of (shape_view part.shape))
duplicate_is s b wide k parts part len are is e =
    let n = known_length s b len e in
    let all : AllByRecursion (IsInside (length b)) parts = subst (λ m. AllByRecursion (IsInside m) parts) (sym n) are.inside in
    let one : IsInside (length b) part = subst (λ m. IsInside m part) (sym n) is.inside in
    ap (duplicate_cause (entry_slices b wide k)) (is.slice b e)
    ∙ ap (λ ss. refuse_if (is_among (map shape_of ss) (shape_of (part_slice b part))) (duplicate_of (shape_of (part_slice b part)))) (sym (are.slices b e))
    ∙ ap (λ ss. refuse_if (is_among ss (shape_of (part_slice b part))) (duplicate_of (shape_of (part_slice b part)))) (parts_shapes b parts all)
    ∙ ap (λ a. refuse_if (is_among (shapes_of_parts parts) a) (duplicate_of a)) (part_shape b part one)

cause_behind : (b : List ℕ) (s : SourceData) (wide : Bool) (k : ℕ) (part : Part) → IsEntryPart s wide k part → s.bytes ≡ Some b → entry_cause b wide k ≡ first_cause (duplicate_on b wide k)
cause_behind b s wide k part is e =
    behind_none (refuse_if (nat_lt (length b) ((fat_entry b wide k).offset + (fat_entry b wide k).size)) (invalid SlicePastEnd)) (class_on b wide k) (is.range b e)
    ∙ behind_none (class_cause (class_of (entry_bytes b wide k))) (duplicate_on b wide k) (is.none b e)

pub refused_if : (t : Bool) (r : FatRefusal) → t ≡ true → refuse_if t r ≡ Some r
refused_if true r e = refl
refused_if false r e = absurd (cc)

pub duplicate_fails : (old new : SourceData) (wide : Bool) (k : ℕ) (parts : List Part) (part : Part) (e : Error) → HasLength old → AreEntryParts old wide k parts → IsEntryPart old wide k part
    → is_among (shapes_of_parts parts) (shape_view part.shape) ≡ true → refusal_told e ≡ Some (duplicate_of (shape_view part.shape)) → Fails old new (λ b. entry_cause b wide k) e
duplicate_fails old new wide k parts part e len are is among told =
    fails_by old new (λ b. entry_cause b wide k) e (duplicate_of (shape_view part.shape)) told
    (λ b h. cause_behind b old wide k part is h ∙ here_some (duplicate_cause (entry_slices b wide k) (slice_of (entry_bytes b wide k))) [] (duplicate_of (shape_view part.shape))
    (duplicate_is old b wide k parts part len are is h ∙ refused_if (is_among (shapes_of_parts parts) (shape_view part.shape)) (duplicate_of (shape_view part.shape)) among))

eqb_turn : (x y : ℕ) → (x == y) ≡ (y == x)
eqb_turn x y = grind (arith)

pub share_turn : (a b : Shape) → share_arch a b ≡ share_arch b a
share_turn a b = ap (λ t. t && plain_subtype a.cpusubtype == plain_subtype b.cpusubtype) (eqb_turn a.cputype b.cputype) ∙ ap (λ t. b.cputype == a.cputype && t) (eqb_turn (plain_subtype a.cpusubtype) (plain_subtype b.cpusubtype))

slices_more : (b : List ℕ) (wide : Bool) (k : ℕ) (s : Slice) → slice_of (entry_bytes b wide k) ≡ Some s → entry_slices b wide (k + 1) ≡ entry_slices b wide k ++ s ∷ []
slices_more b wide k s e =
    ap (filter_map (λ j. slice_of (entry_bytes b wide j))) (range_more k)
    ∙ filter_map-append (λ j. slice_of (entry_bytes b wide j)) (range_with_len 0 k) (k ∷ [])
    ∙ ap (λ o. entry_slices b wide k ++ filter_map (λ (x : Option Slice). x) (o ∷ [])) e

earlier_or_last : (j k : ℕ) → j < k + 1 → (j < k) ⊎ (k ≡ j)
earlier_or_last j k h = grind (arith)

none_more : (b : List ℕ) (wide : Bool) (k j : ℕ) → ((i : ℕ) → i < k → entry_cause b wide i ≡ None) → entry_cause b wide k ≡ None → (j < k) ⊎ (k ≡ j) → entry_cause b wide j ≡ None
none_more b wide k j before here (inl less) = before j less
none_more b wide k j before here (inr same) = ap (entry_cause b wide) (sym same) ∙ here

pub next_parts : (s : SourceData) (wide : Bool) (k : ℕ) (parts : List Part) (part : Part) → HasLength s → AreEntryParts s wide k parts → IsEntryPart s wide k part
    → is_among (shapes_of_parts parts) (shape_view part.shape) ≡ false → AreEntryParts s wide (k + 1) (parts ++ part ∷ [])
next_parts s wide k parts part len are is among =
    let other : AllByRecursion (λ p. AreApart p part) parts =
    all_map (λ (p : Part). share_arch (shape_view part.shape) (shape_view p.shape) ≡ false) (λ p. AreApart p part) parts (λ p e. share_turn (shape_view p.shape) (shape_view part.shape) ∙ e)
    (none_passes (λ (p : Part). shape_view p.shape) (share_arch (shape_view part.shape)) parts among) in
    let free : (b : List ℕ) → s.bytes ≡ Some b → entry_cause b wide k ≡ None =
    λ b e.
    cause_behind b s wide k part is e
    ∙ behind_none (duplicate_cause (entry_slices b wide k) (slice_of (entry_bytes b wide k))) [] (duplicate_is s b wide k parts part len are is e ∙ not_refused (is_among (shapes_of_parts parts) (shape_view part.shape)) (duplicate_of (shape_view part.shape)) among) in
    record {
      inside = all_snoc (IsInside s.length) parts part are.inside is.inside;
      apart = pairs_snoc AreApart parts part are.apart other;
      slices = λ b e. map-append (part_slice b) parts (part ∷ []) ∙ ap (λ ss. ss ++ part_slice b part ∷ []) (are.slices b e) ∙ sym (slices_more b wide k (part_slice b part) (is.slice b e));
      none = λ b e j below. none_more b wide k j (are.none b e) (free b e) (earlier_or_last j k below);
    }

-- -- all images

pub no_parts : (s : SourceData) (wide : Bool) → AreEntryParts s wide 0 []
no_parts s wide = record { inside = tt; apart = tt; slices = λ b e. refl; none = λ b e j below. absurd (omega (arith, below)) }

pub parts_still : (a b : SourceData) (wide : Bool) (k : ℕ) (parts : List Part) → ChangesFaults a b → AreEntryParts a wide k parts → AreEntryParts b wide k parts
parts_still a b wide k parts changes are =
    record {
      inside = subst (λ n. AllByRecursion (IsInside n) parts) (sym changes.same_length) are.inside;
      apart = are.apart;
      slices = λ c e. are.slices c (sym changes.bytes ∙ e);
      none = λ c e. are.none c (sym changes.bytes ∙ e);
    }

pub parts_before : (a b : SourceData) (wide : Bool) (k : ℕ) (parts : List Part) → ChangesFaults a b → AreEntryParts b wide k parts → AreEntryParts a wide k parts
parts_before a b wide k parts changes are =
    record {
      inside = subst (λ n. AllByRecursion (IsInside n) parts) changes.same_length are.inside;
      apart = are.apart;
      slices = λ c e. are.slices c (changes.bytes ∙ e);
      none = λ c e. are.none c (changes.bytes ∙ e);
    }

pub table_end_le : (wide : Bool) (j n : ℕ) → j ≤ n → fat_table_end wide j ≤ fat_table_end wide n
table_end_le true j n h = omega arith
table_end_le false j n h = omega arith

first_from : (f : ℕ → Option FatRefusal) (a n k : ℕ) (r : FatRefusal) → a ≤ k → k < a + n → ((j : ℕ) → j < k → f j ≡ None) → f k ≡ Some r → (a ≡ k) ⊎ (a + 1 ≤ k) → first_cause (map f (range_with_len a n)) ≡ Some r
first_from f a zero k r from below before here case = absurd (omega (arith, from, below))
first_from f a (suc n) k r from below before here (inl same) = here_some (f a) (map f (range_with_len (a + 1) n)) r (ap f same ∙ here)
first_from f a (suc n) k r from below before here (inr later) =
    behind_none (f a) (map f (range_with_len (a + 1) n)) (before a (omega (arith, later)))
    ∙ first_from f (a + 1) n k r later (omega (arith, below)) before here (first_or_later (a + 1) k later)
  where
    first_or_later : (a k : ℕ) → a ≤ k → (a ≡ k) ⊎ (a + 1 ≤ k)
    first_or_later a k h = grind (arith)

zero_or_later : (k : ℕ) → (0 ≡ k) ⊎ (0 + 1 ≤ k)
zero_or_later k = grind (arith)

pub entries_fail : (old mid new : SourceData) (wide : Bool) (k count : ℕ) (parts : List Part) (e : Error) → AreEntryParts old wide k parts → k < count → ChangesFaults old mid
    → Fails mid new (λ b. entry_cause b wide k) e → Fails old new (λ b. first_cause (map (entry_cause b wide) (range_with_len 0 count))) e
entries_fail old mid new wide k count parts e are below changes fails =
    fails_as old mid new (λ b. entry_cause b wide k) (λ b. first_cause (map (entry_cause b wide) (range_with_len 0 count))) e changes
    (λ b h r c. first_from (entry_cause b wide) 0 count k r (omega arith) (omega (arith, below)) (are.none b h) c (zero_or_later k))
    fails

-- -- a fat file

if_true : {A : Type 0} (t : Bool) (x y : A) → t ≡ true → (if t then x else y) ≡ x
if_true true x y e = refl
if_true false x y e = absurd (cc)

if_false : {A : Type 0} (t : Bool) (x y : A) → t ≡ false → (if t then x else y) ≡ y
if_false true x y e = absurd (cc)
if_false false x y e = refl

-- the causes of a fat file behind its header, and behind its table
abbrev entries_on : List ℕ → Bool → Option FatRefusal
entries_on b wide = first_cause (map (entry_cause b wide) (range_with_len 0 (fat_count b)))

abbrev table_on : List ℕ → Bool → Option FatRefusal
table_on b wide = if nat_lt (length b) (fat_table_end wide (fat_count b)) then Some (invalid TablePastEnd) else entries_on b wide

header_there : (b : List ℕ) (wide : Bool) → 8 ≤ length b → fat_cause b wide ≡ table_on b wide
header_there b wide h = if_false (nat_lt (length b) 8) (Some (invalid ShortFatHeader)) (table_on b wide) (le-ltb (length b) 8 h)

table_there : (b : List ℕ) (wide : Bool) → fat_table_end wide (fat_count b) ≤ length b → table_on b wide ≡ entries_on b wide
table_there b wide h = if_false (nat_lt (length b) (fat_table_end wide (fat_count b))) (Some (invalid TablePastEnd)) (entries_on b wide) (le-ltb (length b) _ h)

pub header_fails : (old new : SourceData) (wide : Bool) → HasLength old → old.length < 8 → Fails old new (λ b. fat_cause b wide) (InvalidMachO ShortFatHeader)
header_fails old new wide len short =
    fails_by old new (λ b. fat_cause b wide) (InvalidMachO ShortFatHeader) (invalid ShortFatHeader) refl
    (λ b e. if_true (nat_lt (length b) 8) (Some (invalid ShortFatHeader)) (table_on b wide) (lt-ltb (length b) 8 (omega (arith, known_length old b len e, short))))

count_end : (old : SourceData) (b : List ℕ) (wide : Bool) (count : ℕ) → IsCount old.bytes count → old.bytes ≡ Some b → fat_table_end wide (fat_count b) ≡ fat_table_end wide count
count_end old b wide count is e = ap (fat_table_end wide) (sym (is.known b e))

pub table_fails : (old new : SourceData) (wide : Bool) (count : ℕ) → HasLength old → 8 ≤ old.length → IsCount old.bytes count → old.length < fat_table_end wide count
    → Fails old new (λ b. fat_cause b wide) (InvalidMachO TablePastEnd)
table_fails old new wide count len enough is past =
    fails_by old new (λ b. fat_cause b wide) (InvalidMachO TablePastEnd) (invalid TablePastEnd) refl
    (λ b e. header_there b wide (omega (arith, known_length old b len e, enough))
    ∙ if_true (nat_lt (length b) (fat_table_end wide (fat_count b))) (Some (invalid TablePastEnd)) (entries_on b wide) (lt-ltb (length b) _ (omega (arith, known_length old b len e, count_end old b wide count is e, past))))

to_entries : (old : SourceData) (b : List ℕ) (wide : Bool) (count : ℕ) → HasLength old → 8 ≤ old.length → IsCount old.bytes count → fat_table_end wide count ≤ old.length → old.bytes ≡ Some b
    → fat_cause b wide ≡ entries_on b wide
to_entries old b wide count len enough is inside e =
    header_there b wide (omega (arith, known_length old b len e, enough)) ∙ table_there b wide (omega (arith, known_length old b len e, count_end old b wide count is e, inside))

pub fat_fails : (old mid new : SourceData) (wide : Bool) (count : ℕ) (e : Error) → HasLength old → 8 ≤ old.length → IsCount old.bytes count → fat_table_end wide count ≤ old.length → ChangesFaults old mid
    → Fails mid new (λ b. first_cause (map (entry_cause b wide) (range_with_len 0 count))) e → Fails old new (λ b. fat_cause b wide) e
fat_fails old mid new wide count e len enough is inside changes fails =
    fails_as old mid new (λ b. first_cause (map (entry_cause b wide) (range_with_len 0 count))) (λ b. fat_cause b wide) e changes
    (λ b h r c. to_entries old b wide count len enough is inside h ∙ ap (λ n. first_cause (map (entry_cause b wide) (range_with_len 0 n))) (sym (is.known b h)) ∙ c)
    fails

first_none : (f : ℕ → Option FatRefusal) (a n : ℕ) → ((j : ℕ) → j < a + n → f j ≡ None) → first_cause (map f (range_with_len a n)) ≡ None
first_none f a zero none = refl
first_none f a (suc n) none = behind_none (f a) (map f (range_with_len (a + 1) n)) (none a (omega arith)) ∙ first_none f (a + 1) n (λ j h. none j (omega (arith, h)))

pub fat_parts : (old mid : SourceData) (wide : Bool) (count : ℕ) (parts : List Part) → HasLength old → 8 ≤ old.length → IsCount old.bytes count → fat_table_end wide count ≤ old.length → ChangesFaults old mid
    → AreEntryParts mid wide count parts → AreFatParts old wide parts
fat_parts old mid wide count parts len enough is inside changes mids =
    let are = parts_before old mid wide count parts changes mids in
    record {
      inside = are.inside;
      apart = are.apart;
      slices = λ b e. are.slices b e ∙ ap (entry_slices b wide) (is.known b e);
      none = λ b e. to_entries old b wide count len enough is inside e ∙ first_none (entry_cause b wide) 0 (fat_count b) (λ j h. are.none b e j (omega (arith, h, is.known b e)));
    }

-- -- an input

class_known : (s : SourceData) (b : List ℕ) (class : InputClass) → HasLength s → IsClassAt s.bytes 0 s.length class → s.bytes ≡ Some b → class_of b ≡ class_view class
unfolding bytes_at
class_known s b class len is e =
    sym (is.known b e ∙ ap class_of (ap (λ n. take n b) (sym (known_length s b len e)) ∙ take_all (length b) b (omega arith)))

pub fat_input_fails : (old mid new : SourceData) (wide : Bool) (class : InputClass) (e : Error) → HasLength old → IsClassAt old.bytes 0 old.length class → class_view class ≡ fat wide → ChangesFaults old mid
    → Fails mid new (λ b. fat_cause b wide) e → Fails old new input_cause e
unfolding input_cause
fat_input_fails old mid new wide class e len is same changes fails =
    fails_as old mid new (λ b. fat_cause b wide) input_cause e changes
    (λ b h r c. ap (cause_by b) (class_known old b class len is h ∙ same) ∙ c)
    fails

pub fat_input_parts : (old mid : SourceData) (wide : Bool) (class : InputClass) (parts : List Part) → HasLength old → IsClassAt old.bytes 0 old.length class → class_view class ≡ fat wide → ChangesFaults old mid
    → AreFatParts mid wide parts → AreParts old parts
unfolding input_cause input_slices
fat_input_parts old mid wide class parts len is same changes are =
    record {
      inside = subst (λ n. AllByRecursion (IsInside n) parts) changes.same_length are.inside;
      apart = are.apart;
      slices = λ b e. are.slices b (changes.bytes ∙ e) ∙ sym (ap (slices_by b) (class_known old b class len is e ∙ same));
      none = λ b e. ap (cause_by b) (class_known old b class len is e ∙ same) ∙ are.none b (changes.bytes ∙ e);
    }

-- a class that is no fat file's
abbrev pub IsNoFat : Class → Type 0
IsNoFat (fat wide) = ⊥
IsNoFat (thin t u) = Unit {0}
IsNoFat cut = Unit {0}
IsNoFat bitcode = Unit {0}
IsNoFat archive = Unit {0}
IsNoFat unknown = Unit {0}

cause_of_class : (b : List ℕ) (class : Class) → IsNoFat class → cause_by b class ≡ class_cause class
cause_of_class b (fat wide) other = absurd other
cause_of_class b (thin t u) other = refl
cause_of_class b cut other = refl
cause_of_class b bitcode other = refl
cause_of_class b archive other = refl
cause_of_class b unknown other = refl

told_some : (told : Option FatRefusal) (class : Class) → IsSomeAnd told (λ r. class_cause class ≡ Some r) → (r : FatRefusal) × (told ≡ Some r) × (class_cause class ≡ Some r)
told_some None class some = absurd some
told_some (Some r) class some = (r, refl, some)

pub one_input_fails : (old new : SourceData) (class : InputClass) (e : Error) → HasLength old → IsClassAt old.bytes 0 old.length class → IsNoFat (class_view class)
    → IsSomeAnd (refusal_told e) (λ r. class_cause (class_view class) ≡ Some r) → Fails old new input_cause e
unfolding input_cause
one_input_fails old new class e len is other some =
    let told = told_some (refusal_told e) (class_view class) some in
    fails_by old new input_cause e told.0 told.1
    (λ b h. ap (cause_by b) (class_known old b class len is h) ∙ cause_of_class b (class_view class) other ∙ told.2)

pub one_input_part : (s : SourceData) (class : InputClass) (part : Part) (parts : List Part) → HasLength s → IsClassAt s.bytes 0 s.length class → IsThin (class_view class) 0 s.length part
    → parts ≡ part ∷ [] → AreParts s parts
unfolding input_cause input_slices bytes_at
one_input_part s class part parts len is thin_is only =
    let one : AreParts s (part ∷ []) =
    record {
      inside = (record { inside = omega (arith, thin_is.offset_is, thin_is.size_is) }, tt);
      apart = (tt, tt);
      slices = λ b e.
          ap (λ xs. record { cputype = part.shape.cputype; cpusubtype = part.shape.cpusubtype; bytes = xs } ∷ [])
          (ap (λ n. take part.shape.size (drop n b)) thin_is.offset_is ∙ ap (λ n. take n b) (thin_is.size_is ∙ sym (known_length s b len e)) ∙ take_all (length b) b (omega arith))
          ∙ sym (ap (slices_by b) (class_known s b class len is e ∙ thin_is.class_is));
      none = λ b e. ap (cause_by b) (class_known s b class len is e ∙ thin_is.class_is);
    } in
    rw only one
