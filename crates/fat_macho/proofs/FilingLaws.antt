-- Sources whose counts rise.
use Rattle.std.proofs.Common.{◌≡◌, ℕ, zero, suc, ◌+◌, ◌<◌, ◌≤◌, List, [], ◌∷◌, ◌++◌, length, map, take, drop, slice_get, Option, Some, None, option_map, IsSomeAnd, IfSome, refl, ap, sym, ◌∙◌, arith, subst}
use Rattle.std.specs.Prelude.{slice_index_or, slice_set}
use Rattle.std.specs.List.{AllByRecursion, AllZip}
use Rattle.std.specs.Rc.{rc_slice_items}
use Rattle.byte_core.specs.Count.{Rose}
use Rattle.byte_core.specs.Number.{bytes_at}
use Rattle.byte_core.specs.Streams.{SourceData, HasLength, ChangesFaults}
use Rattle.std.proofs.Math.Seq.{take-append_seam}
use Rattle.std.proofs.lemmas.List.{length-map}
use Rattle.fat_macho.specs.Filing.{ChangesSources}
use Rattle.fat_macho.specs.Held.{Held, IsSameHeld, KeepsSlices, SomeRose}
use Rattle.fat_macho.specs.HeldViews.{size_of_slice, known_range, known_bytes, faults_in, faults_of, held_view, held_list, LiesInSource, IsPlaced, IsWriter}
use Rattle.fat_macho.specs.declared.held.HeldSlice.{HeldSlice}
use Rattle.fat_macho.specs.declared.held.SliceBytes.{SliceBytes}
use Rattle.fat_macho.specs.declared.held.SliceBytes.TheVariants as lies
use Rattle.fat_macho.proofs.Fronts.{no_faults, faults_again}
use Rattle.fat_macho.proofs.InputLaws.{range_len}
use Rattle.fat_macho.proofs.Pairs.{all_map}

-- -- changes

each_same : (ss : List SourceData) → AllZip ChangesFaults ss ss
each_same [] = tt
each_same (s ∷ ss) = (no_faults s, each_same ss)

pub sources_same : (ss : List SourceData) → ChangesSources ss ss
sources_same ss = record { each = each_same ss }

each_again : (a b c : List SourceData) → AllZip ChangesFaults a b → AllZip ChangesFaults b c → AllZip ChangesFaults a c
each_again [] [] [] h k = tt
each_again [] [] (z ∷ c) h k = absurd k
each_again [] (y ∷ b) c h k = absurd h
each_again (x ∷ a) [] c h k = absurd h
each_again (x ∷ a) (y ∷ b) [] h k = absurd k
each_again (x ∷ a) (y ∷ b) (z ∷ c) h k = (faults_again x y z h.0 k.0, each_again a b c h.1 k.1)

pub sources_again : (a b c : List SourceData) → ChangesSources a b → ChangesSources b c → ChangesSources a c
sources_again a b c h k = record { each = each_again a b c h.each k.each }

-- one source of a list is another
each_set : {S : Type 0} (source : S → SourceData) (xs : List S) (n : ℕ) (d x : S) → n < length xs → ChangesFaults (source (slice_index_or xs n d)) (source x) → AllZip ChangesFaults (map source xs) (map source (slice_set xs n x))
each_set source [] n d x inside h = absurd (omega (arith, inside))
each_set source (y ∷ xs) zero d x inside h = (h, each_same (map source xs))
each_set source (y ∷ xs) (suc n) d x inside h = (no_faults (source y), each_set source xs n d x (omega (arith, inside)) h)

pub source_set : {S : Type 0} (source : S → SourceData) (xs : List S) (n : ℕ) (d x : S) → n < length xs → ChangesFaults (source (slice_index_or xs n d)) (source x) → ChangesSources (map source xs) (map source (slice_set xs n x))
source_set source xs n d x inside h = record { each = each_set source xs n d x inside h }

pub source_get : {S : Type 0} (source : S → SourceData) (xs : List S) (n : ℕ) (d : S) → n < length xs → slice_get (map source xs) n ≡ Some (source (slice_index_or xs n d))
source_get source [] n d inside = absurd (omega (arith, inside))
source_get source (y ∷ xs) zero d inside = refl
source_get source (y ∷ xs) (suc n) d inside = source_get source xs n d (omega (arith, inside))

pub source_now : {S : Type 0} (source : S → SourceData) (xs : List S) (n : ℕ) (x : S) → n < length xs → slice_get (map source (slice_set xs n x)) n ≡ Some (source x)
source_now source [] n x inside = absurd (omega (arith, inside))
source_now source (y ∷ xs) zero x inside = refl
source_now source (y ∷ xs) (suc n) x inside = source_now source xs n x (omega (arith, inside))

get_inside : {S : Type 0} (source : S → SourceData) (xs : List S) (n : ℕ) (P : SourceData → Type 0) → IsSomeAnd (slice_get (map source xs) n) P → n < length xs
get_inside source [] n P h = absurd h
get_inside source (y ∷ xs) zero P h = omega arith
get_inside source (y ∷ xs) (suc n) P h = omega (arith, get_inside source xs n P h)

pub placed_number : {S : Type 0} (source : S → SourceData) (xs : List S) (n offset size : ℕ) → IsSomeAnd (slice_get (map source xs) n) (λ s. LiesInSource s offset size) → n < length xs
placed_number source xs n offset size h = get_inside source xs n (λ s. LiesInSource s offset size) h

pub inside_of : (o : Option SourceData) (s : SourceData) (offset size : ℕ) → o ≡ Some s → IsSomeAnd o (λ t. LiesInSource t offset size) → offset + size ≤ s.length
inside_of None s offset size e h = absurd h
inside_of (Some t) s offset size e h = let same : t ≡ s = cc in omega (arith, h.inside, ap (λ (x : SourceData). x.length) same)

-- -- the same slices

-- a source at a number has not changed but in its count
abbrev Follows : Option SourceData → Option SourceData → Type 0
Follows None None = Unit {0}
Follows (Some s) (Some t) = ChangesFaults s t
Follows None (Some t) = ⊥
Follows (Some s) None = ⊥

follows : (a b : List SourceData) (n : ℕ) → AllZip ChangesFaults a b → Follows (slice_get a n) (slice_get b n)
follows [] [] n h = tt
follows [] (y ∷ b) n h = absurd h
follows (x ∷ a) [] n h = absurd h
follows (x ∷ a) (y ∷ b) zero h = h.0
follows (x ∷ a) (y ∷ b) (suc n) h = follows a b n h.1

range_same : (o p : Option SourceData) (offset size : ℕ) → Follows o p → known_range p offset size ≡ known_range o offset size
range_same None None offset size h = refl
range_same None (Some t) offset size h = absurd h
range_same (Some s) None offset size h = absurd h
range_same (Some s) (Some t) offset size h = ap (option_map (λ bytes. bytes_at bytes offset size)) h.bytes

faults_more : (o p : Option SourceData) → Follows o p → faults_in o ≤ faults_in p
faults_more None None h = omega arith
faults_more None (Some t) h = absurd h
faults_more (Some s) None h = absurd h
faults_more (Some s) (Some t) h = h.rises

lies_same : (o p : Option SourceData) (offset size : ℕ) → Follows o p → IsSomeAnd o (λ s. LiesInSource s offset size) → IsSomeAnd p (λ s. LiesInSource s offset size)
lies_same None None offset size h k = k
lies_same None (Some t) offset size h k = absurd h
lies_same (Some s) None offset size h k = absurd h
lies_same (Some s) (Some t) offset size h k = record { inside = omega (arith, k.inside, h.same_length) }

pub known_same : (a b : List SourceData) (s : SliceBytes) → ChangesSources a b → known_bytes b s ≡ known_bytes a s
known_same a b (lies.Borrowed r) h = refl
known_same a b (lies.Owned r) h = refl
known_same a b (lies.Shared r o t) h = refl
known_same a b (lies.InSource n o t) h = range_same (slice_get a n) (slice_get b n) o t (follows a b n h.each)

pub faults_same : (a b : List SourceData) (s : SliceBytes) → ChangesSources a b → faults_of a s ≤ faults_of b s
faults_same a b (lies.Borrowed r) h = omega arith
faults_same a b (lies.Owned r) h = omega arith
faults_same a b (lies.Shared r o t) h = omega arith
faults_same a b (lies.InSource n o t) h = faults_more (slice_get a n) (slice_get b n) (follows a b n h.each)

pub placed_same : (a b : List SourceData) (s : SliceBytes) → ChangesSources a b → IsPlaced a s → IsPlaced b s
placed_same a b (lies.Borrowed r) h k = tt
placed_same a b (lies.Owned r) h k = tt
placed_same a b (lies.Shared r o t) h k = k
placed_same a b (lies.InSource n o t) h k = lies_same (slice_get a n) (slice_get b n) o t (follows a b n h.each) k

length_same : (s t : SourceData) → ChangesFaults s t → HasLength s → HasLength t
length_same s t h k = subst (λ o. IfSome o (λ bytes. length bytes ≡ t.length)) (sym h.bytes) (subst (λ n. IfSome s.bytes (λ bytes. length bytes ≡ n)) (sym h.same_length) k)

lengths_by : (a b : List SourceData) → AllZip ChangesFaults a b → AllByRecursion HasLength a → AllByRecursion HasLength b
lengths_by [] [] h k = tt
lengths_by [] (y ∷ b) h k = absurd h
lengths_by (x ∷ a) [] h k = absurd h
lengths_by (x ∷ a) (y ∷ b) h k = (length_same x y h.0 k.0, lengths_by a b h.1 k.1)

pub writer_same : (a b : List SourceData) (slices : List HeldSlice) → ChangesSources a b → IsWriter a slices → IsWriter b slices
writer_same a b slices h w =
    record {
      order = w.order;
      once = w.once;
      few = w.few;
      short = w.short;
      places = all_map (λ s. IsPlaced a s.bytes) (λ s. IsPlaced b s.bytes) slices (λ s k. placed_same a b s.bytes h k) w.places;
      lengths = lengths_by a b h.each w.lengths;
    }

-- -- what a contract sees of it

same_view : (a b : List SourceData) (x : HeldSlice) → ChangesSources a b → IsSameHeld (held_view a x) (held_view b x)
same_view a b x h = record { shape = refl; bytes = known_same a b x.bytes h; origin = refl; rises = faults_same a b x.bytes h }

same_views : (a b : List SourceData) (slices : List HeldSlice) → ChangesSources a b → (k : ℕ) (h i : Held) → slice_get (held_list a slices) k ≡ Some h → slice_get (held_list b slices) k ≡ Some i → IsSameHeld h i
same_views a b [] c k h i e f = absurd (cc)
same_views a b (x ∷ slices) c zero h i e f =
    let was : held_view a x ≡ h = cc in
    let is : held_view b x ≡ i = cc in
    subst (λ g. IsSameHeld g i) was (subst (IsSameHeld (held_view a x)) is (same_view a b x c))
same_views a b (x ∷ slices) c (suc k) h i e f = same_views a b slices c k h i e f

view_length : (a : List SourceData) (slices : List HeldSlice) → length (held_list a slices) ≡ length slices
view_length a [] = refl
view_length a (x ∷ slices) = ap suc (view_length a slices)

pub keeps_slices : (a b : List SourceData) (slices : List HeldSlice) → ChangesSources a b → KeepsSlices (held_list a slices) (held_list b slices)
keeps_slices a b slices c = record { count = view_length b slices ∙ sym (view_length a slices); each = same_views a b slices c }

view_get : (a : List SourceData) (slices : List HeldSlice) (k : ℕ) (x : HeldSlice) → slice_get slices k ≡ Some x → slice_get (held_list a slices) k ≡ Some (held_view a x)
view_get a [] k x e = absurd (cc)
view_get a (y ∷ slices) zero x e = let same : y ≡ x = cc in ap (λ z. Some (held_view a z)) same
view_get a (y ∷ slices) (suc k) x e = view_get a slices k x e

rose_behind : (a b c : ℕ) → a ≤ b → Rose b c → Rose a c
rose_behind a b c h r = omega (arith, h, r)

-- the count of a slice's source rose after others
pub some_rose : (a b c : List SourceData) (slices : List HeldSlice) (k : ℕ) (x : HeldSlice) → slice_get slices k ≡ Some x → ChangesSources a b → Rose (faults_of b x.bytes) (faults_of c x.bytes) → SomeRose (held_list a slices) (held_list c slices)
some_rose a b c slices k x e h r =
    record {
      number = k;
      before = held_view a x;
      after = held_view c x;
      was = view_get a slices k x e;
      is = view_get c slices k x e;
      rose = rose_behind (faults_of a x.bytes) (faults_of b x.bytes) (faults_of c x.bytes) (faults_same a b x.bytes h) r;
    }

-- -- how many bytes a slice has

range_length : (o : Option SourceData) (b : List ℕ) (offset size : ℕ) → IsSomeAnd o HasLength → IsSomeAnd o (λ s. LiesInSource s offset size) → known_range o offset size ≡ Some b → length b ≡ size
range_length None b offset size has lies e = absurd lies
range_length (Some s) b offset size has lies e = range_by s.bytes refl
  where
    range_by : (o : Option (List ℕ)) → s.bytes ≡ o → length b ≡ size
    range_by None f = let bad : None ≡ Some b = ap (option_map (λ bytes. bytes_at bytes offset size)) (sym f) ∙ e in absurd (cc)
    range_by (Some c) f =
        let is : Some (bytes_at c offset size) ≡ Some b = ap (option_map (λ bytes. bytes_at bytes offset size)) (sym f) ∙ e in
        let same : bytes_at c offset size ≡ b = cc in
        let long : length c ≡ s.length = rw f at has in
        ap length (sym same) ∙ range_len c offset size (omega (arith, long, lies.inside))

get_length : (ss : List SourceData) (n : ℕ) (P : SourceData → Type 0) → AllByRecursion HasLength ss → IsSomeAnd (slice_get ss n) P → IsSomeAnd (slice_get ss n) HasLength
get_length [] n P all h = absurd h
get_length (s ∷ ss) zero P all h = all.0
get_length (s ∷ ss) (suc n) P all h = get_length ss n P all.1 h

pub known_length : (ss : List SourceData) (s : SliceBytes) (b : List ℕ) → AllByRecursion HasLength ss → IsPlaced ss s → known_bytes ss s ≡ Some b → length b ≡ size_of_slice s
known_length ss (lies.Borrowed r) b all placed e = let same : r.now ≡ b = cc in ap length (sym same)
known_length ss (lies.Owned r) b all placed e = let same : r.items ≡ b = cc in ap length (sym same)
known_length ss (lies.Shared r o t) b all placed e = let same : bytes_at (rc_slice_items r) o t ≡ b = cc in ap length (sym same) ∙ range_len (rc_slice_items r) o t placed
known_length ss (lies.InSource n o t) b all placed e = range_length (slice_get ss n) b o t (get_length ss n (λ s. LiesInSource s o t) all placed) placed e

-- the count of a source rose
pub source_rose : {S : Type 0} (source : S → SourceData) (xs : List S) (n : ℕ) (d x : S) → n < length xs → Rose (source (slice_index_or xs n d)).faults (source x).faults
    → Rose (faults_in (slice_get (map source xs) n)) (faults_in (slice_get (map source (slice_set xs n x)) n))
source_rose source xs n d x inside rose =
    let was : faults_in (slice_get (map source xs) n) ≡ (source (slice_index_or xs n d)).faults = ap faults_in (source_get source xs n d inside) in
    let is : faults_in (slice_get (map source (slice_set xs n x)) n) ≡ (source x).faults = ap faults_in (source_now source xs n x inside) in
    omega (arith, was, is, rose)

each_count : (a b : List SourceData) → AllZip ChangesFaults a b → length b ≡ length a
each_count [] [] h = refl
each_count [] (y ∷ b) h = absurd h
each_count (x ∷ a) [] h = absurd h
each_count (x ∷ a) (y ∷ b) h = ap suc (each_count a b h.1)

-- a list of sources that was lent whole is what it became
pub lent_back : {S : Type 0} (source : S → SourceData) (old new : List S) (len : ℕ) → len ≡ length old → ChangesSources (map source old) (map source new) → take len (new ++ drop (length new) old) ≡ new
lent_back source old new len is h =
    let count : len ≡ length new = omega (arith, is, each_count (map source old) (map source new) h.each, length-map old source, length-map new source) in
    ap (λ n. take n (new ++ drop (length new) old)) count ∙ take-append_seam new (drop (length new) old)
