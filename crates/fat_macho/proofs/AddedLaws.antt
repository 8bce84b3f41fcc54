-- The slices of an input, one after the other.
use Rattle.std.proofs.Common.{◌≡◌, ℕ, ◌+◌, ◌<◌, ◌≤◌, List, [], ◌∷◌, ◌++◌, length, take, get_or, slice_get, Option, Some, None, option_map, IsSomeAnd, refl, ap, sym, ◌∙◌, subst, arith, Bor, Global}
use Rattle.std.specs.List.{AllZip}
use Rattle.std.specs.Rc.{rc_slice_items}
use Rattle.std.specs.declared.rc.RcSlice.{RcSlice}
use Rattle.std.proofs.lemmas.List.{take_more}
use Rattle.byte_core.specs.Number.{bytes_at}
use Rattle.byte_core.specs.Streams.{SourceData}
use Rattle.fat_macho.specs.AddedViews.{IsRangeOf, IsSliceOf, IsSeenPart}
use Rattle.fat_macho.specs.Held.{Held, Origin, borrowed, owned, source}
use Rattle.fat_macho.specs.HeldViews.{origin_of, size_of_slice, known_range, known_bytes, faults_in, faults_of, LiesInSource, IsPlaced}
use Rattle.fat_macho.specs.Slices.{Shape}
use Rattle.fat_macho.specs.declared.added.InputBytes.{InputBytes}
use Rattle.fat_macho.specs.declared.added.InputBytes.TheVariants as from
use Rattle.fat_macho.specs.declared.held.HeldSlice.{HeldSlice}
use Rattle.fat_macho.specs.declared.held.SliceBytes.{SliceBytes}
use Rattle.fat_macho.specs.declared.held.SliceBytes.TheVariants as lies
use Rattle.fat_macho.specs.declared.input.Part.{Part}
use Rattle.fat_macho.proofs.InputLaws.{range_len}

zip_snoc : {A B : Type 0} (R : A → B → Type 0) (xs : List A) (ys : List B) (x : A) (y : B) → AllZip R xs ys → R x y → AllZip R (xs ++ x ∷ []) (ys ++ y ∷ [])
zip_snoc R [] [] x y all here = (here, tt)
zip_snoc R [] (b ∷ ys) x y all here = absurd all
zip_snoc R (a ∷ xs) [] x y all here = absurd all
zip_snoc R (a ∷ xs) (b ∷ ys) x y all here = (all.0, zip_snoc R xs ys x y all.1 here)

pub zip_more : {A B : Type 0} (R : A → B → Type 0) (xs : List A) (ys new : List B) (i : ℕ) (d : A) (y : B) → i < length xs → AllZip R (take i xs) ys → R (get_or xs i d) y → new ≡ ys ++ y ∷ []
    → AllZip R (take (i + 1) xs) new
zip_more R xs ys new i d y below all here same =
    let more = zip_snoc R (take i xs) ys (get_or xs i d) y all here in
    subst (λ zs. AllZip R (take (i + 1) xs) zs) (sym same) (subst (λ zs. AllZip R zs (ys ++ y ∷ [])) (sym (take_more xs i d below)) more)

-- -- what is seen of a slice

-- the bytes are a range of an input that lies there
pub record IsSeenRange (origin : Origin) (faults : ℕ) (bytes : Option (List ℕ)) (offset size : ℕ) (sources : List SourceData) (range : SliceBytes) : Type 0 where
  pub size_is : size_of_slice range ≡ size
  pub bytes_is : known_bytes sources range ≡ option_map (λ b. bytes_at b offset size) bytes
  pub origin_is : origin_of range ≡ origin
  pub faults_is : faults_of sources range ≡ faults
  pub placed : IsPlaced sources range

pub seen_borrowed : (sources : List SourceData) (bs : Bor (List ℕ)) (offset size : ℕ) (range : SliceBytes) → offset + size ≤ length bs.now → IsRangeOf (from.Borrowed bs) offset size range
    → IsSeenRange borrowed 0 (Some bs.now) offset size sources range
seen_borrowed sources bs offset size (lies.Borrowed r) inside is = record { size_is = ap length is ∙ range_len bs.now offset size inside; bytes_is = ap Some is; origin_is = refl; faults_is = refl; placed = tt }
seen_borrowed sources bs offset size (lies.Owned r) inside is = absurd is
seen_borrowed sources bs offset size (lies.Shared r o s) inside is = absurd is
seen_borrowed sources bs offset size (lies.InSource n o s) inside is = absurd is

pub seen_shared : (sources : List SourceData) (rc : Bor (RcSlice ℕ Global)) (offset size : ℕ) (range : SliceBytes) → offset + size ≤ length (rc_slice_items rc.now) → IsRangeOf (from.Shared rc) offset size range
    → IsSeenRange owned 0 (Some (rc_slice_items rc.now)) offset size sources range
seen_shared sources rc offset size (lies.Borrowed r) inside is = absurd is
seen_shared sources rc offset size (lies.Owned r) inside is = absurd is
seen_shared sources rc offset size (lies.Shared r o s) inside is =
    record {
      size_is = is.2;
      bytes_is = ap Some (ap (λ xs. bytes_at xs o s) is.0 ∙ ap (λ n. bytes_at (rc_slice_items rc.now) n s) is.1 ∙ ap (bytes_at (rc_slice_items rc.now) offset) is.2);
      origin_is = refl;
      faults_is = refl;
      placed = omega (arith, ap length is.0, is.1, is.2, inside);
    }
seen_shared sources rc offset size (lies.InSource n o s) inside is = absurd is

source_placed : (o : Option SourceData) (s : SourceData) (offset size : ℕ) → o ≡ Some s → offset + size ≤ s.length → IsSomeAnd o (λ t. LiesInSource t offset size)
source_placed None s offset size e inside = absurd (cc)
source_placed (Some t) s offset size e inside = let same : t ≡ s = cc in record { inside = omega (arith, ap (λ (x : SourceData). x.length) same, inside) }

pub seen_source : (sources : List SourceData) (s : SourceData) (number offset size : ℕ) (range : SliceBytes) → slice_get sources number ≡ Some s → offset + size ≤ s.length → IsRangeOf (from.Source number) offset size range
    → IsSeenRange source s.faults s.bytes offset size sources range
seen_source sources s number offset size (lies.Borrowed r) at inside is = absurd is
seen_source sources s number offset size (lies.Owned r) at inside is = absurd is
seen_source sources s number offset size (lies.Shared r o t) at inside is = absurd is
seen_source sources s number offset size (lies.InSource n o t) at inside is =
    let here : slice_get sources n ≡ Some s = ap (slice_get sources) is.0 ∙ at in
    record {
      size_is = is.2;
      bytes_is = ap (λ x. known_range x o t) here ∙ ap (λ p. option_map (λ b. bytes_at b p t) s.bytes) is.1 ∙ ap (λ k. option_map (λ b. bytes_at b offset k) s.bytes) is.2;
      origin_is = refl;
      faults_is = ap faults_in here;
      placed = source_placed (slice_get sources n) s o t here (omega (arith, is.1, is.2, inside));
    }

pub three : (a b c d e f : ℕ) → a ≡ b → c ≡ d → e ≡ f → record { cputype = a; cpusubtype = c; size = e } ≡ (let s : Shape = record { cputype = b; cpusubtype = d; size = f } in s)
three a b c d e f h i j = rw (h, i, j) refl

pub four : (s t : Shape) (a b : Option (List ℕ)) (o p : Origin) (n m : ℕ) → s ≡ t → a ≡ b → o ≡ p → n ≡ m → record { shape = s; bytes = a; origin = o; faults = n } ≡ (let h : Held = record { shape = t; bytes = b; origin = p; faults = m } in h)
four s t a b o p n m h i j k = rw (h, i, j, k) refl

pub seen_part : (origin : Origin) (faults : ℕ) (bytes : Option (List ℕ)) (sources : List SourceData) (input : InputBytes) (part : Part) (h : HeldSlice)
    → IsSliceOf input part h → IsSeenRange origin faults bytes part.offset part.shape.size sources h.bytes → IsSeenPart origin faults bytes sources part h
seen_part origin faults bytes sources input part h is seen =
    let shape = three _ _ _ _ _ _ is.cputype is.cpusubtype seen.size_is in
    record { shape = shape; view = four _ _ _ _ _ _ _ _ shape seen.bytes_is seen.origin_is seen.faults_is; placed = seen.placed }
