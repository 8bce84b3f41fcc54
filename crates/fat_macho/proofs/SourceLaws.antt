-- A source is added.
use Rattle.std.proofs.Common.{◌≡◌, ℕ, zero, suc, Bool, true, List, [], ◌∷◌, ◌++◌, length, map, slice_get, Option, Some, None, IsSomeAnd, IfSome, Result, Ok, Err, refl, ap, sym, ◌∙◌, subst, inr}
use Rattle.std.specs.List.{AllByRecursion, AllZip}
use Rattle.byte_core.specs.Streams.{SourceData, HasLength, ChangesFaults}
use Rattle.fat_macho.specs.AddedViews.{HoldsPart, IsSliceOf, part_view, IsSeenPart}
use Rattle.fat_macho.specs.Adding.{TellsAdd}
use Rattle.fat_macho.specs.Held.{Held, source, held_before, shapes_held, with_input, IsTaken, IsAddError, unknown_slice, AddsShapes}
use Rattle.fat_macho.specs.HeldViews.{raw_shape, known_range, faults_in, held_view, held_list, LiesInSource, IsPlaced, IsWriter}
use Rattle.fat_macho.specs.Input.{FatRefusal, joining_cause, input_cause, add_cause}
use Rattle.fat_macho.specs.Parts.{IsInside, AreParts, ReadFails, Fails}
use Rattle.fat_macho.specs.ShapeView.{shape_view}
use Rattle.fat_macho.specs.Slices.{by_shape, all_inserted, in_order_by}
use Rattle.fat_macho.specs.declared.added.InputBytes.TheVariants as from
use Rattle.fat_macho.specs.declared.error.Error.{Error}
use Rattle.fat_macho.specs.declared.error.Error.TheVariants.{Io, Goblin, NotFatBinary, InvalidMachO, DuplicatedArch, TooMany, TooLarge, OutOfMemory}
use Rattle.fat_macho.specs.declared.error.IoCause.TheVariants.{Source, Sink, Open}
use Rattle.fat_macho.specs.declared.held.HeldSlice.{HeldSlice}
use Rattle.fat_macho.specs.declared.held.SliceBytes.{SliceBytes}
use Rattle.fat_macho.specs.declared.held.SliceBytes.TheVariants as lies
use Rattle.fat_macho.specs.declared.input.Part.{Part}
use Rattle.fat_macho.proofs.AddedLaws.{seen_source, seen_part}
use Rattle.fat_macho.proofs.AddLaws.{zip_as, IsJoined, is_joined, added_input, joining_fails, input_fails}
use Rattle.fat_macho.proofs.InputLaws.{shapes_of_parts}
use Rattle.fat_macho.proofs.Pairs.{all_snoc}

-- -- errors

pub fails_kind : (old new : SourceData) (cause : List ℕ → Option FatRefusal) (e : Error) → Fails old new cause e → IsAddError e
fails_kind old new cause (Io Source) fails = tt
fails_kind old new cause (Io Sink) fails = absurd fails
fails_kind old new cause (Io Open) fails = absurd fails
fails_kind old new cause (Goblin c) fails = absurd fails
fails_kind old new cause NotFatBinary fails = absurd fails
fails_kind old new cause OutOfMemory fails = tt
fails_kind old new cause (InvalidMachO c) fails = refl
fails_kind old new cause (DuplicatedArch c) fails = refl
fails_kind old new cause (TooMany c) fails = refl
fails_kind old new cause (TooLarge c) fails = refl

pub fails_can : (old new : SourceData) (cause : List ℕ → Option FatRefusal) (e : Error) → Fails old new cause e → e ≡ Io Source → old.can_fail ≡ true
fails_can old new cause e fails same = let read : ReadFails old new = rw same at fails in read.can

pub tells_kind : (e : Error) (cause : Option FatRefusal) → TellsAdd e cause → IsAddError e
tells_kind (Io c) cause tells = absurd tells
tells_kind (Goblin c) cause tells = absurd tells
tells_kind NotFatBinary cause tells = absurd tells
tells_kind OutOfMemory cause tells = tt
tells_kind (InvalidMachO c) cause tells = refl
tells_kind (DuplicatedArch c) cause tells = refl
tells_kind (TooMany c) cause tells = refl
tells_kind (TooLarge c) cause tells = refl

pub tells_no_io : (e : Error) (cause : Option FatRefusal) (t : Bool) → TellsAdd e cause → e ≡ Io Source → t ≡ true
tells_no_io e cause t tells same = absurd (rw same at tells)

-- -- a source more

get_left : {A : Type 0} (xs ys : List A) (k : ℕ) (x : A) → slice_get xs k ≡ Some x → slice_get (xs ++ ys) k ≡ Some x
get_left [] ys k x e = absurd (cc)
get_left (y ∷ xs) ys zero x e = e
get_left (y ∷ xs) ys (suc k) x e = get_left xs ys k x e

get_last : {A : Type 0} (xs : List A) (y : A) → slice_get (xs ++ y ∷ []) (length xs) ≡ Some y
get_last [] y = refl
get_last (x ∷ xs) y = get_last xs y

-- a source that is there
pub record IsThere (sources : List SourceData) (number offset size : ℕ) : Type 0 where
  pub source_is : SourceData
  pub at : slice_get sources number ≡ Some source_is
  pub inside : LiesInSource source_is offset size

there_by : (sources : List SourceData) (number offset size : ℕ) (o : Option SourceData) → slice_get sources number ≡ o → IsSomeAnd o (λ s. LiesInSource s offset size) → IsThere sources number offset size
there_by sources number offset size None e h = absurd h
there_by sources number offset size (Some s) e h = record { source_is = s; at = e; inside = h }

pub there : (sources : List SourceData) (number offset size : ℕ) → IsSomeAnd (slice_get sources number) (λ s. LiesInSource s offset size) → IsThere sources number offset size
there sources number offset size h = there_by sources number offset size (slice_get sources number) refl h

same_source : (sources more : List SourceData) (number offset size : ℕ) → IsSomeAnd (slice_get sources number) (λ s. LiesInSource s offset size) → slice_get (sources ++ more) number ≡ slice_get sources number
same_source sources more number offset size h = let t = there sources number offset size h in get_left sources more number t.source_is t.at ∙ sym t.at

placed_still : (sources more : List SourceData) (lie : SliceBytes) → IsPlaced sources lie → IsPlaced (sources ++ more) lie
placed_still sources more (lies.Borrowed r) h = tt
placed_still sources more (lies.Owned r) h = tt
placed_still sources more (lies.Shared r o s) h = h
placed_still sources more (lies.InSource n o s) h = subst (λ x. IsSomeAnd x (λ d. LiesInSource d o s)) (sym (same_source sources more n o s h)) h

-- what is seen of a slice doesn't change
record IsSeenSame (sources more : List SourceData) (cputype cpusubtype : ℕ) (lie : SliceBytes) : Type 0 where
  same : held_view (sources ++ more) (record { cputype = cputype; cpusubtype = cpusubtype; bytes = lie }) ≡ held_view sources (record { cputype = cputype; cpusubtype = cpusubtype; bytes = lie })

seen_still : (sources more : List SourceData) (t u : ℕ) (lie : SliceBytes) → IsPlaced sources lie → IsSeenSame sources more t u lie
seen_still sources more t u (lies.Borrowed r) h = record { same = refl }
seen_still sources more t u (lies.Owned r) h = record { same = refl }
seen_still sources more t u (lies.Shared r o s) h = record { same = refl }
seen_still sources more t u (lies.InSource n o s) h =
    record { same = ap (λ x. record { shape = record { cputype = t; cpusubtype = u; size = s }; bytes = known_range x o s; origin = source; faults = faults_in x }) (same_source sources more n o s h) }

pub views_still : (sources more : List SourceData) (slices : List HeldSlice) → AllByRecursion (λ h. IsPlaced sources h.bytes) slices → held_list (sources ++ more) slices ≡ held_list sources slices
views_still sources more [] all = refl
views_still sources more (h ∷ slices) all =
    ap (λ v. v ∷ held_list (sources ++ more) slices) (seen_still sources more h.cputype h.cpusubtype h.bytes all.0).same ∙ ap (λ vs. held_view sources h ∷ vs) (views_still sources more slices all.1)

places_still : (sources more : List SourceData) (slices : List HeldSlice) → AllByRecursion (λ h. IsPlaced sources h.bytes) slices → AllByRecursion (λ h. IsPlaced (sources ++ more) h.bytes) slices
places_still sources more [] all = tt
places_still sources more (h ∷ slices) all = (placed_still sources more h.bytes all.0, places_still sources more slices all.1)

pub writer_still : (sources : List SourceData) (s : SourceData) (slices : List HeldSlice) → HasLength s → IsWriter sources slices → IsWriter (sources ++ s ∷ []) slices
writer_still sources s slices len w =
    record { order = w.order; once = w.once; few = w.few; short = w.short; places = places_still sources (s ∷ []) slices w.places; lengths = all_snoc HasLength sources s w.lengths len }

-- -- what an add of a source answers

length_still : (old new : SourceData) → ChangesFaults old new → HasLength old → HasLength new
length_still old new changes len =
    subst (λ n. IfSome new.bytes (λ b. length b ≡ n)) (sym changes.same_length) (subst (λ o. IfSome o (λ b. length b ≡ old.length)) (sym changes.bytes) len)

source_seen : (sources : List SourceData) (s : SourceData) (number : ℕ) (parts : List Part) (new : List HeldSlice) → number ≡ length sources → AllByRecursion (IsInside s.length) parts → AllZip (IsSliceOf (from.Source number)) parts new
    → AllZip (IsSeenPart source s.faults s.bytes (sources ++ s ∷ [])) parts new
source_seen sources s number parts new last all zip =
    zip_as (IsInside s.length) (IsSliceOf (from.Source number)) (IsSeenPart source s.faults s.bytes (sources ++ s ∷ [])) parts new
    (λ p h inside is. seen_part source s.faults s.bytes (sources ++ s ∷ []) (from.Source number) p h is
    (seen_source (sources ++ s ∷ []) s number p.offset p.shape.size h.bytes (ap (slice_get (sources ++ s ∷ [])) last ∙ get_last sources s) inside.inside is.range))
    all zip

-- the slices of a source are put to a writer's, with the source
pub record IsTakenSource (old new : SourceData) (sources : List SourceData) (slices both : List HeldSlice) (parts : List Part) : Type 0 where
  pub joined : IsJoined source new.faults old.bytes (sources ++ new ∷ []) slices both parts
  pub before : held_list (sources ++ new ∷ []) slices ≡ held_list sources slices

pub taken_source : (old now : SourceData) (sources : List SourceData) (slices new both : List HeldSlice) (parts : List Part) (number : ℕ) → IsWriter sources slices → HasLength old → ChangesFaults old now → AreParts old parts
    → number ≡ length sources → AllZip (IsSliceOf (from.Source number)) parts new → joining_cause (map raw_shape slices) (map raw_shape new) ≡ None → both ≡ all_inserted (by_shape raw_shape) new slices
    → IsTakenSource old now sources slices both parts
taken_source old now sources slices new both parts number w len changes are last zip none is =
    let inside : AllByRecursion (IsInside now.length) parts = subst (λ n. AllByRecursion (IsInside n) parts) (sym changes.same_length) are.inside in
    let seen : AllZip (IsSeenPart source now.faults old.bytes (sources ++ now ∷ [])) parts new =
    subst (λ o. AllZip (IsSeenPart source now.faults o (sources ++ now ∷ [])) parts new) changes.bytes (source_seen sources now number parts new last inside zip) in
    record {
      joined = is_joined source now.faults old.bytes (sources ++ now ∷ []) slices new both parts (writer_still sources now slices (length_still old now changes len) w) are.apart seen none is;
      before = views_still sources (now ∷ []) slices w.places;
    }

unknown_views : (faults : ℕ) (parts : List Part) → map (part_view source faults None) parts ≡ map (unknown_slice faults) (shapes_of_parts parts)
unknown_views faults [] = refl
unknown_views faults (p ∷ parts) = ap (λ vs. unknown_slice faults (shape_view p.shape) ∷ vs) (unknown_views faults parts)

pub adds_shapes : (old now : SourceData) (sources : List SourceData) (slices both : List HeldSlice) (parts : List Part) → old.bytes ≡ None → IsTakenSource old now sources slices both parts
    → AddsShapes (held_list sources slices) (held_list (sources ++ now ∷ []) both)
adds_shapes old now sources slices both parts untold t =
    let bare : IsJoined source now.faults None (sources ++ now ∷ []) slices both parts = subst (λ o. IsJoined source now.faults o (sources ++ now ∷ []) slices both parts) untold t.joined in
    record {
      shapes = shapes_of_parts parts;
      faults = now.faults;
      allowed = subst (λ held. joining_cause (shapes_held held) (shapes_of_parts parts) ≡ None) t.before bare.none;
      added = bare.view ∙ ap (λ held. in_order_by held_before (held ++ map (part_view source now.faults None) parts)) t.before ∙ ap (λ vs. in_order_by held_before (held_list sources slices ++ vs)) (unknown_views now.faults parts);
    }

told_taken : (old now : SourceData) (sources : List SourceData) (slices both : List HeldSlice) (parts : List Part) (b : List ℕ) → old.bytes ≡ Some b → old.length ≡ length b → AreParts old parts → IsTakenSource old now sources slices both parts
    → let r : Result (Unit {0}) Error = Ok tt in IsTaken r (held_list sources slices) (held_list (sources ++ now ∷ []) both) b
told_taken old now sources slices both parts b known len are t =
    let told : IsJoined source now.faults (Some b) (sources ++ now ∷ []) slices both parts = subst (λ o. IsJoined source now.faults o (sources ++ now ∷ []) slices both parts) known t.joined in
    let a = added_input source now.faults b old (sources ++ now ∷ []) slices both parts known len are told in
    record {
      ok = (now.faults, a.view ∙ ap (λ held. with_input held source now.faults b) t.before);
      none = subst (λ held. add_cause (shapes_held held) b ≡ None) t.before a.none;
      cause = tt;
    }

length_by : (s : SourceData) (b : List ℕ) (o : Option (List ℕ)) → s.bytes ≡ o → HasLength s → s.bytes ≡ Some b → s.length ≡ length b
length_by s b None e len known = let bad : None ≡ Some b = sym e ∙ known in absurd (cc)
length_by s b (Some c) e len known =
    let here : length c ≡ s.length = rw e at len in
    let same : Some c ≡ Some b = sym e ∙ known in
    let equal : c ≡ b = cc in
    sym here ∙ ap length equal

each_known : (o : Option (List ℕ)) (P : List ℕ → Type 0) → ((b : List ℕ) → o ≡ Some b → P b) → IfSome o P
each_known None P each = tt
each_known (Some b) P each = each b refl

pub told_source : (old now : SourceData) (sources : List SourceData) (slices both : List HeldSlice) (parts : List Part) → HasLength old → AreParts old parts → IsTakenSource old now sources slices both parts
    → let r : Result (Unit {0}) Error = Ok tt in IfSome old.bytes (IsTaken r (held_list sources slices) (held_list (sources ++ now ∷ []) both))
told_source old now sources slices both parts len are t =
    each_known old.bytes _ (λ b known. told_taken old now sources slices both parts b known (length_by old b old.bytes refl len known) are t)

pub refused_source : (old new : SourceData) (held : List Held) (e : Error) → Fails old new input_cause e → let r : Result (Unit {0}) Error = Err e in IfSome old.bytes (IsTaken r held held)
refused_source old new held e fails =
    each_known old.bytes _ (λ b known. record { ok = tt; none = tt; cause = input_fails old new (shapes_held held) b e known fails })

pub no_memory_source : (o : Option (List ℕ)) (held : List Held) → let r : Result (Unit {0}) Error = Err OutOfMemory in IfSome o (IsTaken r held held)
no_memory_source o held = each_known o _ (λ b known. record { ok = tt; none = tt; cause = inr tt })

pub unjoined_source : (old now : SourceData) (sources : List SourceData) (slices new : List HeldSlice) (parts : List Part) (number : ℕ) (e : Error) → HasLength old → ChangesFaults old now → AreParts old parts
    → number ≡ length sources → AllZip (IsSliceOf (from.Source number)) parts new → TellsAdd e (joining_cause (map raw_shape slices) (map raw_shape new)) → IsWriter sources slices
    → let r : Result (Unit {0}) Error = Err e in IfSome old.bytes (IsTaken r (held_list sources slices) (held_list sources slices))
unjoined_source old now sources slices new parts number e len changes are last zip tells w =
    let inside : AllByRecursion (IsInside now.length) parts = subst (λ n. AllByRecursion (IsInside n) parts) (sym changes.same_length) are.inside in
    let seen = source_seen sources now number parts new last inside zip in
    each_known old.bytes _
    (λ b known. record {
      ok = tt;
      none = tt;
      cause = inr (subst (λ held. TellsAdd e (add_cause (shapes_held held) b)) (views_still sources (now ∷ []) slices w.places)
          (joining_fails source now.faults now.bytes b old (sources ++ now ∷ []) slices new parts e known (length_by old b old.bytes refl len known) are seen tells));
    })

pub source_holds : (number : ℕ) (parts : List Part) → AllByRecursion (HoldsPart (from.Source number)) parts
source_holds number [] = tt
source_holds number (p ∷ parts) = (tt, source_holds number parts)
