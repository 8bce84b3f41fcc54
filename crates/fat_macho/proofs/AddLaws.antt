-- An input is added.
use Rattle.std.proofs.Common.{◌≡◌, ℕ, ◌+◌, ◌≤◌, true, false, List, [], ◌∷◌, ◌++◌, length, map, Option, Some, None, refl, ap, sym, ◌∙◌, subst, ◌⊎◌, inl, inr, Result, Ok, Err, OnOk, OnErr, IfErr, Bor, Global}
use Rattle.std.specs.List.{AllByRecursion, AllZip}
use Rattle.std.specs.Option.{option_or}
use Rattle.std.specs.Rc.{rc_slice_items}
use Rattle.std.specs.declared.rc.RcSlice.{RcSlice}
use Rattle.byte_core.specs.Number.{bytes_at}
use Rattle.byte_core.specs.Streams.{SourceData}
use Rattle.fat_macho.specs.AddedViews.{HoldsPart, IsSliceOf, part_view, IsSeenPart}
use Rattle.fat_macho.specs.Adding.{TellsAdd}
use Rattle.fat_macho.specs.Held.{Held, Origin, borrowed, owned, held_before, shapes_held, held_slice, with_input, IsAdded}
use Rattle.fat_macho.specs.HeldViews.{raw_shape, held_list, IsPlaced, AreOthers, IsWriter}
use Rattle.fat_macho.specs.Input.{FatRefusal, joining_cause, input_cause, input_slices, add_cause}
use Rattle.fat_macho.specs.Parts.{Pairwise, IsInside, AreApart, part_slice, AreParts, ReadFails, Fails}
use Rattle.fat_macho.specs.ShapeView.{shape_view}
use Rattle.fat_macho.specs.Slices.{Shape, shape_of, share_arch, by_shape, all_inserted, in_order_by}
use Rattle.fat_macho.specs.declared.error.Error.{Error}
use Rattle.fat_macho.specs.declared.error.Error.TheVariants.{Io, Goblin, NotFatBinary, InvalidMachO, DuplicatedArch, TooMany, TooLarge, OutOfMemory}
use Rattle.fat_macho.specs.declared.error.IoCause.TheVariants.{Source, Sink, Open}
use Rattle.fat_macho.specs.declared.added.InputBytes.TheVariants as from
use Rattle.fat_macho.specs.declared.held.HeldSlice.{HeldSlice}
use Rattle.fat_macho.specs.declared.input.Part.{Part}
use Rattle.fat_macho.proofs.AddedLaws.{seen_borrowed, seen_shared, seen_part}
use Rattle.fat_macho.proofs.InputLaws.{shapes_of_parts, part_shape, parts_shapes}
use Rattle.fat_macho.proofs.Pairs.{all_map}
use Rattle.fat_macho.proofs.WriterLaws.{joined_writer, joined_view, shapes_of_view}

-- -- lists side by side

pub zip_as : {A B : Type 0} (P : A → Type 0) (R S : A → B → Type 0) (xs : List A) (ys : List B) → ((x : A) (y : B) → P x → R x y → S x y) → AllByRecursion P xs → AllZip R xs ys → AllZip S xs ys
zip_as P R S [] [] leads all h = tt
zip_as P R S [] (y ∷ ys) leads all h = absurd h
zip_as P R S (x ∷ xs) [] leads all h = absurd h
zip_as P R S (x ∷ xs) (y ∷ ys) leads all h = (leads x y all.0 h.0, zip_as P R S xs ys leads all.1 h.1)

new_shapes : (origin : Origin) (faults : ℕ) (bytes : Option (List ℕ)) (sources : List SourceData) (parts : List Part) (new : List HeldSlice) → AllZip (IsSeenPart origin faults bytes sources) parts new → map raw_shape new ≡ shapes_of_parts parts
new_shapes origin faults bytes sources [] [] h = refl
new_shapes origin faults bytes sources [] (y ∷ ys) h = absurd h
new_shapes origin faults bytes sources (p ∷ parts) [] h = absurd h
new_shapes origin faults bytes sources (p ∷ parts) (y ∷ ys) h = ap (λ s. s ∷ map raw_shape ys) h.0.shape ∙ ap (λ ss. shape_view p.shape ∷ ss) (new_shapes origin faults bytes sources parts ys h.1)

new_places : (origin : Origin) (faults : ℕ) (bytes : Option (List ℕ)) (sources : List SourceData) (parts : List Part) (new : List HeldSlice) → AllZip (IsSeenPart origin faults bytes sources) parts new → AllByRecursion (λ h. IsPlaced sources h.bytes) new
new_places origin faults bytes sources [] [] h = tt
new_places origin faults bytes sources [] (y ∷ ys) h = absurd h
new_places origin faults bytes sources (p ∷ parts) [] h = absurd h
new_places origin faults bytes sources (p ∷ parts) (y ∷ ys) h = (h.0.placed, new_places origin faults bytes sources parts ys h.1)

new_views : (origin : Origin) (faults : ℕ) (bytes : Option (List ℕ)) (sources : List SourceData) (parts : List Part) (new : List HeldSlice) → AllZip (IsSeenPart origin faults bytes sources) parts new → held_list sources new ≡ map (part_view origin faults bytes) parts
new_views origin faults bytes sources [] [] h = refl
new_views origin faults bytes sources [] (y ∷ ys) h = absurd h
new_views origin faults bytes sources (p ∷ parts) [] h = absurd h
new_views origin faults bytes sources (p ∷ parts) (y ∷ ys) h = ap (λ s. s ∷ held_list sources ys) h.0.view ∙ ap (λ ss. part_view origin faults bytes p ∷ ss) (new_views origin faults bytes sources parts ys h.1)

apart_one : (origin : Origin) (faults : ℕ) (bytes : Option (List ℕ)) (sources : List SourceData) (p : Part) (x : HeldSlice) (parts : List Part) (new : List HeldSlice) → raw_shape x ≡ shape_view p.shape
    → AllByRecursion (AreApart p) parts → AllZip (IsSeenPart origin faults bytes sources) parts new → AllByRecursion (AreOthers x) new
apart_one origin faults bytes sources p x [] [] same all h = tt
apart_one origin faults bytes sources p x [] (y ∷ ys) same all h = absurd h
apart_one origin faults bytes sources p x (q ∷ parts) [] same all h = absurd h
apart_one origin faults bytes sources p x (q ∷ parts) (y ∷ ys) same all h =
    (ap (λ a. share_arch a (raw_shape y)) same ∙ ap (share_arch (shape_view p.shape)) h.0.shape ∙ all.0, apart_one origin faults bytes sources p x parts ys same all.1 h.1)

new_apart : (origin : Origin) (faults : ℕ) (bytes : Option (List ℕ)) (sources : List SourceData) (parts : List Part) (new : List HeldSlice) → Pairwise AreApart parts → AllZip (IsSeenPart origin faults bytes sources) parts new → Pairwise AreOthers new
new_apart origin faults bytes sources [] [] apart h = tt
new_apart origin faults bytes sources [] (y ∷ ys) apart h = absurd h
new_apart origin faults bytes sources (p ∷ parts) [] apart h = absurd h
new_apart origin faults bytes sources (p ∷ parts) (y ∷ ys) apart h = (apart_one origin faults bytes sources p y parts ys h.0.shape apart.0 h.1, new_apart origin faults bytes sources parts ys apart.1 h.1)

slice_view : (origin : Origin) (faults : ℕ) (b : List ℕ) (p : Part) → IsInside (length b) p → part_view origin faults (Some b) p ≡ held_slice origin faults (part_slice b p)
slice_view origin faults b p h = ap (λ s. record { shape = s; bytes = Some (bytes_at b p.offset p.shape.size); origin = origin; faults = faults }) (sym (part_shape b p h))

slice_views : (origin : Origin) (faults : ℕ) (b : List ℕ) (parts : List Part) → AllByRecursion (IsInside (length b)) parts → map (part_view origin faults (Some b)) parts ≡ map (held_slice origin faults) (map (part_slice b) parts)
slice_views origin faults b [] all = refl
slice_views origin faults b (p ∷ parts) all = ap (λ v. v ∷ map (part_view origin faults (Some b)) parts) (slice_view origin faults b p all.0) ∙ ap (λ vs. held_slice origin faults (part_slice b p) ∷ vs) (slice_views origin faults b parts all.1)

-- -- adding

-- slices of an input with these parts are put to a writer's
pub record IsJoined (origin : Origin) (faults : ℕ) (bytes : Option (List ℕ)) (sources : List SourceData) (slices both : List HeldSlice) (parts : List Part) : Type 0 where
  pub writer : IsWriter sources both
  pub view : held_list sources both ≡ in_order_by held_before (held_list sources slices ++ map (part_view origin faults bytes) parts)
  pub none : joining_cause (shapes_held (held_list sources slices)) (shapes_of_parts parts) ≡ None

pub is_joined : (origin : Origin) (faults : ℕ) (bytes : Option (List ℕ)) (sources : List SourceData) (slices new both : List HeldSlice) (parts : List Part) → IsWriter sources slices → Pairwise AreApart parts
    → AllZip (IsSeenPart origin faults bytes sources) parts new → joining_cause (map raw_shape slices) (map raw_shape new) ≡ None → both ≡ all_inserted (by_shape raw_shape) new slices
    → IsJoined origin faults bytes sources slices both parts
is_joined origin faults bytes sources slices new both parts w apart seen none is =
    record {
      writer = joined_writer sources slices new both w (new_places origin faults bytes sources parts new seen) (new_apart origin faults bytes sources parts new apart seen) none is;
      view = joined_view sources slices new both w none is ∙ ap (λ vs. in_order_by held_before (held_list sources slices ++ vs)) (new_views origin faults bytes sources parts new seen);
      none = ap (λ ss. joining_cause ss (shapes_of_parts parts)) (shapes_of_view sources slices) ∙ ap (joining_cause (map raw_shape slices)) (sym (new_shapes origin faults bytes sources parts new seen)) ∙ none;
    }

all_inside : (s : SourceData) (b : List ℕ) (parts : List Part) → s.length ≡ length b → AllByRecursion (IsInside s.length) parts → AllByRecursion (IsInside (length b)) parts
all_inside s b parts len all = subst (λ n. AllByRecursion (IsInside n) parts) len all

known_shapes : (s : SourceData) (b : List ℕ) (parts : List Part) → s.bytes ≡ Some b → s.length ≡ length b → AreParts s parts → map shape_of (input_slices b) ≡ shapes_of_parts parts
known_shapes s b parts e len are = ap (map shape_of) (sym (are.slices b e)) ∙ parts_shapes b parts (all_inside s b parts len are.inside)

cause_of_parts : (s : SourceData) (b : List ℕ) (held : List Shape) (parts : List Part) → s.bytes ≡ Some b → s.length ≡ length b → AreParts s parts → add_cause held b ≡ joining_cause held (shapes_of_parts parts)
unfolding add_cause
cause_of_parts s b held parts e len are =
    ap (λ o. option_or o (joining_cause held (map shape_of (input_slices b)))) (are.none b e) ∙ ap (joining_cause held) (known_shapes s b parts e len are)

-- an input whose bytes are known is added
pub record IsAddedInput (origin : Origin) (faults : ℕ) (b : List ℕ) (sources : List SourceData) (slices both : List HeldSlice) : Type 0 where
  pub writer : IsWriter sources both
  pub view : held_list sources both ≡ with_input (held_list sources slices) origin faults b
  pub none : add_cause (shapes_held (held_list sources slices)) b ≡ None

pub added_input : (origin : Origin) (faults : ℕ) (b : List ℕ) (s : SourceData) (sources : List SourceData) (slices both : List HeldSlice) (parts : List Part) → s.bytes ≡ Some b → s.length ≡ length b → AreParts s parts
    → IsJoined origin faults (Some b) sources slices both parts → IsAddedInput origin faults b sources slices both
unfolding with_input
added_input origin faults b s sources slices both parts e len are j =
    record {
      writer = j.writer;
      view = j.view ∙ ap (λ vs. in_order_by held_before (held_list sources slices ++ vs)) (slice_views origin faults b parts (all_inside s b parts len are.inside) ∙ ap (map (held_slice origin faults)) (are.slices b e));
      none = cause_of_parts s b (shapes_held (held_list sources slices)) parts e len are ∙ j.none;
    }

tells_same : (e : Error) (c d : Option FatRefusal) → c ≡ d → TellsAdd e d → TellsAdd e c
tells_same e c d same tells = subst (TellsAdd e) (sym same) tells

-- an input that is refused among the others
pub joining_fails : (origin : Origin) (faults : ℕ) (bytes : Option (List ℕ)) (b : List ℕ) (s : SourceData) (sources : List SourceData) (slices new : List HeldSlice) (parts : List Part) (e : Error) → s.bytes ≡ Some b → s.length ≡ length b → AreParts s parts
    → AllZip (IsSeenPart origin faults bytes sources) parts new → TellsAdd e (joining_cause (map raw_shape slices) (map raw_shape new)) → TellsAdd e (add_cause (shapes_held (held_list sources slices)) b)
joining_fails origin faults bytes b s sources slices new parts e known len are seen tells =
    tells_same e _ _
    (cause_of_parts s b (shapes_held (held_list sources slices)) parts known len are
    ∙ ap (λ ss. joining_cause ss (shapes_of_parts parts)) (shapes_of_view sources slices)
    ∙ ap (joining_cause (map raw_shape slices)) (sym (new_shapes origin faults bytes sources parts new seen)))
    tells

refused_input : (held : List Shape) (b : List ℕ) (r : FatRefusal) → input_cause b ≡ Some r → add_cause held b ≡ Some r
unfolding add_cause
refused_input held b r e = ap (λ o. option_or o (joining_cause held (map shape_of (input_slices b)))) e

-- an input that is refused by itself
pub input_fails : (old new : SourceData) (held : List Shape) (b : List ℕ) (e : Error) → old.bytes ≡ Some b → Fails old new input_cause e → (e ≡ Io Source) ⊎ TellsAdd e (add_cause held b)
input_fails old new held b (Io Source) known fails = inl refl
input_fails old new held b (Io Sink) known fails = absurd fails
input_fails old new held b (Io Open) known fails = absurd fails
input_fails old new held b (Goblin c) known fails = absurd fails
input_fails old new held b NotFatBinary known fails = absurd fails
input_fails old new held b OutOfMemory known fails = inr tt
input_fails old new held b (InvalidMachO c) known fails = inr (refused_input held b _ (fails.known b known))
input_fails old new held b (DuplicatedArch c) known fails = inr (refused_input held b _ (fails.known b known))
input_fails old new held b (TooMany c) known fails = inr (refused_input held b _ (fails.known b known))
input_fails old new held b (TooLarge c) known fails = inr (refused_input held b _ (fails.known b known))

no_read_fails : (old new : SourceData) → old.can_fail ≡ false → ReadFails old new → ⊥
no_read_fails old new sure fails = let both : false ≡ true = sym sure ∙ fails.can in absurd (cc)

pub sure_input_fails : (old new : SourceData) (held : List Shape) (b : List ℕ) (e : Error) → old.bytes ≡ Some b → old.can_fail ≡ false → Fails old new input_cause e → TellsAdd e (add_cause held b)
sure_input_fails old new held b (Io Source) known sure fails = absurd (no_read_fails old new sure fails)
sure_input_fails old new held b (Io Sink) known sure fails = absurd fails
sure_input_fails old new held b (Io Open) known sure fails = absurd fails
sure_input_fails old new held b (Goblin c) known sure fails = absurd fails
sure_input_fails old new held b NotFatBinary known sure fails = absurd fails
sure_input_fails old new held b OutOfMemory known sure fails = tt
sure_input_fails old new held b (InvalidMachO c) known sure fails = refused_input held b _ (fails.known b known)
sure_input_fails old new held b (DuplicatedArch c) known sure fails = refused_input held b _ (fails.known b known)
sure_input_fails old new held b (TooMany c) known sure fails = refused_input held b _ (fails.known b known)
sure_input_fails old new held b (TooLarge c) known sure fails = refused_input held b _ (fails.known b known)

-- -- what an add in memory answers

pub refused_add : {A : Type 0} (e : Error) (held : List Held) (origin : Origin) (b : List ℕ) → TellsAdd e (add_cause (shapes_held held) b) → let r : Result A Error = Err e in IsAdded r held held origin b
refused_add e held origin b tells = record { ok = tt; none = tt; cause = tells; err = refl }

pub is_added : {A : Type 0} (r : Result A Error) (origin : Origin) (b : List ℕ) (s : SourceData) (sources : List SourceData) (slices new both : List HeldSlice) (parts : List Part) → IsWriter sources slices
    → s.bytes ≡ Some b → s.length ≡ length b → AreParts s parts → AllZip (IsSeenPart origin 0 (Some b) sources) parts new
    → OnOk r (joining_cause (map raw_shape slices) (map raw_shape new) ≡ None) → IfErr r (λ e. TellsAdd e (joining_cause (map raw_shape slices) (map raw_shape new)))
    → OnOk r (both ≡ all_inserted (by_shape raw_shape) new slices) → OnErr r (both ≡ slices) → IsAdded r (held_list sources slices) (held_list sources both) origin b
is_added (Ok x) origin b s sources slices new both parts w known len are seen none cause ok err =
    let a = added_input origin 0 b s sources slices both parts known len are (is_joined origin 0 (Some b) sources slices new both parts w are.apart seen none ok) in
    record { ok = a.view; none = a.none; cause = tt; err = tt }
is_added (Err e) origin b s sources slices new both parts w known len are seen none cause ok err =
    record { ok = tt; none = tt; cause = joining_fails origin 0 (Some b) b s sources slices new parts e known len are seen cause; err = ap (held_list sources) err }

pub added_writer : {A : Type 0} (r : Result A Error) (origin : Origin) (b : Option (List ℕ)) (sources : List SourceData) (slices new both : List HeldSlice) (parts : List Part) → IsWriter sources slices
    → Pairwise AreApart parts → AllZip (IsSeenPart origin 0 b sources) parts new
    → OnOk r (joining_cause (map raw_shape slices) (map raw_shape new) ≡ None) → OnOk r (both ≡ all_inserted (by_shape raw_shape) new slices) → OnErr r (both ≡ slices) → IsWriter sources both
added_writer (Ok x) origin b sources slices new both parts w apart seen none ok err = (is_joined origin 0 b sources slices new both parts w apart seen none ok).writer
added_writer (Err e) origin b sources slices new both parts w apart seen none ok err = subst (IsWriter sources) (sym err) w

pub borrowed_seen : (sources : List SourceData) (bs : Bor (List ℕ)) (parts : List Part) (new : List HeldSlice) → AllByRecursion (IsInside (length bs.now)) parts → AllZip (IsSliceOf (from.Borrowed bs)) parts new
    → AllZip (IsSeenPart borrowed 0 (Some bs.now) sources) parts new
borrowed_seen sources bs parts new all zip =
    zip_as (IsInside (length bs.now)) (IsSliceOf (from.Borrowed bs)) (IsSeenPart borrowed 0 (Some bs.now) sources) parts new
    (λ p h inside is. seen_part borrowed 0 (Some bs.now) sources (from.Borrowed bs) p h is (seen_borrowed sources bs p.offset p.shape.size h.bytes inside.inside is.range))
    all zip

pub shared_seen : (sources : List SourceData) (rc : Bor (RcSlice ℕ Global)) (parts : List Part) (new : List HeldSlice) → AllByRecursion (IsInside (length (rc_slice_items rc.now))) parts → AllZip (IsSliceOf (from.Shared rc)) parts new
    → AllZip (IsSeenPart owned 0 (Some (rc_slice_items rc.now)) sources) parts new
shared_seen sources rc parts new all zip =
    zip_as (IsInside (length (rc_slice_items rc.now))) (IsSliceOf (from.Shared rc)) (IsSeenPart owned 0 (Some (rc_slice_items rc.now)) sources) parts new
    (λ p h inside is. seen_part owned 0 (Some (rc_slice_items rc.now)) sources (from.Shared rc) p h is (seen_shared sources rc p.offset p.shape.size h.bytes inside.inside is.range))
    all zip

pub borrowed_holds : (bs : Bor (List ℕ)) (parts : List Part) → AllByRecursion (IsInside (length bs.now)) parts → AllByRecursion (HoldsPart (from.Borrowed bs)) parts
borrowed_holds bs parts all = all_map (IsInside (length bs.now)) (HoldsPart (from.Borrowed bs)) parts (λ p h. h.inside) all

pub shared_holds : (rc : Bor (RcSlice ℕ Global)) (parts : List Part) → AllByRecursion (IsInside (length (rc_slice_items rc.now))) parts → AllByRecursion (HoldsPart (from.Shared rc)) parts
shared_holds rc parts all = all_map (IsInside (length (rc_slice_items rc.now))) (HoldsPart (from.Shared rc)) parts (λ p h. h.inside) all

pub each_holds : (b : List ℕ) (parts : List Part) → AllByRecursion (IsInside (length b)) parts → AllByRecursion (λ (p : Part). p.offset + p.shape.size ≤ length b) parts
each_holds b parts all = all_map (IsInside (length b)) (λ (p : Part). p.offset + p.shape.size ≤ length b) parts (λ p h. h.inside) all
