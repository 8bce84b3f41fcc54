-- The slices of owned bytes.
use Rattle.std.proofs.Common.{◌≡◌, ℕ, ◌≤◌, ◌<◌, List, [], ◌∷◌, length, get_or, Some, refl, ap, sym, ◌∙◌, subst, arith, Bor, Global, Vec}
use Rattle.std.specs.List.{AllByRecursion, AllZip}
use Rattle.std.specs.Rc.{rc_slice_items}
use Rattle.std.specs.declared.rc.RcSlice.{RcSlice}
use Rattle.std.proofs.lemmas.List.{take_all}
use Rattle.byte_core.specs.Number.{bytes_at}
use Rattle.byte_core.specs.Streams.{SourceData}
use Rattle.fat_macho.specs.AddedViews.{HoldsPart, IsSliceOf, IsSeenPart, AreOwnedParts}
use Rattle.fat_macho.specs.Held.{owned}
use Rattle.fat_macho.specs.Parts.{IsInside}
use Rattle.fat_macho.specs.declared.added.InputBytes.TheVariants as from
use Rattle.fat_macho.specs.declared.held.HeldSlice.{HeldSlice}
use Rattle.fat_macho.specs.declared.held.SliceBytes.TheVariants.{Owned}
use Rattle.fat_macho.specs.declared.input.Part.{Part}
use Rattle.fat_macho.proofs.AddLaws as adding
use Rattle.fat_macho.proofs.AddedLaws.{three, four}

whole_bytes : (b : List ℕ) (offset size : ℕ) → offset ≡ 0 → size ≡ length b → b ≡ bytes_at b offset size
unfolding bytes_at
whole_bytes b offset size start all = sym (ap (bytes_at b offset) all ∙ ap (λ p. bytes_at b p (length b)) start ∙ take_all (length b) b (omega arith))

pub whole_part : (bytes : Vec ℕ Global) (part : Part) (new : List HeldSlice) → part.offset ≡ 0 → part.shape.size ≡ length bytes.items
    → new ≡ record { cputype = part.shape.cputype; cpusubtype = part.shape.cpusubtype; bytes = Owned bytes } ∷ [] → AreOwnedParts bytes.items (part ∷ []) new
whole_part bytes part new start all only =
    let shape = three part.shape.cputype part.shape.cputype part.shape.cpusubtype part.shape.cpusubtype (length bytes.items) part.shape.size refl refl (sym all) in
    let one : (sources : List SourceData) → IsSeenPart owned 0 (Some bytes.items) sources part (record { cputype = part.shape.cputype; cpusubtype = part.shape.cpusubtype; bytes = Owned bytes }) =
    λ sources. record { shape = shape; view = four _ _ _ _ _ _ _ _ shape (ap Some (whole_bytes bytes.items part.offset part.shape.size start all)) refl refl; placed = tt } in
    record { each = λ sources. subst (AllZip (IsSeenPart owned 0 (Some bytes.items) sources) (part ∷ [])) (sym only) (one sources, tt) }

pub shared_holds : (bytes : Vec ℕ Global) (rc : Bor (RcSlice ℕ Global)) (parts : List Part) → rc_slice_items rc.now ≡ bytes.items → AllByRecursion (IsInside (length bytes.items)) parts → AllByRecursion (HoldsPart (from.Shared rc)) parts
shared_holds bytes rc parts same all = adding.shared_holds rc parts (subst (λ b. AllByRecursion (IsInside (length b)) parts) (sym same) all)

pub shared_parts : (bytes : Vec ℕ Global) (rc : Bor (RcSlice ℕ Global)) (parts : List Part) (new : List HeldSlice) → rc_slice_items rc.now ≡ bytes.items → AllByRecursion (IsInside (length bytes.items)) parts
    → AllZip (IsSliceOf (from.Shared rc)) parts new → AreOwnedParts bytes.items parts new
shared_parts bytes rc parts new same all zip =
    let inside = subst (λ b. AllByRecursion (IsInside (length b)) parts) (sym same) all in
    record { each = λ sources. subst (λ b. AllZip (IsSeenPart owned 0 (Some b) sources) parts new) same (adding.shared_seen sources rc parts new inside zip) }

pub only_part : (parts : List Part) (d : Part) → 1 ≤ length parts → length parts < 2 → parts ≡ get_or parts 0 d ∷ []
only_part [] d some few = absurd (omega (arith, some))
only_part (p ∷ []) d some few = refl
only_part (p ∷ q ∷ parts) d some few = absurd (omega (arith, few))
