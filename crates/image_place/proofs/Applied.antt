-- Where nothing is refused, each relocation of a view is of a kind that is applied.
use Rattle.std.proofs.Common.{◌≡◌, ℕ, zero, suc, ◌+◌, List, [], ◌∷◌, ◌++◌, map, refl, ap, sym, ◌∙◌, Option, Some, None, Bool, true, false, not, slice_get}
use Rattle.std.specs.Prelude.{is_some, flat_map}
use Rattle.std.specs.List.{enumerate_from}
use Rattle.std.specs.Option.{option_or}
use Rattle.ir_core.specs.Moments.{moments}
use Rattle.image_place.specs.declared.rows.DefAddress.{DefAddress as AddressRow}
use Rattle.image_view.specs.declared.view.ViewReloc.{ViewReloc}
use Rattle.image_place.specs.declared.fault.PlaceFault.{PlaceFault}
use Rattle.image_place.specs.declared.fault.PlaceFault.TheVariants.{OtherKind}
use Rattle.image_view.specs.View.{View, ViewSection}
use Rattle.image_place.specs.Placed.{first_fault, fault_if, reloc_fault, image_faults, all_pieces, all_definitions, twice_fault, address_fault, place_fault}
use Rattle.image_place.proofs.EntryLaws.{fault_left, fault_right, fault_map, enumerated, false_if}

-- each relocation of the view is of a kind that is applied
abbrev pub AreApplied : View → Type 0
AreApplied v = (k j : ℕ) (s : ViewSection) (r : ViewReloc) → slice_get v.sections k ≡ Some s → slice_get s.relocations j ≡ Some r → is_some r.kind ≡ true

or_left : (a b : Option PlaceFault) → option_or a b ≡ None → a ≡ None
or_left None b e = refl
or_left (Some x) b e = absurd (cc)

fault_flat : {A : Type 0} (f : A → List (Option PlaceFault)) (xs : List A) (k : ℕ) (x : A) → first_fault (flat_map f xs) ≡ None → slice_get xs k ≡ Some x → first_fault (f x) ≡ None
fault_flat f [] k x e g = absurd (cc)
fault_flat f (y ∷ xs) zero x e g = let same : y ≡ x = cc in ap (λ z. first_fault (f z)) (sym same) ∙ fault_left (f y) (flat_map f xs) e
fault_flat f (y ∷ xs) (suc k) x e g = fault_flat f xs k x (fault_right (f y) (flat_map f xs) e) g

not_false : (b : Bool) → not b ≡ false → b ≡ true
not_false true e = refl
not_false false e = absurd (cc)

pub views-applied : (views : List View) (addresses : List AddressRow) (externs : List (List ℕ × ℕ)) (q : ℕ) (v : View) → place_fault views addresses externs ≡ None → slice_get views q ≡ Some v → AreApplied v
unfolding place_fault
views-applied views addresses externs q v none at_q k j s r at_k at_j =
    let relocations = fault_right (map twice_fault (moments (all_definitions views)) ++ map (address_fault views addresses) (all_definitions views)) (flat_map (image_faults views addresses externs) (enumerate_from 0 views)) none in
    let image = fault_flat (image_faults views addresses externs) (enumerate_from 0 views) q (0 + q, v) relocations (enumerated 0 views q v at_q) in
    let section = fault_flat (λ (x : ℕ × ViewSection). map (reloc_fault (all_pieces addresses views) addresses externs (0 + q) v x) x.1.relocations) (enumerate_from 0 v.sections) k (0 + k, s) image (enumerated 0 v.sections k s at_k) in
    let one = fault_map (reloc_fault (all_pieces addresses views) addresses externs (0 + q) v (0 + k, s)) s.relocations j r section at_j in
    not_false (is_some r.kind) (false_if (not (is_some r.kind)) (OtherKind (0 + q) r.number) (or_left (fault_if (not (is_some r.kind)) (OtherKind (0 + q) r.number)) _ one))
