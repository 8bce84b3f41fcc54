-- Relocations and the definitions that hold their fields.
use Rattle.std.proofs.Common.{◌≡◌, ℕ, ◌+◌, ◌==◌, List, [], ◌∷◌, refl, ap, sym, ◌∙◌, Some, Bool, true, false, slice_get, subst}
use Rattle.std.specs.Prelude.{◌&&◌, ◌||◌, nat_le}
use Rattle.std.specs.List.{list_any}
use Rattle.std.proofs.lemmas.Bool.{and_right}
use Rattle.image_place.specs.Fixups.{FixKind, fix_width}
use Rattle.image_view.specs.declared.view.ViewReloc.{ViewReloc}
use Rattle.image_place.specs.Placed.{Definition, holds}
use Rattle.image_place.specs.Leading.{holds_it, is_far}
use Rattle.image_place.specs.Spanning.{Span, IsHolder}
use Rattle.image_place.specs.Indexed.{line_place}
use Rattle.image_place.proofs.HolderLaws.{HeldHere, any_none, any_here}

and_grouped : (a b c : Bool) → (a && (b && c)) ≡ ((a && b) && c)
and_grouped true b c = refl
and_grouped false b c = refl

-- a definition of section k holds the field just where it holds its bytes
pub field_bytes : (k start : ℕ) (r : ViewReloc) (kind : FixKind) (d : Definition) → holds_it k start r kind d ≡ holds k (start + r.offset) (fix_width kind) d
field_bytes k start r kind d = and_grouped (d.section == k) (nat_le d.symbol.address (start + r.offset)) (nat_le (start + r.offset + fix_width kind) (d.symbol.address + d.size))

any_same : (p q : Definition → Bool) (ds : List Definition) → ((d : Definition) → p d ≡ q d) → list_any p ds ≡ list_any q ds
any_same p q [] h = refl
any_same p q (d ∷ ds) h = ap (λ b. b || list_any p ds) (h d) ∙ ap (λ b. q d || b) (any_same p q ds h)

pub any_field : (k start : ℕ) (r : ViewReloc) (kind : FixKind) (ds : List Definition) → list_any (holds_it k start r kind) ds ≡ list_any (holds k (start + r.offset) (fix_width kind)) ds
any_field k start r kind ds = any_same (holds_it k start r kind) (holds k (start + r.offset) (fix_width kind)) ds (field_bytes k start r kind)

-- the value of the field fits in the definition of this number
abbrev pub FitsIn : List Definition → ℕ → ViewReloc → FixKind → ℕ → ℕ → Type 0
FitsIn ds start r kind s i = (d : Definition) → slice_get ds i ≡ Some d → is_far start r kind s d ≡ false

pub far_here : (ds : List Definition) (k start number : ℕ) (r : ViewReloc) (kind : FixKind) (s : ℕ) (d : Definition) → HeldHere ds k (start + r.offset) (fix_width kind) number → slice_get ds number ≡ Some d → is_far start r kind s d ≡ true
    → list_any (λ x. holds_it k start r kind x && is_far start r kind s x) ds ≡ true
far_here ds k start number r kind s d held at_d far =
    let one : Some held.definition ≡ Some d = sym held.at_number ∙ at_d in
    let two : held.definition ≡ d = cc in
    let holds_d : holds_it k start r kind d ≡ true = field_bytes k start r kind d ∙ ap (holds k (start + r.offset) (fix_width kind)) (sym two) ∙ held.held in
    any_here ds (λ x. holds_it k start r kind x && is_far start r kind s x) number d at_d (ap (λ b. b && is_far start r kind s d) holds_d ∙ far)

none_far_by : (ds : List Definition) (k start : ℕ) (r : ViewReloc) (kind : FixKind) (s : ℕ) → ((i : ℕ) (d : Definition) → slice_get ds i ≡ Some d → holds k (start + r.offset) (fix_width kind) d ≡ true → FitsIn ds start r kind s i)
    → (i : ℕ) (d : Definition) → slice_get ds i ≡ Some d → (b : Bool) → holds_it k start r kind d ≡ b → (holds_it k start r kind d && is_far start r kind s d) ≡ false
none_far_by ds k start r kind s all i d at_d false e = ap (λ b. b && is_far start r kind s d) e
none_far_by ds k start r kind s all i d at_d true e = and_right (holds_it k start r kind d) (is_far start r kind s d) (all i d at_d (sym (field_bytes k start r kind d) ∙ e) d at_d)

pub none_far : (ds : List Definition) (k start : ℕ) (r : ViewReloc) (kind : FixKind) (s : ℕ) → ((i : ℕ) (d : Definition) → slice_get ds i ≡ Some d → holds k (start + r.offset) (fix_width kind) d ≡ true → FitsIn ds start r kind s i)
    → list_any (λ x. holds_it k start r kind x && is_far start r kind s x) ds ≡ false
none_far ds k start r kind s all = any_none ds (λ x. holds_it k start r kind x && is_far start r kind s x) (λ i d at_d. none_far_by ds k start r kind s all i d at_d (holds_it k start r kind d) refl)

pub fits_here : (ds : List Definition) (start number : ℕ) (r : ViewReloc) (kind : FixKind) (s : ℕ) (d : Definition) → slice_get ds number ≡ Some d → is_far start r kind s d ≡ false → FitsIn ds start r kind s number
fits_here ds start number r kind s d at_d near e at_e =
    let one : Some d ≡ Some e = sym at_d ∙ at_e in
    let two : d ≡ e = cc in ap (is_far start r kind s) (sym two) ∙ near

-- the same holder by the numbers that the code has
pub same_holder : (ps : List Span) (k start offset : ℕ) (kind : FixKind) (below place from more at width : ℕ) → from ≡ start → more ≡ offset → at ≡ line_place k (from + more) → width ≡ fix_width kind → IsHolder ps at width below place → IsHolder ps (line_place k (start + offset)) (fix_width kind) below place
same_holder ps k start offset kind below place from more at width e f g h holder =
    let there : at ≡ line_place k (start + offset) = g ∙ ap (λ x. line_place k (x + more)) e ∙ ap (λ x. line_place k (start + x)) f in
    subst (λ t. IsHolder ps t (fix_width kind) below place) there (subst (λ n. IsHolder ps at n below place) h holder)

pub same_place : (ps : List Span) (k start offset below place from more at width : ℕ) → from ≡ start → more ≡ offset → at ≡ line_place k (from + more) → IsHolder ps at width below place → IsHolder ps (line_place k (start + offset)) width below place
same_place ps k start offset below place from more at width e f g holder =
    let there : at ≡ line_place k (start + offset) = g ∙ ap (λ x. line_place k (x + more)) e ∙ ap (λ x. line_place k (start + x)) f in
    subst (λ t. IsHolder ps t width below place) there holder
