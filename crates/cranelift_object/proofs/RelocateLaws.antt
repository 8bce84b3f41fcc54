-- Relocations, one after the other.
use Rattle.std.proofs.Common.{◌≡◌, ℕ, ◌+◌, ◌<◌, ◌++◌, ◌∷◌, List, [], length, map, take, get_or, ap, sym, ◌∙◌, append_assoc}
use Rattle.std.proofs.lemmas.List.{append-nil, map-append, take_more}
use Rattle.object_core.specs.declared.relocation.Relocation.{Relocation}
use Rattle.object_core.specs.Object.{SectionData, ObjectData}
use Rattle.object_core.specs.Appending.{relocated, with_relocation}
use Rattle.cranelift_object.specs.Product.{relocated_by, with_relocations}
use Rattle.cranelift_object.proofs.ChangeLaws.{changed_twice, changed_same, changed_alike, changed_length}

same_section : (x : SectionData) → relocated_by [] x ≡ x
same_section x = ap (λ (rs : List Relocation). record x { relocations = rs }) (append-nil x.relocations)

-- no relocation changes nothing
pub relocated_none : (o : ObjectData) (section : ℕ) → o ≡ with_relocations o section []
relocated_none o section = ap (λ (xs : List SectionData). record o { sections = xs }) (sym (changed_same section (relocated_by []) o.sections same_section))

more_section : (rs : List Relocation) (r : Relocation) (x : SectionData) → relocated r (relocated_by rs x) ≡ relocated_by (rs ++ r ∷ []) x
more_section rs r x = ap (λ (all : List Relocation). record x { relocations = all }) (append_assoc x.relocations rs (r ∷ []))

-- one more stands behind the others
relocated_more : (o : ObjectData) (section : ℕ) (rs : List Relocation) (r : Relocation) → with_relocation (with_relocations o section rs) section r ≡ with_relocations o section (rs ++ r ∷ [])
relocated_more o section rs r =
    ap (λ (xs : List SectionData). record o { sections = xs })
    (changed_twice section (relocated r) (relocated_by rs) o.sections ∙ changed_alike section (λ x. relocated r (relocated_by rs x)) (relocated_by (rs ++ r ∷ [])) o.sections (more_section rs r))

-- the relocation of the next element
pub relocated_next : {A : Type 0} (o now left : ObjectData) (section : ℕ) (f : A → Relocation) (xs : List A) (i : ℕ) (x : A) (r : Relocation) → i < length xs → x ≡ get_or xs i x → r ≡ f x → now ≡ with_relocations o section (map f (take i xs)) → left ≡ with_relocation now section r
    → left ≡ with_relocations o section (map f (take (i + 1) xs))
relocated_next o now left section f xs i x r below at is before ends =
    let front : map f (take (i + 1) xs) ≡ map f (take i xs) ++ r ∷ [] =
    ap (map f) (take_more xs i x below ∙ ap (λ y. take i xs ++ y ∷ []) (sym at)) ∙ map-append f (take i xs) (x ∷ []) ∙ ap (λ y. map f (take i xs) ++ y ∷ []) (sym is)
    in
    ends ∙ ap (λ y. with_relocation y section r) before ∙ relocated_more o section (map f (take i xs)) r ∙ ap (with_relocations o section) (sym front)

-- as many sections are there
pub relocated_sections : (o now : ObjectData) (section : ℕ) (rs : List Relocation) → now ≡ with_relocations o section rs → length now.sections ≡ length o.sections
relocated_sections o now section rs e = ap (λ (x : ObjectData). length x.sections) e ∙ changed_length section (relocated_by rs) o.sections
