-- What the checks of an object answer, step by step.
use Rattle.std.specs.Prelude.{◌≡◌, ℕ, ◌<◌, false, List, slice_get, Some}
use Rattle.object_core.specs.declared.relocation.Relocation.{Relocation}
use Rattle.object_core.specs.declared.relocation.RelocationFlags.{RelocationFlags}
use Rattle.object_core.specs.declared.relocation.RelocationFlags.TheVariants as flags
use Rattle.object_core.specs.Object.{SectionData, ObjectData}
use Rattle.object_core.specs.WellFormed.{IsFormedRelocation, AreApart, has_zero_byte}

-- every element of a list is so, by its place
abbrev pub Each : {A : Type 0} → (A → Type 0) → List A → Type 0
Each P xs = (k : ℕ) (x : _) → slice_get xs k ≡ Some x → P x

-- the element at this place is so
abbrev pub At : {A : Type 0} → (A → Type 0) → List A → ℕ → Type 0
At P xs k = (x : _) → slice_get xs k ≡ Some x → P x

-- a section of an ELF object
pub record IsFormedElfSection (o : ObjectData) (s : SectionData) : Type 0 where
  pub name : has_zero_byte s.name ≡ false
  pub relocations : Each (IsFormedRelocation o s) s.relocations

-- the fields of the relocations are apart
abbrev pub AreAllApart : List Relocation → Type 0
AreAllApart rs = (m n : ℕ) (r q : Relocation) → m < n → slice_get rs m ≡ Some r → slice_get rs n ≡ Some q → AreApart r q

-- the fields before the one at this place are apart of it
abbrev pub IsApartOfEarlier : List Relocation → ℕ → Type 0
IsApartOfEarlier rs n = (m : ℕ) (r q : Relocation) → m < n → slice_get rs m ≡ Some r → slice_get rs n ≡ Some q → AreApart r q

-- the field has 8 bytes at most
abbrev pub IsNarrow : RelocationFlags → Type 0
IsNarrow (flags.Elf _) = Unit {0}
IsNarrow (flags.MachO _ _ length) = length < 4

abbrev pub AreNarrow : List Relocation → Type 0
AreNarrow rs = Each (λ (r : Relocation). IsNarrow r.flags) rs
