-- The relocations of an image by the definitions that hold their fields.
use Rattle.std.specs.Prelude.{◌≡◌, ◌≢◌, ℕ, ◌==◌, ◌&&◌, Bool, List, [], ◌∷◌, ◌++◌, length, filter, slice_get, Some}
use Rattle.image_view.specs.View.{View, ViewSection}
use Rattle.image_view.specs.declared.view.ViewReloc.{ViewReloc}
use Rattle.image_place.specs.Placed.{Definition, holds_field}

-- the definition is of section k, which begins there, and holds the whole field
abbrev pub holds_here : ℕ → ℕ → Definition → ViewReloc → Bool
holds_here k start d r = d.section == k && holds_field start r r.kind d

-- so many lists without elements
pub record AreEmpty (count : ℕ) (all : List (List ViewReloc)) : Type 0 where
  pub long : length all ≡ count
  pub none : (i : ℕ) (rs : List ViewReloc) → slice_get all i ≡ Some rs → rs ≡ []

-- the lists have the same elements as before, and behind them what is stated for each definition
pub record Groups (ds : List Definition) (added : Definition → List ViewReloc) (olds news : List (List ViewReloc)) : Type 0 where
  pub long : length news ≡ length olds
  pub each : (i : ℕ) (d : Definition) (old : List ViewReloc) → slice_get ds i ≡ Some d → slice_get olds i ≡ Some old → slice_get news i ≡ Some (old ++ added d)

-- one list has one element more
pub record GroupsOne (number : ℕ) (r : ViewReloc) (olds news : List (List ViewReloc)) : Type 0 where
  pub long : length news ≡ length olds
  pub here : (old : List ViewReloc) → slice_get olds number ≡ Some old → slice_get news number ≡ Some (old ++ r ∷ [])
  pub kept : (i : ℕ) → i ≢ number → slice_get news i ≡ slice_get olds i

-- the relocations of its section whose field a definition holds, in order
abbrev pub fields_of : ViewSection → Definition → List ViewReloc
fields_of s d = filter (λ r. holds_field s.start r r.kind d) s.relocations

pub record HasFields (v : View) (d : Definition) (rs : List ViewReloc) : Type 0 where
  pub all : (s : ViewSection) → slice_get v.sections d.section ≡ Some s → rs ≡ fields_of s d

-- those of each definition
pub record AreGrouped (v : View) (ds : List Definition) (all : List (List ViewReloc)) : Type 0 where
  pub long : length all ≡ length ds
  pub each : (i : ℕ) (d : Definition) (rs : List ViewReloc) → slice_get ds i ≡ Some d → slice_get all i ≡ Some rs → HasFields v d rs
