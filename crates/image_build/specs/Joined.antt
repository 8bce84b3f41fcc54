-- What a part adds to the slices that a writer of fat files holds.
use Rattle.std.specs.Prelude.{◌≡◌, ℕ, List, ◌++◌, false, map, Option, Some, None, IfSome}
use Rattle.fat_macho.specs.FatHolds.{FatHolds}
use Rattle.fat_macho.specs.Held.{Origin, Held, held_before, held_slice, shapes_held, known_slices}
use Rattle.fat_macho.specs.Input.{joining_cause}
use Rattle.fat_macho.specs.Parts.{Pairwise}
use Rattle.fat_macho.specs.Slices.{Slice, shape_of, share_arch, in_order_by}
use Rattle.image_build.specs.declared.error.BuildError.{BuildError}
use Rattle.image_build.specs.Built.{BuildPart, Refused, shapes_of_part, IsSlicesOf, TellsPlace}

-- the error tells what refuses its part
abbrev pub TellsRefused : BuildError → Option Refused → Type 0
TellsRefused e refused = TellsPlace e.place e.cause (λ r. refused ≡ Some r)

-- the slices of the part, each of another architecture, were put in order to those that were held
pub record AddsPart (part : BuildPart) (old new : List Held) : Type 0 where
  pub slices : List Slice
  pub are : IsSlicesOf part slices
  pub shapes : shapes_of_part part ≡ map shape_of slices
  pub apart : Pairwise (λ s t. share_arch (shape_of s) (shape_of t) ≡ false) slices
  pub origin : Origin
  pub added : new ≡ in_order_by held_before (old ++ map (held_slice origin 0) slices)
  pub allowed : joining_cause (shapes_held old) (map shape_of slices) ≡ None

-- the bytes are the fat file of the slices, where all are known
abbrev pub IsKnownFile : List Held → List ℕ → Type 0
IsKnownFile held b = IfSome (known_slices held) (λ slices. FatHolds b slices)
