-- The steps of a layout: where each slice stands, and how many bytes it has.
use Rattle.std.specs.Prelude.{ℕ, List, map, zip}
use Rattle.fat_macho.specs.Layout.{places_from, fat_layout, sizes_of}
use Rattle.fat_macho.specs.Slices.{Shape}
use Rattle.fat_macho.specs.declared.steps.LayoutStep.{LayoutStep}

abbrev pub step_at : ℕ × ℕ → LayoutStep
step_at place = record { offset = place.0; size = place.1 }

-- the steps of slices of these sizes that stand from this place on
abbrev pub steps_from : ℕ → ℕ → List ℕ → List LayoutStep
steps_from align end sizes = map step_at (zip (places_from align end sizes) sizes)

-- the offsets and sizes of slices in their order
unfoldable pub layout_steps : List Shape → List LayoutStep
layout_steps shapes = map step_at (zip (fat_layout shapes).offsets (sizes_of shapes))
