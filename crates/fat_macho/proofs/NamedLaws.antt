-- The slice of a name.
use Rattle.std.proofs.Common.{◌≡◌, ℕ, ◌+◌, Bool, true, false, List, [], ◌∷◌, map, find, Option, Some, None, option_and_then, is_some, refl, if◌then◌else◌}
use Rattle.std.specs.List.{position_from}
use Rattle.byte_core.specs.Streams.{SourceData}
use Rattle.goblin_mach.specs.Architectures.{pair_named}
use Rattle.fat_macho.specs.Held.{is_slice_of, slice_named}
use Rattle.fat_macho.specs.HeldViews.{raw_shape, held_view, held_list}
use Rattle.fat_macho.specs.Named.{is_shape_of, place_named}
use Rattle.fat_macho.specs.declared.held.HeldSlice.{HeldSlice}

some_by : (sources : List SourceData) (pair : ℕ × ℕ) (i : ℕ) (h : HeldSlice) (slices : List HeldSlice) (t : Bool)
    → is_some (position_from (is_shape_of pair) (i + 1) (map raw_shape slices)) ≡ is_some (find (is_slice_of pair) (held_list sources slices))
    → is_some (if t then Some i else position_from (is_shape_of pair) (i + 1) (map raw_shape slices)) ≡ is_some (if t then Some (held_view sources h) else find (is_slice_of pair) (held_list sources slices))
some_by sources pair i h slices true rest = refl
some_by sources pair i h slices false rest = rest

some_place : (sources : List SourceData) (pair : ℕ × ℕ) (i : ℕ) (slices : List HeldSlice) → is_some (position_from (is_shape_of pair) i (map raw_shape slices)) ≡ is_some (find (is_slice_of pair) (held_list sources slices))
some_place sources pair i [] = refl
some_place sources pair i (h ∷ slices) = some_by sources pair i h slices (is_shape_of pair (raw_shape h)) (some_place sources pair (i + 1) slices)

named_by : (sources : List SourceData) (o : Option (ℕ × ℕ)) (slices : List HeldSlice)
    → is_some (option_and_then (λ pair. position_from (is_shape_of pair) 0 (map raw_shape slices)) o) ≡ is_some (option_and_then (λ pair. find (is_slice_of pair) (held_list sources slices)) o)
named_by sources None slices = refl
named_by sources (Some pair) slices = some_place sources pair 0 slices

-- a slice of the name has a place
pub named_exists : (sources : List SourceData) (slices : List HeldSlice) (name : List ℕ) → is_some (place_named (map raw_shape slices) name) ≡ is_some (slice_named (held_list sources slices) name)
named_exists sources slices name = named_by sources (pair_named name) slices
