-- What is written of a writer's slices.
use Rattle.std.specs.Prelude.{◌≡◌, ℕ, List, map, Option, Some, option_map}
use Rattle.std.specs.List.{AllZip}
use Rattle.byte_core.specs.Streams.{SourceData, SinkData, ChangesFaults}
use Rattle.fat_macho.specs.FatBytes.{contents_from, fat_bytes}
use Rattle.fat_macho.specs.Held.{known_slices}
use Rattle.fat_macho.specs.HeldViews.{held_list}
use Rattle.fat_macho.specs.Layout.{fat_layout}
use Rattle.fat_macho.specs.Slices.{Slice, shape_of}
use Rattle.fat_macho.specs.Writing.{Part}
use Rattle.fat_macho.specs.declared.held.HeldSlice.{HeldSlice}

-- no source has changed but in its count
pub record ChangesSources (old new : List SourceData) : Type 0 where
  pub each : AllZip ChangesFaults old new

-- the slices from this place on, where all are known
abbrev pub known_contents : List SourceData → ℕ → ℕ → List HeldSlice → Option (List ℕ)
known_contents sources align end slices = option_map (contents_from align end) (known_slices (held_list sources slices))

-- the file of slices in their order, where all are known
abbrev pub known_file : List SourceData → List HeldSlice → Option (List ℕ)
known_file sources slices = option_map (λ all. fat_bytes all (fat_layout (map shape_of all))) (known_slices (held_list sources slices))

-- a sink took some slices, and these are left
pub record LaysRest (sources : List SourceData) (align start end : ℕ) (all : List Slice) (rest : List HeldSlice) (old new : SinkData) : Type 0 where
  pub left : List Slice
  pub are_left : known_slices (held_list sources rest) ≡ Some left
  pub part : Part old new (contents_from align start all) (contents_from align end left)

-- a sink took the slices before this rest, where all are known
pub record Lays (sources : List SourceData) (align start end : ℕ) (slices rest : List HeldSlice) (old new : SinkData) : Type 0 where
  pub known : (all : List Slice) → known_slices (held_list sources slices) ≡ Some all → LaysRest sources align start end all rest old new
