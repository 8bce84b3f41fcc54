-- Slices by the names of their architectures.
use Rattle.std.specs.Prelude.{ℕ, Bool, List, Option, option_and_then}
use Rattle.std.specs.List.{position_from}
use Rattle.goblin_mach.specs.Architectures.{pair_named}
use Rattle.fat_macho.specs.Slices.{Shape, is_same_arch}

-- the shape is of the architecture of this pair
abbrev pub is_shape_of : ℕ × ℕ → Shape → Bool
is_shape_of pair a = is_same_arch pair.0 pair.1 a.cputype a.cpusubtype

-- the place of the first slice of a name's architecture
abbrev pub place_named : List Shape → List ℕ → Option ℕ
place_named shapes name = option_and_then (λ pair. position_from (is_shape_of pair) 0 shapes) (pair_named name)
