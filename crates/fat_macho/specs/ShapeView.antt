-- What the definitions see of an architecture and a size.
use Rattle.fat_macho.specs.Slices.{Shape}
use Rattle.fat_macho.specs.declared.shape.SliceShape.{SliceShape}

abbrev pub shape_view : SliceShape → Shape
shape_view s = record { cputype = s.cputype; cpusubtype = s.cpusubtype; size = s.size }
