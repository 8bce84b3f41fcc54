-- Numbers written one after another.
use Rattle.std.specs.Prelude.{ℕ, zero, suc, ◌+◌, ◌^◌, ◌<◌, List, [], ◌∷◌, ◌++◌}
use Rattle.byte_core.specs.declared.fields.Field.{Field}
use Rattle.byte_core.specs.Number.{little_bytes}

-- the bytes of the fields in order, the lowest byte of each first
unfoldable pub field_bytes : List Field → List ℕ
field_bytes [] = []
field_bytes (f ∷ fs) = little_bytes f.width f.value ++ field_bytes fs

-- a field's number has as many bytes as it is given
abbrev pub FitsWidth : Field → Type 0
FitsWidth f = f.value < 256 ^ f.width

-- how many bytes the fields take
abbrev pub widths : List Field → ℕ
widths [] = 0
widths (f ∷ fs) = f.width + widths fs

-- where field k begins, counted from the first
abbrev pub field_offset : List Field → ℕ → ℕ
field_offset fs zero = 0
field_offset [] (suc k) = 0
field_offset (f ∷ fs) (suc k) = f.width + field_offset fs k
