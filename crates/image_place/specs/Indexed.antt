-- The definitions of an image by the ranges of their sections.
use Rattle.std.specs.Prelude.{◌≡◌, ℕ, ◌+◌, ◌*◌, ◌<◌, ◌^◌, min, List, map, slice_get, Some}
use Rattle.std.specs.List.{enumerate_from}
use Rattle.std.specs.List.Sorted.{IsPermutation}
use Rattle.image_place.specs.Placed.{Definition}
use Rattle.image_place.specs.Spanning.{Span}

-- the place of an address of a section on a line where sections lie apart: 2^66 places for each, of fewer than 2^32 sections
abbrev pub line_place : ℕ → ℕ → ℕ
line_place section at = min section 4294967296 * 73786976294838206464 + at

-- the range of a definition with its number
abbrev pub span_of : ℕ × Definition → Span
span_of e = record { low = line_place e.1.section e.1.symbol.address; high = line_place e.1.section e.1.symbol.address + e.1.size; number = e.0 }

abbrev pub spans_from : ℕ → List Definition → List Span
spans_from n ds = map span_of (enumerate_from n ds)

-- a definition with numbers that the line has room for
pub record IsSmall (d : Definition) : Type 0 where
  pub section : d.section < 4294967296
  pub address : d.symbol.address < 2 ^ 64
  pub size : d.size < 2 ^ 64

pub record AreSmall (ds : List Definition) : Type 0 where
  pub each : (i : ℕ) (d : Definition) → slice_get ds i ≡ Some d → IsSmall d

-- the ranges are those of the definitions, in some order
pub record AreIndexed (ds : List Definition) (ps : List Span) : Type 0 where
  pub moved : IsPermutation (spans_from 0 ds) ps
  pub small : AreSmall ds
