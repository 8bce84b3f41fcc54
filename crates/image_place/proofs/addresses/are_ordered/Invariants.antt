use Rattle.std.proofs.Common.{◌≡◌, ◌<◌, ℕ, slice_get, Some}
use Rattle.image_place.specs.Placed.{AddressRow}
use Rattle.image_place.specs.Finding.{row_key}
use Rattle.image_place.proofs.addresses.are_ordered.Given as goal

abbrev pub invariant-loop-place : goal.invariant-loop-place
invariant-loop-place l =
    (i j : ℕ) (a b : AddressRow) → i < j → j < l.place → slice_get l.rows i ≡ Some a → slice_get l.rows j ≡ Some b → row_key a.image a.symbol < row_key b.image b.symbol
