-- What contracts see of the rows that placement takes and gives, and of its errors.
use Rattle.std.specs.Prelude.{ℕ, List}
use Rattle.image_place.specs.Placed.{AddressRow, PlacedEntry, defined_twice, no_address, other_kind, loose_label, does_not_fit, IsUnread, IsFaulty}
use Rattle.image_place.specs.declared.rows.Extern.{Extern}
use Rattle.image_place.specs.declared.rows.PlacedBytes.{PlacedBytes}
use Rattle.image_place.specs.declared.error.PlaceError.{PlaceError}
use Rattle.image_place.specs.declared.error.PlaceError.TheVariants as errors

abbrev pub extern_view : Extern → List ℕ × ℕ
extern_view e = (e.name.items, e.address)

abbrev pub placed_view : PlacedBytes → PlacedEntry
placed_view p = record { image = p.image; symbol = p.symbol; address = p.address; bytes = p.bytes.items }

-- an error is the first refusal with what it keeps, or memory ran out
abbrev pub TellsPlace : List (List ℕ) → List AddressRow → List (List ℕ × ℕ) → PlaceError → Type 0
TellsPlace files addresses externs (errors.NoReading q) = IsUnread files q
TellsPlace files addresses externs (errors.DefinedTwice q row) = IsFaulty files addresses externs (defined_twice q row)
TellsPlace files addresses externs (errors.NoAddress q row) = IsFaulty files addresses externs (no_address q row)
TellsPlace files addresses externs (errors.OtherKind q number) = IsFaulty files addresses externs (other_kind q number)
TellsPlace files addresses externs (errors.LooseLabel q row) = IsFaulty files addresses externs (loose_label q row)
TellsPlace files addresses externs (errors.DoesNotFit q offset) = IsFaulty files addresses externs (does_not_fit q offset)
TellsPlace files addresses externs errors.OutOfMemory = Unit {0}

-- the file that can't be read, or memory ran out
abbrev pub TellsUnread : List (List ℕ) → PlaceError → Type 0
TellsUnread files (errors.NoReading q) = IsUnread files q
TellsUnread files errors.OutOfMemory = Unit {0}
TellsUnread files _ = ⊥
