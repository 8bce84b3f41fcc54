-- The fault that an error tells.
use Rattle.std.specs.Prelude.{◌≡◌, List, ◌++◌, map, Option, Some, None}
use Rattle.ir_core.specs.Moments.{moments}
use Rattle.image_view.specs.View.{View}
use Rattle.image_place.specs.Placed.{AddressRow, PlaceFault, defined_twice, no_address, other_kind, loose_label, does_not_fit, twice_fault, address_fault, all_definitions}
use Rattle.image_place.specs.declared.error.PlaceError.{PlaceError}
use Rattle.image_place.specs.declared.error.PlaceError.TheVariants as errors

abbrev pub fault_told : PlaceError → Option PlaceFault
fault_told (errors.NoReading q) = None
fault_told (errors.DefinedTwice q row) = Some (defined_twice q row)
fault_told (errors.NoAddress q row) = Some (no_address q row)
fault_told (errors.OtherKind q number) = Some (other_kind q number)
fault_told (errors.LooseLabel q row) = Some (loose_label q row)
fault_told (errors.DoesNotFit q offset) = Some (does_not_fit q offset)
fault_told errors.OutOfMemory = None

-- an error tells the fault that there is, or memory ran out
abbrev pub TellsFault : Option PlaceFault → PlaceError → Type 0
TellsFault fault errors.OutOfMemory = Unit {0}
TellsFault fault (errors.NoReading q) = ⊥
TellsFault fault (errors.DefinedTwice q row) = fault ≡ Some (defined_twice q row)
TellsFault fault (errors.NoAddress q row) = fault ≡ Some (no_address q row)
TellsFault fault (errors.OtherKind q number) = fault ≡ Some (other_kind q number)
TellsFault fault (errors.LooseLabel q row) = fault ≡ Some (loose_label q row)
TellsFault fault (errors.DoesNotFit q offset) = fault ≡ Some (does_not_fit q offset)

-- the refusals of definitions: a second one of a name, then one without a place in memory
abbrev pub definition_faults : List View → List AddressRow → List (Option PlaceFault)
definition_faults views addresses = map twice_fault (moments (all_definitions views)) ++ map (address_fault views addresses) (all_definitions views)
