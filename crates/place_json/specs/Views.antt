-- What placement is given, as the code keeps it.
use Rattle.std.specs.Prelude.{map}
use Rattle.image_place.specs.Views.{extern_view}
use Rattle.place_json.specs.declared.rows.Input.{Input}
use Rattle.place_json.specs.Input.{PlaceInput}

abbrev pub input_view : Input → PlaceInput
input_view i = record { files = map (λ b. b.items) i.images.items; addresses = i.addresses.items; externs = map extern_view i.externs.items }
