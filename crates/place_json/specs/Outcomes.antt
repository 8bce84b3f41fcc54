-- What is answered to a JSON value: the lines of what is placed, or why there are none.
use Rattle.std.specs.Prelude.{◌≡◌, ◌≢◌, ℕ, List, flat_map, Some, None}
use Rattle.serde_json.specs.Data.{Data}
use Rattle.json_form.specs.declared.form_error.FormError.{FormError}
use Rattle.json_form.specs.declared.form_error.FormError.TheVariants as forms
use Rattle.image_place.specs.Placed.{PlacedEntry, Placed}
use Rattle.image_place.specs.Views.{TellsPlace}
use Rattle.image_place.specs.declared.error.PlaceError.{PlaceError}
use Rattle.image_place.specs.declared.error.PlaceError.TheVariants as errors
use Rattle.place_json.specs.declared.unplaced.Unplaced.{Unplaced}
use Rattle.place_json.specs.declared.unplaced.Unplaced.TheVariants.{NotForm, Refused, OutOfMemory}
use Rattle.place_json.specs.Input.{PlaceInput, place_of}
use Rattle.place_json.specs.Lines.{entry_line}

-- the text has a line for each entry that placement gives for the value
pub record IsPlacedText (d : Data) (text : List ℕ) : Type 0 where
  pub input : PlaceInput
  pub form : place_of d ≡ Some input
  pub out : List PlacedEntry
  pub placed : Placed input.files input.addresses input.externs out
  pub text_is : text ≡ flat_map entry_line out

-- placement refuses what the value gives, for this cause
pub record IsPlaceRefusal (d : Data) (error : PlaceError) : Type 0 where
  pub input : PlaceInput
  pub form : place_of d ≡ Some input
  pub tells : TellsPlace input.files input.addresses input.externs error
  pub is_refusal : error ≢ errors.OutOfMemory

-- why a value has no text; want of memory says nothing
abbrev pub TellsUnplaced : Unplaced → Data → Type 0
TellsUnplaced NotForm d = place_of d ≡ None
TellsUnplaced (Refused error) d = IsPlaceRefusal d error
TellsUnplaced OutOfMemory d = Unit {0}

-- why a value that has no form has no text
abbrev pub form_cause : FormError → Unplaced
form_cause forms.NotForm = NotForm
form_cause forms.OutOfMemory = OutOfMemory

-- why a value that placement refuses has no text
abbrev pub place_cause : PlaceError → Unplaced
place_cause (errors.NoReading q) = Refused (errors.NoReading q)
place_cause (errors.DefinedTwice q row) = Refused (errors.DefinedTwice q row)
place_cause (errors.NoAddress q row) = Refused (errors.NoAddress q row)
place_cause (errors.OtherKind q number) = Refused (errors.OtherKind q number)
place_cause (errors.LooseLabel q row) = Refused (errors.LooseLabel q row)
place_cause (errors.DoesNotFit q offset) = Refused (errors.DoesNotFit q offset)
place_cause errors.OutOfMemory = OutOfMemory
