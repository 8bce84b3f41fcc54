-- What images are placed as.
use Rattle.std.specs.Prelude.{◌≡◌, ℕ, ◌⊎◌, List, Option, Some, None, string_bytes}
use Rattle.serde_json.specs.Data.{Data}
use Rattle.image_place.specs.declared.error.PlaceError.{PlaceError}
use Rattle.image_place.specs.Texts.{place_text}
use Rattle.place_json.specs.Outcomes.{IsPlacedText, IsPlaceRefusal}
use Rattle.place_json.specs.Input.{place_of}
use Rattle.objtool_run.specs.Fault.{line}
use Rattle.objtool_run.specs.declared.fault.Fault.{Fault}
use Rattle.objtool_run.specs.declared.fault.Fault.TheVariants.{Refused, NotUnderstood, OutOfMemory}
use Rattle.objtool_run.specs.Script.{HasJson}

-- the text is the lines of what the input's value is placed as
pub record IsPlacedInput (input text : List ℕ) : Type 0 where
  pub value : Data
  pub json : HasJson input value
  pub placed : IsPlacedText value text

-- the text is that of the first cause that refuses the input's value
pub record IsUnplacedInput (input text : List ℕ) : Type 0 where
  pub value : Data
  pub json : HasJson input value
  pub error : PlaceError
  pub refused : IsPlaceRefusal value error
  pub text_is : text ≡ line (place_text error)

-- the input has no JSON reading, or one that isn't of the form of a placement
abbrev pub HasNoPlacement : List ℕ → Type 0
HasNoPlacement input = (d : Data) → HasJson input d → place_of d ≡ None

-- how placing an input may end, apart from failed reads, want of memory and the limit of its length
pub record JudgesPlace (input : List ℕ) (status : ℕ) : Type 0 where
  pub unread : HasNoPlacement input → status ≡ 6
  pub refused : (d : Data) (e : PlaceError) → HasJson input d → IsPlaceRefusal d e → status ≡ 1
  pub placed : (d : Data) (t : List ℕ) → HasJson input d → IsPlacedText d t → (status ≡ 0) ⊎ (status ≡ 4)

-- the input's value is placed
pub record IsPlaceable (input : List ℕ) : Type 0 where
  pub value : Data
  pub text : List ℕ
  pub json : HasJson input value
  pub placed : IsPlacedText value text

-- a text is that of the first cause that refuses a value
pub record IsRefusalLineOf (d : Data) (text : List ℕ) : Type 0 where
  pub error : PlaceError
  pub refused : IsPlaceRefusal d error
  pub text_is : text ≡ line (place_text error)

-- what a fault says of a value; want of memory says nothing
abbrev pub FaultsPlace : Data → Fault → Type 0
FaultsPlace d (Refused text) = IsRefusalLineOf d (string_bytes text)
FaultsPlace d NotUnderstood = place_of d ≡ None
FaultsPlace d OutOfMemory = Unit {0}
FaultsPlace d _ = ⊥
