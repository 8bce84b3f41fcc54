-- The view of a file.
use Rattle.std.specs.Prelude.{◌≡◌, ℕ, List, Some}
use Rattle.image_read.specs.Image.{Reads}
use Rattle.image_read.specs.declared.image.Image.{Image}
use Rattle.image_read.specs.declared.error.ReadError.{ReadError}
use Rattle.image_read.specs.declared.error.ReadError.TheVariants as read
use Rattle.image_view.specs.View.{View, view_of}

-- the file is an x86_64 object with this view
pub record IsViewed (b : List ℕ) (v : View) : Type 0 where
  pub image : Image
  pub read : Reads b image
  pub view : view_of image ≡ Some v

-- the file is no x86_64 object
pub record IsNoObject (b : List ℕ) : Type 0 where
  pub none : (v : View) → IsViewed b v → ⊥

-- why a file has no view
abbrev pub ExplainsView : List ℕ → ReadError → Type 0
ExplainsView b read.NoReading = IsNoObject b
ExplainsView b read.OutOfMemory = Unit {0}
