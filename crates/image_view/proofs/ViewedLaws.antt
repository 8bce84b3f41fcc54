-- Files and their views.
use Rattle.std.proofs.Common.{◌≡◌, ℕ, List, ap, sym, ◌∙◌, Some, None}
use Rattle.image_read.specs.Image.{Reads, HasNoImage}
use Rattle.image_read.specs.declared.image.Image.{Image}
use Rattle.image_read.proofs.Laws.{one_image}
use Rattle.image_view.specs.View.{View, view_of}
use Rattle.image_view.specs.Viewed.{IsViewed, IsNoObject}

some_same : {A : Type 0} (x y : A) → Some x ≡ Some y → x ≡ y
some_same x y e = cc

pub is_viewed : (b : List ℕ) (image : Image) (v : View) → Reads b image → view_of image ≡ Some v → IsViewed b v
is_viewed b image v r e = record { image = image; read = r; view = e }

pub one_view : (b : List ℕ) (v w : View) → IsViewed b v → IsViewed b w → v ≡ w
one_view b v w h k = some_same v w (sym h.view ∙ ap view_of (one_image b h.image k.image h.read k.read) ∙ k.view)

no_view : (b : List ℕ) (image : Image) (v : View) → Reads b image → view_of image ≡ None → IsViewed b v → ⊥
no_view b image v r e h =
    let both : None ≡ Some v = sym e ∙ ap view_of (one_image b image h.image r h.read) ∙ h.view in
    absurd (cc)

pub no_object : (b : List ℕ) (image : Image) → Reads b image → view_of image ≡ None → IsNoObject b
no_object b image r e = record { none = λ v h. no_view b image v r e h }

pub no_reading : (b : List ℕ) → HasNoImage b → IsNoObject b
no_reading b h = record { none = λ v k. h.none k.image k.read }
