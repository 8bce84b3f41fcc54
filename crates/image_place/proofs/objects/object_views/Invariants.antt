use Rattle.std.proofs.Common.{map, take}
use Rattle.image_place.specs.Placed.{AreOfBytes, AreViewed}
use Rattle.image_place.proofs.objects.object_views.Given as goal

abbrev pub invariant-loop-image : goal.invariant-loop-image
invariant-loop-image l =
    record {
      viewed : AreViewed (take l.image (map (λ b. b.items) l.files)) l.views.items;
      bytes : AreOfBytes (map (λ b. b.items) l.files) l.image;
    }
