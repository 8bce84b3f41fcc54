use Rattle.std.proofs.Common.{◌≡◌, map, take, drop}
use Rattle.std.specs.Prelude.{flat_map}
use Rattle.std.specs.List.{enumerate_from}
use Rattle.image_place.specs.Applying.{numbered_entries}
use Rattle.image_place.specs.Leading.{faults_by, numbered_faults}
use Rattle.image_place.specs.Naming.{address_found}
use Rattle.image_place.specs.Placed.{first_fault}
use Rattle.image_place.specs.Views.{placed_view}
use Rattle.image_place.proofs.placing.place_images.Given as goal

abbrev pub invariant-loop-image : goal.invariant-loop-image
invariant-loop-image l =
    let F = address_found l.exports l.outsides in
    record {
      placed : map placed_view l.out.items ≡ flat_map (numbered_entries F l.addresses) (enumerate_from 0 (take l.image l.views));
      rest : first_fault (faults_by F l.addresses l.views) ≡ first_fault (flat_map (numbered_faults F l.addresses) (enumerate_from l.image (drop l.image l.views)));
    }
