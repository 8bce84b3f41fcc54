-- The files of Mach-O parts show them, where the parts' objects are formed.
use Rattle.std.proofs.Common.{◌≡◌, ℕ, List, Some, slice_get}
use Rattle.object_core.specs.WellFormed.{IsFormedMacho}
use Rattle.cranelift_object.specs.Part.{PartData}
use Rattle.image_place.specs.Laws.{HaveInnerLabels, AreMacho}
use Rattle.image_place.specs.ObjectFile.{part_object}
use Rattle.image_place.specs.Related.{IsPart}
use Rattle.image_place.proofs.FileFormats.{FileShows}
use Rattle.image_place.proofs.MachAccepted.{mach-limits}
use Rattle.image_place.proofs.MachFits.{mach-held-fits}
use Rattle.image_place.proofs.MachSound.{mach-sections-sound}
use Rattle.image_place.proofs.MachLaw.{mach-file-holds, mach-shows}

-- the object of each valid Mach-O part whose labels lie below the ends of their functions is formed; a label far beyond would have a
-- value that no object may have
abbrev pub AreFormed : Type 0
AreFormed = (parts : List PartData) (q : ℕ) (part : PartData) → HaveInnerLabels parts → slice_get parts q ≡ Some part → IsPart part → AreMacho part → IsFormedMacho (part_object part)

pub mach-file-shows : AreFormed → FileShows AreMacho
mach-file-shows formed parts at addresses q part b v h macho bytes short rows labels here file viewed applied =
    let is_formed = formed parts q part labels here h macho in
    let fits = mach-held-fits (part_object part) b is_formed (mach-sections-sound part h macho) (mach-limits part h macho) bytes (mach-file-holds part b macho file) in
    mach-shows parts at addresses q part b v h macho is_formed fits bytes rows labels here file viewed applied
