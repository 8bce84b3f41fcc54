use Rattle.std.proofs.Common.{◌<◌, map, length}
use Rattle.image_build.specs.Parts.{part_view, HasFewCalls}
use Rattle.image_build.proofs.PartLists.{all_there, cause_of_several, long_several}
use Rattle.image_build.proofs.build.build_image.Goals as goal

pub build_one-requires-clause-few : goal.build_one-requires-clause-few
build_one-requires-clause-few c =
    let some : 0 < length c.args.parts.now = c.in-len1.len_at_least in
    all_there HasFewCalls c.args.parts.now 0 c.part-item.result c.requires some c.part-item.is

pub returns-in_default-clause-cause : goal.returns-in_default-clause-cause
returns-in_default-clause-cause c =
    let long : 1 < length c.args.parts.now = c.in_default.len_at_least in
    rw (cause_of_several (map part_view c.args.parts.now) (long_several c.args.parts.now long)) c.build_several.ensures.cause
