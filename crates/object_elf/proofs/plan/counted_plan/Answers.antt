use Rattle.std.proofs.Common.{◌+◌, ◌*◌, ap, arith, ◌∙◌}
use Rattle.std.specs.Int.{next_multiple_of}
use Rattle.object_elf.proofs.Emitting.{part_count_is}
use Rattle.object_elf.proofs.PartLoops.{place_is}
use Rattle.object_elf.proofs.Planning.{counted, counted_places}
use Rattle.object_elf.proofs.plan.counted_plan.Goals as goal

pub file_length-requires : goal.file_length-requires
file_length-requires c =
    let o = c.args.object.now in
    omega (arith, c.len.ensures ∙ c.push_all_places.new.places.ok.0, counted_places o _ _ _ c.new-places.ensures.items c.in_ok-end.ensures, part_count_is o, c.requires.sections)

pub returns : goal.returns
returns c =
    let length = place_is c.file_length.result _ c.in_ok-length.length c.file_length.ensures c.in_ok-length.ensures.ok_part in
    let count = c.len.ensures ∙ c.push_all_places.new.places.ok.0 in
    counted c.args.object.now _ _ _ _ _ c.in_ok-rows.ensures.count c.in_ok-rows.ensures.rows c.new-places.ensures.items c.in_ok-end.ensures
    (length ∙ ap (λ n. next_multiple_of c.in_ok-end.end 8 + 64 * (n + 1)) count)
