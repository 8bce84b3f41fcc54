use Rattle.std.proofs.Common.{ap}
use Rattle.cranelift_object.specs.Opened.{ProductData}
use Rattle.cranelift_object.proofs.FormatLaws.{judged_ok, judged_err}
use Rattle.image_build.proofs.PartCause.{tells_start, part_room, part_room_for_data, part_call, part_left, part_end, part_over, part_valid, part_built}
use Rattle.image_build.proofs.part_file.build_part.Goals as goal

pub returns-in-Err-clause-cause : goal.returns-in-Err-clause-cause
returns-in-Err-clause-cause c = rw c.at.ensures (tells_start c.args.number c.args.part.now c.in-Err.error c.module_cause.result c.module_cause.ensures c.in-Err.ensures.cause)

pub apply-requires-clause-room : goal.apply-requires-clause-room
apply-requires-clause-room c = part_room c.args.part.now c.in-Ok.module _ c.in-Ok.ensures.ok c.commands.ensures c.requires.few

pub apply-requires-clause-room_for_data : goal.apply-requires-clause-room_for_data
apply-requires-clause-room_for_data c = part_room_for_data c.args.part.now c.in-Ok.module _ c.in-Ok.ensures.ok c.commands.ensures c.requires.few

pub returns-in-Err-apply-clause-cause : goal.returns-in-Err-apply-clause-cause
returns-in-Err-apply-clause-cause c =
    rw c.at-in-Err-apply.ensures
    (part_call c.args.number c.args.part.now c.in-Ok.module _ c.in-Err-apply.call c.in-Err-apply.error c.module_cause-in-Err-apply.result c.in-Ok.ensures.ok c.in-Ok.ensures.none c.commands.ensures c.module_cause-in-Err-apply.ensures
    c.in-Err-apply.ensures.refused)

pub returns-in-Err-finish-clause-cause : goal.returns-in-Err-finish-clause-cause
returns-in-Err-finish-clause-cause c =
    let left = part_left c.args.part.now c.in-Ok.module _ _ c.in-Ok.ensures.ok c.in-Ok.ensures.none c.commands.ensures c.in_default.ensures.none c.in_default.ensures.ok c.in_default.ensures.keeps in
    rw c.at-in-Err-finish.ensures (part_end c.args.number c.args.part.now _ c.in-Err-finish.error c.module_cause-in-Err-finish.result left c.module_cause-in-Err-finish.ensures c.in-Err-finish.ensures.cause)

pub returns-in-Ok-emit-clause-built : goal.returns-in-Ok-emit-clause-built
returns-in-Ok-emit-clause-built c =
    let left = part_left c.args.part.now c.in-Ok.module _ _ c.in-Ok.ensures.ok c.in-Ok.ensures.none c.commands.ensures c.in_default.ensures.none c.in_default.ensures.ok c.in_default.ensures.keeps in
    part_built c.args.part.now _ c.in-Ok-finish.product.object c.in-Ok-emit.bytes.items left (ap (λ (p : ProductData). p.object) c.in-Ok-finish.ensures.ok) c.in-Ok-emit.ensures.holds

pub returns-in-Ok-emit-clause-valid : goal.returns-in-Ok-emit-clause-valid
returns-in-Ok-emit-clause-valid c =
    let left = part_left c.args.part.now c.in-Ok.module _ _ c.in-Ok.ensures.ok c.in-Ok.ensures.none c.commands.ensures c.in_default.ensures.none c.in_default.ensures.ok c.in_default.ensures.keeps in
    part_valid c.args.part.now _ c.in-Ok-finish.product.object left c.in-Ok-finish.ensures.none (ap (λ (p : ProductData). p.object) c.in-Ok-finish.ensures.ok) (judged_ok c.in-Ok-finish.product.object _ c.in-Ok-emit.ensures.limits)

pub returns-in-Err-emit-clause-cause : goal.returns-in-Err-emit-clause-cause
returns-in-Err-emit-clause-cause c =
    let left = part_left c.args.part.now c.in-Ok.module _ _ c.in-Ok.ensures.ok c.in-Ok.ensures.none c.commands.ensures c.in_default.ensures.none c.in_default.ensures.ok c.in_default.ensures.keeps in
    rw c.at-in-Err-emit.ensures
    (part_over c.args.number c.args.part.now _ c.in-Ok-finish.product.object c.in-Err-emit.error c.limit_cause.result left c.in-Ok-finish.ensures.none (ap (λ (p : ProductData). p.object) c.in-Ok-finish.ensures.ok) c.limit_cause.ensures
    (judged_err c.in-Ok-finish.product.object _ c.in-Err-emit.ensures.limits))
