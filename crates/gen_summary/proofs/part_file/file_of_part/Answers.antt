use Rattle.std.proofs.Common.{ap, ◌∙◌}
use Rattle.cranelift_object.specs.Opened.{OpenModule, ProductData}
use Rattle.cranelift_object.proofs.FormatLaws.{judged_err}
use Rattle.gen_summary.proofs.FreePart.{part_free, room_for_functions, room_for_objects, call_free, end_free, limit_free}
use Rattle.gen_summary.proofs.part_file.file_of_part.Goals as goal

pub open_module-requires : goal.open_module-requires
open_module-requires c = (part_free c.args.part.now c.requires.valid).start

pub apply-requires-clause-room : goal.apply-requires-clause-room
apply-requires-clause-room c = room_for_functions c.args.part.now c.in_ok-module.module _ c.in_ok-module.ensures c.commands.ensures c.requires.few

pub apply-requires-clause-room_for_data : goal.apply-requires-clause-room_for_data
apply-requires-clause-room_for_data c = room_for_objects c.args.part.now c.in_ok-module.module _ c.in_ok-module.ensures c.commands.ensures c.requires.few

pub memory_of-requires : goal.memory_of-requires
memory_of-requires c =
    call_free c.args.part.now _ c.in-Err.field-0-0 c.in-Err.error (part_free c.args.part.now c.requires.valid) c.commands.ensures
    (c.in-Err.ensures.first c.args.part.now.target (ap (λ (m : OpenModule). m.state) c.in_ok-module.ensures))

pub memory_of-requires-in-Err-finish : goal.memory_of-requires-in-Err-finish
memory_of-requires-in-Err-finish c =
    end_free c.args.part.now _ _ c.in-Err-finish.error (part_free c.args.part.now c.requires.valid) c.commands.ensures
    (c.in_default.ensures.whole c.args.part.now.target (ap (λ (m : OpenModule). m.state) c.in_ok-module.ensures)) c.in-Err-finish.ensures.cause

pub memory_at_end-requires : goal.memory_at_end-requires
memory_at_end-requires c =
    limit_free c.args.part.now _ _ c.in-Ok.product.object c.in-Err-emit.error (part_free c.args.part.now c.requires.valid) c.commands.ensures
    (c.in_default.ensures.keeps ∙ ap (λ (m : OpenModule). m.settings) c.in_ok-module.ensures)
    (c.in_default.ensures.whole c.args.part.now.target (ap (λ (m : OpenModule). m.state) c.in_ok-module.ensures))
    (ap (λ (p : ProductData). p.object) c.in-Ok.ensures.ok) (judged_err c.in-Ok.product.object _ c.in-Err-emit.ensures.limits)
