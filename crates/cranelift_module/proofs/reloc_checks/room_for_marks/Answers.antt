use Rattle.std.proofs.Common.{ap, ◌∙◌, replicate, false}
use Rattle.std.proofs.lemmas.Result.{IfOk-weaker}
use Rattle.cranelift_module.proofs.TakenBytes.{room_taken}
use Rattle.cranelift_module.proofs.reloc_checks.room_for_marks.Goals as goal

pub returns-in-Macho : goal.returns-in-Macho
returns-in-Macho c =
    IfOk-weaker c.unmarked.result _ _ (λ taken same. room_taken c.args.format c.args.size taken.items c.in-Macho.is (same ∙ ap (λ n. replicate n false) c.unwrap_or.ensures)) c.unmarked.ensures
