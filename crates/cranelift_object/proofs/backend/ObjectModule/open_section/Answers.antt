use Rattle.std.proofs.Common.{◌≡◌, true, false, sym, ◌∙◌}
use Rattle.cranelift_object.specs.SectionClass.{section_class}
use Rattle.cranelift_object.proofs.ClassLaws.{retain_is}
use Rattle.cranelift_object.proofs.OpenLaws.{marked_class, unmarked_class}
use Rattle.cranelift_object.proofs.backend.ObjectModule.open_section.Goals as goal
use Rattle.cranelift_object.proofs.backend.ObjectModule.open_section.Goals.{then-marks_section, else-marks_section}

pub returns-clause-opened : goal.returns-clause-opened
returns-clause-opened c =
    elim c.if-marks_section.branch [
      | then-marks_section w ↦ (let marked : (section_class c.args.self.now.settings c.args.self.now.state c.args.definition.now).retain ≡ true = retain_is c.args.self.now.settings c.args.self.now.state c.args.definition.now ∙ sym c.marks_section.ensures ∙ w.if-marks_section.true in
          w.object-is ∙ w.set_retain.ensures ∙ (rw (c.in_ok-section.ensures.opened, c.in_ok-section.ensures.id) (marked_class c.args.object.now (section_class c.args.self.now.settings c.args.self.now.state c.args.definition.now) (c.requires.marked marked) marked)))
      | else-marks_section w ↦ (let unmarked : (section_class c.args.self.now.settings c.args.self.now.state c.args.definition.now).retain ≡ false = retain_is c.args.self.now.settings c.args.self.now.state c.args.definition.now ∙ sym c.marks_section.ensures ∙ w.if-marks_section.false in
          w.object-is ∙ c.in_ok-section.ensures.opened ∙ unmarked_class c.args.object.now (section_class c.args.self.now.settings c.args.self.now.state c.args.definition.now) unmarked)
    ]
