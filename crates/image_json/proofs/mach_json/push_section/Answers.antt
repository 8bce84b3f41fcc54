use Rattle.image_json.proofs.MachTexts.{section_written}
use Rattle.image_json.proofs.mach_json.push_section.Goals as goal

pub returns : goal.returns
returns c =
    section_written c.args.out.now.items c.push_header.new.out.items c.push.new.self.items c.push_hex.new.out.items c.push-2.new.self.items c.push_relocations.new.out.items c.push-3.new.self.items c.args.section.now
    c.in_ok-push_header.ensures
    c.in_ok-push.ensures.items
    (rw c.contents.ensures at c.in_ok-push_hex.ensures)
    c.in_ok-push-2.ensures.items
    (rw c.relocations.ensures at c.in_ok-push_relocations.ensures)
    c.in_ok-push-3.ensures.items
