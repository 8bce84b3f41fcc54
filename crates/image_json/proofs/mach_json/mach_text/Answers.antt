use Rattle.image_json.proofs.MachTexts.{mach_written}
use Rattle.image_json.proofs.mach_json.mach_text.Goals as goal

pub returns : goal.returns
returns c =
    mach_written c.push_numbers_of.new.out.items c.extend_from_slice.new.self.items c.push_sections.new.out.items c.extend_from_slice-2.new.self.items c.push_symbols.new.out.items c.push.new.self.items c.args.image.now
    (rw c.new-out.ensures.items at c.in_ok-push_numbers_of.ensures)
    c.in_ok-extend_from_slice.ensures.items
    (rw c.sections.ensures at c.in_ok-push_sections.ensures)
    c.in_ok-extend_from_slice-2.ensures.items
    (rw c.symbols.ensures at c.in_ok-push_symbols.ensures)
    c.in_ok-push.ensures.items
