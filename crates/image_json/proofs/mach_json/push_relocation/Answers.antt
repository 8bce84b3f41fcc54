use Rattle.image_read.specs.MachViews.{mach_relocation_of}
use Rattle.image_json.proofs.MachTexts.{relocation_written}
use Rattle.image_json.proofs.mach_json.push_relocation.Goals as goal

pub returns : goal.returns
returns c =
    relocation_written c.args.out.now.items c.push.new.self.items c.push_number.new.out.items c.push_numbers.new.out.items c.push_next_flag.new.out.items c.push_numbers-2.new.out.items c.push_next_flag-2.new.out.items c.push_numbers-3.new.out.items c.push-2.new.self.items (mach_relocation_of c.args.relocation.now)
    c.in_ok-push.ensures.items
    (rw c.from.ensures at c.in_ok-push_number.ensures)
    (rw c.from-2.ensures at c.in_ok-push_numbers.ensures)
    c.in_ok-push_next_flag.ensures
    (rw c.from-3.ensures at c.in_ok-push_numbers-2.ensures)
    c.in_ok-push_next_flag-2.ensures
    (rw c.from-4.ensures at c.in_ok-push_numbers-3.ensures)
    c.in_ok-push-2.ensures.items
