use Rattle.image_json.proofs.MachTexts.{numbers_written}
use Rattle.image_json.proofs.mach_json.push_numbers_of.Goals as goal

pub returns : goal.returns
returns c =
    numbers_written c.args.out.now.items c.extend_from_slice.new.self.items c.push_number.new.out.items c.push_numbers.new.out.items c.extend_from_slice-2.new.self.items c.push_number-2.new.out.items c.extend_from_slice-3.new.self.items c.args.image.now
    c.in_ok-extend_from_slice.ensures.items
    (rw (c.from.ensures, c.cputype.ensures) at c.in_ok-push_number.ensures)
    (rw (c.from-2.ensures, c.cpusubtype.ensures) at c.in_ok-push_numbers.ensures)
    c.in_ok-extend_from_slice-2.ensures.items
    (rw (c.from-3.ensures, c.flags.ensures) at c.in_ok-push_number-2.ensures)
    c.in_ok-extend_from_slice-3.ensures.items
