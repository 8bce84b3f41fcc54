use Rattle.image_json.proofs.FatTexts.{fat_written}
use Rattle.image_json.proofs.fat_json.fat_text.Goals as goal

pub returns : goal.returns
returns c =
    fat_written c.extend_from_slice.new.self.items c.push_flag.new.out.items c.extend_from_slice-2.new.self.items c.push_slices.new.out.items c.push.new.self.items c.args.image.now
    (rw c.new-out.ensures.items at c.in_ok-extend_from_slice.ensures.items)
    (rw c.is_fat64.ensures at c.in_ok-push_flag.ensures)
    c.in_ok-extend_from_slice-2.ensures.items
    (rw c.slices.ensures at c.in_ok-push_slices.ensures)
    c.in_ok-push.ensures.items
