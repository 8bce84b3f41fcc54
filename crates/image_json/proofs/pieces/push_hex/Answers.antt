use Rattle.image_json.proofs.Digits.{written_hex}
use Rattle.image_json.proofs.pieces.push_hex.Goals as goal

pub returns : goal.returns
returns c =
    written_hex c.args.out.now.items c.push.new.self.items c.push_digits.new.out.items c.push-2.new.self.items c.args.bytes.now c.push_digits.ensures.are_bytes c.in_ok-push.ensures.items c.in_ok-push_digits.ensures.digits c.in_ok-push-2.ensures.items
