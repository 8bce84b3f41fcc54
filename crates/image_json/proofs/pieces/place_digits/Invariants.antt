use Rattle.std.proofs.Common.{◌≡◌, ◌*◌, ◌++◌, take, drop}
use Rattle.hex.specs.Hex.{encode_lower}
use Rattle.image_json.proofs.pieces.place_digits.Given as goal

-- the digits that were written, before those of the bytes that are left
abbrev pub invariant-bytes : goal.invariant-bytes
invariant-bytes l = take (2 * l.i) l.out ++ encode_lower (drop l.i l.bytes) ≡ encode_lower l.bytes
