use Rattle.std.proofs.Common.{arith, sym, length, ◌<◌, ◌+◌, ◌*◌, ◌^◌, drop}
use Rattle.std.proofs.lemmas.List.{length-drop, take_rest}
use Rattle.byte_core.proofs.Writing.{number_head, number_nothing, number_room}
use Rattle.byte_core.proofs.number.+little_number_of.Goals as goal

room : (t : _) (c : goal.After-little_number_of t) → 256 * c.little_number_of.result + 255 < 2 ^ 64
room t c = number_room c.little_number_of.result (length (drop 1 c.args.bytes.now)) (omega (arith, length-drop 1 c.args.bytes.now)) (rw take_rest at c.little_number_of.ensures.bound)

pub overflow_mul-result : goal.overflow_mul-result
overflow_mul-result t c = omega (arith, room t c)

pub overflow_add-result : goal.overflow_add-result
overflow_add-result t c = omega (arith, room t c, c.from.ensures, c.type_inv.bytes 0)

pub returns-in-empty-clause-value : goal.returns-in-empty-clause-value
returns-in-empty-clause-value t c = number_nothing _ c.in-empty.len_below

pub returns-in-len1-up-clause-value : goal.returns-in-len1-up-clause-value
returns-in-len1-up-clause-value t c =
    rw (c.from.ensures, rw take_rest at c.little_number_of.ensures.value) (sym (number_head c.args.bytes.now c.in-len1-up.len_at_least))
