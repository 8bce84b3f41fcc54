use Rattle.std.proofs.Common.{arith, add-one, pow-suc}
use Rattle.byte_core.proofs.Writing.{big_none, big_more, number_room}
use Rattle.byte_core.proofs.number.big_number_of.Goals as goal

pub loop-byte-init : goal.loop-byte-init
loop-byte-init c = record { value = big_none; bound = omega arith }

pub overflow_mul-number : goal.overflow_mul-number
overflow_mul-number c =
    omega (arith, number_room c.loop-byte.number c.loop-byte.byte-index (omega arith) c.loop-byte.invariant.bound)

pub overflow_add-number : goal.overflow_add-number
overflow_add-number c =
    omega (arith, number_room c.loop-byte.number c.loop-byte.byte-index (omega arith) c.loop-byte.invariant.bound, c.from.ensures, c.type_inv.bytes c.loop-byte.byte-index)

pub loop-byte-preserved : goal.loop-byte-preserved
loop-byte-preserved c = record {
  value = omega (arith, big_more c.args.bytes.now c.loop-byte.byte-index c.loop-byte-test.true, c.from.ensures, c.loop-byte.invariant.value);
  bound = rw add-one (omega (arith, pow-suc 256 c.loop-byte.byte-index, c.loop-byte.invariant.bound, c.from.ensures, c.type_inv.bytes c.loop-byte.byte-index));
}
