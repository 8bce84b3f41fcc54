use Rattle.std.proofs.Common.{arith, sym, ◌∙◌, refl}
use Rattle.byte_core.proofs.Writing.{IsPut, put_step, put_end, number_put, before_put, behind_put}
use Rattle.byte_core.proofs.number.put_le.Goals as goal

pub loop-i-preserved : goal.loop-i-preserved
loop-i-preserved c =
    put_step c.loop-i.out c.args.at c.args.width _ c.loop-i.i c.loop-i.rest c.loop-i-test.true refl (omega arith) ∙ c.loop-i.invariant

is_put : (c : goal.After-loop-i) → IsPut c.args.out.now c.loop-i.out c.args.at c.args.width c.args.value
is_put c = sym (put_end c.loop-i.out c.args.at c.args.width c.loop-i.rest c.loop-i.i (omega arith) (omega arith)) ∙ c.loop-i.invariant

pub returns-clause-number : goal.returns-clause-number
returns-clause-number c = number_put c.args.out.now c.loop-i.out c.args.at c.args.width c.args.value c.requires.room c.requires.fits (is_put c)

pub returns-clause-before : goal.returns-clause-before
returns-clause-before c = before_put c.args.out.now c.loop-i.out c.args.at c.args.width c.args.value c.requires.room (is_put c)

pub returns-clause-behind : goal.returns-clause-behind
returns-clause-behind c = behind_put c.args.out.now c.loop-i.out c.args.at c.args.width c.args.value c.requires.room (is_put c)
