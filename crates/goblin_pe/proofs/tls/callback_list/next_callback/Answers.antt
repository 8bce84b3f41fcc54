use Rattle.std.proofs.Common.{sym, arith, ◌≡◌, ◌==◌, false}
use Rattle.goblin_pe.proofs.Callbacks.{step_short, step_zero, step_callback}
use Rattle.goblin_pe.proofs.tls.callback_list.next_callback.Goals as goal

pub returns-then-number-eq0-clause-step : goal.returns-then-number-eq0-clause-step
returns-then-number-eq0-clause-step c = step_zero _ c.args.bytes.now c.args.is_64 c.args.place c.in-Ok.number (sym (rw c.address_width.ensures at c.in-Ok.ensures.number)) c.if-number-eq0.true

pub returns-in-Ok-callback-clause-step : goal.returns-in-Ok-callback-clause-step
returns-in-Ok-callback-clause-step c =
    let some : (c.in-Ok.number == 0) ≡ false = grind (arith, c.if-number-eq0.false) in
    step_callback _ c.args.bytes.now c.args.is_64 c.args.place c.in-Ok.number _ (sym (rw c.address_width.ensures at c.in-Ok.ensures.number)) some (sym c.in-Ok-callback.ensures)

pub returns-in-Err-callback-clause-step : goal.returns-in-Err-callback-clause-step
returns-in-Err-callback-clause-step c =
    let some : (c.in-Ok.number == 0) ≡ false = grind (arith, c.if-number-eq0.false) in
    step_callback _ c.args.bytes.now c.args.is_64 c.args.place c.in-Ok.number _ (sym (rw c.address_width.ensures at c.in-Ok.ensures.number)) some (sym c.in-Err-callback.ensures)

pub returns-in-Err-clause-step : goal.returns-in-Err-clause-step
returns-in-Err-clause-step c = step_short _ c.args.bytes.now c.args.is_64 c.args.place c.in-Err.error (sym (rw c.address_width.ensures at c.in-Err.ensures.number))
