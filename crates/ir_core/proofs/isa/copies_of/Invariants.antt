use Rattle.std.proofs.Common.{◌≡◌, take}
use Rattle.ir_core.proofs.isa.copies_of.Given as goal

-- the flags so far are copied
abbrev pub invariant-loop-flag : goal.invariant-loop-flag
invariant-loop-flag l = l.copies.items ≡ take l.flag-index l.flags.items
