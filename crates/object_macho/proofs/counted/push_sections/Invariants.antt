use Rattle.std.proofs.Common.{◌≡◌, ◌++◌, drop}
use Rattle.object_macho.specs.Orders.{is_section_in}
use Rattle.object_macho.specs.Plan.{numbers_of}
use Rattle.object_macho.proofs.Pushing.{numbers_from}
use Rattle.object_macho.proofs.counted.push_sections.Given as goal

-- the numbers so far and those that are left are what was there and all numbers
abbrev pub invariant-loop-k : goal.invariant-loop-k
invariant-loop-k l = l.order.items ++ numbers_from (is_section_in l.stored) l.k (drop l.k l.object.sections) ≡ l.fn.order.items ++ numbers_of (is_section_in l.stored) l.object.sections
