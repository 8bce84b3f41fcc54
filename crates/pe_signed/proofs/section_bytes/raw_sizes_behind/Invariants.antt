-- the total so far is that of the sections gone over
use Rattle.std.proofs.Common.{◌≡◌, ◌+◌, ◌-◌, ◌^◌, min, sum_by, take}
use Rattle.pe_signed.proofs.section_bytes.raw_sizes_behind.Given as goal

abbrev pub invariant-loop-section : goal.invariant-loop-section
invariant-loop-section l = l.total ≡ min (l.fn.start + sum_by (λ s. s.size_of_raw_data) (take l.section-index l.sections)) (2 ^ 64 - 1)
