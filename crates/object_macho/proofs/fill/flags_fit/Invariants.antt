use Rattle.std.proofs.Common.{◌≡◌, ℕ, ◌<◌, ◌^◌, slice_get, Some}
use Rattle.object_core.specs.Object.{SectionBody}
use Rattle.object_macho.proofs.fill.flags_fit.Given as goal

-- the flags of the sections so far
abbrev pub invariant-loop-section : goal.invariant-loop-section
invariant-loop-section l = (k : ℕ) (s : SectionBody) → k < l.section-index → slice_get l.section-items k ≡ Some s → s.macho_flags < 2 ^ 32
