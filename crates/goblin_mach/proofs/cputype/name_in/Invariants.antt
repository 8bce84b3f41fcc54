use Rattle.std.proofs.Common.{◌≡◌, map, drop}
use Rattle.std.specs.List.{find}
use Rattle.goblin_mach.specs.Architectures.{row_view, is_of}
use Rattle.goblin_mach.proofs.cputype.name_in.Given as goal

-- the first row of that type and subtype is among those that are left
abbrev pub invariant-loop-row : goal.invariant-loop-row
invariant-loop-row l = find (is_of l.cputype l.cpusubtype) (map row_view l.rows) ≡ find (is_of l.cputype l.cpusubtype) (map row_view (drop l.row-index l.rows))
