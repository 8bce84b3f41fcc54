use Rattle.std.proofs.Common.{◌≡◌, ◌≤◌, map, drop}
use Rattle.fat_macho.specs.FatBytes.{rows_from}
use Rattle.fat_macho.specs.HeldViews.{raw_shape}
use Rattle.fat_macho.specs.Layout.{end_from, sizes_of}
use Rattle.fat_macho.specs.Writing.{Part}
use Rattle.fat_macho.proofs.filing.write_rows.Given as goal

-- the entries of the slices that are left are left
abbrev pub invariant-loop-slice : goal.invariant-loop-slice
invariant-loop-slice g l =
    let sink = g.W.Sink.sink in
    record {
      written : Part (sink l.fn.sink) (sink l.sink) (rows_from l.wide l.align l.start (map raw_shape l.slices)) (rows_from l.wide l.align l.end (map raw_shape (drop l.slice-index l.slices)));
      ends : end_from l.align l.end (sizes_of (map raw_shape (drop l.slice-index l.slices))) ≡ end_from l.align l.start (sizes_of (map raw_shape l.slices));
      rises : (sink l.fn.sink).faults ≤ (sink l.sink).faults;
    }
