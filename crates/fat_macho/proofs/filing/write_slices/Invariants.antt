use Rattle.std.proofs.Common.{◌≡◌, ◌≤◌, map, drop}
use Rattle.fat_macho.specs.Filing.{ChangesSources, Lays}
use Rattle.fat_macho.specs.HeldViews.{raw_shape}
use Rattle.fat_macho.specs.Layout.{end_from, sizes_of}
use Rattle.fat_macho.proofs.filing.write_slices.Given as goal

-- the slices that are left are left, and no source has changed but in its count
abbrev pub invariant-loop-slice : goal.invariant-loop-slice
invariant-loop-slice g l =
    let sink = g.W.Sink.sink in
    let source = g.S.Source.source in
    record {
      written : Lays (map (λ s. source s) l.fn.sources) l.align l.start l.end l.slices (drop l.slice-index l.slices) (sink l.fn.sink) (sink l.sink);
      ends : end_from l.align l.end (sizes_of (map raw_shape (drop l.slice-index l.slices))) ≡ end_from l.align l.start (sizes_of (map raw_shape l.slices));
      others : ChangesSources (map (λ s. source s) l.fn.sources) (map (λ s. source s) l.sources);
      rises : (sink l.fn.sink).faults ≤ (sink l.sink).faults;
    }
