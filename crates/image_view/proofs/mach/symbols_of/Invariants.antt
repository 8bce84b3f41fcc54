use Rattle.std.proofs.Common.{◌≡◌, map, take}
use Rattle.image_read.specs.MachViews.{mach_symbol_of}
use Rattle.image_view.specs.View.{mach_view_symbol}
use Rattle.image_view.specs.ViewRows.{symbol_seen}
use Rattle.image_view.proofs.mach.symbols_of.Given as goal

abbrev pub invariant-loop-row : goal.invariant-loop-row
invariant-loop-row l = map symbol_seen l.symbols.items ≡ map mach_view_symbol (map mach_symbol_of (take l.row-index l.rows))
