use Rattle.std.proofs.Common.{◌≡◌, map}
use Rattle.std.specs.List.{range_with_len}
use Rattle.image_read.specs.MachImage.{mach_symbol_data}
use Rattle.image_read.specs.MachViews.{mach_symbol_of}
use Rattle.image_read.proofs.mach.symbols.symbols_of.Given as goal

abbrev pub invariant-loop-k : goal.invariant-loop-k
invariant-loop-k l = map mach_symbol_of l.symbols.items ≡ map (mach_symbol_data l.file) (range_with_len 0 l.k)
