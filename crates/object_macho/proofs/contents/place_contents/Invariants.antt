use Rattle.std.proofs.Common.{◌≡◌, List, length, take, map}
use Rattle.object_core.specs.Object.{SymbolData}
use Rattle.object_core.specs.MachRows.{mach_relocation}
use Rattle.object_macho.proofs.Patching.{ArePatched}
use Rattle.object_macho.proofs.contents.place_contents.Given as goal

-- the contents stand there with the numbers of the relocations so far
abbrev pub invariant-loop-relocation : goal.invariant-loop-relocation
invariant-loop-relocation l = record {
  patched : (symbols : List SymbolData) → ArePatched l.cputype l.at (map (mach_relocation symbols) (take l.relocation-index l.relocation-items)) l.section.contents l.out;
  front : take l.at l.out ≡ take l.at l.fn.out;
  len : length l.out ≡ length l.fn.out;
}
