use Rattle.std.proofs.Common.{◌≡◌, ◌*◌, ◌≤◌, ◌^◌, ◌++◌, take, drop, map}
use Rattle.object_core.specs.Places.{end_of}
use Rattle.object_core.specs.MachRows.{header_order, section_extent, addresses_in}
use Rattle.object_macho.proofs.counted.addresses_of.Given as goal

-- where the sections so far end; the addresses so far and those that are left are all
abbrev pub invariant-loop-n : goal.invariant-loop-n
invariant-loop-n l = record {
  end : l.end ≡ end_of (map section_extent (take l.n (header_order l.object.sections)));
  bound : l.end ≤ l.n * 2 ^ 33;
  addresses : l.addresses.items ++ drop l.n (addresses_in l.object.sections) ≡ addresses_in l.object.sections;
}
