use Rattle.std.proofs.Common.{◌≡◌, ◌++◌, take}
use Rattle.objtool_run.proofs.script.definition.write_data.Given as goal

-- those so far stand behind what was there
abbrev pub invariant-loop-address : goal.invariant-loop-address
invariant-loop-address l = l.desc ≡ record l.fn.desc { data_relocs = l.fn.desc.data_relocs ++ take l.address-index l.addresses }
