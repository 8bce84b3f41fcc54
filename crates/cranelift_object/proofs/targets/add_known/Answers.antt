use Rattle.cranelift_object.proofs.targets.add_known.Goals as goal

pub returns-in-ElfGlobalOffsetTable : goal.returns-in-ElfGlobalOffsetTable
returns-in-ElfGlobalOffsetTable c = rw c.in-ElfGlobalOffsetTable.is c.add_outside.ensures

pub returns-in-CoffTlsIndex : goal.returns-in-CoffTlsIndex
returns-in-CoffTlsIndex c = rw c.in-CoffTlsIndex.is c.add_outside-in-CoffTlsIndex.ensures
