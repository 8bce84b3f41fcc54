-- What the definitions see of the rows of a Mach-O image.
use Rattle.image_read.specs.MachFile.{MachRelocationRow}
use Rattle.image_read.specs.MachImage.{MachSymbolData}
use Rattle.image_read.specs.declared.mach.image.MachReloc64.{MachReloc64}
use Rattle.image_read.specs.declared.mach.image.MachSymbol.{MachSymbol}

abbrev pub mach_relocation_of : MachReloc64 → MachRelocationRow
mach_relocation_of r = record { address = r.address; symbolnum = r.symbolnum; pcrel = r.pcrel; length = r.length; is_extern = r.is_extern; r_type = r.r_type }

abbrev pub mach_symbol_of : MachSymbol → MachSymbolData
mach_symbol_of s = record { name = s.name.now; n_type = s.n_type; sect = s.sect; desc = s.desc; value = s.value }
