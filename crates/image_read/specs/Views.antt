-- What the definitions see of rows that a reader gives.
use Rattle.image_read.specs.ElfFile.{ElfRelocationRow}
use Rattle.image_read.specs.ElfImage.{ElfSymbolData}
use Rattle.image_read.specs.declared.elf.image.ElfReloc.{ElfReloc}
use Rattle.image_read.specs.declared.elf.image.ElfSymbol.{ElfSymbol}

abbrev pub relocation_of : ElfReloc → ElfRelocationRow
relocation_of r = record { offset = r.offset; symbol = r.symbol; r_type = r.r_type; addend = r.addend }

abbrev pub symbol_of : ElfSymbol → ElfSymbolData
symbol_of s = record { name = s.name.now; info = s.info; other = s.other; shndx = s.shndx; value = s.value; size = s.size }
