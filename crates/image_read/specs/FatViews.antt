-- What the definitions see of the rows of a fat image.
use Rattle.image_read.specs.FatImage.{FatSliceData}
use Rattle.image_read.specs.declared.fat.image.FatSlice.{FatSlice}

abbrev pub fat_slice_of : FatSlice → FatSliceData
fat_slice_of s = record { cputype = s.cputype; cpusubtype = s.cpusubtype; align = s.align; offset = s.offset; bytes = s.bytes.now }
