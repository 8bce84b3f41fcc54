-- What a Mach-O file keeps.
use Rattle.image_read.specs.MachRows.{HasMachHeader}
use Rattle.image_read.specs.declared.mach.file.MachFile.TheInside.{Inside}

-- the header stands in the bytes
pub record IsMachFile (file : Inside) : Type 0 where
  pub header : HasMachHeader file.bytes.now
