-- What a file with its header keeps.
use Rattle.std.specs.Prelude.{◌≡◌}
use Rattle.image_read.specs.ElfFile.{header_of}
use Rattle.image_read.specs.ElfRows.{HasHeader}
use Rattle.image_read.specs.declared.elf.file.ElfFile.TheInside.{Inside}

-- it keeps numbers of the header that stands in the bytes
pub record IsFile (file : Inside) : Type 0 where
  pub header : HasHeader file.bytes.now
  pub machine : file.machine ≡ (header_of file.bytes.now).machine
  pub flags : file.flags ≡ (header_of file.bytes.now).flags
  pub shoff : file.shoff ≡ (header_of file.bytes.now).shoff
  pub shnum : file.shnum ≡ (header_of file.bytes.now).shnum
  pub shstrndx : file.shstrndx ≡ (header_of file.bytes.now).shstrndx
