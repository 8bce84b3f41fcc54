-- What a contract sees of a Mach-O image.
use Rattle.std.specs.Prelude.{map}
use Rattle.image_read.specs.MachImage.{MachImageData}
use Rattle.image_read.specs.MachViews.{mach_symbol_of}
use Rattle.image_read.specs.declared.mach.image.MachImage.TheInside.{Inside}

abbrev pub mach_image_view : Inside → MachImageData
mach_image_view i =
    record {
      cputype = i.cputype;
      cpusubtype = i.cpusubtype;
      flags = i.flags;
      build_version = i.build_version;
      sections = i.sections.items;
      symbols = map mach_symbol_of i.symbols.items;
    }
