-- What a contract sees of a section of a Mach-O image.
use Rattle.std.specs.Prelude.{map}
use Rattle.image_read.specs.MachImage.{MachSectionData}
use Rattle.image_read.specs.MachViews.{mach_relocation_of}
use Rattle.image_read.specs.declared.mach.image.MachSection.TheInside.{Inside}

abbrev pub mach_section_view : Inside → MachSectionData
mach_section_view s =
    record {
      segment = s.segment.now;
      name = s.name.now;
      address = s.row.address;
      size = s.row.size;
      align = s.row.align;
      flags = s.row.flags;
      contents = s.contents.now;
      relocations = map mach_relocation_of s.relocations.items;
    }
