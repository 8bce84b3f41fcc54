-- What a contract sees of a section.
use Rattle.std.specs.Prelude.{map}
use Rattle.image_read.specs.ElfImage.{ElfSectionData}
use Rattle.image_read.specs.Views.{relocation_of}
use Rattle.image_read.specs.declared.elf.image.ElfSection.TheInside.{Inside}

abbrev pub section_view : Inside → ElfSectionData
section_view s =
    record {
      name = s.name.now;
      sh_type = s.row.sh_type;
      flags = s.row.flags;
      address = s.row.address;
      size = s.row.size;
      link = s.row.link;
      info = s.row.info;
      align = s.row.align;
      entsize = s.row.entsize;
      contents = s.contents.now;
      relocations = map relocation_of s.relocations.items;
    }
