-- What contracts see of a section.
use Rattle.object_core.specs.declared.section.Section.TheInside.{Inside}
use Rattle.object_core.specs.Object.{SectionBody}

abbrev pub section_view : Inside → SectionBody
section_view s =
    record {
      kind = s.kind;
      macho_flags = s.macho_flags;
      retain = s.retain;
      align = s.align;
      size = s.size;
      contents = s.contents.items;
      relocations = s.relocations.items;
      shared = s.shared;
    }
