-- What a contract sees of an image.
use Rattle.std.specs.Prelude.{map}
use Rattle.image_read.specs.ElfImage.{ElfImageData}
use Rattle.image_read.specs.Views.{symbol_of}
use Rattle.image_read.specs.declared.elf.image.ElfImage.TheInside.{Inside}

abbrev pub image_view : Inside → ElfImageData
image_view i =
    record {
      machine = i.machine;
      flags = i.flags;
      sections = i.sections.items;
      symbols = map symbol_of i.symbols.items;
      local_symbols = i.local_symbols;
    }
