-- The image of the file of a link table: what a reader sees of it, in the table's own rows.
use Rattle.std.specs.Prelude.{◌≡◌, ℕ, List, map, option_map}
use Rattle.std.specs.Int.{trailing_zeros, w64}
use Rattle.object_core.specs.declared.kinds.MachOBuildVersion.{MachOBuildVersion}
use Rattle.object_core.specs.LinkTable.{MachTable, MachTableSection, MachTableSymbol}
use Rattle.image_read.specs.MachImage.{MachSectionData, MachSymbolData, MachImageData, MachReads}
use Rattle.object_macho.specs.Layout.{stored_contents, records_of}

-- a section has its own records; the addends that fields keep are written into its contents
abbrev pub section_shown : ℕ → MachTableSection → MachSectionData
section_shown cputype s =
    record {
      segment = s.segment;
      name = s.name;
      address = s.address;
      size = s.size;
      align = trailing_zeros w64 s.align;
      flags = s.flags;
      contents = stored_contents cputype s;
      relocations = records_of cputype s;
    }

abbrev pub symbol_shown : MachTableSymbol → MachSymbolData
symbol_shown s = record { name = s.name; n_type = s.n_type; sect = s.sect; desc = s.desc; value = s.value }

abbrev pub version_shown : MachOBuildVersion → ℕ × ℕ × ℕ
version_shown v = (v.platform, v.minos, v.sdk)

-- the image of a table; its sections and symbols are the table's, row for row. MH_SUBSECTIONS_VIA_SYMBOLS 0x2000
unfoldable pub image_for : MachTable → MachImageData
image_for t =
    record {
      cputype = t.cputype;
      cpusubtype = t.cpusubtype;
      flags = 0x2000;
      build_version = option_map version_shown t.build_version;
      sections = map (section_shown t.cputype) t.sections;
      symbols = map symbol_shown t.symbols;
    }

-- the file is read as this image, and as no other
pub record ReadsOnly (b : List ℕ) (image : MachImageData) : Type 0 where
  pub reads : MachReads b image
  pub only : (other : MachImageData) → MachReads b other → other ≡ image
