-- What contracts see of an object.
use Rattle.object_core.specs.declared.object.Object.TheInside.{Inside}
use Rattle.object_core.specs.Object.{ObjectData}
use Rattle.object_core.specs.ObjectNames.{symbols_in, sections_in, AreNames}
use Rattle.object_core.specs.Appending.{IsKept}

abbrev pub object_view : Inside → ObjectData
object_view o =
    record {
      format = o.format;
      architecture = o.architecture;
      e_flags = o.e_flags;
      build_version = o.build_version;
      sections = sections_in o.names.texts o.section_names.items o.sections.items;
      symbols = symbols_in o.names.texts o.symbol_names.items o.symbols.items;
      content_sum = o.content_sum;
    }

-- the sections are sound, and the names are those of the symbols and sections
pub record IsSound (o : Inside) : Type 0 where
  pub kept : IsKept o.format (sections_in o.names.texts o.section_names.items o.sections.items) o.content_sum o.standard_sections
  pub names : AreNames o.names.texts o.symbol_names.items o.symbols.items o.section_names.items o.sections.items
