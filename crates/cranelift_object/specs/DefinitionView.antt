-- What contracts see of a definition that a module keeps.
use Rattle.std.specs.Prelude.{option_map, string_bytes, unwrap_or, []}
use Rattle.cranelift_module.specs.Call.{bytes}
use Rattle.cranelift_module.specs.Init.{init_view}
use Rattle.cranelift_module.specs.Definitions.{Definition}
use Rattle.cranelift_object.specs.declared.definition.Definition.TheInside.{Inside}

abbrev pub definition_view : Inside → Definition
definition_view d =
    record {
      identifier = d.identifier;
      contents = unwrap_or (init_view d.contents) (bytes []);
      align = d.align;
      relocs = d.relocs.items;
      section = option_map string_bytes d.section;
      used = d.used;
      writable = d.writable;
    }
