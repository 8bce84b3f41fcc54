-- What contracts see of a data description.
use Rattle.std.specs.Prelude.{option_map, string_bytes}
use Rattle.cranelift_module.specs.declared.data_context.DataDescription.TheInside.{Inside}
use Rattle.cranelift_module.specs.Call.{Description}
use Rattle.cranelift_module.specs.Init.{init_view}

abbrev pub description_view : Inside → Description
description_view d =
    record {
      contents = init_view d.init;
      function_decls = d.function_decls.items;
      data_decls = d.data_decls.items;
      function_relocs = d.function_relocs.items;
      data_relocs = d.data_relocs.items;
      section = option_map string_bytes d.custom_section;
      align = d.align;
      used = d.used;
    }
