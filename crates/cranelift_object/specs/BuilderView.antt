-- What contracts see of a builder.
use Rattle.cranelift_object.specs.Opened.{BuilderData}
use Rattle.cranelift_object.specs.declared.builder.ObjectBuilder.TheInside.{Inside}

-- its settings and its target
abbrev pub builder_view : Inside → BuilderData
builder_view b =
    record {
      settings = record { file_name = b.name.items; library_names = b.libcall_names; function_sections = b.function_sections; data_sections = b.data_sections };
      target = b.isa;
    }
