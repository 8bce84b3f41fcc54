-- What contracts see of a part.
use Rattle.std.specs.Prelude.{map}
use Rattle.cranelift_object.specs.declared.command.CommandPart.TheInside.{Inside}
use Rattle.cranelift_object.specs.Command.{command_view}
use Rattle.cranelift_object.specs.Part.{PartData}

-- its settings, its target and its calls
abbrev pub part_view : Inside → PartData
part_view p =
    record {
      settings = record { file_name = p.name.items; library_names = p.libcall_names; function_sections = p.function_sections; data_sections = p.data_sections };
      target = p.isa;
      calls = map command_view p.commands.items;
    }
