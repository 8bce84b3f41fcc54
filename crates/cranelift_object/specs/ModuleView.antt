-- What contracts see of an open module.
use Rattle.cranelift_object.specs.Opened.{OpenModule}
use Rattle.cranelift_object.specs.Kept.{Marks}
use Rattle.cranelift_object.specs.declared.backend.ObjectModule.TheInside.{Inside}

-- its settings and its link state
abbrev pub module_view : Inside → OpenModule
module_view m =
    record {
      settings = m.builder.settings;
      state =
          record {
            target = m.builder.target;
            functions = m.declarations.functions;
            objects = m.declarations.objects;
            created = m.created.items;
            definitions = m.definitions.items;
          };
    }

-- what it keeps beside them: which functions and data objects have a definition
abbrev pub marks_view : Inside → Marks
marks_view m = record { functions = m.defined.items; objects = m.defined_objects.items }
