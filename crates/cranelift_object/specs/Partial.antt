-- The object of a state with its first definitions alone.
use Rattle.std.specs.Prelude.{ℕ, ◌+◌, List, [], ◌∷◌, ◌++◌, map, sum_by}
use Rattle.std.specs.List.{enumerate_from}
use Rattle.ir_core.specs.Moments.{moments}
use Rattle.object_core.specs.Object.{SectionData, ObjectData}
use Rattle.object_core.specs.Appending.{file_symbol}
use Rattle.cranelift_module.specs.Definitions.{Definition}
use Rattle.cranelift_module.specs.LinkState.{LinkState}
use Rattle.cranelift_object.specs.Settings.{Settings}
use Rattle.cranelift_object.specs.BuildVersion.{file_version}
use Rattle.cranelift_object.specs.SectionClass.{Class, section_class}
use Rattle.cranelift_object.specs.Placing.{Placed, placed_at, sections_used, section_number, align_of, room_of}
use Rattle.cranelift_object.specs.Linked.{section_with, members, identifier_symbol, file_flags}

-- some definitions, each at its place in a state
abbrev pub placed_of : Settings → LinkState → List Definition → List Placed
placed_of settings s ds = map (placed_at settings s) (moments ds)

-- the sections of these classes, whose numbers begin at i, with the definitions that stand in each
abbrev pub sections_from : Settings → LinkState → ℕ → List Class → List Placed → List SectionData
sections_from settings s i classes ps = map (λ (k : ℕ × Class). section_with settings s k.1 (members ps k.0)) (enumerate_from i classes)

-- the sections of these classes, with the first definitions of a state in them
abbrev pub partial_with : Settings → LinkState → List Class → List Definition → ObjectData
partial_with settings s classes ds =
    record {
      format = s.target.triple.binary_format;
      architecture = s.target.triple.architecture;
      e_flags = file_flags s.target.triple.architecture s.target.flags;
      build_version = file_version s.target.triple.binary_format s.target.triple;
      sections = sections_from settings s 0 (sections_used classes) (placed_of settings s ds);
      symbols = file_symbol settings.file_name ∷ map (identifier_symbol s (placed_of settings s ds)) s.created;
      content_sum = sum_by (λ d. room_of s d + align_of s d) ds;
    }

-- the object of a state with its first definitions alone
unfoldable pub partial : Settings → LinkState → List Definition → ObjectData
partial settings s ds = partial_with settings s (map (section_class settings s) ds) ds

-- that object once the section of one more definition is there
unfoldable pub opened : Settings → LinkState → List Definition → Definition → ObjectData
opened settings s ds d = partial_with settings s (map (section_class settings s) ds ++ section_class settings s d ∷ []) ds

-- the place of the section of a definition behind these
abbrev pub number_behind : Settings → LinkState → List Definition → Definition → ℕ
number_behind settings s ds d = section_number (map (section_class settings s) ds) (section_class settings s d)
