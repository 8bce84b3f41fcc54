-- What contracts see of the parts of a build.
use Rattle.std.specs.Prelude.{◌<◌, length}
use Rattle.cranelift_object.specs.Part.{PartData}
use Rattle.image_build.specs.Built.{BuildPart, commands, image}
use Rattle.image_build.specs.declared.part.Part.{Part}
use Rattle.image_build.specs.declared.part.Part.TheVariants as parts

abbrev pub part_view : Part → BuildPart
part_view (parts.Commands part) = commands part
part_view (parts.Image bytes) = image bytes.items

-- a part has fewer commands than there are identifiers
abbrev pub HasFewCalls : BuildPart → Type 0
HasFewCalls (commands part) = length part.calls < 4294967295
HasFewCalls (image bytes) = Unit {0}

-- a part of so few commands
pub record IsPlainPart (part : PartData) : Type 0 where
  pub few : length part.calls < 4294967295
