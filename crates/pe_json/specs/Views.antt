-- The inputs of the commands as the code keeps them.
use Rattle.pe_json.specs.declared.image.Image.{Image}
use Rattle.pe_json.specs.declared.signed.SignedInput.{SignedInput}
use Rattle.pe_json.specs.declared.load_config.WideImage.{WideImage}
use Rattle.pe_json.specs.declared.tls.BasedImage.{BasedImage}
use Rattle.pe_json.specs.Image.{ImageData}
use Rattle.pe_json.specs.Inputs.{SignedData, WideData, BasedData}

abbrev pub image_view : Image → ImageData
image_view i = record { bytes = i.bytes.items; directory = i.directory; sections = i.sections.items; file_alignment = i.file_alignment; options = i.options }

abbrev pub signed_view : SignedInput → SignedData
signed_view i = record { bytes = i.bytes.items; sections = i.sections.items; excluded = i.excluded }

abbrev pub wide_view : WideImage → WideData
wide_view i = record { image = image_view i.image; is_64 = i.is_64 }

abbrev pub based_view : BasedImage → BasedData
based_view i = record { image = image_view i.image; is_64 = i.is_64; image_base = i.image_base }
