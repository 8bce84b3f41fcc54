-- What a contract sees of a fat image.
use Rattle.std.specs.Prelude.{map}
use Rattle.image_read.specs.FatImage.{FatImageData}
use Rattle.image_read.specs.FatViews.{fat_slice_of}
use Rattle.image_read.specs.declared.fat.image.FatImage.TheInside.{Inside}

abbrev pub fat_image_view : Inside → FatImageData
fat_image_view i = record { is_fat64 = i.is_fat64; slices = map fat_slice_of i.slices.items }
