-- What a fat file keeps.
use Rattle.std.specs.Prelude.{◌≡◌}
use Rattle.image_read.specs.FatFile.{fat_count, has_wide_entries}
use Rattle.image_read.specs.FatRows.{HasFatTable}
use Rattle.image_read.specs.declared.fat.file.FatFile.TheInside.{Inside}

-- its table stands in the bytes, and it keeps the table's width and count
pub record IsFatFile (file : Inside) : Type 0 where
  pub table : HasFatTable file.bytes.now
  pub wide : file.wide ≡ has_wide_entries file.bytes.now
  pub count : file.count ≡ fat_count file.bytes.now
