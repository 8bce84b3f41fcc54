-- How addresses lead to offsets, as a definition reads it.
use Rattle.goblin_pe.specs.declared.tls.mapping.AddressMap.{AddressMap}
use Rattle.goblin_pe.specs.Tls.{Mapping}

-- the code's map of addresses as a mapping
abbrev pub map_view : AddressMap → Mapping
map_view m = record { image_base = m.image_base; sections = m.sections.now; file_alignment = m.file_alignment; opts = m.opts.now }
