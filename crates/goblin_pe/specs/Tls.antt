-- The thread-local directory of an image and what it names, by Microsoft's PE Format, "The .tls Section".
use Rattle.std.specs.Prelude.{ℕ, zero, suc, ◌+◌, ◌-◌, ◌*◌, ◌/◌, ◌==◌, ◌&&◌, ◌||◌, nat_le, nat_lt, Bool, List, [], ◌∷◌, length, Option, Some, None, Result, Ok, Err, if◌then◌else◌}
use Rattle.std.specs.Option.{option_copied, option_and_then}
use Rattle.byte_core.specs.Number.{bytes_at, number_at}
use Rattle.pe_core.specs.declared.section_table.SectionTable.{SectionTable}
use Rattle.pe_core.specs.declared.section_table.DataDirectory.{DataDirectory}
use Rattle.pe_core.specs.declared.section_table.ParseOptions.{ParseOptions}
use Rattle.goblin_pe.specs.declared.tls.directory.ImageTlsDirectory.{ImageTlsDirectory}
use Rattle.goblin_pe.specs.declared.tls.TlsData.{TlsData}
use Rattle.pe_core.specs.declared.pe_error.Case.TheVariants.{NoOffset, TlsOrder, BelowBase}
use Rattle.pe_core.specs.declared.pe_error.Error.{Error}
use Rattle.pe_core.specs.declared.pe_error.Error.TheVariants.{BufferTooShort}
use Rattle.pe_core.specs.Steps.{◌>>=◌, demand, value_or, within_or_short, address_width, field_at}
use Rattle.pe_core.specs.FindOffset.{offset_of, offset_or_refusal}

-- the fields of a directory at place p, where addresses have w bytes: "The TLS Directory"
unfoldable pub tls_fields_at : List ℕ → ℕ → ℕ → ImageTlsDirectory
tls_fields_at b p w =
    record {
      start_address_of_raw_data = number_at b p w;
      end_address_of_raw_data = number_at b (p + w) w;
      address_of_index = number_at b (p + 2 * w) w;
      address_of_callbacks = number_at b (p + 3 * w) w;
      size_of_zero_fill = number_at b (p + 4 * w) 4;
      characteristics = number_at b (p + 4 * w + 4) 4;
    }

-- the directory that an entry of the data directory names
unfoldable pub tls_directory_of : List ℕ → DataDirectory → List SectionTable → ℕ → ParseOptions → Bool → Result ImageTlsDirectory Error
tls_directory_of b dd sections file_alignment opts is_64 = do
  place ← offset_or_refusal dd.virtual_address sections file_alignment opts
  within_or_short b place (4 * address_width is_64 + 8) (tls_fields_at b place (address_width is_64))

-- how addresses of an image in memory lead to offsets: the image base, the sections, the file alignment and the options
pub record Mapping : Type 0 where
  pub image_base : ℕ
  pub sections : List SectionTable
  pub file_alignment : ℕ
  pub opts : ParseOptions

-- the relative virtual address of an address, which isn't below the image base
abbrev pub rva_of : ℕ → ℕ → Result ℕ Error
rva_of image_base address = do
  _ ← demand (nat_le image_base address) (BelowBase address)
  Ok (address - image_base)

-- the offset of a relative virtual address
abbrev pub mapped : Mapping → ℕ → Option ℕ
mapped m rva = offset_of rva m.sections m.file_alignment m.opts

-- the n bytes at a place before the end, none where they pass it
abbrev pub range_at : List ℕ → ℕ → ℕ → Option (List ℕ)
range_at b n p = if nat_lt p (length b) && nat_le (p + n) (length b) then Some (bytes_at b p n) else None

-- the raw data from the start address up to the end address, where both are given
unfoldable pub raw_data_of : List ℕ → Mapping → ℕ → ℕ → Result (Option (List ℕ)) Error
raw_data_of b m start end =
    if start == 0 || end == 0 then Ok None
    else do
      _ ← demand (nat_le start end) TlsOrder
      rva ← rva_of m.image_base start
      Ok (option_and_then (range_at b (end - start)) (mapped m rva))

-- the number of 4 bytes at the index address, where one is given
unfoldable pub slot_of : List ℕ → Mapping → ℕ → Result (Option ℕ) Error
slot_of b m address =
    if address == 0 then Ok None
    else do
      rva ← rva_of m.image_base address
      Ok (option_and_then (λ p. field_at b p 4) (mapped m rva))

-- n numbers of w bytes, one behind the other from place p on
unfoldable pub numbers_from : List ℕ → ℕ → ℕ → ℕ → List ℕ
numbers_from b w p zero = []
numbers_from b w p (suc n) = number_at b p w ∷ numbers_from b w (p + w) n

-- the numbers of w bytes that stand whole from place p on up to the end of the file
abbrev pub numbers_behind : List ℕ → ℕ → ℕ → List ℕ
numbers_behind b w p = numbers_from b w p ((length b - p) / w)

-- a callback isn't below the image base and has an offset; the refusal keeps the callback
unfoldable pub callback_of : Mapping → ℕ → Result ℕ Error
callback_of m callback = do
  rva ← rva_of m.image_base callback
  _ ← value_or (mapped m rva) (NoOffset callback)
  Ok callback

-- a value in front of an answer's
abbrev pub in_front : ℕ → Result (List ℕ) Error → Result (List ℕ) Error
in_front x (Ok xs) = Ok (x ∷ xs)
in_front x (Err e) = Err e

-- the numbers before the first zero, each a callback; too short where no zero ends them
unfoldable pub callbacks_among : Mapping → List ℕ → Result (List ℕ) Error
callbacks_among m [] = Err BufferTooShort
callbacks_among m (n ∷ ns) = if n == 0 then Ok [] else callback_of m n >>= (λ callback. in_front callback (callbacks_among m ns))

-- the callbacks at an address, where one is given
unfoldable pub callbacks_of : List ℕ → Mapping → ℕ → ℕ → Result (List ℕ) Error
callbacks_of b m w address =
    if address == 0 then Ok []
    else do
      rva ← rva_of m.image_base address
      place ← value_or (mapped m rva) (NoOffset rva)
      callbacks_among m (numbers_behind b w place)

-- what a directory names, with ranges as bytes
pub record TlsView : Type 0 where
  pub image_tls_directory : ImageTlsDirectory
  pub raw_data : Option (List ℕ)
  pub slot : Option ℕ
  pub callbacks : List ℕ

-- thread-local data as its fields
abbrev pub tls_view : TlsData → TlsView
tls_view d = record { image_tls_directory = d.image_tls_directory; raw_data = option_copied d.raw_data; slot = d.slot; callbacks = d.callbacks.items }

-- the directory, then the raw data, the slot and the callbacks that it names
unfoldable pub named_by : List ℕ → Mapping → ℕ → ImageTlsDirectory → Result (Option TlsView) Error
named_by b m w directory = do
  raw ← raw_data_of b m directory.start_address_of_raw_data directory.end_address_of_raw_data
  slot ← slot_of b m directory.address_of_index
  callbacks ← callbacks_of b m w directory.address_of_callbacks
  Ok (Some (record { image_tls_directory = directory; raw_data = raw; slot = slot; callbacks = callbacks }))

-- the thread-local data of an image
unfoldable pub tls_of : List ℕ → ℕ → DataDirectory → List SectionTable → ℕ → ParseOptions → Bool → Result (Option TlsView) Error
tls_of b image_base dd sections file_alignment opts is_64 = do
  directory ← tls_directory_of b dd sections file_alignment opts is_64
  named_by b (record { image_base = image_base; sections = sections; file_alignment = file_alignment; opts = opts }) (address_width is_64) directory
