-- What placement answers for images: the bytes of each definition in memory, or the first refusal.
use Rattle.std.specs.Prelude.{◌≡◌, ℕ, ◌+◌, ◌-◌, ◌^◌, ◌<◌, ◌==◌, ◌&&◌, ◌||◌, not, nat_lt, nat_le, Bool, true, false, List, [], ◌∷◌, ◌++◌, length, map, flat_map, filter, find, take, slice_get, bytes_eq, Option, Some, None, option_map, option_and_then, is_some, if◌then◌else◌}
use Rattle.std.specs.Option.{option_or}
use Rattle.std.specs.List.{All, filter_map, enumerate_from, list_any}
use Rattle.ir_core.specs.Moments.{Moment, moments}
use Rattle.byte_core.specs.Number.{bytes_at}
use Rattle.image_place.specs.Fixups.{FixKind, fix_width, Goal, own, named, Fixup, Piece, Addresses, bound, resolved, patch_of, memory_of}
use Rattle.image_view.specs.View.{View, ViewSymbol, ViewSection}
use Rattle.image_view.specs.declared.view.ViewReloc.{ViewReloc}
use Rattle.image_view.specs.Viewed.{IsViewed}
-- where a definition is to stand, and how long it is: the number of its image, the row of its symbol
pub use Rattle.image_place.specs.declared.rows.DefAddress.{DefAddress as AddressRow}
pub use Rattle.image_place.specs.declared.fault.PlaceFault.{PlaceFault}
pub use Rattle.image_place.specs.declared.fault.PlaceFault.TheVariants.{DefinedTwice as defined_twice, NoAddress as no_address, OtherKind as other_kind, LooseLabel as loose_label, DoesNotFit as does_not_fit}

-- -- definitions

abbrev pub lies_in : ℕ → Option ℕ → Bool
lies_in k None = false
lies_in k (Some section) = section == k

-- a symbol that lies in a section and is no label
abbrev pub is_definition : ViewSymbol → Bool
is_definition s = is_some s.section && not s.is_label

-- the first address row of a symbol
abbrev pub row_for : List AddressRow → ℕ → ℕ → Option AddressRow
row_for addresses q row = find (λ a. a.image == q && a.symbol == row) addresses

-- a definition with its row, its section and its address row
pub record Definition : Type 0 where
  pub row : ℕ
  pub symbol : ViewSymbol
  pub section : ℕ
  pub address : ℕ
  pub size : ℕ

-- a symbol as a definition of its address row; one without an address row is refused elsewhere
abbrev pub definition_at : ℕ → ViewSymbol → Option ℕ → Option AddressRow → Option Definition
definition_at row s (Some section) (Some a) = if s.is_label then None else Some (record { row = row; symbol = s; section = section; address = a.address; size = a.size })
definition_at row s section a = None

-- the definitions of an image by row
unfoldable pub definitions_in : List AddressRow → ℕ → View → List Definition
definitions_in addresses q v = filter_map (λ (e : ℕ × ViewSymbol). definition_at e.0 e.1 e.1.section (row_for addresses q e.0)) (enumerate_from 0 v.symbols)

-- the definition's range holds the n bytes at this address of its section
abbrev pub holds : ℕ → ℕ → ℕ → Definition → Bool
holds section at n d = d.section == section && nat_le d.symbol.address at && nat_le (at + n) (d.symbol.address + d.size)

-- -- what a definition is without its section

-- the first definition whose range holds a label leads there
abbrev pub label_goal : ViewSymbol → Option Definition → Option (Goal ℕ)
label_goal s None = None
label_goal s (Some d) = Some (own d.row (s.address - d.symbol.address))

abbrev pub symbol_goal : List Definition → ℕ → ViewSymbol → Option ℕ → Option (Goal ℕ)
symbol_goal ds row s None = Some (named s.name)
symbol_goal ds row s (Some section) = if s.is_label then label_goal s (find (holds section s.address 1) ds) else Some (own row 0)

-- where the symbol of a row leads, none for a label that lies in no definition
abbrev pub row_goal : View → List Definition → ℕ → Option (Goal ℕ)
row_goal v ds row = option_and_then (λ s. symbol_goal ds row s s.section) (slice_get v.symbols row)

-- a relocation as a fixup of a definition that begins at this address
abbrev pub fixup_at : View → List Definition → ℕ → ℕ → ViewReloc → Option (Fixup ℕ)
fixup_at v ds start at r = option_map (λ goal. record { offset = start + r.offset - at; kind = r.kind; goal = goal; addend = r.addend }) (row_goal v ds r.symbol)

-- the whole field of a relocation, of a kind that is applied, lies in the definition's range
abbrev pub holds_field : ℕ → ViewReloc → Option FixKind → Definition → Bool
holds_field start r None d = false
holds_field start r (Some kind) d = nat_le d.symbol.address (start + r.offset) && nat_le (start + r.offset + fix_width kind) (d.symbol.address + d.size)

-- a definition with its range of the section, and the relocations whose field lies there, in order
abbrev pub piece_in : View → List Definition → Definition → ViewSection → Piece ℕ
piece_in v ds d s =
    record {
      key = d.row;
      name = Some d.symbol.name;
      exported = not d.symbol.is_local;
      contents = bytes_at s.bytes (d.symbol.address - s.start) d.size;
      fixups = filter_map (fixup_at v ds s.start d.symbol.address) (filter (λ r. holds_field s.start r r.kind d) s.relocations);
    }

-- the definitions of an image
unfoldable pub view_pieces : List AddressRow → ℕ → View → List (Piece ℕ)
view_pieces addresses q v = filter_map (λ d. option_map (piece_in v (definitions_in addresses q v) d) (slice_get v.sections d.section)) (definitions_in addresses q v)

-- the definitions of all images
abbrev pub all_pieces : List AddressRow → List View → List (List (Piece ℕ))
all_pieces addresses views = map (λ (e : ℕ × View). view_pieces addresses e.0 e.1) (enumerate_from 0 views)

abbrev pub address_in : Option AddressRow → ℕ
address_in None = 0
address_in (Some a) = a.address

-- the addresses that the rows give
abbrev pub given : List AddressRow → Addresses ℕ
given addresses q row = address_in (row_for addresses q row)

-- -- the answer

-- the bytes of a definition in memory
pub record PlacedEntry : Type 0 where
  pub image : ℕ
  pub symbol : ℕ
  pub address : ℕ
  pub bytes : List ℕ

-- a definition of image q at its address
abbrev pub entry_of : List (List (Piece ℕ)) → List AddressRow → List (List ℕ × ℕ) → ℕ → Piece ℕ → Option PlacedEntry
entry_of objects addresses externs q piece = option_map (λ bytes. record { image = q; symbol = piece.key; address = given addresses q piece.key; bytes = bytes }) (memory_of objects (given addresses) externs q piece)

-- one entry for each definition, by image and row
unfoldable pub placed_entries : List View → List AddressRow → List (List ℕ × ℕ) → List PlacedEntry
placed_entries views addresses externs =
    flat_map (λ (e : ℕ × List (Piece ℕ)). filter_map (entry_of (all_pieces addresses views) addresses externs e.0) e.1) (enumerate_from 0 (all_pieces addresses views))

-- -- refusals

abbrev pub first_fault : List (Option PlaceFault) → Option PlaceFault
first_fault [] = None
first_fault (fault ∷ faults) = option_or fault (first_fault faults)

abbrev pub fault_if : Bool → PlaceFault → Option PlaceFault
fault_if test fault = if test then Some fault else None

-- a symbol with the number of its image and its row
pub record At : Type 0 where
  pub image : ℕ
  pub row : ℕ
  pub symbol : ViewSymbol

abbrev pub symbols_at : ℕ × View → List At
symbols_at v = map (λ (e : ℕ × ViewSymbol). record { image = v.0; row = e.0; symbol = e.1 }) (enumerate_from 0 v.1.symbols)

-- the definitions of all images, by image and row
unfoldable pub all_definitions : List View → List At
all_definitions views = filter (λ a. is_definition a.symbol) (flat_map symbols_at (enumerate_from 0 views))

-- a definition that others see under this name
abbrev pub exports_as : List ℕ → At → Bool
exports_as x a = not a.symbol.is_local && bytes_eq a.symbol.name x

-- a definition that others see, under a name that one before it has
abbrev pub is_second : Moment At → Bool
is_second m = not m.here.symbol.is_local && list_any (exports_as m.here.symbol.name) m.before

abbrev pub twice_fault : Moment At → Option PlaceFault
twice_fault m = fault_if (is_second m) (defined_twice m.here.image m.here.row)

-- the range of a definition leaves its section
abbrev pub leaves : ℕ → ℕ → Option ViewSection → Bool
leaves at size None = true
leaves at size (Some section) = nat_lt at section.start || nat_lt (section.start + section.size) (at + size)

abbrev pub section_of : List View → At → Option ViewSection
section_of views a = option_and_then (λ v. option_and_then (λ k. slice_get v.sections k) a.symbol.section) (slice_get views a.image)

abbrev pub is_homeless : List View → At → Option AddressRow → Bool
is_homeless views a None = true
is_homeless views a (Some row) = leaves a.symbol.address row.size (section_of views a) || nat_le (2 ^ 64) (row.address + row.size)

abbrev pub address_fault : List View → List AddressRow → At → Option PlaceFault
address_fault views addresses a = fault_if (is_homeless views a (row_for addresses a.image a.row)) (no_address a.image a.row)

-- a symbol that leads nowhere: a label that is loose
abbrev pub goal_fault : List (List (Piece ℕ)) → List AddressRow → List (List ℕ × ℕ) → ℕ → ViewReloc → Option (Goal ℕ) → Option PlaceFault
goal_fault objects addresses externs q r None = Some (loose_label q r.symbol)
goal_fault objects addresses externs q r (Some (named x)) = fault_if (not (is_some (bound objects (given addresses) externs x))) (no_address q r.symbol)
goal_fault objects addresses externs q r (Some (own key distance)) = None

-- the value of a fixup of a definition doesn't fit
abbrev pub is_too_far : List (List (Piece ℕ)) → List AddressRow → List (List ℕ × ℕ) → ℕ → View → List Definition → ViewSection → ViewReloc → Definition → Bool
is_too_far objects addresses externs q v ds s r d =
    not (is_some (option_and_then (λ f. patch_of d.address (resolved objects (given addresses) externs q f)) (fixup_at v ds s.start d.symbol.address r)))

-- the definitions whose range holds the field, of the relocation's section
abbrev pub holders : List Definition → ℕ → ViewSection → ViewReloc → List Definition
holders ds k s r = filter (λ d. d.section == k && holds_field s.start r r.kind d) ds

abbrev pub reloc_fault : List (List (Piece ℕ)) → List AddressRow → List (List ℕ × ℕ) → ℕ → View → ℕ × ViewSection → ViewReloc → Option PlaceFault
reloc_fault objects addresses externs q v s r =
    let ds = definitions_in addresses q v in
    first_fault (
    fault_if (not (is_some r.kind)) (other_kind q r.number)
    ∷ fault_if (length (holders ds s.0 s.1 r) == 0) (no_address q r.symbol)
    ∷ goal_fault objects addresses externs q r (row_goal v ds r.symbol)
    ∷ fault_if (list_any (is_too_far objects addresses externs q v ds s.1 r) (holders ds s.0 s.1 r)) (does_not_fit q r.offset)
    ∷ [])

abbrev pub image_faults : List View → List AddressRow → List (List ℕ × ℕ) → ℕ × View → List (Option PlaceFault)
image_faults views addresses externs v = flat_map (λ (s : ℕ × ViewSection). map (reloc_fault (all_pieces addresses views) addresses externs v.0 v.1 s) s.1.relocations) (enumerate_from 0 v.1.sections)

-- the first refusal of images that are read: a second definition, then an address that is missing, then by image, section
-- and relocation
unfoldable pub place_fault : List View → List AddressRow → List (List ℕ × ℕ) → Option PlaceFault
place_fault views addresses externs =
    first_fault (
    map twice_fault (moments (all_definitions views))
    ++ map (address_fault views addresses) (all_definitions views)
    ++ flat_map (image_faults views addresses externs) (enumerate_from 0 views))

-- -- images

abbrev pub is_same_format : View → View → Bool
is_same_format v w = if v.is_elf then w.is_elf else not w.is_elf

-- a view has the format of the first one
abbrev pub fits_format : List View → View → Bool
fits_format [] v = true
fits_format (w ∷ ws) v = is_same_format w v

-- the files are x86_64 objects of one format, with these views
pub record AreViewed (files : List (List ℕ)) (views : List View) : Type 0 where
  pub count : length views ≡ length files
  pub each : (q : ℕ) (b : List ℕ) (v : View) → slice_get files q ≡ Some b → slice_get views q ≡ Some v → IsViewed b v
  pub format : (q : ℕ) (v w : View) → slice_get views 0 ≡ Some v → slice_get views q ≡ Some w → is_same_format v w ≡ true

-- a list that a value carries: bytes, and fewer than 2^64 of them
pub record IsOfBytes (b : List ℕ) : Type 0 where
  pub bytes : All (λ x. x < 256) b
  pub short : length b < 2 ^ 64

-- so are the files, or so many first ones
abbrev pub AreOfBytes : List (List ℕ) → ℕ → Type 0
AreOfBytes files count = (q : ℕ) (b : List ℕ) → q < count → slice_get files q ≡ Some b → IsOfBytes b

-- the entries are what placement gives for the files
pub record Placed (files : List (List ℕ)) (addresses : List AddressRow) (externs : List (List ℕ × ℕ)) (out : List PlacedEntry) : Type 0 where
  pub views : List View
  pub viewed : AreViewed files views
  pub none : place_fault views addresses externs ≡ None
  pub entries : out ≡ placed_entries views addresses externs

-- the first file that is no x86_64 object of the first one's format
pub record IsUnread (files : List (List ℕ)) (q : ℕ) : Type 0 where
  pub inside : q < length files
  pub before : (views : List View) × AreViewed (take q files) views
  pub here : (views : List View) → AreViewed (take (q + 1) files) views → ⊥

-- this is the first refusal
pub record IsFaulty (files : List (List ℕ)) (addresses : List AddressRow) (externs : List (List ℕ × ℕ)) (fault : PlaceFault) : Type 0 where
  pub views : List View
  pub viewed : AreViewed files views
  pub first : place_fault views addresses externs ≡ Some fault
