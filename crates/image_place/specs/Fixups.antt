-- What relocations do to a definition in memory: System V psABI for AMD64, "Relocation". It is stated without sections,
-- files and formats.
use Rattle.std.specs.Prelude.{ℕ, ◌+◌, ◌-◌, ◌^◌, ◌&&◌, nat_lt, ℤ, pos, negsuc, ◌+ℤ◌, ◌-ℤ◌, Bool, false, List, [], ◌∷◌, ◌++◌, take, drop, length, map, find, Option, Some, None, option_map, option_and_then, bytes_eq, if◌then◌else◌}
use Rattle.std.specs.List.{filter_map}
use Rattle.byte_core.specs.Number.{little_bytes}
pub use Rattle.image_view.specs.declared.kind.FixKind.{FixKind}
pub use Rattle.image_view.specs.declared.kind.FixKind.TheVariants.{Absolute8 as absolute8, Absolute4 as absolute4, Relative4 as relative4}

-- the bytes of a field
abbrev pub fix_width : FixKind → ℕ
fix_width absolute8 = 8
fix_width absolute4 = 4
fix_width relative4 = 4

-- where a fixup leads: a distance into a definition of the same object, or a name
pub data Goal (K : Type 0) : Type 0 where
  own : K → ℕ → Goal K
  named : List ℕ → Goal K

-- a relocation of a definition by its offset there; the kind is none where it is not one that is applied
pub record Fixup (K : Type 0) : Type 0 where
  pub offset : ℕ
  pub kind : Option FixKind
  pub goal : Goal K
  pub addend : ℤ

-- A definition without its place in a section: its key, its name if it has one, whether other objects see it, its bytes and
-- its fixups in order.
pub record Piece (K : Type 0) : Type 0 where
  pub key : K
  pub name : Option (List ℕ)
  pub exported : Bool
  pub contents : List ℕ
  pub fixups : List (Fixup K)

-- the address of the definition of a key in an object of a number
abbrev pub Addresses : Type 0 → Type 0
Addresses K = ℕ → K → ℕ

-- -- names

abbrev pub has_name : List ℕ → Option (List ℕ) → Bool
has_name x None = false
has_name x (Some name) = bytes_eq name x

-- the address of a definition that others see under this name
abbrev pub exported_as : {K : Type 0} → List ℕ → (K → ℕ) → Piece K → Option ℕ
exported_as x at piece = if piece.exported && has_name x piece.name then Some (at piece.key) else None

-- the addresses of all definitions that others see under this name, in objects from number q on
abbrev pub exporters_from : {K : Type 0} → List ℕ → Addresses K → ℕ → List (List (Piece K)) → List ℕ
exporters_from x at q [] = []
exporters_from x at q (object ∷ objects) = filter_map (exported_as x (at q)) object ++ exporters_from x at (q + 1) objects

-- the first address that is given for a name from outside
abbrev pub outside : List ℕ → List (List ℕ × ℕ) → Option ℕ
outside x externs = option_map (λ (e : List ℕ × ℕ). e.1) (find (λ (e : List ℕ × ℕ). bytes_eq e.0 x) externs)

-- a name is bound to the one definition of it, else from outside; two definitions bind nothing
abbrev pub bound_by : List ℕ → Option ℕ → Option ℕ
bound_by [] outside = outside
bound_by (a ∷ []) outside = Some a
bound_by (a ∷ b ∷ more) outside = None

abbrev pub bound : {K : Type 0} → List (List (Piece K)) → Addresses K → List (List ℕ × ℕ) → List ℕ → Option ℕ
bound objects at externs x = bound_by (exporters_from x at 0 objects) (outside x externs)

-- the address S to which a fixup of object q leads
abbrev pub address_of : {K : Type 0} → List (List (Piece K)) → Addresses K → List (List ℕ × ℕ) → ℕ → Goal K → Option ℕ
address_of objects at externs q (own key distance) = Some (at q key + distance)
address_of objects at externs q (named x) = bound objects at externs x

-- -- values

-- a number from 0 to the greatest of so many bytes
abbrev pub unsigned_bytes : ℕ → ℤ → Option (List ℕ)
unsigned_bytes width (pos n) = if nat_lt n (256 ^ width) then Some (little_bytes width n) else None
unsigned_bytes width (negsuc n) = None

-- a number of 4 bytes with its sign
abbrev pub signed_bytes : ℤ → Option (List ℕ)
signed_bytes (pos n) = if nat_lt n (2 ^ 31) then Some (little_bytes 4 n) else None
signed_bytes (negsuc n) = if nat_lt n (2 ^ 31) then Some (little_bytes 4 (2 ^ 32 - 1 - n)) else None

-- the bytes of a field at address p that leads to address s, where the value fits
abbrev pub value_bytes : FixKind → ℕ → ℤ → ℕ → Option (List ℕ)
value_bytes absolute8 s addend p = unsigned_bytes 8 (pos s +ℤ addend)
value_bytes absolute4 s addend p = unsigned_bytes 4 (pos s +ℤ addend)
value_bytes relative4 s addend p = signed_bytes ((pos s +ℤ addend) -ℤ pos p)

-- -- the bytes in memory

-- bytes that are to stand at an offset
pub record Patch : Type 0 where
  pub offset : ℕ
  pub bytes : List ℕ

-- a fixup whose address S is looked up
pub record Resolved : Type 0 where
  pub offset : ℕ
  pub kind : Option FixKind
  pub address : Option ℕ
  pub addend : ℤ

abbrev pub resolved : {K : Type 0} → List (List (Piece K)) → Addresses K → List (List ℕ × ℕ) → ℕ → Fixup K → Resolved
resolved objects at externs q f = record { offset = f.offset; kind = f.kind; address = address_of objects at externs q f.goal; addend = f.addend }

-- what is written for it in a definition at address p
abbrev pub patch_by : Resolved → ℕ → Option FixKind → Option ℕ → Option Patch
patch_by r p None s = None
patch_by r p (Some kind) None = None
patch_by r p (Some kind) (Some s) = option_map (λ bytes. record { offset = r.offset; bytes = bytes }) (value_bytes kind s r.addend (p + r.offset))

abbrev pub patch_of : ℕ → Resolved → Option Patch
patch_of p r = patch_by r p r.kind r.address

-- all of them, where none is none
abbrev pub each_some : {A B : Type 0} → (A → Option B) → List A → Option (List B)
each_some f [] = Some []
each_some f (x ∷ xs) = option_and_then (λ y. option_map (λ ys. y ∷ ys) (each_some f xs)) (f x)

abbrev pub with_patch : List ℕ → Patch → List ℕ
with_patch xs w = take w.offset xs ++ (w.bytes ++ drop (w.offset + length w.bytes) xs)

-- the bytes with the patches written in their order
unfoldable pub with_patches : List ℕ → List Patch → List ℕ
with_patches xs [] = xs
with_patches xs (w ∷ ws) = with_patches (with_patch xs w) ws

-- contents at an address with resolved fixups, where each has a value that fits
abbrev pub fixed : List ℕ → ℕ → List Resolved → Option (List ℕ)
fixed contents p rs = option_map (λ ws. with_patches contents ws) (each_some (patch_of p) rs)

-- the bytes in memory of a definition of object q
unfoldable pub memory_of : {K : Type 0} → List (List (Piece K)) → Addresses K → List (List ℕ × ℕ) → ℕ → Piece K → Option (List ℕ)
memory_of objects at externs q piece = fixed piece.contents (at q piece.key) (map (resolved objects at externs q) piece.fixups)
