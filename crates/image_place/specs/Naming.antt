-- How placement finds names.
use Rattle.std.specs.Prelude.{◌≡◌, ℕ, List, [], ◌∷◌, Option, Some, None, is_some, slice_get, not, ◌&&◌, bytes_eq, if◌then◌else◌}
use Rattle.std.specs.Borrow.{Bor}
use Rattle.std.specs.Option.{option_or}
use Rattle.std.specs.HashMap as hash
use Rattle.std.specs.HashMap.{HashMap}
use Rattle.std.specs.List.{filter_map}
use Rattle.image_place.specs.Fixups.{Piece, Addresses, exporters_from, outside}
use Rattle.image_view.specs.View.{View}
use Rattle.image_place.specs.Placed.{Definition}

-- what a map has under a name
abbrev pub at_name : {X S : Type 0} → HashMap (Bor (List ℕ)) X S → List ℕ → Option X
at_name m x = hash.get_by (λ w. bytes_eq x w.now) m

-- What a map tells of a name: nothing where it has no definition, one address where it has one, and none where it has more. Here
-- with one definition more.
abbrev pub told_next : Option (Option ℕ) → ℕ → Option ℕ
told_next None a = Some a
told_next (Some o) a = None

-- with the definitions at these addresses
abbrev pub told_all : Option (Option ℕ) → List ℕ → Option (Option ℕ)
told_all t [] = t
told_all t (a ∷ hs) = told_all (Some (told_next t a)) hs

-- a map tells of each name what its definitions are
abbrev pub Exports : {K S : Type 0} → HashMap (Bor (List ℕ)) (Option ℕ) S → List (List (Piece K)) → Addresses K → Type 0
Exports exports objects at = (x : List ℕ) → at_name exports x ≡ told_all None (exporters_from x at 0 objects)

-- the address of a definition that others see under this name, if its object shows it
abbrev pub export_by : (ℕ → ℕ) → View → List ℕ → Definition → Option ℕ
export_by at v x d = if is_some (slice_get v.sections d.section) && not d.symbol.is_local && bytes_eq d.symbol.name x then Some (at d.row) else None

-- a map has some definitions of an object more
abbrev pub NotesAll : {S : Type 0} → HashMap (Bor (List ℕ)) (Option ℕ) S → HashMap (Bor (List ℕ)) (Option ℕ) S → (ℕ → ℕ) → View → List Definition → Type 0
NotesAll old new at v ds = (x : List ℕ) → at_name new x ≡ told_all (at_name old x) (filter_map (export_by at v x) ds)

-- a map has one definition of a name more
abbrev pub NotesName : {S : Type 0} → HashMap (Bor (List ℕ)) (Option ℕ) S → HashMap (Bor (List ℕ)) (Option ℕ) S → List ℕ → ℕ → Type 0
NotesName old new name a = (x : List ℕ) → at_name new x ≡ (if bytes_eq name x then Some (told_next (at_name old name) a) else at_name old x)

-- a map has the first address of each name
abbrev pub Outsides : {S : Type 0} → HashMap (Bor (List ℕ)) ℕ S → List (List ℕ × ℕ) → Type 0
Outsides names externs = (x : List ℕ) → at_name names x ≡ outside x externs

-- a map has one name more, unless it has it
abbrev pub NotesOutside : {S : Type 0} → HashMap (Bor (List ℕ)) ℕ S → HashMap (Bor (List ℕ)) ℕ S → List ℕ → ℕ → Type 0
NotesOutside old new name a = (x : List ℕ) → at_name new x ≡ option_or (at_name old x) (outside x ((name, a) ∷ []))

abbrev pub found_or : Option (Option ℕ) → Option ℕ → Option ℕ
found_or None o = o
found_or (Some a) o = a

-- the address of a name: by its definitions, else from outside
abbrev pub address_found : {S T : Type 0} → HashMap (Bor (List ℕ)) (Option ℕ) S → HashMap (Bor (List ℕ)) ℕ T → List ℕ → Option ℕ
address_found exports outsides x = found_or (at_name exports x) (at_name outsides x)
