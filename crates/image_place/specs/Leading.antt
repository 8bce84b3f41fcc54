-- Where relocations lead, and their refusals, by what names are bound to.
use Rattle.std.specs.Prelude.{ℕ, ◌+◌, ◌-◌, ◌==◌, ◌<◌, ◌^◌, ◌&&◌, not, Bool, List, map, flat_map, Option, Some, None, is_some, if◌then◌else◌}
use Rattle.std.specs.List.{list_any, enumerate_from}
use Rattle.image_place.specs.Fixups.{FixKind, Goal, own, named, value_bytes}
use Rattle.image_view.specs.View.{View, ViewSection}
use Rattle.image_view.specs.declared.view.ViewReloc.{ViewReloc}
use Rattle.image_place.specs.Placed.{AddressRow, Definition, definitions_in, given, holds_field, row_goal, PlaceFault, other_kind, no_address, loose_label, does_not_fit}
pub use Rattle.image_place.specs.declared.leading.Led.{Led}
use Rattle.image_place.specs.declared.leading.Led.TheVariants.{Loose, Unbound, At}

-- what names are bound to
abbrev pub Binding : Type 0
Binding = List ℕ → Option ℕ

abbrev pub led_name : Option ℕ → Led
led_name None = Unbound
led_name (Some a) = At a

-- where a goal leads
abbrev pub led : Binding → (ℕ → ℕ) → Option (Goal ℕ) → Led
led F at None = Loose
led F at (Some (own key distance)) = At (at key + distance)
led F at (Some (named x)) = led_name (F x)

-- the definitions of section k that hold the whole field
abbrev pub holds_it : ℕ → ℕ → ViewReloc → FixKind → Definition → Bool
holds_it k start r kind d = d.section == k && holds_field start r (Some kind) d

-- the value of the field in a definition doesn't fit
abbrev pub is_far : ℕ → ViewReloc → FixKind → ℕ → Definition → Bool
is_far start r kind s d = not (is_some (value_bytes kind s r.addend (d.address + (start + r.offset - d.symbol.address))))

abbrev pub led_fault : List Definition → ℕ → ℕ → ℕ → ViewReloc → FixKind → Led → Option PlaceFault
led_fault ds q k start r kind Loose = Some (loose_label q r.symbol)
led_fault ds q k start r kind Unbound = Some (no_address q r.symbol)
led_fault ds q k start r kind (At s) = if list_any (λ d. holds_it k start r kind d && is_far start r kind s d) ds then Some (does_not_fit q r.offset) else None

abbrev pub kind_fault : Binding → (ℕ → ℕ) → ℕ → View → List Definition → ℕ → ℕ → ViewReloc → Option FixKind → Option PlaceFault
kind_fault F at q v ds k start r None = Some (other_kind q r.number)
kind_fault F at q v ds k start r (Some kind) = if list_any (holds_it k start r kind) ds then led_fault ds q k start r kind (led F at (row_goal v ds r.symbol)) else Some (no_address q r.symbol)

-- the refusal of a relocation of section k, which begins there
abbrev pub fault_by : Binding → (ℕ → ℕ) → ℕ → View → List Definition → ℕ → ℕ → ViewReloc → Option PlaceFault
fault_by F at q v ds k start r = kind_fault F at q v ds k start r r.kind

-- the refusals of the relocations of a section with its number
abbrev pub section_faults : Binding → (ℕ → ℕ) → ℕ → View → List Definition → ℕ × ViewSection → List (Option PlaceFault)
section_faults F at q v ds s = map (fault_by F at q v ds s.0 s.1.start) s.1.relocations

-- those of an image
abbrev pub view_faults : Binding → (ℕ → ℕ) → ℕ → View → List Definition → List (Option PlaceFault)
view_faults F at q v ds = flat_map (section_faults F at q v ds) (enumerate_from 0 v.sections)

-- those of the image of a number
abbrev pub numbered_faults : Binding → List AddressRow → ℕ × View → List (Option PlaceFault)
numbered_faults F addresses e = view_faults F (given addresses e.0) e.0 e.1 (definitions_in addresses e.0 e.1)

-- those of all images
abbrev pub faults_by : Binding → List AddressRow → List View → List (Option PlaceFault)
faults_by F addresses views = flat_map (numbered_faults F addresses) (enumerate_from 0 views)

-- an address that is reached has at most 65 bits
abbrev pub IsNear : Led → Type 0
IsNear Loose = Unit {0}
IsNear Unbound = Unit {0}
IsNear (At s) = s < 2 ^ 66
