-- What a module finds that relocations go to and add.
use Rattle.std.specs.Prelude.{◌≡◌, ℕ, ◌+◌, ◌*◌, ◌^◌, ◌<◌, ◌==◌, Bool, List, [], ◌∷◌, ◌++◌, map, filter, slice_get, Option, Some, None, unwrap_or, bytes_eq, if◌then◌else◌}
use Rattle.std.specs.List.{All, list_any, position_or_len}
use Rattle.std.specs.BTreeMap.{BTreeMap, get}
use Rattle.std.specs.Ordering.{nat_cmp}
use Rattle.ir_core.specs.Moments.{once_each}
use Rattle.cranelift_module.specs.declared.reloc.ModuleReloc.{ModuleReloc}
use Rattle.cranelift_module.specs.LinkState.{LinkState}
use Rattle.cranelift_object.specs.Settings.{Settings}
use Rattle.cranelift_object.specs.Targets.{RelocationTarget, identifier, library, known, label, known_place, target_of, targets, is_same_target, is_extra}
use Rattle.cranelift_object.specs.declared.extras.Extra.{Extra}
use Rattle.cranelift_object.specs.declared.extras.Extra.TheVariants.{Library, Known, Label}
use Rattle.cranelift_object.specs.declared.extras.ResolvedTarget.{ResolvedTarget}
use Rattle.cranelift_object.specs.declared.extras.ResolvedTarget.TheVariants.{Identifier, Added}

-- the text of this place in the table of library calls
abbrev pub text_of : Settings → ℕ → List ℕ
text_of settings place = unwrap_or (slice_get settings.library_names place) []

abbrev pub extra_target : Settings → Extra → RelocationTarget
extra_target settings (Library place) = library (text_of settings place)
extra_target settings (Known symbol) = known symbol
extra_target settings (Label function offset) = label function offset

abbrev pub resolved_target : Settings → ResolvedTarget → RelocationTarget
resolved_target settings (Identifier id) = identifier id
resolved_target settings (Added extra) = extra_target settings extra

-- a number for what a relocation adds: the place of a text, below 18; then the known symbols; then the labels
abbrev pub extra_key : Extra → ℕ
extra_key (Library place) = place
extra_key (Known symbol) = 18 + known_place symbol
extra_key (Label function offset) = 2 ^ 32 * (function + 1) + offset

-- a text is told by the first place where it stands, and the offset of a label has 32 bits
abbrev pub IsFaithful : Settings → Extra → Type 0
IsFaithful settings (Library place) = (place < 18) × (position_or_len (bytes_eq (text_of settings place)) settings.library_names ≡ place)
IsFaithful settings (Known symbol) = Unit {0}
IsFaithful settings (Label function offset) = offset < 2 ^ 32

abbrev pub IsFaithfulTarget : Settings → ResolvedTarget → Type 0
IsFaithfulTarget settings (Identifier id) = Unit {0}
IsFaithfulTarget settings (Added extra) = IsFaithful settings extra

abbrev pub has_key : ℕ → Extra → Bool
has_key key extra = extra_key extra == key

-- the place of the one with this number
abbrev pub extra_place : ℕ → List Extra → Option ℕ
extra_place key extras = if list_any (has_key key) extras then Some (position_or_len (has_key key) extras) else None

-- a map finds each by its number
abbrev pub FindsExtras : BTreeMap ℕ ℕ → List Extra → Type 0
FindsExtras places extras = (key : ℕ) → get nat_cmp places key ≡ extra_place key extras

-- one more behind the others, where it is not yet among them
abbrev pub with_extra : List Extra → Extra → List Extra
with_extra extras extra = if list_any (has_key (extra_key extra)) extras then extras else extras ++ extra ∷ []

-- these are what some targets add, each once, at its first use
pub record AreAdded (settings : Settings) (ts : List RelocationTarget) (extras : List Extra) : Type 0 where
  pub found : map (extra_target settings) extras ≡ once_each is_same_target (filter is_extra ts)
  pub faithful : All (IsFaithful settings) extras

-- these are what the relocations of all definitions add
abbrev pub AreExtras : Settings → LinkState → List Extra → Type 0
AreExtras settings s extras = AreAdded settings (targets settings s s.definitions) extras

-- where some relocations go
abbrev pub targets_in : Settings → LinkState → List ModuleReloc → List RelocationTarget
targets_in settings s relocs = map (λ r. target_of settings s r.name) relocs
