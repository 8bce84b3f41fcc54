-- Lists of parts that give the same memory: with other section options, in the other format, or split up.
use Rattle.std.specs.Prelude.{◌≡◌, ℕ, ◌<◌, ◌==◌, ◌&&◌, not, bytes_eq, Bool, true, false, List, length, filter, slice_get, Option, Some, None, IsSome, if◌then◌else◌}
use Rattle.std.specs.List.{list_any}
use Rattle.ir_core.specs.Target.{Target}
use Rattle.ir_core.specs.declared.target.BinaryFormat.{BinaryFormat}
use Rattle.ir_core.specs.declared.target.Architecture.TheVariants.{X86_64}
use Rattle.cranelift_module.specs.declared.identifiers.FuncOrDataId.{FuncOrDataId}
use Rattle.cranelift_module.specs.declared.identifiers.FuncOrDataId.TheVariants.{Func}
use Rattle.cranelift_module.specs.declared.linkage.Linkage.{Linkage}
use Rattle.cranelift_module.specs.declared.linkage.Linkage.TheVariants.{Import, Export}
use Rattle.cranelift_module.specs.Refusal.{is_same_identifier, is_defined}
use Rattle.cranelift_module.specs.declared.reloc.ModuleReloc.{ModuleReloc}
use Rattle.cranelift_module.specs.Definitions.{Definition, contents_of}
use Rattle.cranelift_module.specs.LinkState.{LinkState}
use Rattle.cranelift_object.specs.Settings.{Settings}
use Rattle.cranelift_object.specs.Targets.{RelocationTarget as Goal, identifier, library, known, label, target_of}
use Rattle.cranelift_object.specs.Part.{PartData, part_state, part_cause}
use Rattle.image_place.specs.Memory.{declared_name, declared_linkage, known_text}
use Rattle.image_place.specs.Shares.{Pairs}

-- a part that can be built, for x86_64
pub record IsPart (part : PartData) : Type 0 where
  pub valid : part_cause part ≡ None
  pub architecture : part.target.triple.architecture ≡ X86_64

-- the parts differ in their section options alone
pub record SameButOptions (p r : PartData) : Type 0 where
  pub file_name : r.settings.file_name ≡ p.settings.file_name
  pub library_names : r.settings.library_names ≡ p.settings.library_names
  pub target : r.target ≡ p.target
  pub calls : r.calls ≡ p.calls

abbrev pub with_format : BinaryFormat → Target → Target
with_format format target = record target { triple = record target.triple { binary_format = format } }

-- the parts differ in their format alone
pub record SameButFormat (p r : PartData) : Type 0 where
  pub settings : r.settings ≡ p.settings
  pub target : with_format p.target.triple.binary_format r.target ≡ p.target
  pub calls : r.calls ≡ p.calls

-- -- a part and its split

-- the identifiers of the whole by the numbers of their parts
abbrev pub Numbers : Type 0
Numbers = FuncOrDataId → ℕ

-- the definitions that part q gets
abbrev pub definitions_for : LinkState → Numbers → ℕ → List Definition
definitions_for u m q = filter (λ d. m d.identifier == q) u.definitions

-- an identifier of the whole is this identifier of part q, where it is defined
pub record IsCounterpart (u : LinkState) (m : Numbers) (q : ℕ) (s : LinkState) (id there : FuncOrDataId) : Type 0 where
  pub number : ℕ
  pub whole : Definition
  pub part : Definition
  pub in_whole : slice_get (definitions_for u m q) number ≡ Some whole
  pub in_part : slice_get s.definitions number ≡ Some part
  pub identifier : whole.identifier ≡ id
  pub same : part.identifier ≡ there

-- an identifier of the whole that part q doesn't define is declared there under its name, as Import where another part
-- defines it
pub record IsDeclaredAs (u s : LinkState) (id there : FuncOrDataId) : Type 0 where
  pub named : IsSome (declared_name u id)
  pub name : declared_name s there ≡ declared_name u id
  pub undefined : is_defined s there ≡ false
  pub import : is_defined u id ≡ true → declared_linkage s there ≡ Some Import

-- the target is this identifier
abbrev pub is_identifier : FuncOrDataId → Goal → Bool
is_identifier id (identifier other) = is_same_identifier id other
is_identifier id _ = false

-- the target is a known symbol of this name
abbrev pub is_known_as : List ℕ → Goal → Bool
is_known_as x (known symbol) = bytes_eq (known_text symbol) x
is_known_as x _ = false

-- a relocation of a definition in another part reaches the identifier
unfoldable pub is_reached : Settings → LinkState → Numbers → FuncOrDataId → Bool
is_reached settings u m id = list_any (λ d. not (m d.identifier == m id) && list_any (λ r. is_identifier id (target_of settings u r.name)) d.relocs) u.definitions

-- some relocation names a known symbol of this name
unfoldable pub names_known : Settings → LinkState → List ℕ → Bool
names_known settings u x = list_any (λ d. list_any (λ r. is_known_as x (target_of settings u r.name)) d.relocs) u.definitions

-- the linkage of a defined identifier in its part: Export where another part reaches it
abbrev pub split_linkage : Settings → LinkState → Numbers → FuncOrDataId → Option Linkage
split_linkage settings u m id = if is_reached settings u m id then Some Export else declared_linkage u id

-- an identifier of the whole, defined in part q or not, and the one there
abbrev pub SplitsIdentifier : Bool → LinkState → Numbers → ℕ → LinkState → FuncOrDataId → FuncOrDataId → Type 0
SplitsIdentifier true u m q s id there = IsCounterpart u m q s id there
SplitsIdentifier false u m q s id there = IsDeclaredAs u s id there

-- where a relocation goes in the whole, and where it goes in part q
abbrev pub SplitsTarget : LinkState → Numbers → ℕ → LinkState → Goal → Goal → Type 0
SplitsTarget u m q s (identifier id) (identifier there) = SplitsIdentifier (is_defined u id && m id == q) u m q s id there
SplitsTarget u m q s (library x) (library y) = y ≡ x
SplitsTarget u m q s (known a) (known b) = b ≡ a
SplitsTarget u m q s (label f o) (label g p) = (p ≡ o) × (m (Func f) ≡ q) × IsCounterpart u m q s (Func f) (Func g)
SplitsTarget u m q s _ _ = ⊥

pub record SplitsReloc (whole part : Settings) (u : LinkState) (m : Numbers) (q : ℕ) (s : LinkState) (r t : ModuleReloc) : Type 0 where
  pub offset : t.offset ≡ r.offset
  pub kind : t.kind ≡ r.kind
  pub target : SplitsTarget u m q s (target_of whole u r.name) (target_of part s t.name)
  pub addend : t.addend ≡ r.addend

-- a definition of the whole, and the same in part q
pub record SplitsDefinition (whole part : Settings) (u : LinkState) (m : Numbers) (q : ℕ) (s : LinkState) (d e : Definition) : Type 0 where
  pub name : declared_name s e.identifier ≡ declared_name u d.identifier
  pub contents : contents_of e.contents ≡ contents_of d.contents
  pub relocs : Pairs (SplitsReloc whole part u m q s) d.relocs e.relocs
  pub linkage : declared_linkage s e.identifier ≡ split_linkage whole u m d.identifier

-- part q of a split: the settings but for the section options, and just its definitions in their order
pub record IsPartOf (u : PartData) (m : Numbers) (q : ℕ) (part : PartData) : Type 0 where
  pub target : part.target.triple.binary_format ≡ u.target.triple.binary_format
  pub library_names : part.settings.library_names ≡ u.settings.library_names
  pub definitions : Pairs (SplitsDefinition u.settings part.settings (part_state u) m q (part_state part)) (definitions_for (part_state u) m q) (part_state part).definitions

-- the parts are a split of u, and m gives each defined identifier the number of its part
pub record Split (u : PartData) (parts : List PartData) (m : Numbers) : Type 0 where
  pub inside : (k : ℕ) (d : Definition) → slice_get (part_state u).definitions k ≡ Some d → m d.identifier < length parts
  pub each : (q : ℕ) (part : PartData) → slice_get parts q ≡ Some part → IsPartOf u m q part
  pub named : (id : FuncOrDataId) → is_defined (part_state u) id ≡ true → is_reached u.settings (part_state u) m id ≡ true → IsSome (declared_name (part_state u) id)
  pub unknown : (id : FuncOrDataId) (x : List ℕ) → is_defined (part_state u) id ≡ true → is_reached u.settings (part_state u) m id ≡ true → declared_name (part_state u) id ≡ Some x → names_known u.settings (part_state u) x ≡ false
