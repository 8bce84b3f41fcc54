-- The relocations of an x86_64 Mach-O part: each is of a kind that the processor has, and their fields are apart.
use Rattle.std.proofs.Common.{◌≡◌, ℕ, ◌+◌, ◌&&◌, ◌||◌, ◌≤◌, ◌⊎◌, inl, inr, ◌++◌, ◌∷◌, List, [], Bool, true, false, not, length, map, Option, Some, None, refl, ap, sym, ◌∙◌, subst, arith, slice_get}
use Rattle.std.specs.Prelude.{ℤ, nat_lt}
use Rattle.std.specs.List.{All, list_any}
use Rattle.std.proofs.lemmas.Bool.{ltb-false}
use Rattle.std.proofs.lemmas.List.Folds.{list_any-append}
use Rattle.std.proofs.lemmas.List.Elements.{All-nil, All-cons, All-head, All-tail, All-weaker, All-map}
use Rattle.ir_core.specs.Target.{Target}
use Rattle.ir_core.specs.declared.reloc.Reloc.{Reloc}
use Rattle.ir_core.specs.declared.reloc.Reloc.TheVariants.{Abs4, Abs8, X86PCRel4, X86CallPCRel4, X86CallPLTRel4, X86GOTPCRel4, MachOX86_64Tlv}
use Rattle.ir_core.specs.declared.target.Architecture.TheVariants.{X86_64}
use Rattle.ir_core.specs.declared.target.BinaryFormat.TheVariants.{Macho}
use Rattle.ir_core.specs.Kind.{field_width}
use Rattle.ir_core.specs.MachKind.{mach_number, has_kind_in}
use Rattle.ir_core.specs.MachO.{mach_cputype}
use Rattle.object_core.specs.declared.relocation.Relocation.{Relocation}
use Rattle.object_core.specs.declared.relocation.RelocationFlags.{RelocationFlags}
use Rattle.object_core.specs.Object.{SymbolData, SectionData, ObjectData}
use Rattle.object_core.specs.WellFormed.{IsFormedMachRelocation, HasMachKind, AreApart, mach_width, addend_has_room, is_file}
use Rattle.cranelift_module.specs.declared.reloc.ModuleReloc.{ModuleReloc}
use Rattle.cranelift_module.specs.Definitions.{size_of}
use Rattle.cranelift_module.specs.LinkState.{LinkState}
use Rattle.cranelift_module.specs.Refusal.{is_refused_in, overlap, addend_fits, bytes_in, bad_reloc, bad_reloc_from, reloc_cause, are_bytes}
use Rattle.cranelift_object.specs.Settings.{Settings}
use Rattle.cranelift_object.specs.Placing.{Placed, room_of}
use Rattle.cranelift_object.specs.Linked.{object_relocation, relocation_flags, row_of}
use Rattle.cranelift_object.specs.Targets.{target_of}
use Rattle.cranelift_object.proofs.DefineLaws.{room_least, or_left, or_right, not_false}
use Rattle.cranelift_object.proofs.FinishLaws.{causes_none}
use Rattle.cranelift_object.proofs.FormedLaws.{IsGood, good_relocs, one_refused, field_bytes}
use Rattle.cranelift_object.proofs.Pairs.{Pairwise, pairwise_weaker, pairwise_map}

-- the target of a state is that of a Mach-O file for x86_64
pub record IsMachTarget (s : LinkState) : Type 0 where
  pub format : s.target.triple.binary_format ≡ Macho
  pub architecture : s.target.triple.architecture ≡ X86_64

-- -- kinds

record HasFlags (kind : Reloc) (flags : RelocationFlags) : Type 0 where
  known : HasMachKind X86_64 flags kind
  width : mach_width flags ≡ field_width kind
  room : (addend : ℤ) → addend_fits (mach_cputype X86_64) (mach_number X86_64 kind) addend ≡ true → addend_has_room (mach_cputype X86_64) flags addend ≡ true

flags_of : (kind : Reloc) → has_kind_in Macho X86_64 kind ≡ true → HasFlags kind (relocation_flags Macho X86_64 kind)
flags_of Abs4 h = record { known = refl; width = refl; room = λ addend e. e }
flags_of Abs8 h = record { known = refl; width = refl; room = λ addend e. e }
flags_of X86PCRel4 h = record { known = refl; width = refl; room = λ addend e. e }
flags_of X86CallPCRel4 h = record { known = refl; width = refl; room = λ addend e. e }
flags_of X86CallPLTRel4 h = record { known = refl; width = refl; room = λ addend e. e }
flags_of X86GOTPCRel4 h = record { known = refl; width = refl; room = λ addend e. e }
flags_of MachOX86_64Tlv h = record { known = refl; width = refl; room = λ addend e. e }
flags_of kind h = absurd (cc)

flags_in : (s : LinkState) (kind : Reloc) → IsMachTarget s → has_kind_in s.target.triple.binary_format s.target.triple.architecture kind ≡ true → HasFlags kind (relocation_flags s.target.triple.binary_format s.target.triple.architecture kind)
flags_in s kind t h =
    let architecture = s.target.triple.architecture in
    let has : has_kind_in Macho X86_64 kind ≡ true = sym (ap (λ f. has_kind_in f architecture kind) t.format ∙ ap (λ a. has_kind_in Macho a kind) t.architecture) ∙ h in
    subst (λ f. HasFlags kind (relocation_flags f architecture kind)) (sym t.format) (subst (λ a. HasFlags kind (relocation_flags Macho a kind)) (sym t.architecture) (flags_of kind has))

-- what the format asks of a relocation behind others
record IsClear (before : List ModuleReloc) (r : ModuleReloc) : Type 0 where
  apart : list_any (overlap r) before ≡ false
  addend : addend_fits (mach_cputype X86_64) (mach_number X86_64 r.kind) r.addend ≡ true

clear_in : (target : Target) (before : List ModuleReloc) (r : ModuleReloc) → target.triple.binary_format ≡ Macho → target.triple.architecture ≡ X86_64 → is_refused_in target.triple.binary_format target.triple.architecture before r ≡ false → IsClear before r
clear_in target before r e f h =
    let fits = addend_fits (mach_cputype X86_64) (mach_number X86_64 r.kind) r.addend in
    let here : is_refused_in Macho X86_64 before r ≡ false = sym (ap (λ g. is_refused_in g target.triple.architecture before r) e ∙ ap (λ a. is_refused_in Macho a before r) f) ∙ h in
    record { apart = or_left (list_any (overlap r) before) (not fits) here; addend = not_false fits (or_right (list_any (overlap r) before) (not fits) here) }

-- -- one relocation

-- its target has a symbol of the object, that is no file's
abbrev pub HasRow : Settings → LinkState → ObjectData → ModuleReloc → Type 0
HasRow settings s o r = (x : SymbolData) × (slice_get o.symbols (row_of settings s (target_of settings s r.name)) ≡ Some x) × (is_file x.kind ≡ false)

pub mach-formed-relocation : (settings : Settings) (s : LinkState) (o : ObjectData) (x : SectionData) (p : Placed) (r : ModuleReloc) → IsMachTarget s → o.architecture ≡ X86_64 → (are_bytes (Some p.definition.contents) ≡ true → p.offset + room_of s p.definition ≤ length x.contents)
    → IsGood s.target (bytes_in p.definition.contents) r → HasRow settings s o r → IsFormedMachRelocation o x (object_relocation settings s p.offset r)
mach-formed-relocation settings s o x p r t machine within good row =
    let flags = relocation_flags s.target.triple.binary_format s.target.triple.architecture r.kind in
    let has = flags_in s r.kind t good.kind in
    let field = field_bytes p.definition.contents r good.field in
    let room = room_least s.target.triple.binary_format (size_of p.definition.contents) in
    let inside = within field.0 in
    record {
      kind = (r.kind, subst (λ a. HasMachKind a flags r.kind) (sym machine) has.known);
      field = omega (arith, field.1, room, inside, has.width);
      symbol = row;
      addend = subst (λ a. addend_has_room (mach_cputype a) flags r.addend ≡ true) (sym machine) (has.room r.addend (clear_in s.target good.before r t.format t.architecture good.format).addend);
    }

-- -- the fields of one definition are apart

abbrev Clear : ModuleReloc → ModuleReloc → Type 0
Clear q r = overlap r q ≡ false

all_before : (before : List ModuleReloc) (x : ModuleReloc) (rs : List ModuleReloc) → All (λ r. list_any (overlap r) (before ++ x ∷ []) ≡ false) rs → All (λ r. list_any (overlap r) before ≡ false) rs × All (Clear x) rs
all_before before x [] h = (All-nil (λ r. list_any (overlap r) before ≡ false), All-nil (Clear x))
all_before before x (r ∷ rs) h =
    let rest = all_before before x rs (All-tail (λ q. list_any (overlap q) (before ++ x ∷ []) ≡ false) r rs h) in
    let here : (list_any (overlap r) before || (overlap r x || false)) ≡ false = sym (list_any-append (overlap r) before (x ∷ [])) ∙ All-head (λ q. list_any (overlap q) (before ++ x ∷ []) ≡ false) r rs h in (
      All-cons (λ q. list_any (overlap q) before ≡ false) r rs (or_left (list_any (overlap r) before) (overlap r x || false) here) rest.0,
      All-cons (Clear x) r rs (or_left (overlap r x) false (or_right (list_any (overlap r) before) (overlap r x || false) here)) rest.1,
    )

clear_from : (s : LinkState) (size : Option ℕ) (before rs : List ModuleReloc) → IsMachTarget s → bad_reloc_from s.target size before rs ≡ None → All (λ r. list_any (overlap r) before ≡ false) rs × Pairwise Clear rs
clear_from s size before [] t h = (All-nil (λ r. list_any (overlap r) before ≡ false), tt)
clear_from s size before (r ∷ rs) t h =
    let parts = causes_none (reloc_cause s.target size before r) (bad_reloc_from s.target size (before ++ r ∷ []) rs) h in
    let free = (clear_in s.target before r t.format t.architecture (one_refused s.target size before r parts.0)).apart in
    let rest = clear_from s size (before ++ r ∷ []) rs t parts.1 in
    let split = all_before before r rs rest.0 in
    (All-cons (λ q. list_any (overlap q) before ≡ false) r rs free split.0, (split.1, rest.1))

apart_by : (a b wa wb : ℕ) (s t : Bool) → nat_lt b (a + wa) ≡ s → nat_lt a (b + wb) ≡ t → (s && t) ≡ false → (a + wa ≤ b) ⊎ (b + wb ≤ a)
apart_by a b wa wb true true e f h = absurd (cc)
apart_by a b wa wb false t e f h = inl (ltb-false b (a + wa) e)
apart_by a b wa wb true false e f h = inr (ltb-false a (b + wb) f)

shifted_apart : (place : ℕ) (q r : ModuleReloc) (wq wr : ℕ) → wq ≡ field_width q.kind → wr ≡ field_width r.kind → Clear q r → (place + q.offset + wq ≤ place + r.offset) ⊎ (place + r.offset + wr ≤ place + q.offset)
shifted_apart place q r wq wr e f clear =
    elim (apart_by q.offset r.offset (field_width q.kind) (field_width r.kind) _ _ refl refl clear) [
      | inl below ↦ inl (omega (arith, below, e))
      | inr above ↦ inr (omega (arith, above, f))
    ]

-- the relocations of a definition as its section has them
abbrev pub own_relocations : Settings → LinkState → Placed → List Relocation
own_relocations settings s p = map (object_relocation settings s p.offset) p.definition.relocs

pub mach-own-apart : (settings : Settings) (s : LinkState) (p : Placed) → IsMachTarget s → bad_reloc s.target p.definition.contents p.definition.relocs ≡ None → Pairwise AreApart (own_relocations settings s p)
mach-own-apart settings s p t judged =
    let size = bytes_in p.definition.contents in
    let f : ModuleReloc → Relocation = object_relocation settings s p.offset in
    let good = good_relocs s.target size [] p.definition.relocs judged in
    let clear = (clear_from s size [] p.definition.relocs t judged).1 in
    pairwise_map AreApart f p.definition.relocs
    (pairwise_weaker (IsGood s.target size) Clear (λ q r. AreApart (f q) (f r)) p.definition.relocs (λ q r gq gr c. shifted_apart p.offset q r (mach_width (f q).flags) (mach_width (f r).flags) (flags_in s q.kind t gq.kind).width (flags_in s r.kind t gr.kind).width c) good clear)

-- -- those of two definitions are apart

fields_end : (settings : Settings) (s : LinkState) (p : Placed) → IsMachTarget s → bad_reloc s.target p.definition.contents p.definition.relocs ≡ None → All (λ (a : Relocation). a.offset + mach_width a.flags ≤ p.offset + room_of s p.definition) (own_relocations settings s p)
fields_end settings s p t judged =
    let size = bytes_in p.definition.contents in
    let f : ModuleReloc → Relocation = object_relocation settings s p.offset in
    let P : Relocation → Type 0 = λ a. a.offset + mach_width a.flags ≤ p.offset + room_of s p.definition in
    let room = room_least s.target.triple.binary_format (size_of p.definition.contents) in
    let one : (r : ModuleReloc) → IsGood s.target size r → P (f r) = λ r g.
    (let field = (field_bytes p.definition.contents r g.field).1 in
    let width = (flags_in s r.kind t g.kind).width in
    omega (arith, field, width, room)) in
    All-map P f p.definition.relocs (All-weaker (IsGood s.target size) (λ r. P (f r)) one p.definition.relocs (good_relocs s.target size [] p.definition.relocs judged))

begin_all : (settings : Settings) (s : LinkState) (offset : ℕ) (rs : List ModuleReloc) → All (λ (a : Relocation). offset ≤ a.offset) (map (object_relocation settings s offset) rs)
begin_all settings s offset [] = All-nil (λ (a : Relocation). offset ≤ a.offset)
begin_all settings s offset (r ∷ rs) = All-cons (λ (a : Relocation). offset ≤ a.offset) (object_relocation settings s offset r) (map (object_relocation settings s offset) rs) (omega arith) (begin_all settings s offset rs)

pub mach-across : (settings : Settings) (s : LinkState) (p q : Placed) → IsMachTarget s → bad_reloc s.target p.definition.contents p.definition.relocs ≡ None → p.offset + room_of s p.definition ≤ q.offset
    → All (λ a. All (AreApart a) (own_relocations settings s q)) (own_relocations settings s p)
mach-across settings s p q t judged before =
    All-weaker (λ (a : Relocation). a.offset + mach_width a.flags ≤ p.offset + room_of s p.definition) (λ a. All (AreApart a) (own_relocations settings s q))
    (λ a end. All-weaker (λ (b : Relocation). q.offset ≤ b.offset) (AreApart a) (λ b begin. inl (omega (arith, end, begin, before))) (own_relocations settings s q) (begin_all settings s q.offset q.definition.relocs))
    (own_relocations settings s p) (fields_end settings s p t judged)
