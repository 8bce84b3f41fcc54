-- The object of a Mach-O module can be written.
use Rattle.std.proofs.Common.{◌≡◌, ◌≢◌, ℕ, ◌+◌, ◌%◌, ◌==◌, ◌&&◌, ◌||◌, not, ◌^◌, ◌<◌, ◌≤◌, ◌⊎◌, inl, inr, ◌++◌, ◌∷◌, List, [], Bool, true, false, cond, length, map, Option, Some, None, refl, ap, sym, ◌∙◌, subst, arith, eq-eqb}
use Rattle.std.proofs.lemmas.Bool.{ltb-false}
use Rattle.std.proofs.lemmas.List.{append-nil}
use Rattle.std.proofs.lemmas.List.Folds.{list_any-append}
use Rattle.std.proofs.lemmas.List.Elements.{All-nil, All-cons, All-head, All-tail, All-weaker, All-map, filter-append}
use Rattle.std.specs.Prelude.{slice_get, unwrap_or, nat_lt, is_some, Result, Ok, Err}
use Rattle.std.specs.Int.{next_multiple_of}
use Rattle.std.specs.List.{All, list_all, list_any}
use Rattle.ir_core.proofs.MomentLaws.{by_end}
use Rattle.ir_core.specs.Moments.{moments}
use Rattle.ir_core.specs.Target.{Target}
use Rattle.ir_core.specs.declared.reloc.Reloc.{Reloc}
use Rattle.ir_core.specs.declared.target.Architecture.{Architecture}
use Rattle.ir_core.specs.declared.target.Architecture.TheVariants.{X86_32, X86_64, Arm, Aarch64, Riscv64, S390x}
use Rattle.ir_core.specs.declared.target.BinaryFormat.{BinaryFormat}
use Rattle.ir_core.specs.declared.target.BinaryFormat.TheVariants.{Elf, Coff, Macho, Wasm, Unknown}
use Rattle.ir_core.specs.declared.mach_o.MachNumber.{MachNumber}
use Rattle.ir_core.specs.Kind.{field_width}
use Rattle.ir_core.specs.MachKind.{mach_number, mach_x86_64_number, mach_aarch64_number, has_kind_in}
use Rattle.ir_core.specs.MachO.{mach_cputype}
use Rattle.object_core.proofs.AllKinds.{all_kinds, every_kind}
use Rattle.object_core.specs.declared.kinds.StandardSection.{StandardSection}
use Rattle.object_core.specs.declared.kinds.StandardSection.TheVariants.{Text, Data as DataSection, ReadOnlyData, ReadOnlyDataWithRel, UninitializedData, Tls, UninitializedTls}
use Rattle.object_core.specs.declared.relocation.Relocation.{Relocation}
use Rattle.object_core.specs.declared.relocation.RelocationFlags.{RelocationFlags}
use Rattle.object_core.specs.declared.relocation.RelocationFlags.TheVariants.{MachO}
use Rattle.object_core.specs.Object.{SectionData, ObjectData}
use Rattle.object_core.specs.Places.{end_of}
use Rattle.object_core.specs.WellFormed.{IsFormed, IsFormedIn, IsFormedMacho, IsFormedMachSection, IsFormedMachRelocation, HasMachKind, AreApart, mach_width, addend_has_room, has_zero_byte, is_supported}
use Rattle.cranelift_module.specs.declared.reloc.ModuleReloc.{ModuleReloc}
use Rattle.cranelift_module.specs.declared.error.SectionFault.{SectionFault}
use Rattle.cranelift_module.specs.SectionText.{SectionText, section_text}
use Rattle.cranelift_module.specs.Definitions.{Definition, size_of}
use Rattle.cranelift_module.specs.LinkState.{LinkState}
use Rattle.cranelift_module.specs.Refusal.{is_refused_in, overlap, addend_fits, bytes_in, bad_reloc_from, reloc_cause, zero_byte, text_cause, section_cause, are_bytes}
use Rattle.cranelift_object.specs.Settings.{Settings}
use Rattle.cranelift_object.specs.Opened.{OpenModule}
use Rattle.cranelift_object.specs.Kept.{IsModule, IsBody, Marks}
use Rattle.cranelift_object.specs.Product.{IsWritable}
use Rattle.cranelift_object.specs.SectionClass.{Class, section_class, class_by_text, standard_class_in, standard_section, has_own_section, own_class, asked_class}
use Rattle.cranelift_object.specs.Placing.{Placed, placed_at, room_of, align_of, extent_of, standing_in, number_of}
use Rattle.cranelift_object.specs.Partial.{placed_of, partial}
use Rattle.cranelift_object.specs.Linked.{members, object_of, object_relocation, relocation_flags, mach_flags_of, relocations_of}
use Rattle.cranelift_object.specs.Targets.{target_of}
use Rattle.cranelift_object.specs.EndCause.{first_bad_reference}
use Rattle.cranelift_object.specs.Extras.{AreExtras}
use Rattle.cranelift_object.specs.declared.extras.Extra.{Extra}
use Rattle.cranelift_object.proofs.ClassLaws.{All-slice_get, All-front, All-last, equal, placed_of-end}
use Rattle.cranelift_object.proofs.PlaceLaws.{ends_within, align_positive}
use Rattle.cranelift_object.proofs.SectionLaws.{relocations_at}
use Rattle.cranelift_object.proofs.ObjectLaws.{partial_whole}
use Rattle.cranelift_object.proofs.FinishLaws.{causes_none}
use Rattle.cranelift_object.proofs.TargetLaws.{IsReached}
use Rattle.cranelift_object.proofs.DefineLaws.{room_least, or_left, or_right, not_false, good_least}
use Rattle.cranelift_object.proofs.Pairs.{Pairwise, pairwise_get, pairwise_end, pairwise_weaker, pairwise_map, pairwise_flat}
use Rattle.cranelift_object.proofs.SectionTexts.{HasRoomFor, text_room}
use Rattle.cranelift_object.proofs.FormedLaws.{no_zero, whole, IsGood, IsKnown, good_relocs, one_refused, field_bytes, formed_symbols, formed_target, formed_elf_object, section_of_class, section_class_at, section_each, all_known, All-members}

-- -- sections

-- a class whose segment, name and flags a Mach-O file has room for
pub record HasMachRoom (c : Class) : Type 0 where
  pub segment_free : has_zero_byte c.segment ≡ false
  pub name_free : has_zero_byte c.name ≡ false
  pub segment_room : length c.segment ≤ 16
  pub name_room : length c.name ≤ 16
  pub flags : (c.macho_flags % 256 == 0xc) ≡ false

standard_room : (standard : StandardSection) (own used : Bool) → HasMachRoom (standard_class_in Macho standard own used)
standard_room Text own used = record { segment_free = refl; name_free = refl; segment_room = omega arith; name_room = omega arith; flags = refl }
standard_room DataSection own used = record { segment_free = refl; name_free = refl; segment_room = omega arith; name_room = omega arith; flags = refl }
standard_room ReadOnlyData own used = record { segment_free = refl; name_free = refl; segment_room = omega arith; name_room = omega arith; flags = refl }
standard_room ReadOnlyDataWithRel own used = record { segment_free = refl; name_free = refl; segment_room = omega arith; name_room = omega arith; flags = refl }
standard_room UninitializedData own used = record { segment_free = refl; name_free = refl; segment_room = omega arith; name_room = omega arith; flags = refl }
standard_room Tls own used = record { segment_free = refl; name_free = refl; segment_room = omega arith; name_room = omega arith; flags = refl }
standard_room UninitializedTls own used = record { segment_free = refl; name_free = refl; segment_room = omega arith; name_room = omega arith; flags = refl }

own_room : (d : Definition) (retain : Bool) (asked : SectionText) → HasRoomFor asked → HasMachRoom (own_class d retain asked)
own_room d retain asked h = record { segment_free = h.segment_free; name_free = h.name_free; segment_room = h.segment_room; name_room = h.name_room; flags = h.flags }

asked_room : (d : Definition) (retain : Bool) (text : List ℕ) (asked : Result SectionText SectionFault) → section_text Macho text ≡ asked → has_zero_byte text ≡ false → text_cause (Some d.contents) asked ≡ None → HasMachRoom (asked_class d retain text asked)
asked_room d retain text (Ok asked) e free given = own_room d retain asked (text_room text asked free e)
asked_room d retain text (Err fault) e free given = absurd (cc)

room_by : (format : BinaryFormat) (settings : Settings) (s : LinkState) (d : Definition) (text : Option (List ℕ)) → s.target.triple.binary_format ≡ format → format ≡ Macho → zero_byte (unwrap_or text []) ≡ None → section_cause format (Some d.contents) text ≡ None → HasMachRoom (class_by_text settings s d text)
room_by Macho settings s d None e mach free given = rw e (standard_room (standard_section s d d.identifier) (has_own_section settings d d.identifier) d.used)
room_by Macho settings s d (Some text) e mach free given = rw e (asked_room d false text (section_text Macho text) refl (no_zero text free) given)
room_by Elf settings s d text e mach free given = absurd (cc)
room_by Coff settings s d text e mach free given = absurd (cc)
room_by Wasm settings s d text e mach free given = absurd (cc)
room_by Unknown settings s d text e mach free given = absurd (cc)

-- the class of a definition that was accepted
class_room : (o : OpenModule) (d : Definition) → o.state.target.triple.binary_format ≡ Macho → IsBody o.state.target (length o.state.functions) (length o.state.objects) d → HasMachRoom (section_class o.settings o.state d)
class_room o d mach body = room_by o.state.target.triple.binary_format o.settings o.state d d.section refl mach body.text body.section

-- -- kinds

-- the field of a kind is as wide as its numbers say
has_width : Option MachNumber → Reloc → Bool
has_width None kind = true
has_width (Some n) kind = 2 ^ n.length == field_width kind

both_left : (a b : Bool) → (a && b) ≡ true → a ≡ true
both_left true b h = refl
both_left false b h = absurd (cc)

both_right : (a b : Bool) → (a && b) ≡ true → b ≡ true
both_right true b h = h
both_right false b h = absurd (cc)

list_passes : {A : Type 0} (p : A → Bool) (xs : List A) (k : ℕ) (x : A) → list_all p xs ≡ true → slice_get xs k ≡ Some x → p x ≡ true
list_passes p xs k x all at = All-slice_get (λ y. p y ≡ true) xs k x (each p xs all) at where
  each : {A : Type 0} (p : A → Bool) (xs : List A) → list_all p xs ≡ true → All (λ y. p y ≡ true) xs
  each p [] all = All-nil (λ y. p y ≡ true)
  each p (x ∷ xs) all = All-cons (λ y. p y ≡ true) x xs (both_left (p x) (list_all p xs) all) (each p xs (both_right (p x) (list_all p xs) all))

x86_64_widths : (kind : Reloc) → has_width (mach_x86_64_number kind) kind ≡ true
unfolding has_width
x86_64_widths = every_kind (λ kind. has_width (mach_x86_64_number kind) kind ≡ true) (λ k kind at. list_passes (λ (r : Reloc). has_width (mach_x86_64_number r) r) all_kinds k kind all at) where
  all : list_all (λ (r : Reloc). has_width (mach_x86_64_number r) r) all_kinds ≡ true
  all = refl

aarch64_widths : (kind : Reloc) → has_width (mach_aarch64_number kind) kind ≡ true
unfolding has_width
aarch64_widths = every_kind (λ kind. has_width (mach_aarch64_number kind) kind ≡ true) (λ k kind at. list_passes (λ (r : Reloc). has_width (mach_aarch64_number r) r) all_kinds k kind all at) where
  all : list_all (λ (r : Reloc). has_width (mach_aarch64_number r) r) all_kinds ≡ true
  all = refl

widths : (architecture : Architecture) (kind : Reloc) → has_width (mach_number architecture kind) kind ≡ true
unfolding has_width
widths X86_64 kind = x86_64_widths kind
widths Aarch64 kind = aarch64_widths kind
widths X86_32 kind = refl
widths Arm kind = refl
widths Riscv64 kind = refl
widths S390x kind = refl

-- what the flags of a relocation of a module are in Mach-O
pub record HasMachFlags (architecture : Architecture) (kind : Reloc) (flags : RelocationFlags) : Type 0 where
  pub number : MachNumber
  pub known : mach_number architecture kind ≡ Some number
  pub flags_are : flags ≡ MachO number.r_type number.pcrel number.length
  pub width : mach_width flags ≡ field_width kind

flags_found : (architecture : Architecture) (kind : Reloc) (found : Option MachNumber) → mach_number architecture kind ≡ found → has_width found kind ≡ true → has_kind_in Macho architecture kind ≡ true → HasMachFlags architecture kind (mach_flags_of found)
unfolding has_width
flags_found architecture kind None e wide h = absurd (let k : false ≡ true = sym (ap (λ (n : Option MachNumber). is_some n) e) ∙ h in cc)
flags_found architecture kind (Some n) e wide h = record { number = n; known = e; flags_are = refl; width = equal (2 ^ n.length) (field_width kind) wide }

mach_flags : (format : BinaryFormat) (architecture : Architecture) (kind : Reloc) → format ≡ Macho → has_kind_in format architecture kind ≡ true → HasMachFlags architecture kind (relocation_flags format architecture kind)
mach_flags Macho architecture kind e h = flags_found architecture kind (mach_number architecture kind) refl (widths architecture kind) h
mach_flags Elf architecture kind e h = absurd (cc)
mach_flags Coff architecture kind e h = absurd (cc)
mach_flags Wasm architecture kind e h = absurd (cc)
mach_flags Unknown architecture kind e h = absurd (cc)

mach_accepted : (format : BinaryFormat) (architecture : Architecture) (before : List ModuleReloc) (r : ModuleReloc) → format ≡ Macho → is_refused_in format architecture before r ≡ false
    → (list_any (overlap r) before ≡ false) × (addend_fits (mach_cputype architecture) (mach_number architecture r.kind) r.addend ≡ true)
mach_accepted Macho architecture before r e h =
    let fits : Bool = addend_fits (mach_cputype architecture) (mach_number architecture r.kind) r.addend in
    (or_left (list_any (overlap r) before) (not fits) h, not_false fits (or_right (list_any (overlap r) before) (not fits) h))
mach_accepted Elf architecture before r e h = absurd (cc)
mach_accepted Coff architecture before r e h = absurd (cc)
mach_accepted Wasm architecture before r e h = absurd (cc)
mach_accepted Unknown architecture before r e h = absurd (cc)

-- -- relocations

formed_kind : (architecture : Architecture) (kind : Reloc) (flags : RelocationFlags) → HasMachFlags architecture kind flags → HasMachKind architecture flags kind
formed_kind architecture kind flags h = subst (λ (f : RelocationFlags). HasMachKind architecture f kind) (sym h.flags_are) h.known

formed_addend : (architecture : Architecture) (r : ModuleReloc) (flags : RelocationFlags) → HasMachFlags architecture r.kind flags → addend_fits (mach_cputype architecture) (mach_number architecture r.kind) r.addend ≡ true
    → addend_has_room (mach_cputype architecture) flags r.addend ≡ true
formed_addend architecture r flags h fits =
    subst (λ (f : RelocationFlags). addend_has_room (mach_cputype architecture) f r.addend ≡ true) (sym h.flags_are)
    (subst (λ (n : Option MachNumber). addend_fits (mach_cputype architecture) n r.addend ≡ true) h.known fits)

formed_one : (o : OpenModule) (marks : Marks) (es : List Extra) (x : SectionData) (p : Placed) (r : ModuleReloc) → o.state.target.triple.binary_format ≡ Macho → IsModule o marks → AreExtras o.settings o.state es
    → (are_bytes (Some p.definition.contents) ≡ true → p.offset + room_of o.state p.definition ≤ length x.contents) → IsGood o.state.target (bytes_in p.definition.contents) r → IsReached o.settings o.state es (target_of o.settings o.state r.name)
    → IsFormedMachRelocation (whole o es) x (object_relocation o.settings o.state p.offset r)
unfolding partial
formed_one o marks es x p r mach h are within good reached =
    let architecture : Architecture = o.state.target.triple.architecture in
    let format : BinaryFormat = o.state.target.triple.binary_format in
    let flags = mach_flags format architecture r.kind mach good.kind in
    let field = field_bytes p.definition.contents r good.field in
    let room = room_least format (size_of p.definition.contents) in
    let inside = within field.0 in
    record {
      kind = (r.kind, formed_kind architecture r.kind (relocation_flags format architecture r.kind) flags);
      field = omega (arith, field.1, room, inside, flags.width);
      symbol = formed_target o marks es (target_of o.settings o.state r.name) h are reached;
      addend = formed_addend architecture r (relocation_flags format architecture r.kind) flags (mach_accepted format architecture good.before r mach good.format).1;
    }

-- -- fields of one definition are apart

abbrev Clear : ModuleReloc → ModuleReloc → Type 0
Clear q r = overlap r q ≡ false

all_before : (before : List ModuleReloc) (x : ModuleReloc) (rs : List ModuleReloc) → All (λ r. list_any (overlap r) (before ++ x ∷ []) ≡ false) rs → All (λ r. list_any (overlap r) before ≡ false) rs × All (Clear x) rs
all_before before x [] h = (All-nil (λ r. list_any (overlap r) before ≡ false), All-nil (Clear x))
all_before before x (r ∷ rs) h =
    let rest = all_before before x rs (All-tail (λ q. list_any (overlap q) (before ++ x ∷ []) ≡ false) r rs h) in
    let here : (list_any (overlap r) before || (overlap r x || false)) ≡ false = sym (list_any-append (overlap r) before (x ∷ [])) ∙ All-head (λ q. list_any (overlap q) (before ++ x ∷ []) ≡ false) r rs h in (
      All-cons (λ q. list_any (overlap q) before ≡ false) r rs (or_left (list_any (overlap r) before) (overlap r x || false) here) rest.0,
      All-cons (Clear x) r rs (or_left (overlap r x) false (or_right (list_any (overlap r) before) (overlap r x || false) here)) rest.1,
    )

clear_from : (target : Target) (size : Option ℕ) (before rs : List ModuleReloc) → target.triple.binary_format ≡ Macho → bad_reloc_from target size before rs ≡ None → All (λ r. list_any (overlap r) before ≡ false) rs × Pairwise Clear rs
clear_from target size before [] mach h = (All-nil (λ r. list_any (overlap r) before ≡ false), tt)
clear_from target size before (r ∷ rs) mach h =
    let parts = causes_none (reloc_cause target size before r) (bad_reloc_from target size (before ++ r ∷ []) rs) h in
    let free = (mach_accepted target.triple.binary_format target.triple.architecture before r mach (one_refused target size before r parts.0)).0 in
    let rest = clear_from target size (before ++ r ∷ []) rs mach parts.1 in
    let split = all_before before r rs rest.0 in
    (All-cons (λ q. list_any (overlap q) before ≡ false) r rs free split.0, (split.1, rest.1))

clear_apart : (a b wa wb : ℕ) → (nat_lt b (a + wa) && nat_lt a (b + wb)) ≡ false → (a + wa ≤ b) ⊎ (b + wb ≤ a)
clear_apart a b wa wb h = by (nat_lt b (a + wa)) (nat_lt a (b + wb)) refl refl h where
  by : (s t : Bool) → nat_lt b (a + wa) ≡ s → nat_lt a (b + wb) ≡ t → (s && t) ≡ false → (a + wa ≤ b) ⊎ (b + wb ≤ a)
  by true true e f h = absurd (cc)
  by false t e f h = inl (ltb-false b (a + wa) e)
  by true false e f h = inr (ltb-false a (b + wb) f)

shifted_apart : (place : ℕ) (q r : ModuleReloc) (wq wr : ℕ) → wq ≡ field_width q.kind → wr ≡ field_width r.kind → Clear q r → (place + q.offset + wq ≤ place + r.offset) ⊎ (place + r.offset + wr ≤ place + q.offset)
shifted_apart place q r wq wr e f clear =
    elim (clear_apart q.offset r.offset (field_width q.kind) (field_width r.kind) clear) [
      | inl below ↦ inl (omega (arith, below, e))
      | inr above ↦ inr (omega (arith, above, f))
    ]

own_apart : (o : OpenModule) (p : Placed) → o.state.target.triple.binary_format ≡ Macho → IsBody o.state.target (length o.state.functions) (length o.state.objects) p.definition → Pairwise AreApart (relocations_at o.settings o.state p)
own_apart o p mach body =
    let format : BinaryFormat = o.state.target.triple.binary_format in
    let architecture : Architecture = o.state.target.triple.architecture in
    let size : Option ℕ = bytes_in p.definition.contents in
    let f : ModuleReloc → Relocation = object_relocation o.settings o.state p.offset in
    let good = good_relocs o.state.target size [] p.definition.relocs body.judged in
    let clear = (clear_from o.state.target size [] p.definition.relocs mach body.judged).1 in
    pairwise_map AreApart f p.definition.relocs
    (pairwise_weaker (IsGood o.state.target size) Clear (λ q r. AreApart (f q) (f r)) p.definition.relocs
    (λ q r gq gr c. shifted_apart p.offset q r (mach_width (f q).flags) (mach_width (f r).flags) (mach_flags format architecture q.kind mach gq.kind).width (mach_flags format architecture r.kind mach gr.kind).width c) good clear)

-- -- fields of two definitions are apart

-- a definition ends where the next begins, or before
abbrev EndsBefore : LinkState → Placed → Placed → Type 0
EndsBefore s p q = p.offset + room_of s p.definition ≤ q.offset

up : (x y : ℕ) → 0 < y → x ≤ next_multiple_of x y
up x y h = omega arith

member_end : (settings : Settings) (s : LinkState) (k : ℕ) (ds : List Definition) (d : Definition) (b : Bool) → (number_of settings s (record { before = ds; here = d }) == k) ≡ b → 1 ≤ d.align → All (λ (x : Definition). 1 ≤ x.align) ds
    → Pairwise (EndsBefore s) (members (placed_of settings s ds) k) → Pairwise (EndsBefore s) (members (placed_of settings s ds) k ++ cond b (placed_at settings s (record { before = ds; here = d }) ∷ []) [])
member_end settings s k ds d false e least all h = rw append-nil h
member_end settings s k ds d true e least all h =
    let here : number_of settings s (record { before = ds; here = d }) ≡ k = equal (number_of settings s (record { before = ds; here = d })) k e in
    let p : Placed = placed_at settings s (record { before = ds; here = d }) in
    let end : ℕ = end_of (map (extent_of s) (standing_in settings s k ds)) in
    let place : p.offset ≡ next_multiple_of end (align_of s d) = ap (λ (n : ℕ). next_multiple_of (end_of (map (extent_of s) (standing_in settings s n ds))) (align_of s d)) here in
    let over : end ≤ next_multiple_of end (align_of s d) = up end (align_of s d) (align_positive s d least) in
    let within : All (λ (q : Placed). q.section ≡ k → q.offset + room_of s q.definition ≤ end) (placed_of settings s ds) = ends_within settings s k ds all in
    let before = All-members (λ (q : Placed). q.offset + room_of s q.definition ≤ end) (placed_of settings s ds) k within in
    pairwise_end (EndsBefore s) (members (placed_of settings s ds) k) p h (All-weaker (λ (q : Placed). q.offset + room_of s q.definition ≤ end) (λ (q : Placed). EndsBefore s q p) (λ q w. omega (arith, w, place, over)) (members (placed_of settings s ds) k) before)

members_none : (settings : Settings) (s : LinkState) (k : ℕ) → Pairwise (EndsBefore s) (members (placed_of settings s []) k)
unfolding moments
members_none settings s k = tt

members_more : (settings : Settings) (s : LinkState) (k : ℕ) (ds : List Definition) (d : Definition) → (All (λ (x : Definition). 1 ≤ x.align) ds → Pairwise (EndsBefore s) (members (placed_of settings s ds) k)) → All (λ (x : Definition). 1 ≤ x.align) (ds ++ d ∷ [])
    → Pairwise (EndsBefore s) (members (placed_of settings s (ds ++ d ∷ [])) k)
members_more settings s k ds d h all =
    let front = All-front (λ (x : Definition). 1 ≤ x.align) ds d all in
    let p : Placed = placed_at settings s (record { before = ds; here = d }) in
    let listed = ap (λ (ps : List Placed). members ps k) (placed_of-end settings s ds d) ∙ filter-append (λ (q : Placed). q.section == k) (placed_of settings s ds) (p ∷ []) in
    subst (Pairwise (EndsBefore s)) (sym listed) (member_end settings s k ds d (p.section == k) refl (All-last (λ (x : Definition). 1 ≤ x.align) ds d all) front (h front))

-- the definitions of a section stand one behind the other
members_behind : (settings : Settings) (s : LinkState) (k : ℕ) (ds : List Definition) → All (λ (x : Definition). 1 ≤ x.align) ds → Pairwise (EndsBefore s) (members (placed_of settings s ds) k)
members_behind settings s k =
    by_end (λ ds. All (λ (x : Definition). 1 ≤ x.align) ds → Pairwise (EndsBefore s) (members (placed_of settings s ds) k)) (λ all. members_none settings s k) (λ ds d h all. members_more settings s k ds d h all)

-- the fields of a definition end within its room
fields_end : (o : OpenModule) (p : Placed) → o.state.target.triple.binary_format ≡ Macho → IsBody o.state.target (length o.state.functions) (length o.state.objects) p.definition
    → All (λ (a : Relocation). a.offset + mach_width a.flags ≤ p.offset + room_of o.state p.definition) (relocations_at o.settings o.state p)
fields_end o p mach body =
    let format : BinaryFormat = o.state.target.triple.binary_format in
    let architecture : Architecture = o.state.target.triple.architecture in
    let size : Option ℕ = bytes_in p.definition.contents in
    let f : ModuleReloc → Relocation = object_relocation o.settings o.state p.offset in
    let P : Relocation → Type 0 = λ a. a.offset + mach_width a.flags ≤ p.offset + room_of o.state p.definition in
    let room = room_least format (size_of p.definition.contents) in
    let one : (r : ModuleReloc) → IsGood o.state.target size r → P (f r) = λ r g.
    (let field = (field_bytes p.definition.contents r g.field).1 in
    let width = (mach_flags format architecture r.kind mach g.kind).width in
    omega (arith, field, width, room)) in
    All-map P f p.definition.relocs (All-weaker (IsGood o.state.target size) (λ r. P (f r)) one p.definition.relocs (good_relocs o.state.target size [] p.definition.relocs body.judged))

fields_begin : (o : OpenModule) (p : Placed) → All (λ (a : Relocation). p.offset ≤ a.offset) (relocations_at o.settings o.state p)
fields_begin o p =
    let f : ModuleReloc → Relocation = object_relocation o.settings o.state p.offset in
    All-map (λ (a : Relocation). p.offset ≤ a.offset) f p.definition.relocs (each p.definition.relocs)
  where
    each : (rs : List ModuleReloc) → All (λ (r : ModuleReloc). p.offset ≤ (object_relocation o.settings o.state p.offset r).offset) rs
    each [] = All-nil (λ (r : ModuleReloc). p.offset ≤ (object_relocation o.settings o.state p.offset r).offset)
    each (r ∷ rs) = All-cons (λ (r : ModuleReloc). p.offset ≤ (object_relocation o.settings o.state p.offset r).offset) r rs (omega arith) (each rs)

-- the fields of a definition are apart from those of a later one
across : (o : OpenModule) (p q : Placed) → o.state.target.triple.binary_format ≡ Macho → IsBody o.state.target (length o.state.functions) (length o.state.objects) p.definition → EndsBefore o.state p q
    → All (λ a. All (AreApart a) (relocations_at o.settings o.state q)) (relocations_at o.settings o.state p)
across o p q mach body before =
    All-weaker (λ (a : Relocation). a.offset + mach_width a.flags ≤ p.offset + room_of o.state p.definition) (λ a. All (AreApart a) (relocations_at o.settings o.state q))
    (λ a end. All-weaker (λ (b : Relocation). q.offset ≤ b.offset) (AreApart a) (λ b begin. inl (omega (arith, end, begin, before))) (relocations_at o.settings o.state q) (fields_begin o q))
    (relocations_at o.settings o.state p) (fields_end o p mach body)

-- the fields of a section are apart
section_apart : (o : OpenModule) (marks : Marks) (es : List Extra) (k : ℕ) → o.state.target.triple.binary_format ≡ Macho → IsModule o marks → AreExtras o.settings o.state es → first_bad_reference o.state ≡ None
    → Pairwise AreApart (relocations_of o.settings o.state (members (placed_of o.settings o.state o.state.definitions) k))
section_apart o marks es k mach h are none =
    let ps : List Placed = placed_of o.settings o.state o.state.definitions in
    let bodies : Definition → Type 0 = IsBody o.state.target (length o.state.functions) (length o.state.objects) in
    let B : Placed → Type 0 = λ p. bodies p.definition in
    let known = All-members B ps k (All-weaker (IsKnown o es k) (λ (p : Placed). p.section ≡ k → B p) (λ p w e. w.body) ps (all_known o marks es k h are none)) in
    let least = All-weaker bodies (λ (d : Definition). 1 ≤ d.align) (λ d body. good_least d.align body.aligned) o.state.definitions h.bodies in
    let behind = members_behind o.settings o.state k o.state.definitions least in
    let own = All-weaker B (λ p. Pairwise AreApart (relocations_at o.settings o.state p)) (λ p body. own_apart o p mach body) (members ps k) known in
    pairwise_flat AreApart (relocations_at o.settings o.state) (members ps k) own
    (pairwise_weaker B (EndsBefore o.state) (λ p q. All (λ a. All (AreApart a) (relocations_at o.settings o.state q)) (relocations_at o.settings o.state p)) (members ps k) (λ p q body other before. across o p q mach body before) known behind)

-- -- the object

not_equal : (n m : ℕ) → (n == m) ≡ false → n ≢ m
not_equal n m h e = let k : true ≡ false = sym (eq-eqb n m e) ∙ h in absurd (cc)

formed_section : (o : OpenModule) (marks : Marks) (es : List Extra) → o.state.target.triple.binary_format ≡ Macho → IsModule o marks → AreExtras o.settings o.state es → first_bad_reference o.state ≡ None → (k : ℕ) (x : SectionData) → slice_get (whole o es).sections k ≡ Some x
    → IsFormedMachSection (whole o es) x
formed_section o marks es mach h are none k x at =
    let bodies : Definition → Type 0 = IsBody o.state.target (length o.state.functions) (length o.state.objects) in
    let rooms = All-weaker bodies (λ (d : Definition). HasMachRoom (section_class o.settings o.state d)) (λ d body. class_room o d mach body) o.state.definitions h.bodies in
    let named = section_of_class o HasMachRoom rooms k x at in
    let room : HasMachRoom named.0 = named.2 in
    let class = section_class_at o k x at in
    let P : Relocation → Type 0 = IsFormedMachRelocation (whole o es) x in
    let each = section_each o marks es k class.0 x P h are none class.1 class.2 (λ p r within good reached. formed_one o marks es x p r mach h are within good reached) in
    let listed : x.relocations ≡ relocations_of o.settings o.state (members (placed_of o.settings o.state o.state.definitions) k) = ap (λ (y : SectionData). y.relocations) class.2 in
    let apart = subst (Pairwise AreApart) (sym listed) (section_apart o marks es k mach h are none) in
    record {
      segment = ap (λ (y : SectionData). has_zero_byte y.segment) named.3 ∙ room.segment_free;
      name = ap (λ (y : SectionData). has_zero_byte y.name) named.3 ∙ room.name_free;
      segment_room = omega (arith, room.segment_room, ap (λ (y : SectionData). length y.segment) named.3);
      name_room = omega (arith, room.name_room, ap (λ (y : SectionData). length y.name) named.3);
      kind = not_equal (x.macho_flags % 256) 0xc (ap (λ (y : SectionData). y.macho_flags % 256 == 0xc) named.3 ∙ room.flags);
      relocations = λ m r found. All-slice_get P x.relocations m r each found;
      apart = λ m n r q below a b. pairwise_get AreApart x.relocations m n r q apart below a b;
    }

-- the object of a Mach-O module whose relocations go to what can be had can be written
pub formed_mach_object : (o : OpenModule) (marks : Marks) (es : List Extra) → o.state.target.triple.binary_format ≡ Macho → IsModule o marks → AreExtras o.settings o.state es → first_bad_reference o.state ≡ None → IsFormedMacho (object_of o.settings o.state)
formed_mach_object o marks es mach h are none =
    subst IsFormedMacho (partial_whole o.settings o.state es are) (record { symbols = formed_symbols o marks es h are none; sections = formed_section o marks es mach h are none })

-- -- each format

formed_in : (o : OpenModule) (marks : Marks) (es : List Extra) (format : BinaryFormat) → o.state.target.triple.binary_format ≡ format → is_supported o.state.target.triple.architecture format ≡ true → IsModule o marks → AreExtras o.settings o.state es → first_bad_reference o.state ≡ None
    → IsFormedIn format (object_of o.settings o.state)
formed_in o marks es Elf e built h are none = formed_elf_object o marks es e h are none
formed_in o marks es Macho e built h are none = formed_mach_object o marks es e h are none
formed_in o marks es Coff e built h are none = absurd (cc)
formed_in o marks es Wasm e built h are none = absurd (cc)
formed_in o marks es Unknown e built h are none = absurd (cc)

formed_object : (o : OpenModule) (marks : Marks) (es : List Extra) → IsModule o marks → AreExtras o.settings o.state es → first_bad_reference o.state ≡ None → IsFormed (object_of o.settings o.state)
unfolding object_of
formed_object o marks es h are none =
    record { target = h.begun.supported; formed = formed_in o marks es o.state.target.triple.binary_format refl h.begun.supported h are none }

-- the object of a module whose relocations go to what can be had has a file of its format
pub writable : (o : OpenModule) (marks : Marks) (es : List Extra) (object : ObjectData) → IsModule o marks → AreExtras o.settings o.state es → first_bad_reference o.state ≡ None → object ≡ object_of o.settings o.state → IsWritable object
writable o marks es object h are none e = rw e (record { formed = formed_object o marks es h are none })
