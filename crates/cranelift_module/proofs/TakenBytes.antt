-- Bytes that are marked as taken.
use Rattle.std.proofs.Common.{◌≡◌, ℕ, zero, suc, ◌+◌, ◌-◌, ◌<◌, ◌≤◌, Bool, true, false, ◌&&◌, ◌||◌, not, List, [], ◌∷◌, ◌++◌, length, take, drop, replicate, refl, sym, ◌∙◌, ap, arith, get_or, nat_lt, Option, Some, None, unwrap_or, length-append, length-take, length-drop, ltb-true, ltb-false}
use Rattle.std.specs.List.{list_any}
use Rattle.std.proofs.Math.Bool.{or-false}
use Rattle.ir_core.specs.declared.reloc.Reloc.{Reloc}
use Rattle.ir_core.specs.declared.reloc.Reloc.TheVariants.{Abs4, Abs8, X86PCRel4, X86CallPCRel4, X86CallPLTRel4, X86GOTPCRel4, X86SecRel, Arm64Call, S390xPCRel32Dbl, S390xPLTRel32Dbl, ElfX86_64TlsGd, MachOX86_64Tlv, MachOAarch64TlsAdrPage21, MachOAarch64TlsAdrPageOff12, Aarch64TlsDescAdrPage21, Aarch64TlsDescLd64Lo12, Aarch64TlsDescAddLo12, Aarch64TlsDescCall, Aarch64AdrGotPage21, Aarch64Ld64GotLo12Nc, Aarch64AdrPrelPgHi21, Aarch64AddAbsLo12Nc, RiscvCallPlt, RiscvTlsGdHi20, RiscvPCRelLo12I, RiscvGotHi20, RiscvPCRelHi20, S390xTlsGd64, S390xTlsGdCall}
use Rattle.std.proofs.lemmas.List.{drop_more, take_more, drop-replicate, take-replicate, length-replicate, get_or_append_left, get_or-append_right, get_or-take, get_or-drop, get_or-replicate}
use Rattle.std.proofs.lemmas.List.Folds.{list_any-append}
use Rattle.ir_core.specs.declared.target.BinaryFormat.{BinaryFormat}
use Rattle.ir_core.specs.declared.target.BinaryFormat.TheVariants.{Elf, Coff, Macho, Wasm, Unknown}
use Rattle.cranelift_module.specs.declared.reloc.ModuleReloc.{ModuleReloc}
use Rattle.cranelift_module.specs.Kind.{field_width}
use Rattle.cranelift_module.specs.Refusal.{Refusal, backend, shares_byte, is_outside, reloc_cause, bad_reloc_from, has_kind, refuse_if, is_refused_in}
use Rattle.cranelift_module.specs.declared.error.BackendCause.TheVariants.{UnsupportedReloc, BadReloc}
use Rattle.std.specs.Option.{option_or}
use Rattle.ir_core.specs.Target.{Target}
use Rattle.cranelift_module.specs.TakenBytes.{is_marked, AreMarked, AreTaken}

none_marked : (n : ℕ) → list_any (λ mark. mark) (replicate n false) ≡ false
none_marked zero = refl
none_marked (suc n) = none_marked n

-- nothing is marked at the start
pub marked_none : (n : ℕ) → AreMarked (replicate n false) []
marked_none n offset width some inside =
    rw (drop-replicate offset n false, take-replicate width (n - offset) false (omega (arith, inside, length-replicate n false))) (none_marked width)

pub room_taken : (format : BinaryFormat) (size : Option ℕ) (marks : List Bool) → format ≡ Macho → marks ≡ replicate (unwrap_or size 0) false → AreTaken format size marks []
room_taken format size marks is same = rw (is, same) (length-replicate (unwrap_or size 0) false, marked_none (unwrap_or size 0))

-- -- one field more

-- the marks with those of n bytes from a on set
abbrev pub with_marked : ℕ → ℕ → List Bool → List Bool
with_marked a n marks = take a marks ++ (replicate n true ++ drop (a + n) marks)

-- place o lies among n bytes from a on
abbrev is_among : ℕ → ℕ → ℕ → Bool
is_among a n o = nat_lt o (a + n) && nat_lt a (o + 1)

one_byte : (i g : Bool) → ((i || g) || false) ≡ ((g || false) || i)
one_byte true true = refl
one_byte true false = refl
one_byte false true = refl
one_byte false false = refl

more_bytes : (i g m s : Bool) → ((i || g) || (m || s)) ≡ ((g || m) || (i || s))
more_bytes true true m s = refl
more_bytes true false true s = refl
more_bytes true false false s = refl
more_bytes false true m s = refl
more_bytes false false m s = refl

first_from : (a n o w : ℕ) (p q : Bool) → 0 < n → nat_lt o (a + n) ≡ p → nat_lt a (o + 1) ≡ q
    → (is_among a n o || (nat_lt (o + 1) (a + n) && nat_lt a (o + 1 + suc w))) ≡ (nat_lt o (a + n) && nat_lt a (o + suc (suc w)))
first_from a n o w false q some before behind =
    let later : nat_lt (o + 1) (a + n) ≡ false = grind (arith, before) in
    rw (before, later) refl
first_from a n o w true true some before behind =
    let far : nat_lt a (o + suc (suc w)) ≡ true = grind (arith, behind) in
    rw (before, behind, far) refl
first_from a n o w true false some before behind =
    let later : nat_lt (o + 1) (a + n) ≡ true = grind (arith, behind, some) in
    let same : o + 1 + suc w ≡ o + suc (suc w) = omega arith in
    rw (before, behind, later, same) refl

-- a field shares a byte where its first byte or one of the others lies among these
first_or_later : (a n o w : ℕ) → 0 < n → (is_among a n o || (nat_lt (o + 1) (a + n) && nat_lt a (o + 1 + suc w))) ≡ (nat_lt o (a + n) && nat_lt a (o + suc (suc w)))
first_or_later a n o w some = first_from a n o w (nat_lt o (a + n)) (nat_lt a (o + 1)) some refl refl

mark_from : (a n o : ℕ) (marks : List Bool) (p q : Bool) → a + n ≤ length marks → o < length marks → nat_lt o (a + n) ≡ p → nat_lt a (o + 1) ≡ q → get_or (with_marked a n marks) o false ≡ (is_among a n o || get_or marks o false)
mark_from a n o marks false q inside within before behind =
    let past = ltb-false o (a + n) before in
    let head : length (take a marks) ≡ a = omega (arith, length-take a marks, inside) in
    rw before (
    get_or-append_right (take a marks) (replicate n true ++ drop (a + n) marks) a o false head (omega (arith, past))
    ∙ get_or-append_right (replicate n true) (drop (a + n) marks) n (o - a) false (length-replicate n true) (omega (arith, past))
    ∙ get_or-drop (a + n) marks (o - a - n) false
    ∙ ap (λ i. get_or marks i false) (omega (arith, past)))
mark_from a n o marks true true inside within before behind =
    let short = ltb-true o (a + n) before in
    let from = ltb-true a (o + 1) behind in
    let head : length (take a marks) ≡ a = omega (arith, length-take a marks, inside) in
    let ones = length-replicate n true in
    rw (before, behind) (
    get_or-append_right (take a marks) (replicate n true ++ drop (a + n) marks) a o false head (omega (arith, from))
    ∙ get_or_append_left (replicate n true) (drop (a + n) marks) false (o - a) (omega (arith, short, from, ones))
    ∙ get_or-replicate n (o - a) true false (omega (arith, short, from)))
mark_from a n o marks true false inside within before behind =
    let below = ltb-false a (o + 1) behind in
    let head : length (take a marks) ≡ a = omega (arith, length-take a marks, inside) in
    rw (before, behind) (
    get_or_append_left (take a marks) (replicate n true ++ drop (a + n) marks) false o (omega (arith, below, head))
    ∙ get_or-take a marks o false (omega (arith, below)))

mark_at : (a n o : ℕ) (marks : List Bool) → a + n ≤ length marks → o < length marks → get_or (with_marked a n marks) o false ≡ (is_among a n o || get_or marks o false)
mark_at a n o marks inside within = mark_from a n o marks (nat_lt o (a + n)) (nat_lt a (o + 1)) inside within refl refl

length_marked : (a n : ℕ) (marks : List Bool) → a + n ≤ length marks → length (with_marked a n marks) ≡ length marks
length_marked a n marks inside =
    omega (arith, length-append (take a marks) (replicate n true ++ drop (a + n) marks), length-append (replicate n true) (drop (a + n) marks), length-take a marks, length-drop (a + n) marks, length-replicate n true, inside)

-- the first of some bytes, and the others
next_mark : (marks : List Bool) (o w : ℕ) → o < length marks → is_marked marks o (suc w) ≡ (get_or marks o false || is_marked marks (o + 1) w)
next_mark [] o w lt = absurd (omega (arith, lt))
next_mark (x ∷ xs) zero w lt = refl
next_mark (x ∷ xs) (suc o) w lt =
    let next : suc o + 1 ≡ suc (o + 1) = omega arith in
    rw next (next_mark xs o w (omega (arith, lt)))

filled : (a n o w : ℕ) (marks : List Bool) → 0 < n → a + n ≤ length marks → o + suc w ≤ length marks
    → is_marked (with_marked a n marks) o (suc w) ≡ (is_marked marks o (suc w) || (nat_lt o (a + n) && nat_lt a (o + suc w)))
filled a n o zero marks some inside within =
    let same = length_marked a n marks inside in
    rw (next_mark (with_marked a n marks) o 0 (omega (arith, within, same)), next_mark marks o 0 (omega (arith, within)), mark_at a n o marks inside (omega (arith, within))) (one_byte (is_among a n o) (get_or marks o false))
filled a n o (suc w) marks some inside within =
    let same = length_marked a n marks inside in
    rw (
      next_mark (with_marked a n marks) o (suc w) (omega (arith, within, same)),
      next_mark marks o (suc w) (omega (arith, within)),
      mark_at a n o marks inside (omega (arith, within)),
      filled a n (o + 1) w marks some inside (omega (arith, within)),
      ← (first_or_later a n o w some),
    ) (more_bytes (is_among a n o) (get_or marks o false) (is_marked marks (o + 1) (suc w)) (nat_lt (o + 1) (a + n) && nat_lt a (o + 1 + suc w)))

-- the fields of all kinds have bytes
width_positive : (kind : Reloc) → 0 < field_width kind
width_positive Abs4 = omega arith
width_positive Abs8 = omega arith
width_positive X86PCRel4 = omega arith
width_positive X86CallPCRel4 = omega arith
width_positive X86CallPLTRel4 = omega arith
width_positive X86GOTPCRel4 = omega arith
width_positive X86SecRel = omega arith
width_positive Arm64Call = omega arith
width_positive S390xPCRel32Dbl = omega arith
width_positive S390xPLTRel32Dbl = omega arith
width_positive ElfX86_64TlsGd = omega arith
width_positive MachOX86_64Tlv = omega arith
width_positive MachOAarch64TlsAdrPage21 = omega arith
width_positive MachOAarch64TlsAdrPageOff12 = omega arith
width_positive Aarch64TlsDescAdrPage21 = omega arith
width_positive Aarch64TlsDescLd64Lo12 = omega arith
width_positive Aarch64TlsDescAddLo12 = omega arith
width_positive Aarch64TlsDescCall = omega arith
width_positive Aarch64AdrGotPage21 = omega arith
width_positive Aarch64Ld64GotLo12Nc = omega arith
width_positive Aarch64AdrPrelPgHi21 = omega arith
width_positive Aarch64AddAbsLo12Nc = omega arith
width_positive RiscvCallPlt = omega arith
width_positive RiscvTlsGdHi20 = omega arith
width_positive RiscvPCRelLo12I = omega arith
width_positive RiscvGotHi20 = omega arith
width_positive RiscvPCRelHi20 = omega arith
width_positive S390xTlsGd64 = omega arith
width_positive S390xTlsGdCall = omega arith

-- the field of one relocation more is marked
marked_more : (r : ModuleReloc) (marks new : List Bool) (before : List ModuleReloc) → r.offset + field_width r.kind ≤ length marks → new ≡ with_marked r.offset (field_width r.kind) marks → AreMarked marks before → AreMarked new (before ++ r ∷ [])
marked_more r marks new before inside same marked offset zero some within = absurd (omega (arith, some))
marked_more r marks new before inside same marked offset (suc w) some within =
    let long = length_marked r.offset (field_width r.kind) marks inside in
    let old : offset + suc w ≤ length marks = omega (arith, within, ap length same, long) in
    ap (λ l. is_marked l offset (suc w)) same ∙ filled r.offset (field_width r.kind) offset w marks (width_positive r.kind) inside old ∙ ap (λ b. b || shares_byte offset (suc w) r) (marked offset (suc w) some old)
    ∙ sym (list_any-append (shares_byte offset (suc w)) before (r ∷ []) ∙ ap (λ b. list_any (shares_byte offset (suc w)) before || b) (or-false (shares_byte offset (suc w) r)))

-- a field that lies in the contents is taken
pub taken_more : (format : BinaryFormat) (size : Option ℕ) (r : ModuleReloc) (marks new : List Bool) (before : List ModuleReloc) → r.offset + field_width r.kind ≤ length marks → new ≡ with_marked r.offset (field_width r.kind) marks
    → AreTaken format size marks before → AreTaken format size new (before ++ r ∷ [])
taken_more Elf size r marks new before inside same taken = tt
taken_more Coff size r marks new before inside same taken = tt
taken_more Macho size r marks new before inside same taken =
    (ap length same ∙ length_marked r.offset (field_width r.kind) marks inside ∙ taken.0, marked_more r marks new before inside same taken.1)
taken_more Wasm size r marks new before inside same taken = tt
taken_more Unknown size r marks new before inside same taken = tt

-- where the contents are short of the field, there are no marks or the field is outside
pub field_inside : (size : Option ℕ) (r : ModuleReloc) (marks : List Bool) → is_outside size r ≡ false → length marks ≡ unwrap_or size 0 → r.offset + field_width r.kind ≤ length marks
field_inside None r marks outside long = absurd (cc)
field_inside (Some size) r marks outside long = let fits = ltb-false size (r.offset + field_width r.kind) outside in omega (arith, fits, long)

pub more_before : (rs : List ModuleReloc) (i : ℕ) (r : ModuleReloc) → i < length rs → r ≡ get_or rs i r → take (i + 1) rs ≡ take i rs ++ r ∷ []
more_before rs i r short at = take_more rs i r short ∙ ap (λ x. take i rs ++ x ∷ []) (sym at)

-- a relocation that isn't refused is one of those before the next
pub bad_step : (target : Target) (size : Option ℕ) (rs : List ModuleReloc) (i : ℕ) (r : ModuleReloc) → i < length rs → r ≡ get_or rs i r → reloc_cause target size (take i rs) r ≡ None
    → bad_reloc_from target size (take i rs) (drop i rs) ≡ bad_reloc_from target size (take (i + 1) rs) (drop (i + 1) rs)
bad_step target size rs i r short at none =
    let next : drop i rs ≡ r ∷ drop (i + 1) rs = drop_more rs i r short ∙ ap (λ x. x ∷ drop (i + 1) rs) (sym at) in
    rw (next, more_before rs i r short at, none) refl

outside_from : (has outside refused : Bool) (u v : Refusal) → option_or (refuse_if (not has) u) (option_or (refuse_if (outside || refused) v) None) ≡ None → outside ≡ false
outside_from true false refused u v h = refl
outside_from true true refused u v h = absurd (cc)
outside_from false outside refused u v h = absurd (cc)

-- a relocation that isn't refused has its field in the contents
pub not_outside : (target : Target) (size : Option ℕ) (before : List ModuleReloc) (r : ModuleReloc) → reloc_cause target size before r ≡ None → is_outside size r ≡ false
not_outside target size before r none =
    outside_from (has_kind target r.kind) (is_outside size r) (is_refused_in target.triple.binary_format target.triple.architecture before r) (backend (UnsupportedReloc (length before) r.kind)) (backend (BadReloc (length before) r.offset)) none
