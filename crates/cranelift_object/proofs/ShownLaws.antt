-- The linkage of each declared identifier is shown by its row.
use Rattle.std.proofs.Common.{◌≡◌, ℕ, zero, suc, ◌+◌, ◌-◌, ◌<◌, ◌==◌, ◌||◌, ◌&&◌, not, List, [], ◌∷◌, ◌++◌, length, take, map, Bool, true, false, cond, Option, Some, None, refl, ap, sym, ◌∙◌, subst, arith, slice_get}
use Rattle.std.specs.Prelude.{filter, count_by, find, option_map}
use Rattle.std.specs.List.{All, list_any, enumerate_from}
use Rattle.std.proofs.lemmas.Bool.{ne_eqb}
use Rattle.std.proofs.lemmas.List.Sums.{length-filter}
use Rattle.byte_core.proofs.Lists.{get_left, get_right, get_map, get_filter, get_within}
use Rattle.ir_core.specs.Target.{Target}
use Rattle.ir_core.specs.declared.target.BinaryFormat.{BinaryFormat}
use Rattle.image_read.specs.ElfImage.{ElfImageData, ElfReads}
use Rattle.object_core.specs.declared.kinds.SymbolKind.{SymbolKind}
use Rattle.object_core.specs.declared.kinds.SymbolKind.TheVariants as kind
use Rattle.object_core.specs.Object.{SymbolData, is_local, is_global}
use Rattle.object_core.specs.ElfRows.{elf_symbol, elf_table_of, row_in}
use Rattle.object_core.specs.Appending.{file_symbol}
use Rattle.object_elf.specs.ElfHolds.{ElfHolds}
use Rattle.object_elf.specs.Fitting.{FitsElf}
use Rattle.object_elf.specs.TableImage.{symbol_shown, image_for}
use Rattle.object_elf.proofs.OfBytes.{held_image}
use Rattle.cranelift_module.specs.declared.linkage.Linkage.{Linkage}
use Rattle.cranelift_module.specs.declared.linkage.Linkage.TheVariants.{Import, Local, Hidden, Preemptible, Export}
use Rattle.cranelift_module.specs.declared.identifiers.FuncOrDataId.{FuncOrDataId}
use Rattle.cranelift_module.specs.declared.identifiers.FuncOrDataId.TheVariants.{Func, Data}
use Rattle.cranelift_module.specs.Linkage.{is_definable, requires_definition}
use Rattle.cranelift_module.specs.Call.{Call}
use Rattle.cranelift_module.specs.Definitions.{Definition}
use Rattle.cranelift_module.specs.Rows.{FunctionRow, DataRow}
use Rattle.cranelift_module.specs.LinkState.{LinkState, state_of}
use Rattle.cranelift_module.specs.Marks.{linkage_held, name_held, linkage_of, name_of}
use Rattle.cranelift_module.specs.Refusal.{Refusal, is_defined, is_same_identifier, function_name, data_name, missing_definition, first_cause, refuse_if}
use Rattle.cranelift_module.proofs.MarkLaws.{marks-state}
use Rattle.cranelift_object.specs.Settings.{Settings}
use Rattle.cranelift_object.specs.Placing.{Placed, placed}
use Rattle.cranelift_object.specs.Targets.{identifier, extras}
use Rattle.cranelift_object.specs.Linked.{defined_at, named_symbol, identifier_symbol, function_symbol, data_symbol, extra_symbol, symbols_of, object_of, row_of}
use Rattle.cranelift_object.specs.EndCause.{end_cause, missing_function, missing_data, first_missing_function, first_missing_data}
use Rattle.cranelift_object.specs.ShownLinkage.{linkage_shown, IsFinished, table_for, identifier_row, ShowLinkages, table_rows}
use Rattle.cranelift_object.proofs.ClassLaws.{placed_definitions}
use Rattle.cranelift_object.proofs.CreationLaws.{place_is, function_stands, data_stands}
use Rattle.cranelift_object.proofs.FinishLaws.{causes_none, end_parts}
use Rattle.cranelift_object.proofs.StateSound.{IsSound, MayDefine, sound_state}

-- ---- what a row shows

-- where an identifier is defined, and with what linkage it can be
abbrev pub Fits : Linkage → Option Placed → Type 0
Fits linkage None = requires_definition linkage ≡ false
Fits linkage (Some p) = is_definable linkage ≡ true

shown_from : SymbolData → Linkage
shown_from s = linkage_shown (symbol_shown (elf_symbol s))

never_zero : (n : ℕ) → (n + 1 == 0) ≡ false
never_zero n = ne_eqb (n + 1) 0 (λ e. omega (arith, e))

-- a symbol shows the linkage of its identifier
text_shown : (format : BinaryFormat) (name : List ℕ) (linkage : Linkage) (at : Option Placed) → Fits linkage at → shown_from (named_symbol format name linkage kind.Text at) ≡ linkage
unfolding shown_from
text_shown format name Import None h = refl
text_shown format name Import (Some p) h = absurd (cc)
text_shown format name Local None h = absurd (cc)
text_shown format name Local (Some p) h = refl
text_shown format name Hidden None h = absurd (cc)
text_shown format name Hidden (Some p) h = refl
text_shown format name Preemptible None h = refl
text_shown format name Preemptible (Some p) h = refl
text_shown format name Export None h = absurd (cc)
text_shown format name Export (Some p) h = rw (never_zero p.section) refl

data_kind_shown : (format : BinaryFormat) (name : List ℕ) (linkage : Linkage) (at : Option Placed) → Fits linkage at → shown_from (named_symbol format name linkage kind.Data at) ≡ linkage
unfolding shown_from
data_kind_shown format name Import None h = refl
data_kind_shown format name Import (Some p) h = absurd (cc)
data_kind_shown format name Local None h = absurd (cc)
data_kind_shown format name Local (Some p) h = refl
data_kind_shown format name Hidden None h = absurd (cc)
data_kind_shown format name Hidden (Some p) h = refl
data_kind_shown format name Preemptible None h = refl
data_kind_shown format name Preemptible (Some p) h = refl
data_kind_shown format name Export None h = absurd (cc)
data_kind_shown format name Export (Some p) h = rw (never_zero p.section) refl

tls_shown : (format : BinaryFormat) (name : List ℕ) (linkage : Linkage) (at : Option Placed) → Fits linkage at → shown_from (named_symbol format name linkage kind.Tls at) ≡ linkage
unfolding shown_from
tls_shown format name Import None h = refl
tls_shown format name Import (Some p) h = absurd (cc)
tls_shown format name Local None h = absurd (cc)
tls_shown format name Local (Some p) h = refl
tls_shown format name Hidden None h = absurd (cc)
tls_shown format name Hidden (Some p) h = refl
tls_shown format name Preemptible None h = refl
tls_shown format name Preemptible (Some p) h = refl
tls_shown format name Export None h = absurd (cc)
tls_shown format name Export (Some p) h = rw (never_zero p.section) refl

-- a function, a data object or a thread-local one
abbrev pub is_of_identifier : SymbolKind → Bool
is_of_identifier kind.Text = true
is_of_identifier kind.Data = true
is_of_identifier kind.Tls = true
is_of_identifier kind.Label = false
is_of_identifier kind.File = false

kind_shown : (format : BinaryFormat) (name : List ℕ) (linkage : Linkage) (k : SymbolKind) (at : Option Placed) → is_of_identifier k ≡ true → Fits linkage at → shown_from (named_symbol format name linkage k at) ≡ linkage
kind_shown format name linkage kind.Text at o h = text_shown format name linkage at h
kind_shown format name linkage kind.Data at o h = data_kind_shown format name linkage at h
kind_shown format name linkage kind.Tls at o h = tls_shown format name linkage at h
kind_shown format name linkage kind.Label at o h = absurd (cc)
kind_shown format name linkage kind.File at o h = absurd (cc)

data_kind : (tls : Bool) → is_of_identifier (cond tls kind.Tls kind.Data) ≡ true
data_kind true = refl
data_kind false = refl

-- ---- where identifiers are defined

find_none_from : {A : Type 0} (test : A → Bool) (x : A) (xs : List A) (b : Bool) → (list_any test xs ≡ false → find test xs ≡ None) → (b || list_any test xs) ≡ false → cond b (Some x) (find test xs) ≡ None
find_none_from test x xs true later h = absurd (cc)
find_none_from test x xs false later h = later h

find_none : {A : Type 0} (test : A → Bool) (xs : List A) → list_any test xs ≡ false → find test xs ≡ None
find_none test [] h = refl
find_none test (x ∷ xs) h = find_none_from test x xs (test x) (find_none test xs) h

any_found_from : {A : Type 0} (test : A → Bool) (x : A) (xs : List A) (b : Bool) → (list_any test xs ≡ true → (y : A) × (find test xs ≡ Some y)) → (b || list_any test xs) ≡ true → (y : A) × (cond b (Some x) (find test xs) ≡ Some y)
any_found_from test x xs true later h = (x, refl)
any_found_from test x xs false later h = later h

any_found : {A : Type 0} (test : A → Bool) (xs : List A) → list_any test xs ≡ true → (y : A) × (find test xs ≡ Some y)
any_found test [] h = absurd (cc)
any_found test (x ∷ xs) h = any_found_from test x xs (test x) (any_found test xs) h

any_map : {A B : Type 0} (test : B → Bool) (f : A → B) (xs : List A) → list_any (λ x. test (f x)) xs ≡ list_any test (map f xs)
any_map test f [] = refl
any_map test f (x ∷ xs) = ap (λ b. test (f x) || b) (any_map test f xs)

-- the places of definitions are those of the state's
defined_as : (settings : Settings) (s : LinkState) (id : FuncOrDataId) → list_any (λ (p : Placed). is_same_identifier id p.definition.identifier) (placed settings s) ≡ is_defined s id
unfolding placed
defined_as settings s id =
    any_map (λ (d : Definition). is_same_identifier id d.identifier) (λ (p : Placed). p.definition) (placed settings s)
    ∙ ap (list_any (λ (d : Definition). is_same_identifier id d.identifier)) (placed_definitions settings s s.definitions)

placed_fits : (settings : Settings) (s : LinkState) (id : FuncOrDataId) (linkage : Linkage) (b : Bool) → is_defined s id ≡ b → (b ≡ true → is_definable linkage ≡ true) → (b ≡ false → requires_definition linkage ≡ false)
    → Fits linkage (defined_at (placed settings s) id)
placed_fits settings s id linkage true e may wants =
    let found = any_found (λ (p : Placed). is_same_identifier id p.definition.identifier) (placed settings s) (defined_as settings s id ∙ e) in
    rw found.1 (may refl)
placed_fits settings s id linkage false e may wants =
    let none = find_none (λ (p : Placed). is_same_identifier id p.definition.identifier) (placed settings s) (defined_as settings s id ∙ e) in
    rw none (wants refl)

-- ---- what has to be defined is

not_wanted : (wants defined : Bool) (r : Refusal) → refuse_if (wants && not defined) r ≡ None → defined ≡ false → wants ≡ false
not_wanted true defined r h e = absurd (let never : refuse_if (not false) r ≡ None = ap (λ b. refuse_if (not b) r) (sym e) ∙ h in cc)
not_wanted false defined r h e = refl

cause_at : {A : Type 0} (missing : ℕ × A → Option Refusal) (rows : List A) (i k : ℕ) (row : A) → first_cause (map missing (enumerate_from i rows)) ≡ None → slice_get rows k ≡ Some row → missing (i + k, row) ≡ None
cause_at missing [] i zero row h e = absurd (cc)
cause_at missing [] i (suc k) row h e = absurd (cc)
cause_at missing (x ∷ rows) i zero row h e =
    let same : x ≡ row = cc in
    let place : i + 0 ≡ i = omega arith in
    rw (place, ← same) (causes_none (missing (i, x)) (first_cause (map missing (enumerate_from (i + 1) rows))) h).0
cause_at missing (x ∷ rows) i (suc k) row h e =
    let place : i + 1 + k ≡ i + suc k = omega arith in
    ap (λ n. missing (n, row)) (sym place) ∙ cause_at missing rows (i + 1) k row (causes_none (missing (i, x)) (first_cause (map missing (enumerate_from (i + 1) rows))) h).1 e

function_wants : (s : LinkState) (k : ℕ) (row : FunctionRow) → end_cause s ≡ None → slice_get s.functions k ≡ Some row → is_defined s (Func k) ≡ false → requires_definition row.linkage ≡ false
function_wants s k row h e free =
    let none = (causes_none (first_missing_function s) _ (sym (end_parts s) ∙ h)).0 in
    let place : 0 + k ≡ k = omega arith in
    not_wanted (requires_definition row.linkage) (is_defined s (Func k)) (missing_definition (function_name row k)) (ap (λ n. missing_function s (n, row)) (sym place) ∙ cause_at (missing_function s) s.functions 0 k row none e) free

data_wants : (s : LinkState) (k : ℕ) (row : DataRow) → end_cause s ≡ None → slice_get s.objects k ≡ Some row → is_defined s (Data k) ≡ false → requires_definition row.linkage ≡ false
data_wants s k row h e free =
    let none = (causes_none (first_missing_data s) _ (causes_none (first_missing_function s) _ (sym (end_parts s) ∙ h)).1).0 in
    let place : 0 + k ≡ k = omega arith in
    not_wanted (requires_definition row.linkage) (is_defined s (Data k)) (missing_definition (data_name row k)) (ap (λ n. missing_data s (n, row)) (sym place) ∙ cause_at (missing_data s) s.objects 0 k row none e) free

-- ---- the row of a symbol in the table

row_of_local : (ss : List SymbolData) (k : ℕ) (x : SymbolData) (b : Bool) → slice_get ss k ≡ Some x → is_local x ≡ b
    → slice_get (filter is_local ss ++ filter is_global ss) (cond b (1 + count_by is_local (take k ss)) (1 + count_by is_local ss + count_by is_global (take k ss)) - 1) ≡ Some x
row_of_local ss k x true e h =
    let place : 1 + count_by is_local (take k ss) - 1 ≡ count_by is_local (take k ss) = omega arith in
    rw place (get_left (filter is_local ss) (filter is_global ss) (count_by is_local (take k ss)) x (get_filter is_local ss k x e h))
row_of_local ss k x false e h =
    let place : length (filter is_local ss) + count_by is_global (take k ss) ≡ 1 + count_by is_local ss + count_by is_global (take k ss) - 1 = omega (arith, length-filter is_local ss) in
    get_right (filter is_local ss) (filter is_global ss) (count_by is_global (take k ss)) (1 + count_by is_local ss + count_by is_global (take k ss) - 1) x (get_filter is_global ss k x e (ap not h)) place

-- a symbol stands in the table in its row
pub symbol_row_get : (ss : List SymbolData) (k : ℕ) (x : SymbolData) → slice_get ss k ≡ Some x → slice_get (map symbol_shown (map elf_symbol (filter is_local ss ++ filter is_global ss))) (row_in ss k - 1) ≡ Some (symbol_shown (elf_symbol x))
unfolding row_in
symbol_row_get ss k x e =
    let there : slice_get (filter is_local ss ++ filter is_global ss) (row_in ss k - 1) ≡ Some x = rw e (row_of_local ss k x (is_local x) e refl) in
    get_map symbol_shown (map elf_symbol (filter is_local ss ++ filter is_global ss)) (row_in ss k - 1) (elf_symbol x) (get_map elf_symbol (filter is_local ss ++ filter is_global ss) (row_in ss k - 1) x there)

-- the symbol of a created identifier
pub identifier_at : (settings : Settings) (s : LinkState) (r : ℕ) (id : FuncOrDataId) → slice_get s.created r ≡ Some id → slice_get (symbols_of settings s (placed settings s)) (suc r) ≡ Some (identifier_symbol s (placed settings s) id)
unfolding symbols_of
identifier_at settings s r id e =
    get_left (file_symbol settings.file_name ∷ map (identifier_symbol s (placed settings s)) s.created) (map (extra_symbol (placed settings s)) (extras settings s)) (suc r) (identifier_symbol s (placed settings s) id)
    (get_map (identifier_symbol s (placed settings s)) s.created r id e)

-- the number of a created identifier's symbol, behind the file's
pub identifier_number : (settings : Settings) (s : LinkState) (r : ℕ) (id : FuncOrDataId) → IsSound s → slice_get s.created r ≡ Some id → row_of settings s (identifier id) ≡ suc r
identifier_number settings s r id sound e = omega (arith, place_is 0 0 (length s.functions) (length s.objects) s.created r id sound.order e)

row_get : (settings : Settings) (s : LinkState) (r : ℕ) (id : FuncOrDataId) → IsSound s → slice_get s.created r ≡ Some id
    → slice_get (map symbol_shown (elf_table_of (object_of settings s)).symbols) (identifier_row settings s id - 1) ≡ Some (symbol_shown (elf_symbol (identifier_symbol s (placed settings s) id)))
unfolding object_of elf_table_of
row_get settings s r id sound e =
    rw (identifier_number settings s r id sound e) (symbol_row_get (symbols_of settings s (placed settings s)) (suc r) (identifier_symbol s (placed settings s) id) (identifier_at settings s r id e))

-- ---- each identifier

-- the symbol of an identifier, once a module can be finished
pub record Standing (s : LinkState) (ps : List Placed) (id : FuncOrDataId) : Type 0 where
  pub place : ℕ
  pub at : slice_get s.created place ≡ Some id
  pub name : List ℕ
  pub linkage : Linkage
  pub symbol_kind : SymbolKind
  pub symbol : identifier_symbol s ps id ≡ named_symbol s.target.triple.binary_format name linkage symbol_kind (defined_at ps id)
  pub named : name_held s id ≡ Some name
  pub held : linkage_held s id ≡ Some linkage
  pub of_identifier : is_of_identifier symbol_kind ≡ true
  pub fits : Fits linkage (defined_at ps id)

function_symbol_stands : (settings : Settings) (s : LinkState) (k : ℕ) (row : FunctionRow) → IsSound s → end_cause s ≡ None → slice_get s.functions k ≡ Some row → Standing s (placed settings s) (Func k)
function_symbol_stands settings s k row sound ended e =
    let there = function_stands 0 0 (length s.functions) (length s.objects) s.created k sound.order (omega arith) (get_within s.functions k row e) in
    let may : is_defined s (Func k) ≡ true → is_definable row.linkage ≡ true = λ d. let h : MayDefine (linkage_held s (Func k)) = sound.defined (Func k) d in rw e at h in
    let fits : Fits row.linkage (defined_at (placed settings s) (Func k)) = placed_fits settings s (Func k) row.linkage (is_defined s (Func k)) refl may (function_wants s k row ended e) in
    record {
      place = there.0;
      at = there.1;
      name = function_name row k;
      linkage = row.linkage;
      symbol_kind = kind.Text;
      symbol = ap (function_symbol s.target.triple.binary_format (placed settings s) k) e;
      named = ap (option_map (λ (r : FunctionRow). function_name r k)) e;
      held = ap (option_map (λ (r : FunctionRow). r.linkage)) e;
      of_identifier = refl;
      fits = fits;
    }

data_symbol_stands : (settings : Settings) (s : LinkState) (k : ℕ) (row : DataRow) → IsSound s → end_cause s ≡ None → slice_get s.objects k ≡ Some row → Standing s (placed settings s) (Data k)
data_symbol_stands settings s k row sound ended e =
    let there = data_stands 0 0 (length s.functions) (length s.objects) s.created k sound.order (omega arith) (get_within s.objects k row e) in
    let may : is_defined s (Data k) ≡ true → is_definable row.linkage ≡ true = λ d. let h : MayDefine (linkage_held s (Data k)) = sound.defined (Data k) d in rw e at h in
    let fits : Fits row.linkage (defined_at (placed settings s) (Data k)) = placed_fits settings s (Data k) row.linkage (is_defined s (Data k)) refl may (data_wants s k row ended e) in
    record {
      place = there.0;
      at = there.1;
      name = data_name row k;
      linkage = row.linkage;
      symbol_kind = cond row.tls kind.Tls kind.Data;
      symbol = ap (data_symbol s.target.triple.binary_format (placed settings s) k) e;
      named = ap (option_map (λ (r : DataRow). data_name r k)) e;
      held = ap (option_map (λ (r : DataRow). r.linkage)) e;
      of_identifier = data_kind row.tls;
      fits = fits;
    }

function_row_stands : (settings : Settings) (s : LinkState) (k : ℕ) (row : Option FunctionRow) (linkage : Linkage) → IsSound s → end_cause s ≡ None → slice_get s.functions k ≡ row → option_map (λ (r : FunctionRow). r.linkage) row ≡ Some linkage
    → Standing s (placed settings s) (Func k)
function_row_stands settings s k None linkage sound ended e h = absurd (cc)
function_row_stands settings s k (Some row) linkage sound ended e h = function_symbol_stands settings s k row sound ended e

data_row_stands : (settings : Settings) (s : LinkState) (k : ℕ) (row : Option DataRow) (linkage : Linkage) → IsSound s → end_cause s ≡ None → slice_get s.objects k ≡ row → option_map (λ (r : DataRow). r.linkage) row ≡ Some linkage
    → Standing s (placed settings s) (Data k)
data_row_stands settings s k None linkage sound ended e h = absurd (cc)
data_row_stands settings s k (Some row) linkage sound ended e h = data_symbol_stands settings s k row sound ended e

pub identifier_stands : (settings : Settings) (s : LinkState) (id : FuncOrDataId) (linkage : Linkage) → IsSound s → end_cause s ≡ None → linkage_held s id ≡ Some linkage → Standing s (placed settings s) id
identifier_stands settings s (Func k) linkage sound ended h = function_row_stands settings s k (slice_get s.functions k) linkage sound ended refl h
identifier_stands settings s (Data k) linkage sound ended h = data_row_stands settings s k (slice_get s.objects k) linkage sound ended refl h

pub linkages_shown : (settings : Settings) (target : Target) (calls : List Call) → IsFinished target calls → ShowLinkages settings target calls (table_rows settings target calls)
unfolding shown_from
linkages_shown settings target calls finished id linkage h =
    let s = state_of target calls in
    let marks = marks-state target calls id 0 0 in
    let held : linkage_of calls id ≡ linkage_held s id = marks.1 in
    let named : name_of calls id ≡ name_held s id = marks.2 in
    let sound = sound_state target calls finished.accepted in
    let standing = identifier_stands settings s id linkage sound finished.ended (sym held ∙ h) in
    let shown : shown_from (named_symbol s.target.triple.binary_format standing.name standing.linkage standing.symbol_kind (defined_at (placed settings s) id)) ≡ standing.linkage =
    kind_shown s.target.triple.binary_format standing.name standing.linkage standing.symbol_kind (defined_at (placed settings s) id) standing.of_identifier standing.fits in
    record {
      row = symbol_shown (elf_symbol (identifier_symbol s (placed settings s) id));
      at = row_get settings s standing.place id sound standing.at;
      name = named ∙ standing.named ∙ ap (λ (x : SymbolData). Some x.name) (sym standing.symbol);
      linkage = held ∙ standing.held ∙ ap (λ (l : Linkage). Some l) (sym shown) ∙ ap (λ (x : SymbolData). Some (shown_from x)) (sym standing.symbol);
    }

-- ---- read back from a file

pub file_read : (settings : Settings) (target : Target) (calls : List Call) (file : List ℕ) (image : ElfImageData) → FitsElf (table_for settings target calls) → All (λ x. x < 256) file → ElfHolds file (table_for settings target calls) → ElfReads file image
    → image ≡ image_for (table_for settings target calls)
file_read settings target calls file image fits bytes holds reads = (held_image (table_for settings target calls) file fits bytes holds).only image reads

pub file_linkages : (settings : Settings) (target : Target) (calls : List Call) (file : List ℕ) (image : ElfImageData) → IsFinished target calls → FitsElf (table_for settings target calls) → All (λ x. x < 256) file
    → ElfHolds file (table_for settings target calls) → ElfReads file image
    → ShowLinkages settings target calls image.symbols
unfolding image_for
file_linkages settings target calls file image finished fits bytes holds reads =
    let same : table_rows settings target calls ≡ image.symbols = ap (λ (i : ElfImageData). i.symbols) (sym (file_read settings target calls file image fits bytes holds reads)) in
    subst (ShowLinkages settings target calls) same (linkages_shown settings target calls finished)
