-- Names stay found when a declaration is added or changed.
use Rattle.std.proofs.Common.{◌≡◌, ℕ, zero, suc, ◌+◌, ◌<◌, ◌≤◌, get_or, length-append, arith, List, [], ◌∷◌, ◌++◌, length, Bool, true, false, cond, Option, Some, None, slice_get, Result, Ok, Err, OnOk, OnErr, refl, ap, sym, ◌∙◌, String, Global, string_bytes, bytes_eq}
use Rattle.std.specs.List.{find, position_from}
use Rattle.std.specs.Map.{lookup}
use Rattle.std.specs.Option.{option_or}
use Rattle.std.specs.String.{string_cmp}
use Rattle.std.specs.BTreeMap as tree
use Rattle.std.specs.BTreeMap.{BTreeMap, get_by_text}
use Rattle.std.specs.Cmp.Lexicographic.{slice_cmp}
use Rattle.std.specs.Ordering.{nat_cmp}
use Rattle.std.proofs.lemmas.Slice.Eq.{bytes_eq-Decides}
use Rattle.std.proofs.lemmas.Map.Text.{btree_map_updates_text}
use Rattle.cranelift_module.specs.declared.linkage.Linkage.{Linkage}
use Rattle.cranelift_module.specs.declared.identifiers.FuncOrDataId.{FuncOrDataId}
use Rattle.cranelift_module.specs.declared.identifiers.FuncOrDataId.TheVariants.{Func, Data}
use Rattle.cranelift_module.specs.Rows.{FunctionRow, DataRow}
use Rattle.cranelift_module.specs.LinkState.{is_function_named, is_data_named, is_same, raised_function, raised_data}
use Rattle.cranelift_module.specs.Declarations.{FindsNames, IsSound, function_found, data_found, changed_at, numbered, has_repeat}
use Rattle.cranelift_module.specs.Refusal.{function_clash, data_clash, changes_signature, changes_tls, incompatible_declaration}
use Rattle.cranelift_module.proofs.Distinct.{distinct-function, distinct-data, names-anonymous, names-data_anonymous, names-function_changed, names-data_changed}
use Rattle.cranelift_module.proofs.Places.{position-changed, position-append, find-at, find-none, any-at, any-none, position-below, length-changed}
use Rattle.ir_core.specs.Signature.{SignatureData}

unnamed : (o : Option ℕ) → option_or o None ≡ o
unnamed None = refl
unnamed (Some n) = refl

-- -- one kind of rows: what a map answers for it, and the test that finds a name

own_or : (found : Option FuncOrDataId → Option ℕ) (id : FuncOrDataId) (b : Bool) (o : Option FuncOrDataId) (p : Option ℕ) (n : ℕ) → found (Some id) ≡ Some n → found None ≡ None → found o ≡ p → (b ≡ true → o ≡ None) → found (cond b (Some id) o) ≡ option_or p (cond b (Some n) None)
own_or found id true o p n own none e h = own ∙ sym (ap (λ (q : Option ℕ). option_or q (Some n)) (sym e ∙ ap found (h refl) ∙ none))
own_or found id false o p n own none e h = e ∙ sym (unnamed p)

other_or : (found : Option FuncOrDataId → Option ℕ) (id : FuncOrDataId) (b : Bool) (o : Option FuncOrDataId) (p : Option ℕ) → found (Some id) ≡ None → found None ≡ None → found o ≡ p → (b ≡ true → o ≡ None) → found (cond b (Some id) o) ≡ p
other_or found id true o p other none e h = other ∙ sym none ∙ sym (ap found (h refl)) ∙ e
other_or found id false o p other none e h = e

absent : (names : BTreeMap (String Global) FuncOrDataId) (text : String Global) (name : List ℕ) → get_by_text names (string_bytes text) ≡ None → bytes_eq (string_bytes text) name ≡ true → get_by_text names name ≡ None
absent names text name none b = ap (get_by_text names) (sym ((bytes_eq-Decides (string_bytes text) name).0 b)) ∙ none

-- a new row is found under its name
finds_own : {A : Type 0} (found : Option FuncOrDataId → Option ℕ) (is_named : List ℕ → A → Bool) (names names' : BTreeMap (String Global) FuncOrDataId) (rows : List A) (row : A) (text : String Global) (id : FuncOrDataId)
    → found (Some id) ≡ Some (length rows) → found None ≡ None → ((name : List ℕ) → is_named name row ≡ bytes_eq (string_bytes text) name) → get_by_text names (string_bytes text) ≡ None → tree.Updates string_cmp names names' text (Some id)
    → ((name : List ℕ) → found (get_by_text names name) ≡ position_from (is_named name) 0 rows) → (name : List ℕ) → found (get_by_text names' name) ≡ position_from (is_named name) 0 (rows ++ row ∷ [])
finds_own found is_named names names' rows row text id own nothing same none updates h name =
    ap found (btree_map_updates_text (string_bytes text) names names' (Some id) updates name)
    ∙ own_or found id (bytes_eq (string_bytes text) name) (get_by_text names name) (position_from (is_named name) 0 rows) (length rows) own nothing (h name) (absent names text name none)
    ∙ ap (λ (b : Bool). option_or (position_from (is_named name) 0 rows) (cond b (Some (length rows)) None)) (sym (same name))
    ∙ sym (position-append (is_named name) rows row)

-- and the rows of the other kind where they were
finds_other : (found : Option FuncOrDataId → Option ℕ) (names names' : BTreeMap (String Global) FuncOrDataId) (text : String Global) (id : FuncOrDataId) (place : List ℕ → Option ℕ) → found (Some id) ≡ None → found None ≡ None
    → get_by_text names (string_bytes text) ≡ None → tree.Updates string_cmp names names' text (Some id) → ((name : List ℕ) → found (get_by_text names name) ≡ place name) → (name : List ℕ) → found (get_by_text names' name) ≡ place name
finds_other found names names' text id place other nothing none updates h name =
    ap found (btree_map_updates_text (string_bytes text) names names' (Some id) updates name)
    ∙ other_or found id (bytes_eq (string_bytes text) name) (get_by_text names name) (place name) other nothing (h name) (absent names text name none)

-- a row without a name is found under none
position-anonymous : {A : Type 0} (is_named : List ℕ → A → Bool) (rows : List A) (row : A) (name : List ℕ) → is_named name row ≡ false → position_from (is_named name) 0 rows ≡ position_from (is_named name) 0 (rows ++ row ∷ [])
position-anonymous is_named rows row name e =
    sym (position-append (is_named name) rows row ∙ ap (λ (b : Bool). option_or (position_from (is_named name) 0 rows) (cond b (Some (length rows)) None)) e ∙ unnamed (position_from (is_named name) 0 rows))

pushed_few : {A : Type 0} (rows : List A) (row : A) → length rows < 4294967295 → length (rows ++ row ∷ []) ≤ 4294967295
pushed_few rows row few = simp length-append (omega arith)

pub same_entries : (names names' : BTreeMap (String Global) FuncOrDataId) (functions : List FunctionRow) (objects : List DataRow)
    → tree.IsUnchanged names names' → FindsNames names functions objects → FindsNames names' functions objects
same_entries names names' functions objects e h =
    record {
      at_function = λ name. ap (λ entries. function_found (lookup (tree.is_at (λ k. slice_cmp nat_cmp name (string_bytes k))) entries)) e ∙ h.at_function name;
      at_data = λ name. ap (λ entries. data_found (lookup (tree.is_at (λ k. slice_cmp nat_cmp name (string_bytes k))) entries)) e ∙ h.at_data name;
    }

-- -- one more function

named_function : (names names' : BTreeMap (String Global) FuncOrDataId) (functions functions' : List FunctionRow) (objects : List DataRow) (name : List ℕ) (row : FunctionRow)
    → row.name ≡ Some name → get_by_text names name ≡ None → (text : String Global) × (string_bytes text ≡ name) × tree.Updates string_cmp names names' text (Some (Func (length functions)))
    → functions' ≡ functions ++ row ∷ [] → FindsNames names functions objects → FindsNames names' functions' objects
named_function names names' functions functions' objects name row e none (text, same, updates) pushed h =
    let free = ap (get_by_text names) same ∙ none in
    let own : row.name ≡ Some (string_bytes text) = e ∙ ap Some (sym same) in
    rw pushed (record {
      at_function = finds_own function_found is_function_named names names' functions row text (Func (length functions)) refl refl (λ other. ap (λ n. is_same n other) own) free updates h.at_function;
      at_data = finds_other data_found names names' text (Func (length functions)) (λ other. position_from (is_data_named other) 0 objects) refl refl free updates h.at_data;
    })

-- a call that adds a function under a name that was not there, or leaves all as it was
pub IsSound-first : {A E : Type 0} (result : Result A E) (names names' : BTreeMap (String Global) FuncOrDataId) (functions functions' : List FunctionRow) (objects : List DataRow) (name : List ℕ) (row : FunctionRow)
    → row.name ≡ Some name → get_by_text names name ≡ None → OnOk result ((text : String Global) × (string_bytes text ≡ name) × tree.Updates string_cmp names names' text (Some (Func (length functions))))
    → OnOk result (functions' ≡ functions ++ row ∷ []) → OnErr result (functions' ≡ functions) → OnErr result (tree.IsUnchanged names names') → length functions < 4294967295 → IsSound names functions objects
    → IsSound names' functions' objects
IsSound-first (Ok a) names names' functions functions' objects name row e none found pushed kept names_kept few h =
    record { finds = named_function names names' functions functions' objects name row e none found pushed h.finds; few = rw pushed (pushed_few functions row few); few_objects = h.few_objects; distinct = rw pushed (distinct-function functions objects row name e (sym (h.finds.at_function name) ∙ ap function_found none) (sym (h.finds.at_data name) ∙ ap data_found none) h.distinct) }
IsSound-first (Err x) names names' functions functions' objects name row e none found pushed kept names_kept few h =
    record { finds = rw kept (same_entries names names' functions objects names_kept h.finds); few = rw kept h.few; few_objects = h.few_objects; distinct = rw kept h.distinct }

-- a call that raises the linkage of a function, or leaves all as it was
pub IsSound-again : {A E : Type 0} (result : Result A E) (names : BTreeMap (String Global) FuncOrDataId) (functions functions' : List FunctionRow) (objects : List DataRow) (k : ℕ) (linkage : Linkage)
    → OnOk result (functions' ≡ changed_at k (raised_function linkage) functions) → OnErr result (functions' ≡ functions) → IsSound names functions objects → IsSound names functions' objects
IsSound-again (Ok a) names functions functions' objects k linkage raised kept h =
    rw raised (record {
      finds = record { at_function = λ name. h.finds.at_function name ∙ sym (position-changed (is_function_named name) (raised_function linkage) (λ x. refl) functions k); at_data = h.finds.at_data };
      few = rw (length-changed (raised_function linkage) functions k) h.few;
      few_objects = h.few_objects;
      distinct = ap has_repeat (names-function_changed functions objects k (raised_function linkage) (λ row. refl)) ∙ h.distinct;
    })
IsSound-again (Err x) names functions functions' objects k linkage raised kept h = rw kept h

-- a call that adds a function without a name
pub IsSound-anonymous : (names : BTreeMap (String Global) FuncOrDataId) (functions : List FunctionRow) (objects : List DataRow) (row : FunctionRow)
    → row.name ≡ None → length functions < 4294967295 → IsSound names functions objects → IsSound names (functions ++ row ∷ []) objects
IsSound-anonymous names functions objects row e few h =
    record {
      finds = record { at_function = λ name. h.finds.at_function name ∙ position-anonymous is_function_named functions row name (ap (λ n. is_same n name) e); at_data = h.finds.at_data };
      few = pushed_few functions row few;
      few_objects = h.few_objects;
      distinct = ap has_repeat (names-anonymous functions objects row e) ∙ h.distinct;
    }

-- -- one more data object

named_data : (names names' : BTreeMap (String Global) FuncOrDataId) (functions : List FunctionRow) (objects objects' : List DataRow) (name : List ℕ) (row : DataRow)
    → row.name ≡ Some name → get_by_text names name ≡ None → (text : String Global) × (string_bytes text ≡ name) × tree.Updates string_cmp names names' text (Some (Data (length objects)))
    → objects' ≡ objects ++ row ∷ [] → FindsNames names functions objects → FindsNames names' functions objects'
named_data names names' functions objects objects' name row e none (text, same, updates) pushed h =
    let free = ap (get_by_text names) same ∙ none in
    let own : row.name ≡ Some (string_bytes text) = e ∙ ap Some (sym same) in
    rw pushed (record {
      at_function = finds_other function_found names names' text (Data (length objects)) (λ other. position_from (is_function_named other) 0 functions) refl refl free updates h.at_function;
      at_data = finds_own data_found is_data_named names names' objects row text (Data (length objects)) refl refl (λ other. ap (λ n. is_same n other) own) free updates h.at_data;
    })

-- a call that adds a data object under a name that was not there, or leaves all as it was
pub IsSound-data_first : {A E : Type 0} (result : Result A E) (names names' : BTreeMap (String Global) FuncOrDataId) (functions : List FunctionRow) (objects objects' : List DataRow) (name : List ℕ) (row : DataRow)
    → row.name ≡ Some name → get_by_text names name ≡ None → OnOk result ((text : String Global) × (string_bytes text ≡ name) × tree.Updates string_cmp names names' text (Some (Data (length objects))))
    → OnOk result (objects' ≡ objects ++ row ∷ []) → OnErr result (objects' ≡ objects) → OnErr result (tree.IsUnchanged names names') → length objects < 4294967295 → IsSound names functions objects
    → IsSound names' functions objects'
IsSound-data_first (Ok a) names names' functions objects objects' name row e none found pushed kept names_kept few h =
    record { finds = named_data names names' functions objects objects' name row e none found pushed h.finds; few = h.few; few_objects = rw pushed (pushed_few objects row few); distinct = rw pushed (distinct-data functions objects row name e (sym (h.finds.at_function name) ∙ ap function_found none) (sym (h.finds.at_data name) ∙ ap data_found none) h.distinct) }
IsSound-data_first (Err x) names names' functions objects objects' name row e none found pushed kept names_kept few h =
    record { finds = rw kept (same_entries names names' functions objects names_kept h.finds); few = h.few; few_objects = rw kept h.few_objects; distinct = rw kept h.distinct }

-- a call that raises the marks of a data object, or leaves all as it was
pub IsSound-data_again : {A E : Type 0} (result : Result A E) (names : BTreeMap (String Global) FuncOrDataId) (functions : List FunctionRow) (objects objects' : List DataRow) (k : ℕ) (linkage : Linkage) (writable : Bool)
    → OnOk result (objects' ≡ changed_at k (raised_data linkage writable) objects) → OnErr result (objects' ≡ objects) → IsSound names functions objects → IsSound names functions objects'
IsSound-data_again (Ok a) names functions objects objects' k linkage writable raised kept h =
    rw raised (record {
      finds = record { at_function = h.finds.at_function; at_data = λ name. h.finds.at_data name ∙ sym (position-changed (is_data_named name) (raised_data linkage writable) (λ x. refl) objects k) };
      few = h.few;
      few_objects = rw (length-changed (raised_data linkage writable) objects k) h.few_objects;
      distinct = ap has_repeat (names-data_changed functions objects k (raised_data linkage writable) (λ row. refl)) ∙ h.distinct;
    })
IsSound-data_again (Err x) names functions objects objects' k linkage writable raised kept h = rw kept h

-- a call that adds a data object without a name
pub IsSound-data_anonymous : (names : BTreeMap (String Global) FuncOrDataId) (functions : List FunctionRow) (objects : List DataRow) (row : DataRow)
    → row.name ≡ None → length objects < 4294967295 → IsSound names functions objects → IsSound names functions (objects ++ row ∷ [])
IsSound-data_anonymous names functions objects row e few h =
    record {
      finds = record { at_function = h.finds.at_function; at_data = λ name. h.finds.at_data name ∙ position-anonymous is_data_named objects row name (ap (λ n. is_same n name) e) };
      few = h.few;
      few_objects = pushed_few objects row few;
      distinct = ap has_repeat (names-data_anonymous functions objects row e) ∙ h.distinct;
    }

-- -- what a name that was looked up says of the lists

-- where the name of a function is in the lists, and that no data object has it
pub record IsFunctionAt (functions : List FunctionRow) (objects : List DataRow) (name : List ℕ) (k : ℕ) : Type 0 where
  pub here : position_from (is_function_named name) 0 functions ≡ Some k
  pub other : position_from (is_data_named name) 0 objects ≡ None

-- where the name of a data object is in the lists, and that no function has it
pub record IsDataAt (functions : List FunctionRow) (objects : List DataRow) (name : List ℕ) (k : ℕ) : Type 0 where
  pub here : position_from (is_data_named name) 0 objects ≡ Some k
  pub other : position_from (is_function_named name) 0 functions ≡ None

-- no declaration has the name
pub record IsUndeclared (functions : List FunctionRow) (objects : List DataRow) (name : List ℕ) : Type 0 where
  pub here : position_from (is_function_named name) 0 functions ≡ None
  pub other : position_from (is_data_named name) 0 objects ≡ None

pub found_function : (names : BTreeMap (String Global) FuncOrDataId) (functions : List FunctionRow) (objects : List DataRow) (name : List ℕ) (k : ℕ)
    → FindsNames names functions objects → get_by_text names name ≡ Some (Func k) → IsFunctionAt functions objects name k
found_function names functions objects name k h e = record { here = sym (h.at_function name) ∙ ap function_found e; other = sym (h.at_data name) ∙ ap data_found e }

pub found_data : (names : BTreeMap (String Global) FuncOrDataId) (functions : List FunctionRow) (objects : List DataRow) (name : List ℕ) (k : ℕ)
    → FindsNames names functions objects → get_by_text names name ≡ Some (Data k) → IsDataAt functions objects name k
found_data names functions objects name k h e = record { here = sym (h.at_data name) ∙ ap data_found e; other = sym (h.at_function name) ∙ ap function_found e }

pub found_nothing : (names : BTreeMap (String Global) FuncOrDataId) (functions : List FunctionRow) (objects : List DataRow) (name : List ℕ)
    → FindsNames names functions objects → get_by_text names name ≡ None → IsUndeclared functions objects name
found_nothing names functions objects name h e = record { here = sym (h.at_function name) ∙ ap function_found e; other = sym (h.at_data name) ∙ ap data_found e }

-- a known function clashes by its signature alone
pub clash-function : (functions : List FunctionRow) (objects : List DataRow) (name : List ℕ) (k : ℕ) (signature : SignatureData)
    → IsFunctionAt functions objects name k → function_clash functions objects name signature ≡ changes_signature name signature (find (is_function_named name) functions)
clash-function functions objects name k signature h = rw (any-none (is_data_named name) objects h.other) refl

pub clash-data : (functions : List FunctionRow) (objects : List DataRow) (name : List ℕ) (k : ℕ) (signature : SignatureData)
    → IsDataAt functions objects name k → function_clash functions objects name signature ≡ Some (incompatible_declaration name)
clash-data functions objects name k signature h = rw (any-at (is_data_named name) objects k h.here) refl

pub clash-none : (functions : List FunctionRow) (objects : List DataRow) (name : List ℕ) (signature : SignatureData)
    → IsUndeclared functions objects name → function_clash functions objects name signature ≡ None
clash-none functions objects name signature h = rw (any-none (is_data_named name) objects h.other, find-none (is_function_named name) functions h.here) refl

-- known data clashes by its thread-local mark alone
pub data_clash-data : (functions : List FunctionRow) (objects : List DataRow) (name : List ℕ) (k : ℕ) (tls : Bool) → IsDataAt functions objects name k → data_clash functions objects name tls ≡ changes_tls name tls (find (is_data_named name) objects)
data_clash-data functions objects name k tls h = rw (any-none (is_function_named name) functions h.other) refl

pub data_clash-function : (functions : List FunctionRow) (objects : List DataRow) (name : List ℕ) (k : ℕ) (tls : Bool)
    → IsFunctionAt functions objects name k → data_clash functions objects name tls ≡ Some (incompatible_declaration name)
data_clash-function functions objects name k tls h = rw (any-at (is_function_named name) functions k h.here) refl

pub data_clash-none : (functions : List FunctionRow) (objects : List DataRow) (name : List ℕ) (tls : Bool) → IsUndeclared functions objects name → data_clash functions objects name tls ≡ None
data_clash-none functions objects name tls h =
    rw (any-none (is_function_named name) functions h.here) (ap (changes_tls name tls) (find-none (is_data_named name) objects h.other) ∙ no_change name tls) where
      no_change : (name : List ℕ) (tls : Bool) → changes_tls name tls None ≡ None
      no_change name true = refl
      no_change name false = refl

-- a name that nothing had stands at the end
pub position-new : {A : Type 0} (is_named : List ℕ → A → Bool) (rows : List A) (name : List ℕ) (row : A) → position_from (is_named name) 0 rows ≡ None → is_named name row ≡ bytes_eq name name
    → position_from (is_named name) 0 (rows ++ row ∷ []) ≡ Some (length rows)
position-new is_named rows name row h e =
    position-append (is_named name) rows row
    ∙ ap (λ o. option_or o (cond (is_named name row) (Some (length rows)) None)) h
    ∙ ap (λ b. cond b (Some (length rows)) None) (e ∙ (bytes_eq-Decides name name).1 refl)

-- a known row is the one at its number
pub find-row : {A : Type 0} (test : A → Bool) (rows : List A) (k : ℕ) (row : A) → position_from test 0 rows ≡ Some k → row ≡ get_or rows k row → find test rows ≡ Some row
find-row {A} test rows k row h e = find-at test rows k h ∙ got rows k row (position-below test rows k h) e where
  got : (xs : List A) (k : ℕ) (x : A) → k < length xs → x ≡ get_or xs k x → slice_get xs k ≡ Some x
  got [] k x h e = absurd (omega arith)
  got (y ∷ ys) zero x h e = ap Some (sym e)
  got (y ∷ ys) (suc k) x h e = got ys k x (omega arith) e

pub on_ok : {A E : Type 0} (result : Result A E) (P : Type 0) → P → OnOk result P
on_ok (Ok a) P p = p
on_ok (Err e) P p = tt

-- each row has one number
pub length-numbered : {A : Type 0} (n : ℕ) (rows : List A) → length (numbered n rows) ≡ length rows
length-numbered n [] = refl
length-numbered n (row ∷ rows) = ap suc (length-numbered (n + 1) rows)
