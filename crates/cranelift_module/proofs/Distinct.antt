-- No name stands twice, before and after a declaration is added.
use Rattle.std.proofs.Common.{◌≡◌, ℕ, zero, suc, List, [], ◌∷◌, ◌++◌, take, drop, Bool, true, false, ◌||◌, Option, Some, None, bytes_eq, refl, ap, sym, ◌∙◌, append_assoc, append-nil}
use Rattle.std.specs.List.{list_any, filter_map, cons_option, position_from}
use Rattle.std.proofs.lemmas.List.{take-append-drop}
use Rattle.std.proofs.lemmas.List.Folds.{list_any-append}
use Rattle.std.proofs.lemmas.List.Elements.{filter_map-append}
use Rattle.std.proofs.lemmas.Slice.Eq.{bytes_eq-Decides}
use Rattle.std.proofs.Math.Bool.{or-true}
use Rattle.cranelift_module.specs.Rows.{FunctionRow, DataRow}
use Rattle.cranelift_module.specs.LinkState.{is_function_named, is_data_named, is_same}
use Rattle.cranelift_module.specs.Declarations.{has_repeat, names_of, changed_at}
use Rattle.cranelift_module.proofs.Places.{any-at, any-none}

-- -- lists of texts

-- the text stands in the list
abbrev pub stands : List ℕ → List (List ℕ) → Bool
stands name names = list_any (λ other. bytes_eq other name) names

same_test : (b c : Bool) → (b ≡ true → c ≡ true) → (c ≡ true → b ≡ true) → b ≡ c
same_test true c h k = sym (h refl)
same_test false true h k = k refl
same_test false false h k = refl

bytes_eq-flip : (xs ys : List ℕ) → bytes_eq xs ys ≡ bytes_eq ys xs
bytes_eq-flip xs ys =
    same_test (bytes_eq xs ys) (bytes_eq ys xs) (λ h. (bytes_eq-Decides ys xs).1 (sym ((bytes_eq-Decides xs ys).0 h)))
    (λ h. (bytes_eq-Decides xs ys).1 (sym ((bytes_eq-Decides ys xs).0 h)))

any-flip : (x : List ℕ) (xs : List (List ℕ)) → list_any (bytes_eq x) xs ≡ stands x xs
any-flip x [] = refl
any-flip x (y ∷ ys) = rw (bytes_eq-flip x y, any-flip x ys) refl

shuffled : (p b q a r : Bool) → ((p || (b || q)) || (a || r)) ≡ ((b || a) || ((p || q) || r))
shuffled true true q a r = refl
shuffled true false q true r = refl
shuffled true false q false r = refl
shuffled false true q a r = refl
shuffled false false true true r = refl
shuffled false false true false r = refl
shuffled false false false true r = refl
shuffled false false false false r = refl

-- a list with one more text repeats one where the text stands in it already, or it did before
repeat-insert : (xs ys : List (List ℕ)) (y : List ℕ) → has_repeat (xs ++ y ∷ ys) ≡ (stands y (xs ++ ys) || has_repeat (xs ++ ys))
repeat-insert [] ys y = ap (λ b. b || has_repeat ys) (any-flip y ys)
repeat-insert (x ∷ xs) ys y =
    rw (list_any-append (bytes_eq x) xs (y ∷ ys), list_any-append (bytes_eq x) xs ys, repeat-insert xs ys y)
    (shuffled (list_any (bytes_eq x) xs) (bytes_eq x y) (list_any (bytes_eq x) ys) (stands y (xs ++ ys)) (has_repeat (xs ++ ys)))

-- what repeats a text still does so with more behind it
repeat-more : (xs ys : List (List ℕ)) → has_repeat xs ≡ true → has_repeat (xs ++ ys) ≡ true
repeat-more [] ys h = absurd (cc)
repeat-more (x ∷ xs) ys h = rw (list_any-append (bytes_eq x) xs ys) (more (list_any (bytes_eq x) xs) (list_any (bytes_eq x) ys) (has_repeat xs) (has_repeat (xs ++ ys)) (repeat-more xs ys) h) where
  more : (p q r s : Bool) → (r ≡ true → s ≡ true) → (p || r) ≡ true → ((p || q) || s) ≡ true
  more true q r s f h = refl
  more false q r s f h = ap (λ b. q || b) (f h) ∙ or-true q

-- -- rows with names

any-named : {A : Type 0} (name_in : A → Option (List ℕ)) (name : List ℕ) (rows : List A) → list_any (λ row. is_same (name_in row) name) rows ≡ stands name (filter_map name_in rows)
any-named name_in name [] = refl
any-named name_in name (row ∷ rows) = one (name_in row) (any-named name_in name rows) where
  one : (o : Option (List ℕ)) → list_any (λ row. is_same (name_in row) name) rows ≡ stands name (filter_map name_in rows)
      → (is_same o name || list_any (λ row. is_same (name_in row) name) rows) ≡ stands name (cons_option o (filter_map name_in rows))
  one None h = h
  one (Some other) h = ap (λ b. bytes_eq other name || b) h

names-added : {A : Type 0} (name_in : A → Option (List ℕ)) (rows : List A) (row : A) (name : Option (List ℕ)) → name_in row ≡ name → filter_map name_in (rows ++ row ∷ []) ≡ filter_map name_in rows ++ cons_option name []
names-added name_in rows row name e = filter_map-append name_in rows (row ∷ []) ∙ ap (λ o. filter_map name_in rows ++ cons_option o []) e

names-changed : {A : Type 0} (name_in : A → Option (List ℕ)) (change : A → A) → ((row : A) → name_in (change row) ≡ name_in row) → (rows : List A) (k : ℕ) → filter_map name_in (changed_at k change rows) ≡ filter_map name_in rows
names-changed name_in change h [] k = refl
names-changed name_in change h (row ∷ rows) zero = ap (λ o. cons_option o (filter_map name_in rows)) (h row)
names-changed name_in change h (row ∷ rows) (suc k) = ap (λ names. cons_option (name_in row) names) (names-changed name_in change h rows k)

-- whether a name is declared
abbrev pub is_declared : List ℕ → List FunctionRow → List DataRow → Bool
is_declared name functions objects = list_any (is_function_named name) functions || list_any (is_data_named name) objects

declared-stands : (name : List ℕ) (functions : List FunctionRow) (objects : List DataRow) → is_declared name functions objects ≡ stands name (names_of functions objects)
declared-stands name functions objects =
    rw (any-named (λ (row : FunctionRow). row.name) name functions, any-named (λ (row : DataRow). row.name) name objects)
    (sym (list_any-append (λ other. bytes_eq other name) (filter_map (λ (row : FunctionRow). row.name) functions) (filter_map (λ (row : DataRow). row.name) objects)))

-- -- one more row

-- a function with a name repeats one where the name is declared already
repeat-function : (functions : List FunctionRow) (objects : List DataRow) (row : FunctionRow) (name : List ℕ) → row.name ≡ Some name
    → has_repeat (names_of (functions ++ row ∷ []) objects) ≡ (is_declared name functions objects || has_repeat (names_of functions objects))
repeat-function functions objects row name e =
    ap (λ names. has_repeat (names ++ filter_map (λ (row : DataRow). row.name) objects)) (names-added (λ (row : FunctionRow). row.name) functions row (Some name) e)
    ∙ ap has_repeat (append_assoc (filter_map (λ (row : FunctionRow). row.name) functions) (name ∷ []) (filter_map (λ (row : DataRow). row.name) objects))
    ∙ repeat-insert (filter_map (λ (row : FunctionRow). row.name) functions) (filter_map (λ (row : DataRow). row.name) objects) name
    ∙ ap (λ b. b || has_repeat (names_of functions objects)) (sym (declared-stands name functions objects))

repeat-data : (functions : List FunctionRow) (objects : List DataRow) (row : DataRow) (name : List ℕ) → row.name ≡ Some name
    → has_repeat (names_of functions (objects ++ row ∷ [])) ≡ (is_declared name functions objects || has_repeat (names_of functions objects))
repeat-data functions objects row name e =
    ap (λ names. has_repeat (filter_map (λ (row : FunctionRow). row.name) functions ++ names)) (names-added (λ (row : DataRow). row.name) objects row (Some name) e)
    ∙ ap has_repeat (sym (append_assoc (filter_map (λ (row : FunctionRow). row.name) functions) (filter_map (λ (row : DataRow). row.name) objects) (name ∷ [])))
    ∙ repeat-insert (names_of functions objects) [] name
    ∙ ap (λ names. stands name names || has_repeat names) (append-nil (names_of functions objects))
    ∙ ap (λ b. b || has_repeat (names_of functions objects)) (sym (declared-stands name functions objects))

undeclared : (name : List ℕ) (functions : List FunctionRow) (objects : List DataRow) → position_from (is_function_named name) 0 functions ≡ None → position_from (is_data_named name) 0 objects ≡ None → is_declared name functions objects ≡ false
undeclared name functions objects f o = rw (any-none (is_function_named name) functions f, any-none (is_data_named name) objects o) refl

-- a new name is no repeat
pub distinct-function : (functions : List FunctionRow) (objects : List DataRow) (row : FunctionRow) (name : List ℕ) → row.name ≡ Some name → position_from (is_function_named name) 0 functions ≡ None
    → position_from (is_data_named name) 0 objects ≡ None → has_repeat (names_of functions objects) ≡ false → has_repeat (names_of (functions ++ row ∷ []) objects) ≡ false
distinct-function functions objects row name e f o h = repeat-function functions objects row name e ∙ rw (undeclared name functions objects f o) h

pub distinct-data : (functions : List FunctionRow) (objects : List DataRow) (row : DataRow) (name : List ℕ) → row.name ≡ Some name → position_from (is_function_named name) 0 functions ≡ None
    → position_from (is_data_named name) 0 objects ≡ None → has_repeat (names_of functions objects) ≡ false → has_repeat (names_of functions (objects ++ row ∷ [])) ≡ false
distinct-data functions objects row name e f o h = repeat-data functions objects row name e ∙ rw (undeclared name functions objects f o) h

-- nor is a row without a name
pub names-anonymous : (functions : List FunctionRow) (objects : List DataRow) (row : FunctionRow) → row.name ≡ None → names_of (functions ++ row ∷ []) objects ≡ names_of functions objects
names-anonymous functions objects row e =
    ap (λ names. names ++ filter_map (λ (row : DataRow). row.name) objects) (names-added (λ (row : FunctionRow). row.name) functions row None e ∙ append-nil (filter_map (λ (row : FunctionRow). row.name) functions))

pub names-data_anonymous : (functions : List FunctionRow) (objects : List DataRow) (row : DataRow) → row.name ≡ None → names_of functions (objects ++ row ∷ []) ≡ names_of functions objects
names-data_anonymous functions objects row e =
    ap (λ names. filter_map (λ (row : FunctionRow). row.name) functions ++ names) (names-added (λ (row : DataRow). row.name) objects row None e ∙ append-nil (filter_map (λ (row : DataRow). row.name) objects))

-- nor a row that keeps its name
pub names-function_changed : (functions : List FunctionRow) (objects : List DataRow) (k : ℕ) (change : FunctionRow → FunctionRow) → ((row : FunctionRow) → (change row).name ≡ row.name)
    → names_of (changed_at k change functions) objects ≡ names_of functions objects
names-function_changed functions objects k change h = ap (λ names. names ++ filter_map (λ (row : DataRow). row.name) objects) (names-changed (λ (row : FunctionRow). row.name) change h functions k)

pub names-data_changed : (functions : List FunctionRow) (objects : List DataRow) (k : ℕ) (change : DataRow → DataRow) → ((row : DataRow) → (change row).name ≡ row.name)
    → names_of functions (changed_at k change objects) ≡ names_of functions objects
names-data_changed functions objects k change h = ap (λ names. filter_map (λ (row : FunctionRow). row.name) functions ++ names) (names-changed (λ (row : DataRow). row.name) change h objects k)

-- a name that is declared already is a repeat
pub repeat-function_declared : (functions : List FunctionRow) (objects : List DataRow) (row : FunctionRow) (name : List ℕ) → row.name ≡ Some name → is_declared name functions objects ≡ true
    → has_repeat (names_of (functions ++ row ∷ []) objects) ≡ true
repeat-function_declared functions objects row name e h = repeat-function functions objects row name e ∙ rw h refl

pub repeat-data_declared : (functions : List FunctionRow) (objects : List DataRow) (row : DataRow) (name : List ℕ) → row.name ≡ Some name → is_declared name functions objects ≡ true
    → has_repeat (names_of functions (objects ++ row ∷ [])) ≡ true
repeat-data_declared functions objects row name e h = repeat-data functions objects row name e ∙ rw h refl

pub declared-function : (name : List ℕ) (functions : List FunctionRow) (objects : List DataRow) (k : ℕ) → position_from (is_function_named name) 0 functions ≡ Some k → is_declared name functions objects ≡ true
declared-function name functions objects k h = rw (any-at (is_function_named name) functions k h) refl

pub declared-data : (name : List ℕ) (functions : List FunctionRow) (objects : List DataRow) (k : ℕ) → position_from (is_data_named name) 0 objects ≡ Some k → is_declared name functions objects ≡ true
declared-data name functions objects k h = rw (any-at (is_data_named name) objects k h) (or-true (list_any (is_function_named name) functions))

-- -- what the first rows repeat, all of them do

split-names : {A : Type 0} (name_in : A → Option (List ℕ)) (rows : List A) (k : ℕ) → filter_map name_in rows ≡ filter_map name_in (take k rows) ++ filter_map name_in (drop k rows)
split-names name_in rows k = ap (filter_map name_in) (sym (take-append-drop k rows)) ∙ filter_map-append name_in (take k rows) (drop k rows)

pub repeat-functions : (functions : List FunctionRow) (objects : List DataRow) (k : ℕ) → has_repeat (names_of (take k functions) []) ≡ true → has_repeat (names_of functions objects) ≡ true
repeat-functions functions objects k h =
    let first = filter_map (λ (row : FunctionRow). row.name) (take k functions) in
    let others = filter_map (λ (row : FunctionRow). row.name) (drop k functions) in
    let last = filter_map (λ (row : DataRow). row.name) objects in
    ap (λ names. has_repeat (names ++ last)) (split-names (λ (row : FunctionRow). row.name) functions k) ∙ ap has_repeat (append_assoc first others last)
    ∙ repeat-more first (others ++ last) (ap has_repeat (sym (append-nil first)) ∙ h)

pub repeat-objects : (functions : List FunctionRow) (objects : List DataRow) (k : ℕ) → has_repeat (names_of functions (take k objects)) ≡ true → has_repeat (names_of functions objects) ≡ true
repeat-objects functions objects k h =
    let first = filter_map (λ (row : FunctionRow). row.name) functions in
    let some = filter_map (λ (row : DataRow). row.name) (take k objects) in
    let others = filter_map (λ (row : DataRow). row.name) (drop k objects) in
    ap (λ names. has_repeat (first ++ names)) (split-names (λ (row : DataRow). row.name) objects k) ∙ ap has_repeat (sym (append_assoc first some others)) ∙ repeat-more (first ++ some) others h
