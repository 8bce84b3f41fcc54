-- What a declaration leaves, by the number that it answers.
use Rattle.std.proofs.Common.{◌≡◌, ◌≢◌, ℕ, ◌+◌, ◌<◌, ◌++◌, ◌∷◌, List, [], Bool, true, false, ◌||◌, cond, length, Some, None, refl, ap, sym, ◌∙◌, arith, inl, inr}
use Rattle.std.proofs.lemmas.Bool.{cases_Bool}
use Rattle.std.proofs.lemmas.Bool.Decides.{eqb_tells}
use Rattle.std.proofs.lemmas.List.Elements.{All-cons, All-head, All-tail, All-nil}
use Rattle.std.proofs.lemmas.Slice.Eq.{bytes_eq-Decides}
use Rattle.std.specs.List.{All, list_any, position_from}
use Rattle.ir_core.specs.Signature.{SignatureData}
use Rattle.ir_core.specs.declared.target.BinaryFormat.{BinaryFormat}
use Rattle.cranelift_module.specs.declared.linkage.Linkage.{Linkage}
use Rattle.cranelift_module.specs.declared.identifiers.FuncOrDataId.{FuncOrDataId}
use Rattle.cranelift_module.specs.declared.identifiers.FuncOrDataId.TheVariants.{Func, Data}
use Rattle.cranelift_module.specs.Call.{declare_function, declare_data}
use Rattle.cranelift_module.specs.Rows.{FunctionRow, DataRow}
use Rattle.cranelift_module.specs.Declarations.{DeclarationLists}
use Rattle.cranelift_module.specs.LinkState.{LinkState, step, with_first, is_function_named, is_data_named, raised_function, raised_data}
use Rattle.cranelift_module.specs.Refusal.{zero_byte}
use Rattle.cranelift_object.specs.Opened.{OpenModule}
use Rattle.cranelift_object.specs.Kept.{IsModule, IsName, Marks, HasPlaceIn}
use Rattle.cranelift_object.proofs.KeptLaws.{kept_more, kept_raised, kept_more_data, kept_raised_data}
use Rattle.cranelift_object.proofs.PlaceInLaws.{placed_first}

-- -- lists whose first element that passes is changed, or that get a new one

first_new_from : {A : Type 0} (test : A → Bool) (change : A → A) (new x : A) (xs : List A) (b : Bool) → (list_any test xs ≡ false → with_first test change new xs ≡ xs ++ new ∷ []) → (b || list_any test xs) ≡ false
    → cond b (change x ∷ xs) (x ∷ with_first test change new xs) ≡ x ∷ (xs ++ new ∷ [])
first_new_from test change new x xs true more h = absurd (cc)
first_new_from test change new x xs false more h = ap (λ ys. x ∷ ys) (more h)

-- where none passes, the new one stands at the end
first_new : {A : Type 0} (test : A → Bool) (change : A → A) (new : A) (xs : List A) → list_any test xs ≡ false → with_first test change new xs ≡ xs ++ new ∷ []
first_new test change new [] h = refl
first_new test change new (x ∷ xs) h = first_new_from test change new x xs (test x) (first_new test change new xs) h

length_known_from : {A : Type 0} (test : A → Bool) (change : A → A) (new x : A) (xs : List A) (b : Bool) → (list_any test xs ≡ true → length (with_first test change new xs) ≡ length xs) → (b || list_any test xs) ≡ true
    → length (cond b (change x ∷ xs) (x ∷ with_first test change new xs)) ≡ length (x ∷ xs)
length_known_from test change new x xs true more h = refl
length_known_from test change new x xs false more h = let same : length (with_first test change new xs) ≡ length xs = more h in omega arith

-- where one passes, the list is as long
length_known : {A : Type 0} (test : A → Bool) (change : A → A) (new : A) (xs : List A) → list_any test xs ≡ true → length (with_first test change new xs) ≡ length xs
length_known test change new [] h = absurd (cc)
length_known test change new (x ∷ xs) h = length_known_from test change new x xs (test x) (length_known test change new xs) h

all_first_from : {A : Type 0} (P : A → Type 0) (test : A → Bool) (change : A → A) (new x : A) (xs : List A) (b : Bool) → ((y : A) → P y → P (change y)) → P x → All P xs → All P (with_first test change new xs) → All P (cond b (change x ∷ xs) (x ∷ with_first test change new xs))
all_first_from P test change new x xs true keeps here later more = All-cons P (change x) xs (keeps x here) later
all_first_from P test change new x xs false keeps here later more = All-cons P x (with_first test change new xs) here more

all_first : {A : Type 0} (P : A → Type 0) (test : A → Bool) (change : A → A) (new : A) (xs : List A) → ((y : A) → P y → P (change y)) → P new → All P xs → All P (with_first test change new xs)
all_first P test change new [] keeps here all = All-cons P new [] here (All-nil P)
all_first P test change new (x ∷ xs) keeps here all =
    all_first_from P test change new x xs (test x) keeps (All-head P x xs all) (All-tail P x xs all) (all_first P test change new xs keeps here (All-tail P x xs all))

-- -- the place of the element that was changed or added

found_known_from : {A : Type 0} (test : A → Bool) (change : A → A) (new x : A) (xs : List A) (i k : ℕ) (b : Bool) → test x ≡ b → test (change x) ≡ test x → (list_any test xs ≡ true → position_from test (i + 1) (with_first test change new xs) ≡ Some k → k < i + 1 + length xs)
    → (b || list_any test xs) ≡ true → position_from test i (cond b (change x ∷ xs) (x ∷ with_first test change new xs)) ≡ Some k → k < i + length (x ∷ xs)
found_known_from test change new x xs i k true e same more h at =
    let passes : test (change x) ≡ true = same ∙ e in
    let here : Some i ≡ Some k = sym (rw passes refl) ∙ at in
    let equal : i ≡ k = cc in
    omega arith
found_known_from test change new x xs i k false e same more h at =
    let later : position_from test (i + 1) (with_first test change new xs) ≡ Some k = sym (rw e refl) ∙ at in
    let below : k < i + 1 + length xs = more h later in
    omega arith

found_known : {A : Type 0} (test : A → Bool) (change : A → A) (new : A) (xs : List A) (i k : ℕ) → ((y : A) → test (change y) ≡ test y) → list_any test xs ≡ true → position_from test i (with_first test change new xs) ≡ Some k → k < i + length xs
found_known test change new [] i k same h at = absurd (cc)
found_known test change new (x ∷ xs) i k same h at = found_known_from test change new x xs i k (test x) refl (same x) (found_known test change new xs (i + 1) k same) h at

found_new_from : {A : Type 0} (test : A → Bool) (new x : A) (xs : List A) (i : ℕ) (b : Bool) → (list_any test xs ≡ false → position_from test (i + 1) (xs ++ new ∷ []) ≡ Some (i + 1 + length xs)) → (b || list_any test xs) ≡ false
    → cond b (Some i) (position_from test (i + 1) (xs ++ new ∷ [])) ≡ Some (i + length (x ∷ xs))
found_new_from test new x xs i true more h = absurd (cc)
found_new_from test new x xs i false more h = more h ∙ ap Some (omega arith)

found_new : {A : Type 0} (test : A → Bool) (new : A) (xs : List A) (i : ℕ) → test new ≡ true → list_any test xs ≡ false → position_from test i (xs ++ new ∷ []) ≡ Some (i + length xs)
found_new test new [] i passes h = rw passes (ap Some (omega arith))
found_new test new (x ∷ xs) i passes h = found_new_from test new x xs i (test x) (found_new test new xs (i + 1) passes) h

-- a number that is the number of rows is that of a new one
pub is_new_row : {A : Type 0} (test : A → Bool) (change : A → A) (new : A) (rows : List A) (k : ℕ) → ((y : A) → test (change y) ≡ test y) → position_from test 0 (with_first test change new rows) ≡ Some k → k ≡ length rows → list_any test rows ≡ false
is_new_row test change new rows k same at e =
    elim (cases_Bool (list_any test rows)) [
      | inl h ↦ absurd (let below : k < 0 + length rows = found_known test change new rows 0 k same h at in omega arith)
      | inr h ↦ h
    ]

-- and any other one that of a known one
pub is_known_row : {A : Type 0} (test : A → Bool) (change : A → A) (new : A) (rows : List A) (k : ℕ) → test new ≡ true → position_from test 0 (with_first test change new rows) ≡ Some k → k ≢ length rows → list_any test rows ≡ true
is_known_row test change new rows k own at n =
    elim (cases_Bool (list_any test rows)) [
      | inl h ↦ h
      | inr h ↦ absurd (let there : Some (0 + length rows) ≡ Some k = sym (found_new test new rows 0 own h) ∙ sym (ap (position_from test 0) (first_new test change new rows h)) ∙ at in
          let same : 0 + length rows ≡ k = cc in n (omega arith))
    ]

-- -- the rows of functions

abbrev declared_row : List ℕ → Linkage → SignatureData → FunctionRow
declared_row name linkage signature = record { name = Some name; linkage = linkage; signature = signature }

abbrev declared_rows : List FunctionRow → List ℕ → Linkage → SignatureData → List FunctionRow
declared_rows rows name linkage signature = with_first (is_function_named name) (raised_function linkage) (declared_row name linkage signature) rows

own_name : (name : List ℕ) (linkage : Linkage) (signature : SignatureData) → is_function_named name (declared_row name linkage signature) ≡ true
own_name name linkage signature = (bytes_eq-Decides name name).1 refl

-- -- the rows of data objects

abbrev declared_object : List ℕ → Linkage → Bool → Bool → DataRow
declared_object name linkage writable tls = record { name = Some name; linkage = linkage; writable = writable; tls = tls }

abbrev declared_objects : List DataRow → List ℕ → Linkage → Bool → Bool → List DataRow
declared_objects rows name linkage writable tls = with_first (is_data_named name) (raised_data linkage writable) (declared_object name linkage writable tls) rows

own_object_name : (name : List ℕ) (linkage : Linkage) (writable tls : Bool) → is_data_named name (declared_object name linkage writable tls) ≡ true
own_object_name name linkage writable tls = (bytes_eq-Decides name name).1 refl

-- -- a module after a declaration of a function

abbrev pub lists_after : OpenModule → List ℕ → Linkage → SignatureData → DeclarationLists
lists_after o name linkage signature = record { functions = declared_rows o.state.functions name linkage signature; objects = o.state.objects }

found_function : (s : LinkState) (lists : DeclarationLists) (name : List ℕ) (linkage : Linkage) (signature : SignatureData) (k : ℕ) → lists ≡ record { functions = declared_rows s.functions name linkage signature; objects = s.objects }
    → position_from (is_function_named name) 0 lists.functions ≡ Some k → position_from (is_function_named name) 0 (declared_rows s.functions name linkage signature) ≡ Some k
found_function s lists name linkage signature k e at = sym (ap (λ (l : DeclarationLists). position_from (is_function_named name) 0 l.functions) e) ∙ at

pub declare_new : (o : OpenModule) (marks : Marks) (noted : List Bool) (lists : DeclarationLists) (created : List FuncOrDataId) (name : List ℕ) (linkage : Linkage) (signature : SignatureData) (k : ℕ) → IsModule o marks → zero_byte name ≡ None → length o.state.functions < 4294967295
    → lists ≡ lists_after o name linkage signature → position_from (is_function_named name) 0 lists.functions ≡ Some k → k ≡ length marks.functions → created ≡ o.state.created ++ Func k ∷ [] → noted ≡ marks.functions ++ false ∷ []
    → IsModule (record { settings = o.settings; state = record { target = o.state.target; functions = lists.functions; objects = lists.objects; created = created; definitions = o.state.definitions } }) (record { functions = noted; objects = marks.objects })
declare_new o marks noted lists created name linkage signature k h free few e at last f g =
    let rows : List FunctionRow = o.state.functions in
    let end : k ≡ length rows = last ∙ h.marked in
    let row : FunctionRow = declared_row name linkage signature in
    let new = is_new_row (is_function_named name) (raised_function linkage) row rows k (λ y. refl) (found_function o.state lists name linkage signature k e at) end in
    let longer = first_new (is_function_named name) (raised_function linkage) row rows new in
    kept_more o marks noted row lists created k h free few (e ∙ ap (λ (rs : List FunctionRow). record { functions = rs; objects = o.state.objects }) longer) end f g

pub declare_known : (o : OpenModule) (marks : Marks) (lists : DeclarationLists) (name : List ℕ) (linkage : Linkage) (signature : SignatureData) (k : ℕ) → IsModule o marks → zero_byte name ≡ None → lists ≡ lists_after o name linkage signature
    → position_from (is_function_named name) 0 lists.functions ≡ Some k → k ≢ length marks.functions
    → IsModule (record { settings = o.settings; state = record { target = o.state.target; functions = lists.functions; objects = lists.objects; created = o.state.created; definitions = o.state.definitions } }) marks
declare_known o marks lists name linkage signature k h free e at other =
    let rows : List FunctionRow = o.state.functions in
    let row : FunctionRow = declared_row name linkage signature in
    let known = is_known_row (is_function_named name) (raised_function linkage) row rows k (own_name name linkage signature) (found_function o.state lists name linkage signature k e at) (λ q. other (q ∙ sym h.marked)) in
    let same = ap (λ (l : DeclarationLists). length l.functions) e ∙ length_known (is_function_named name) (raised_function linkage) row rows known in
    let names = all_first (λ (r : FunctionRow). IsName r.name) (is_function_named name) (raised_function linkage) row rows (λ y p. p) free h.names in
    kept_raised o marks lists h same (rw e names) (ap (λ (l : DeclarationLists). l.objects) e)

-- a module after a declaration that noted its function where it is new
pub declare_noted : (o : OpenModule) (marks : Marks) (noted : List Bool) (lists : DeclarationLists) (created : List FuncOrDataId) (name : List ℕ) (linkage : Linkage) (signature : SignatureData) (k : ℕ) → IsModule o marks → zero_byte name ≡ None → length o.state.functions < 4294967295
    → lists ≡ lists_after o name linkage signature → position_from (is_function_named name) 0 lists.functions ≡ Some k → (k ≡ length marks.functions → (created ≡ o.state.created ++ Func k ∷ []) × (noted ≡ marks.functions ++ false ∷ []))
    → (k ≢ length marks.functions → (created ≡ o.state.created) × (noted ≡ marks.functions))
    → IsModule (record { settings = o.settings; state = record { target = o.state.target; functions = lists.functions; objects = lists.objects; created = created; definitions = o.state.definitions } }) (record { functions = noted; objects = marks.objects })
declare_noted o marks noted lists created name linkage signature k h free few e at new known =
    elim (eqb_tells k (length marks.functions)) [
      | inl q ↦ declare_new o marks noted lists created name linkage signature k h free few e at q.1 (new q.1).0 (new q.1).1
      | inr q ↦ rw ((known q.1).0, (known q.1).1) (declare_known o marks lists name linkage signature k h free e at q.1)
    ]

-- -- a module after a declaration of a data object

abbrev pub lists_after_data : OpenModule → List ℕ → Linkage → Bool → Bool → DeclarationLists
lists_after_data o name linkage writable tls = record { functions = o.state.functions; objects = declared_objects o.state.objects name linkage writable tls }

found_object : (s : LinkState) (lists : DeclarationLists) (name : List ℕ) (linkage : Linkage) (writable tls : Bool) (k : ℕ) → lists ≡ record { functions = s.functions; objects = declared_objects s.objects name linkage writable tls }
    → position_from (is_data_named name) 0 lists.objects ≡ Some k → position_from (is_data_named name) 0 (declared_objects s.objects name linkage writable tls) ≡ Some k
found_object s lists name linkage writable tls k e at = sym (ap (λ (l : DeclarationLists). position_from (is_data_named name) 0 l.objects) e) ∙ at

declare_new_data : (o : OpenModule) (marks : Marks) (noted : List Bool) (lists : DeclarationLists) (created : List FuncOrDataId) (name : List ℕ) (linkage : Linkage) (writable tls : Bool) (k : ℕ) → IsModule o marks → zero_byte name ≡ None → length o.state.objects < 4294967295
    → lists ≡ lists_after_data o name linkage writable tls → position_from (is_data_named name) 0 lists.objects ≡ Some k → k ≡ length marks.objects → created ≡ o.state.created ++ Data k ∷ [] → noted ≡ marks.objects ++ false ∷ []
    → IsModule (record { settings = o.settings; state = record { target = o.state.target; functions = lists.functions; objects = lists.objects; created = created; definitions = o.state.definitions } }) (record { functions = marks.functions; objects = noted })
declare_new_data o marks noted lists created name linkage writable tls k h free few e at last f g =
    let rows : List DataRow = o.state.objects in
    let end : k ≡ length rows = last ∙ h.marked_objects in
    let row : DataRow = declared_object name linkage writable tls in
    let new = is_new_row (is_data_named name) (raised_data linkage writable) row rows k (λ y. refl) (found_object o.state lists name linkage writable tls k e at) end in
    let longer = first_new (is_data_named name) (raised_data linkage writable) row rows new in
    kept_more_data o marks noted row lists created k h free few (e ∙ ap (λ (rs : List DataRow). record { functions = o.state.functions; objects = rs }) longer) end f g

declare_known_data : (o : OpenModule) (marks : Marks) (lists : DeclarationLists) (name : List ℕ) (linkage : Linkage) (writable tls : Bool) (k : ℕ) → IsModule o marks → zero_byte name ≡ None → lists ≡ lists_after_data o name linkage writable tls
    → position_from (is_data_named name) 0 lists.objects ≡ Some k → k ≢ length marks.objects
    → IsModule (record { settings = o.settings; state = record { target = o.state.target; functions = lists.functions; objects = lists.objects; created = o.state.created; definitions = o.state.definitions } }) marks
declare_known_data o marks lists name linkage writable tls k h free e at other =
    let rows : List DataRow = o.state.objects in
    let row : DataRow = declared_object name linkage writable tls in
    let known = is_known_row (is_data_named name) (raised_data linkage writable) row rows k (own_object_name name linkage writable tls) (found_object o.state lists name linkage writable tls k e at) (λ q. other (q ∙ sym h.marked_objects)) in
    let same = ap (λ (l : DeclarationLists). length l.objects) e ∙ length_known (is_data_named name) (raised_data linkage writable) row rows known in
    let names = all_first (λ (r : DataRow). IsName r.name) (is_data_named name) (raised_data linkage writable) row rows (λ y p. p) free h.object_names in
    let format : BinaryFormat = o.state.target.triple.binary_format in
    let places : (id : FuncOrDataId) → HasPlaceIn format rows id → HasPlaceIn format lists.objects id = λ id p.
    rw e (placed_first format (is_data_named name) (raised_data linkage writable) row rows id (λ y. refl) p) in
    kept_raised_data o marks lists h same (rw e names) places (ap (λ (l : DeclarationLists). l.functions) e)

-- a module after a declaration that noted its data object where it is new
pub declare_noted_data : (o : OpenModule) (marks : Marks) (noted : List Bool) (lists : DeclarationLists) (created : List FuncOrDataId) (name : List ℕ) (linkage : Linkage) (writable tls : Bool) (k : ℕ) → IsModule o marks → zero_byte name ≡ None → length o.state.objects < 4294967295
    → lists ≡ lists_after_data o name linkage writable tls → position_from (is_data_named name) 0 lists.objects ≡ Some k → (k ≡ length marks.objects → (created ≡ o.state.created ++ Data k ∷ []) × (noted ≡ marks.objects ++ false ∷ []))
    → (k ≢ length marks.objects → (created ≡ o.state.created) × (noted ≡ marks.objects))
    → IsModule (record { settings = o.settings; state = record { target = o.state.target; functions = lists.functions; objects = lists.objects; created = created; definitions = o.state.definitions } }) (record { functions = marks.functions; objects = noted })
declare_noted_data o marks noted lists created name linkage writable tls k h free few e at new known =
    elim (eqb_tells k (length marks.objects)) [
      | inl q ↦ declare_new_data o marks noted lists created name linkage writable tls k h free few e at q.1 (new q.1).0 (new q.1).1
      | inr q ↦ rw ((known q.1).0, (known q.1).1) (declare_known_data o marks lists name linkage writable tls k h free e at q.1)
    ]

-- -- the step of a declaration

step_new : (s : LinkState) (lists : DeclarationLists) (created : List FuncOrDataId) (name : List ℕ) (linkage : Linkage) (signature : SignatureData) (k : ℕ) → lists ≡ record { functions = declared_rows s.functions name linkage signature; objects = s.objects }
    → position_from (is_function_named name) 0 lists.functions ≡ Some k → k ≡ length s.functions → created ≡ s.created ++ Func k ∷ []
    → record { target = s.target; functions = lists.functions; objects = lists.objects; created = created; definitions = s.definitions } ≡ step s (declare_function name linkage signature)
unfolding step
step_new s lists created name linkage signature k e at end f =
    let new = is_new_row (is_function_named name) (raised_function linkage) (declared_row name linkage signature) s.functions k (λ y. refl) (found_function s lists name linkage signature k e at) end in
    rw (new, e, f, end) refl

step_known : (s : LinkState) (lists : DeclarationLists) (name : List ℕ) (linkage : Linkage) (signature : SignatureData) (k : ℕ) → lists ≡ record { functions = declared_rows s.functions name linkage signature; objects = s.objects }
    → position_from (is_function_named name) 0 lists.functions ≡ Some k → k ≢ length s.functions
    → record { target = s.target; functions = lists.functions; objects = lists.objects; created = s.created; definitions = s.definitions } ≡ step s (declare_function name linkage signature)
unfolding step
step_known s lists name linkage signature k e at other =
    let known = is_known_row (is_function_named name) (raised_function linkage) (declared_row name linkage signature) s.functions k (own_name name linkage signature) (found_function s lists name linkage signature k e at) other in
    rw (known, e) refl

pub step_noted : (o : OpenModule) (marks noted : List Bool) (s : LinkState) (lists : DeclarationLists) (created : List FuncOrDataId) (name : List ℕ) (linkage : Linkage) (signature : SignatureData) (k : ℕ) → o.state ≡ s → length marks ≡ length o.state.functions
    → lists ≡ lists_after o name linkage signature → position_from (is_function_named name) 0 lists.functions ≡ Some k → (k ≡ length marks → (created ≡ o.state.created ++ Func k ∷ []) × (noted ≡ marks ++ false ∷ []))
    → (k ≢ length marks → (created ≡ o.state.created) × (noted ≡ marks))
    → record { target = o.state.target; functions = lists.functions; objects = lists.objects; created = created; definitions = o.state.definitions } ≡ step s (declare_function name linkage signature)
step_noted o marks noted s lists created name linkage signature k same marked e at new known =
    elim (eqb_tells k (length marks)) [
      | inl q ↦ step_new o.state lists created name linkage signature k e at (q.1 ∙ marked) (new q.1).0 ∙ ap (λ (t : LinkState). step t (declare_function name linkage signature)) same
      | inr q ↦ rw ((known q.1).0) (step_known o.state lists name linkage signature k e at (λ r. q.1 (r ∙ sym marked)) ∙ ap (λ (t : LinkState). step t (declare_function name linkage signature)) same)
    ]

step_new_data : (s : LinkState) (lists : DeclarationLists) (created : List FuncOrDataId) (name : List ℕ) (linkage : Linkage) (writable tls : Bool) (k : ℕ) → lists ≡ record { functions = s.functions; objects = declared_objects s.objects name linkage writable tls }
    → position_from (is_data_named name) 0 lists.objects ≡ Some k → k ≡ length s.objects → created ≡ s.created ++ Data k ∷ []
    → record { target = s.target; functions = lists.functions; objects = lists.objects; created = created; definitions = s.definitions } ≡ step s (declare_data name linkage writable tls)
unfolding step
step_new_data s lists created name linkage writable tls k e at end f =
    let new = is_new_row (is_data_named name) (raised_data linkage writable) (declared_object name linkage writable tls) s.objects k (λ y. refl) (found_object s lists name linkage writable tls k e at) end in
    rw (new, e, f, end) refl

step_known_data : (s : LinkState) (lists : DeclarationLists) (name : List ℕ) (linkage : Linkage) (writable tls : Bool) (k : ℕ) → lists ≡ record { functions = s.functions; objects = declared_objects s.objects name linkage writable tls }
    → position_from (is_data_named name) 0 lists.objects ≡ Some k → k ≢ length s.objects
    → record { target = s.target; functions = lists.functions; objects = lists.objects; created = s.created; definitions = s.definitions } ≡ step s (declare_data name linkage writable tls)
unfolding step
step_known_data s lists name linkage writable tls k e at other =
    let known = is_known_row (is_data_named name) (raised_data linkage writable) (declared_object name linkage writable tls) s.objects k (own_object_name name linkage writable tls) (found_object s lists name linkage writable tls k e at) other in
    rw (known, e) refl

pub step_noted_data : (o : OpenModule) (marks noted : List Bool) (s : LinkState) (lists : DeclarationLists) (created : List FuncOrDataId) (name : List ℕ) (linkage : Linkage) (writable tls : Bool) (k : ℕ) → o.state ≡ s → length marks ≡ length o.state.objects
    → lists ≡ lists_after_data o name linkage writable tls → position_from (is_data_named name) 0 lists.objects ≡ Some k → (k ≡ length marks → (created ≡ o.state.created ++ Data k ∷ []) × (noted ≡ marks ++ false ∷ []))
    → (k ≢ length marks → (created ≡ o.state.created) × (noted ≡ marks))
    → record { target = o.state.target; functions = lists.functions; objects = lists.objects; created = created; definitions = o.state.definitions } ≡ step s (declare_data name linkage writable tls)
step_noted_data o marks noted s lists created name linkage writable tls k same marked e at new known =
    elim (eqb_tells k (length marks)) [
      | inl q ↦ step_new_data o.state lists created name linkage writable tls k e at (q.1 ∙ marked) (new q.1).0 ∙ ap (λ (t : LinkState). step t (declare_data name linkage writable tls)) same
      | inr q ↦ rw ((known q.1).0) (step_known_data o.state lists name linkage writable tls k e at (λ r. q.1 (r ∙ sym marked)) ∙ ap (λ (t : LinkState). step t (declare_data name linkage writable tls)) same)
    ]
