-- What stays true of a module.
use Rattle.std.proofs.Common.{◌≡◌, ℕ, zero, suc, ◌+◌, ◌||◌, ◌==◌, ◌<◌, ◌≤◌, ◌++◌, ◌∷◌, List, [], Bool, true, false, length, get_or, set, refl, ap, sym, ◌∙◌, subst, arith, length-append, length-set, inl, inr, get_or-set_same, get_or-set_other}
use Rattle.std.proofs.lemmas.Bool.Decides.{eqb_tells}
use Rattle.std.proofs.lemmas.List.Elements.{All-nil, All-push, All-weaker}
use Rattle.std.proofs.lemmas.List.Folds.{list_any-append}
use Rattle.std.specs.List.{All, list_any}
use Rattle.ir_core.specs.Moments.{moments}
use Rattle.ir_core.specs.Target.{Target}
use Rattle.ir_core.specs.declared.target.BinaryFormat.{BinaryFormat}
use Rattle.ir_core.proofs.MomentLaws.{moments-end}
use Rattle.cranelift_module.specs.declared.identifiers.FuncOrDataId.{FuncOrDataId}
use Rattle.cranelift_module.specs.declared.identifiers.FuncOrDataId.TheVariants.{Func, Data}
use Rattle.cranelift_module.specs.Rows.{FunctionRow, DataRow, functions_of, objects_of, creation}
use Rattle.cranelift_module.specs.Definitions.{Definition, definitions_of}
use Rattle.cranelift_module.specs.Declarations.{DeclarationLists}
use Rattle.cranelift_module.specs.LinkState.{LinkState, state_of}
use Rattle.cranelift_module.specs.Refusal.{is_same_identifier}
use Rattle.cranelift_object.specs.Settings.{Settings}
use Rattle.cranelift_object.specs.Opened.{OpenModule}
use Rattle.cranelift_object.specs.Kept.{IsBegun, IsDeclared, IsBody, IsFirst, IsName, IsModule, Marks, HasPlaceIn}
use Rattle.cranelift_object.proofs.CreationLaws.{numbered-function, numbered-data}
use Rattle.cranelift_object.proofs.PlaceInLaws.{function_placed, placed_more}

-- a state without calls
abbrev pub no_calls : Target → LinkState
no_calls target = record { target = target; functions = []; objects = []; created = []; definitions = [] }

pub state_of_none : (target : Target) → no_calls target ≡ state_of target []
unfolding state_of functions_of objects_of creation definitions_of moments
state_of_none target = refl

pub kept_none : (settings : Settings) (target : Target) → IsBegun (record { settings = settings; target = target }) → IsModule (record { settings = settings; state = no_calls target }) (record { functions = []; objects = [] })
unfolding moments
kept_none settings target h =
    record {
      begun = h;
      names = All-nil (λ (row : FunctionRow). IsName row.name);
      object_names = All-nil (λ (row : DataRow). IsName row.name);
      few = omega arith;
      few_objects = omega arith;
      order = (refl, refl);
      bodies = All-nil (IsBody target 0 0);
      placed = All-nil (λ (d : Definition). HasPlaceIn target.triple.binary_format [] d.identifier);
      apart = All-nil IsFirst;
      marked = refl;
      marking = λ k. refl;
      marked_objects = refl;
      marking_objects = λ k. refl;
    }

-- -- one more function or data object

abbrev pub with_function : OpenModule → FunctionRow → OpenModule
with_function o row = record o { state = record o.state { functions = o.state.functions ++ row ∷ []; created = o.state.created ++ Func (length o.state.functions) ∷ [] } }

abbrev pub with_data : OpenModule → DataRow → OpenModule
with_data o row = record o { state = record o.state { objects = o.state.objects ++ row ∷ []; created = o.state.created ++ Data (length o.state.objects) ∷ [] } }

false_past : (marks : List Bool) (k : ℕ) → get_or (marks ++ false ∷ []) k false ≡ get_or marks k false
false_past [] zero = refl
false_past [] (suc k) = refl
false_past (m ∷ marks) zero = refl
false_past (m ∷ marks) (suc k) = false_past marks k

declared-more : (functions objects more_functions more_objects : ℕ) (id : FuncOrDataId) → functions ≤ more_functions → objects ≤ more_objects → IsDeclared functions objects id → IsDeclared more_functions more_objects id
declared-more functions objects more_functions more_objects (Func k) f d h = let below : k < functions = h in omega arith
declared-more functions objects more_functions more_objects (Data k) f d h = let below : k < objects = h in omega arith

-- it stays one where more is declared
pub IsBody-more : (target : Target) (functions objects more_functions more_objects : ℕ) (d : Definition) → functions ≤ more_functions → objects ≤ more_objects → IsBody target functions objects d → IsBody target more_functions more_objects d
IsBody-more target functions objects more_functions more_objects d f e b =
    record {
      declared = declared-more functions objects more_functions more_objects d.identifier f e b.declared;
      sized = b.sized;
      aligned = b.aligned;
      judged = b.judged;
      text = b.text;
      section = b.section;
      plain = b.plain;
    }

bodies-more : (target : Target) (functions objects more_functions more_objects : ℕ) (ds : List Definition) → functions ≤ more_functions → objects ≤ more_objects → All (IsBody target functions objects) ds → All (IsBody target more_functions more_objects) ds
bodies-more target functions objects more_functions more_objects ds f e all =
    All-weaker (IsBody target functions objects) (IsBody target more_functions more_objects) (λ d b. IsBody-more target functions objects more_functions more_objects d f e b) ds all

pub kept_declared : (o : OpenModule) (marks : Marks) (row : FunctionRow) → IsModule o marks → IsName row.name → length o.state.functions < 4294967295 → IsModule (with_function o row) (record marks { functions = marks.functions ++ false ∷ [] })
kept_declared o marks row h name few =
    let n : ℕ = length o.state.functions in
    let longer : length (o.state.functions ++ row ∷ []) ≡ n + 1 = length-append o.state.functions (row ∷ []) in
    let more : n ≤ length (o.state.functions ++ row ∷ []) = omega arith in
    record {
      begun = h.begun;
      names = All-push (λ (r : FunctionRow). IsName r.name) o.state.functions row h.names name;
      object_names = h.object_names;
      few = omega arith;
      few_objects = h.few_objects;
      order = rw longer (numbered-function 0 0 n (length o.state.objects) o.state.created h.order);
      bodies = bodies-more o.state.target n (length o.state.objects) (length (o.state.functions ++ row ∷ [])) (length o.state.objects) o.state.definitions more (omega arith) h.bodies;
      placed = h.placed;
      apart = h.apart;
      marked = length-append marks.functions (false ∷ []) ∙ ap (λ count. count + 1) h.marked ∙ sym longer;
      marking = λ k. false_past marks.functions k ∙ h.marking k;
      marked_objects = h.marked_objects;
      marking_objects = h.marking_objects;
    }

pub kept_data : (o : OpenModule) (marks : Marks) (row : DataRow) → IsModule o marks → IsName row.name → length o.state.objects < 4294967295 → IsModule (with_data o row) (record marks { objects = marks.objects ++ false ∷ [] })
kept_data o marks row h name few =
    let format : BinaryFormat = o.state.target.triple.binary_format in
    let n : ℕ = length o.state.objects in
    let longer : length (o.state.objects ++ row ∷ []) ≡ n + 1 = length-append o.state.objects (row ∷ []) in
    let more : n ≤ length (o.state.objects ++ row ∷ []) = omega arith in
    record {
      begun = h.begun;
      names = h.names;
      object_names = All-push (λ (r : DataRow). IsName r.name) o.state.objects row h.object_names name;
      few = h.few;
      few_objects = omega arith;
      order = rw longer (numbered-data 0 0 (length o.state.functions) n o.state.created h.order);
      bodies = bodies-more o.state.target (length o.state.functions) n (length o.state.functions) (length (o.state.objects ++ row ∷ [])) o.state.definitions (omega arith) more h.bodies;
      placed = All-weaker (λ (d : Definition). HasPlaceIn format o.state.objects d.identifier) (λ (d : Definition). HasPlaceIn format (o.state.objects ++ row ∷ []) d.identifier) (λ d p. placed_more format o.state.objects row d.identifier p) o.state.definitions h.placed;
      apart = h.apart;
      marked = h.marked;
      marking = h.marking;
      marked_objects = length-append marks.objects (false ∷ []) ∙ ap (λ count. count + 1) h.marked_objects ∙ sym longer;
      marking_objects = λ k. false_past marks.objects k ∙ h.marking_objects k;
    }

-- a module with one more function
pub kept_more : (o : OpenModule) (marks : Marks) (noted : List Bool) (row : FunctionRow) (lists : DeclarationLists) (created : List FuncOrDataId) (id : ℕ) → IsModule o marks → IsName row.name → length o.state.functions < 4294967295
    → lists ≡ record { functions = o.state.functions ++ row ∷ []; objects = o.state.objects } → id ≡ length o.state.functions → created ≡ o.state.created ++ Func id ∷ [] → noted ≡ marks.functions ++ false ∷ []
    → IsModule (record { settings = o.settings; state = record { target = o.state.target; functions = lists.functions; objects = lists.objects; created = created; definitions = o.state.definitions } }) (record { functions = noted; objects = marks.objects })
kept_more o marks noted row lists created id h name few e f g k = rw (e, g, k, f) (kept_declared o marks row h name few)

-- a module with one more data object
pub kept_more_data : (o : OpenModule) (marks : Marks) (noted : List Bool) (row : DataRow) (lists : DeclarationLists) (created : List FuncOrDataId) (id : ℕ) → IsModule o marks → IsName row.name → length o.state.objects < 4294967295
    → lists ≡ record { functions = o.state.functions; objects = o.state.objects ++ row ∷ [] } → id ≡ length o.state.objects → created ≡ o.state.created ++ Data id ∷ [] → noted ≡ marks.objects ++ false ∷ []
    → IsModule (record { settings = o.settings; state = record { target = o.state.target; functions = lists.functions; objects = lists.objects; created = created; definitions = o.state.definitions } }) (record { functions = marks.functions; objects = noted })
kept_more_data o marks noted row lists created id h name few e f g k = rw (e, g, k, f) (kept_data o marks row h name few)

-- -- functions and data objects that are declared again

-- a module with functions of the same names
pub kept_raised : (o : OpenModule) (marks : Marks) (lists : DeclarationLists) → IsModule o marks → length lists.functions ≡ length o.state.functions → All (λ (row : FunctionRow). IsName row.name) lists.functions → lists.objects ≡ o.state.objects
    → IsModule (record { settings = o.settings; state = record { target = o.state.target; functions = lists.functions; objects = lists.objects; created = o.state.created; definitions = o.state.definitions } }) marks
kept_raised o marks lists h same names objects =
    record {
      begun = h.begun;
      names = names;
      object_names = rw objects h.object_names;
      few = rw same h.few;
      few_objects = rw objects h.few_objects;
      order = rw (same, objects) h.order;
      bodies = rw (same, objects) h.bodies;
      placed = rw objects h.placed;
      apart = h.apart;
      marked = h.marked ∙ sym same;
      marking = h.marking;
      marked_objects = rw objects h.marked_objects;
      marking_objects = h.marking_objects;
    }

-- a module with data objects of the same names
pub kept_raised_data : (o : OpenModule) (marks : Marks) (lists : DeclarationLists) → IsModule o marks → length lists.objects ≡ length o.state.objects → All (λ (row : DataRow). IsName row.name) lists.objects → ((id : FuncOrDataId) → HasPlaceIn o.state.target.triple.binary_format o.state.objects id → HasPlaceIn o.state.target.triple.binary_format lists.objects id) → lists.functions ≡ o.state.functions
    → IsModule (record { settings = o.settings; state = record { target = o.state.target; functions = lists.functions; objects = lists.objects; created = o.state.created; definitions = o.state.definitions } }) marks
kept_raised_data o marks lists h same names places functions =
    let format : BinaryFormat = o.state.target.triple.binary_format in
    record {
      begun = h.begun;
      names = rw functions h.names;
      object_names = names;
      few = rw functions h.few;
      few_objects = rw same h.few_objects;
      order = rw (same, functions) h.order;
      bodies = rw (functions, same) h.bodies;
      placed = All-weaker (λ (d : Definition). HasPlaceIn format o.state.objects d.identifier) (λ (d : Definition). HasPlaceIn format lists.objects d.identifier) (λ d p. places d.identifier p) o.state.definitions h.placed;
      apart = h.apart;
      marked = rw functions h.marked;
      marking = h.marking;
      marked_objects = h.marked_objects ∙ sym same;
      marking_objects = h.marking_objects;
    }

-- -- one more definition

abbrev pub with_definition : OpenModule → Definition → OpenModule
with_definition o d = record o { state = record o.state { definitions = o.state.definitions ++ d ∷ [] } }

or_true : (b : Bool) → (b || true) ≡ true
or_true true = refl
or_true false = refl

or_false : (b : Bool) → (b || false) ≡ b
or_false true = refl
or_false false = refl

marking_more : (marks : List Bool) (ds : List Definition) (d : Definition) (id : ℕ → FuncOrDataId) (k j : ℕ) → k < length marks → ((i : ℕ) → is_same_identifier (id i) d.identifier ≡ (i == k)) → ((i : ℕ) → get_or marks i false ≡ list_any (λ (x : Definition). is_same_identifier (id i) x.identifier) ds)
    → get_or (set marks k true) j false ≡ list_any (λ (x : Definition). is_same_identifier (id j) x.identifier) (ds ++ d ∷ [])
marking_more marks ds d id k j below here marking =
    elim (eqb_tells j k) [
      | inl e ↦ rw (list_any-append, here j, e.0, or_true (list_any (λ (x : Definition). is_same_identifier (id j) x.identifier) ds), e.1) (get_or-set_same marks k true false below)
      | inr e ↦ rw (list_any-append, here j, e.0, or_false (list_any (λ (x : Definition). is_same_identifier (id j) x.identifier) ds), ← marking j) (get_or-set_other marks k j true false e.1)
    ]

marking_past : (marks : List Bool) (ds : List Definition) (d : Definition) (id : ℕ → FuncOrDataId) (j : ℕ) → is_same_identifier (id j) d.identifier ≡ false → ((i : ℕ) → get_or marks i false ≡ list_any (λ (x : Definition). is_same_identifier (id i) x.identifier) ds)
    → get_or marks j false ≡ list_any (λ (x : Definition). is_same_identifier (id j) x.identifier) (ds ++ d ∷ [])
marking_past marks ds d id j apart marking = marking j ∙ sym (rw (list_any-append, apart) (or_false (list_any (λ (x : Definition). is_same_identifier (id j) x.identifier) ds)))

-- a module with one more definition of a function
pub kept_defined : (o : OpenModule) (marks : Marks) (d : Definition) (k : ℕ) → IsModule o marks → d.identifier ≡ Func k → IsBody o.state.target (length o.state.functions) (length o.state.objects) d → k < length o.state.functions → get_or marks.functions k false ≡ false
    → IsModule (with_definition o d) (record marks { functions = set marks.functions k true })
kept_defined o marks d k h e body below free =
    let in' : k < length marks.functions = rw h.marked below in
    let bodies : Definition → Type 0 = IsBody o.state.target (length o.state.functions) (length o.state.objects) in
    let places : Definition → Type 0 = λ x. HasPlaceIn o.state.target.triple.binary_format o.state.objects x.identifier in
    let first : list_any (λ (x : Definition). is_same_identifier d.identifier x.identifier) o.state.definitions ≡ false = rw e (sym (h.marking k) ∙ free) in
    record {
      begun = h.begun;
      names = h.names;
      object_names = h.object_names;
      few = h.few;
      few_objects = h.few_objects;
      order = h.order;
      bodies = All-push bodies o.state.definitions d h.bodies body;
      placed = All-push places o.state.definitions d h.placed (subst (HasPlaceIn o.state.target.triple.binary_format o.state.objects) (sym e) (function_placed o.state.target.triple.binary_format o.state.objects k));
      apart = rw (moments-end o.state.definitions d) (All-push IsFirst (moments o.state.definitions) (record { before = o.state.definitions; here = d }) h.apart first);
      marked = length-set marks.functions k true ∙ h.marked;
      marking = λ j. marking_more marks.functions o.state.definitions d Func k j in' (λ i. ap (is_same_identifier (Func i)) e) h.marking;
      marked_objects = h.marked_objects;
      marking_objects = λ j. marking_past marks.objects o.state.definitions d Data j (ap (is_same_identifier (Data j)) e) h.marking_objects;
    }

-- a module with one more definition of a data object
pub kept_defined_data : (o : OpenModule) (marks : Marks) (d : Definition) (k : ℕ) → IsModule o marks → d.identifier ≡ Data k → HasPlaceIn o.state.target.triple.binary_format o.state.objects (Data k) → IsBody o.state.target (length o.state.functions) (length o.state.objects) d → k < length o.state.objects → get_or marks.objects k false ≡ false
    → IsModule (with_definition o d) (record marks { objects = set marks.objects k true })
kept_defined_data o marks d k h e place body below free =
    let in' : k < length marks.objects = rw h.marked_objects below in
    let bodies : Definition → Type 0 = IsBody o.state.target (length o.state.functions) (length o.state.objects) in
    let places : Definition → Type 0 = λ x. HasPlaceIn o.state.target.triple.binary_format o.state.objects x.identifier in
    let first : list_any (λ (x : Definition). is_same_identifier d.identifier x.identifier) o.state.definitions ≡ false = rw e (sym (h.marking_objects k) ∙ free) in
    record {
      begun = h.begun;
      names = h.names;
      object_names = h.object_names;
      few = h.few;
      few_objects = h.few_objects;
      order = h.order;
      bodies = All-push bodies o.state.definitions d h.bodies body;
      placed = All-push places o.state.definitions d h.placed (subst (HasPlaceIn o.state.target.triple.binary_format o.state.objects) (sym e) place);
      apart = rw (moments-end o.state.definitions d) (All-push IsFirst (moments o.state.definitions) (record { before = o.state.definitions; here = d }) h.apart first);
      marked = h.marked;
      marking = λ j. marking_past marks.functions o.state.definitions d Func j (ap (is_same_identifier (Func j)) e) h.marking;
      marked_objects = length-set marks.objects k true ∙ h.marked_objects;
      marking_objects = λ j. marking_more marks.objects o.state.definitions d Data k j in' (λ i. ap (is_same_identifier (Data i)) e) h.marking_objects;
    }

-- the same with the lists in hand
pub kept_body : (o : OpenModule) (marks : Marks) (d : Definition) (definitions : List Definition) (k i : ℕ) → IsModule o marks → d.identifier ≡ Func k → IsBody o.state.target (length o.state.functions) (length o.state.objects) d → k < length o.state.functions → get_or marks.functions k false ≡ false
    → definitions ≡ o.state.definitions ++ d ∷ [] → i ≡ k
    → IsModule (record { settings = o.settings; state = record { target = o.state.target; functions = o.state.functions; objects = o.state.objects; created = o.state.created; definitions = definitions } }) (record { functions = set marks.functions i true; objects = marks.objects })
kept_body o marks d definitions k i h e body below free f g = rw (f, g) (kept_defined o marks d k h e body below free)

pub kept_body_data : (o : OpenModule) (marks : Marks) (d : Definition) (definitions : List Definition) (k i : ℕ) → IsModule o marks → d.identifier ≡ Data k → HasPlaceIn o.state.target.triple.binary_format o.state.objects (Data k) → IsBody o.state.target (length o.state.functions) (length o.state.objects) d → k < length o.state.objects → get_or marks.objects k false ≡ false
    → definitions ≡ o.state.definitions ++ d ∷ [] → i ≡ k
    → IsModule (record { settings = o.settings; state = record { target = o.state.target; functions = o.state.functions; objects = o.state.objects; created = o.state.created; definitions = definitions } }) (record { functions = marks.functions; objects = set marks.objects i true })
kept_body_data o marks d definitions k i h e place body below free f g = rw (f, g) (kept_defined_data o marks d k h e place body below free)
