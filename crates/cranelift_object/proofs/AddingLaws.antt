-- The symbols that relocations add, one after the other.
use Rattle.std.proofs.Common.{◌≡◌, ℕ, zero, suc, ◌+◌, ◌<◌, ◌≤◌, ◌++◌, ◌∷◌, List, [], length, map, take, get_or, Some, ap, sym, ◌∙◌, subst, arith, append_assoc}
use Rattle.std.specs.Prelude.{slice_get, option_map}
use Rattle.std.proofs.lemmas.List.{append-nil, map-append, take_more, take_all}
use Rattle.std.proofs.lemmas.List.Elements.{All-get_or}
use Rattle.std.specs.List.{All}
use Rattle.std.proofs.lemmas.Option.{slice_get-map}
use Rattle.object_core.specs.Object.{SymbolData, ObjectData}
use Rattle.object_core.specs.Appending.{file_symbol, with_symbol}
use Rattle.cranelift_module.specs.declared.identifiers.FuncOrDataId.{FuncOrDataId}
use Rattle.cranelift_module.specs.declared.identifiers.FuncOrDataId.TheVariants.{Func, Data}
use Rattle.cranelift_module.specs.LinkState.{LinkState}
use Rattle.cranelift_object.specs.Settings.{Settings}
use Rattle.cranelift_object.specs.Opened.{OpenModule}
use Rattle.cranelift_object.specs.Kept.{IsModule, IsNumbered, IsDeclared, Marks}
use Rattle.cranelift_object.specs.Product.{symbol_number}
use Rattle.cranelift_object.specs.Placing.{Placed, placed}
use Rattle.cranelift_object.specs.Partial.{partial, placed_of}
use Rattle.cranelift_object.specs.Linked.{identifier_symbol, extra_symbol, object_of}
use Rattle.cranelift_object.specs.Extras.{extra_target, AreExtras}
use Rattle.cranelift_object.specs.Adding.{HasIdentifiers, IsOfFunction, with_added}
use Rattle.cranelift_object.specs.declared.extras.Extra.{Extra}
use Rattle.cranelift_object.specs.declared.extras.Extra.TheVariants.{Library, Known, Label}
use Rattle.cranelift_object.proofs.ObjectLaws.{partial_whole}
use Rattle.cranelift_object.proofs.DefineLaws.{created_at, symbol_place}
use Rattle.cranelift_object.proofs.TargetLaws.{IsHad}

-- so many functions and data objects have as many identifiers
pub numbered_length : (f d last_f last_d : ℕ) (ids : List FuncOrDataId) → IsNumbered f d ids last_f last_d → f + d + length ids ≡ last_f + last_d
numbered_length f d last_f last_d [] h = let e = h.0 in let g = h.1 in omega (arith, e, g)
numbered_length f d last_f last_d (Func k ∷ ids) h = let rest = numbered_length (f + 1) d last_f last_d ids h.1 in omega (arith, rest)
numbered_length f d last_f last_d (Data k ∷ ids) h = let rest = numbered_length f (d + 1) last_f last_d ids h.1 in omega (arith, rest)

pub added_none : (settings : Settings) (s : LinkState) (o : ObjectData) → o ≡ with_added settings s o []
added_none settings s o = ap (λ (ts : List SymbolData). record o { symbols = ts }) (sym (append-nil o.symbols))

-- one more symbol
pub added_next : (settings : Settings) (s : LinkState) (o now left : ObjectData) (es : List Extra) (i : ℕ) (e : Extra) → i < length es → e ≡ get_or es i e → now ≡ with_added settings s o (take i es) → left ≡ with_symbol now (extra_symbol (placed settings s) (extra_target settings e))
    → left ≡ with_added settings s o (take (i + 1) es)
added_next settings s o now left es i e below at before ends =
    let f : Extra → SymbolData = λ x. extra_symbol (placed settings s) (extra_target settings x) in
    let front : map f (take (i + 1) es) ≡ map f (take i es) ++ f e ∷ [] = ap (map f) (take_more es i e below ∙ ap (λ y. take i es ++ y ∷ []) (sym at)) ∙ map-append f (take i es) (e ∷ []) in
    ends ∙ ap (λ (x : ObjectData). with_symbol x (f e)) before ∙ ap (λ (ts : List SymbolData). record o { symbols = ts }) (append_assoc o.symbols (map f (take i es)) (f e ∷ []) ∙ ap (λ (ts : List SymbolData). o.symbols ++ ts) (sym front))

-- with all of them the object is that of the state
pub added_all : (settings : Settings) (s : LinkState) (o now : ObjectData) (es : List Extra) (i : ℕ) → o ≡ partial settings s s.definitions → AreExtras settings s es → length es ≤ i → now ≡ with_added settings s o (take i es) → now ≡ object_of settings s
added_all settings s o now es i is h past e =
    e ∙ ap (with_added settings s o) (take_all i es past) ∙ ap (λ (x : ObjectData). with_added settings s x es) is ∙ partial_whole settings s es h

get_front : {A : Type 0} (xs ys : List A) (k : ℕ) (x : A) → slice_get xs k ≡ Some x → slice_get (xs ++ ys) k ≡ Some x
get_front [] ys k x h = absurd (cc)
get_front (z ∷ xs) ys zero x h = h
get_front (z ∷ xs) ys (suc k) x h = get_front xs ys k x h

pub get_behind : {A : Type 0} (xs ys : List A) (n k : ℕ) → n ≡ length xs + k → slice_get (xs ++ ys) n ≡ slice_get ys k
get_behind [] ys n k e = ap (slice_get ys) (omega (arith, e))
get_behind (z ∷ xs) ys zero k e = absurd (omega (arith, e))
get_behind (z ∷ xs) ys (suc n) k e = get_behind xs ys n k (omega (arith, e))

-- each identifier keeps its symbol
pub identifier_there : (o : OpenModule) (marks : Marks) (es : List Extra) (id : FuncOrDataId) → IsModule o marks → IsDeclared (length o.state.functions) (length o.state.objects) id
    → slice_get (with_added o.settings o.state (partial o.settings o.state o.state.definitions) es).symbols (symbol_number o.state id) ≡ Some (identifier_symbol o.state (placed o.settings o.state) id)
unfolding partial placed
identifier_there o marks es id h declared =
    let ps : List Placed = placed_of o.settings o.state o.state.definitions in
    let created = created_at o marks id h declared in
    let number = symbol_place o marks created.0 id h created.1 in
    let there = slice_get-map (identifier_symbol o.state ps) o.state.created created.0 ∙ ap (option_map (identifier_symbol o.state ps)) created.1 in
    let f : Extra → SymbolData = λ x. extra_symbol ps (extra_target o.settings x) in
    ap (slice_get ((file_symbol o.settings.file_name ∷ map (identifier_symbol o.state ps) o.state.created) ++ map f es)) number
    ∙ get_front (map (identifier_symbol o.state ps) o.state.created) (map f es) created.0 (identifier_symbol o.state ps id) there

pub has_identifiers : (o : OpenModule) (marks : Marks) (object : ObjectData) → IsModule o marks → object ≡ partial o.settings o.state o.state.definitions → HasIdentifiers o.settings o.state object
has_identifiers o marks object h e id declared =
    ap (λ (x : ObjectData). slice_get x.symbols (symbol_number o.state id)) (e ∙ added_none o.settings o.state (partial o.settings o.state o.state.definitions)) ∙ identifier_there o marks [] id h declared

pub keeps_identifiers : (settings : Settings) (s : LinkState) (o object : ObjectData) (es : List Extra) → HasIdentifiers settings s o → object ≡ with_added settings s o es → HasIdentifiers settings s object
keeps_identifiers settings s o object es h e id declared =
    ap (λ (x : ObjectData). slice_get x.symbols (symbol_number s id)) e ∙ get_front o.symbols (map (λ (x : Extra). extra_symbol (placed settings s) (extra_target settings x)) es) (symbol_number s id) (identifier_symbol s (placed settings s) id) (h id declared)

-- the function of a label that can be had is declared
pub of_function : (settings : Settings) (s : LinkState) (e : Extra) → IsHad s (extra_target settings e) → IsOfFunction s e
of_function settings s (Library p) h = tt
of_function settings s (Known k) h = tt
of_function settings s (Label f o) h = h.0

-- that of each label of a list
pub function_at : (settings : Settings) (s : LinkState) (es items : List Extra) (i : ℕ) (e : Extra) → All (λ (x : Extra). IsHad s (extra_target settings x)) es → items ≡ es → i < length items → e ≡ get_or items i e → IsOfFunction s e
function_at settings s es items i e all same below at =
    let had = All-get_or (λ (x : Extra). IsHad s (extra_target settings x)) items i e below (subst (All (λ (x : Extra). IsHad s (extra_target settings x))) (sym same) all) in
    of_function settings s e (subst (λ (x : Extra). IsHad s (extra_target settings x)) (sym at) had)
