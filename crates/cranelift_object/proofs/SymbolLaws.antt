-- One more definition among the symbols of a state.
use Rattle.std.proofs.Common.{◌≡◌, ℕ, zero, suc, ◌++◌, ◌∷◌, List, [], Bool, true, false, cond, ◌<◌, length, map, Option, Some, None, refl, ap, sym, ◌∙◌, arith, eq-eqb, ◌≢◌}
use Rattle.std.proofs.lemmas.List.Folds.{find-append}
use Rattle.std.specs.Prelude.{slice_get}
use Rattle.std.specs.Option.{option_or}
use Rattle.ir_core.specs.declared.target.BinaryFormat.{BinaryFormat}
use Rattle.ir_core.specs.declared.target.BinaryFormat.TheVariants.{Elf}
use Rattle.object_core.specs.declared.kinds.SymbolKind.{SymbolKind}
use Rattle.object_core.specs.declared.kinds.SymbolKind.TheVariants as kind
use Rattle.object_core.specs.Object.{SymbolData}
use Rattle.object_core.specs.Appending.{changed_at, defined_symbol}
use Rattle.cranelift_module.specs.declared.linkage.Linkage.{Linkage}
use Rattle.cranelift_module.specs.declared.identifiers.FuncOrDataId.{FuncOrDataId}
use Rattle.cranelift_module.specs.declared.identifiers.FuncOrDataId.TheVariants.{Func, Data}
use Rattle.cranelift_module.specs.Rows.{FunctionRow, DataRow}
use Rattle.cranelift_module.specs.Definitions.{size_of}
use Rattle.cranelift_module.specs.LinkState.{LinkState}
use Rattle.cranelift_module.specs.Refusal.{is_same_identifier, function_name, data_name}
use Rattle.cranelift_object.specs.Kept.{IsDeclared}
use Rattle.cranelift_object.proofs.FirstCause.{row_at}
use Rattle.cranelift_object.specs.Placing.{Placed}
use Rattle.cranelift_object.specs.Linked.{defined_at, identifier_symbol, function_symbol, data_symbol, named_symbol, marks_symbol}
use Rattle.cranelift_object.specs.Product.{kept_symbol}

-- -- where an identifier is defined

option_or_none : {A : Type 0} (o : Option A) → option_or o None ≡ o
option_or_none None = refl
option_or_none (Some x) = refl

same_itself : (id : FuncOrDataId) → is_same_identifier id id ≡ true
same_itself (Func k) = eq-eqb k k refl
same_itself (Data k) = eq-eqb k k refl

pub defined_here : (ps : List Placed) (p : Placed) (id : FuncOrDataId) → p.definition.identifier ≡ id → defined_at ps id ≡ None → defined_at (ps ++ p ∷ []) id ≡ Some p
defined_here ps p id e none =
    find-append (λ (q : Placed). is_same_identifier id q.definition.identifier) ps (p ∷ []) ∙ (rw (none, e, same_itself id) refl)

pub defined_elsewhere : (ps : List Placed) (p : Placed) (id : FuncOrDataId) → is_same_identifier id p.definition.identifier ≡ false → defined_at (ps ++ p ∷ []) id ≡ defined_at ps id
defined_elsewhere ps p id e =
    find-append (λ (q : Placed). is_same_identifier id q.definition.identifier) ps (p ∷ []) ∙ (rw e (option_or_none (defined_at ps id)))

-- -- symbols of identifiers

-- a symbol that the linker keeps, where it is marked
abbrev pub kept_by : Bool → SymbolData → SymbolData
kept_by true x = kept_symbol x
kept_by false x = x

-- what a definition makes of the symbol of its identifier
abbrev pub here_symbol : BinaryFormat → Placed → SymbolData → SymbolData
here_symbol format p x = kept_by (marks_symbol format p.definition.used) (defined_symbol p.section p.offset (size_of p.definition.contents) x)

kept_here : (b : Bool) (name : List ℕ) (linkage : Linkage) (k : SymbolKind) (p : Placed)
    → record (defined_symbol p.section p.offset (size_of p.definition.contents) (named_symbol Elf name linkage k None)) { no_dead_strip = b } ≡ kept_by b (defined_symbol p.section p.offset (size_of p.definition.contents) (named_symbol Elf name linkage k None))
kept_here true name linkage k p = refl
kept_here false name linkage k p = refl

named_here : (format : BinaryFormat) (name : List ℕ) (linkage : Linkage) (k : SymbolKind) (p : Placed) → named_symbol format name linkage k (Some p) ≡ here_symbol format p (named_symbol format name linkage k None)
named_here format name linkage k p = kept_here (marks_symbol format p.definition.used) name linkage k p

function_here : (s : LinkState) (ps : List Placed) (p : Placed) (k : ℕ) → k < length s.functions → p.definition.identifier ≡ Func k → defined_at ps (Func k) ≡ None
    → identifier_symbol s (ps ++ p ∷ []) (Func k) ≡ here_symbol s.target.triple.binary_format p (identifier_symbol s ps (Func k))
function_here s ps p k below e none =
    let format : BinaryFormat = s.target.triple.binary_format in
    let row = row_at s.functions k below in
    let now : Option Placed → SymbolData = named_symbol format (function_name row.0 k) row.0.linkage kind.Text in
    let change : SymbolData → SymbolData = here_symbol format p in
    let before : now (defined_at (ps ++ p ∷ []) (Func k)) ≡ now (Some p) = ap now (defined_here ps p (Func k) e none) in
    let after : now (Some p) ≡ change (now (defined_at ps (Func k))) = named_here format (function_name row.0 k) row.0.linkage kind.Text p ∙ ap (λ (at : Option Placed). change (now at)) (sym none) in
    ap (function_symbol format (ps ++ p ∷ []) k) row.1 ∙ before ∙ after ∙ ap (λ (r : Option FunctionRow). change (function_symbol format ps k r)) (sym row.1)

data_here : (s : LinkState) (ps : List Placed) (p : Placed) (k : ℕ) → k < length s.objects → p.definition.identifier ≡ Data k → defined_at ps (Data k) ≡ None
    → identifier_symbol s (ps ++ p ∷ []) (Data k) ≡ here_symbol s.target.triple.binary_format p (identifier_symbol s ps (Data k))
data_here s ps p k below e none =
    let format : BinaryFormat = s.target.triple.binary_format in
    let row = row_at s.objects k below in
    let now : Option Placed → SymbolData = named_symbol format (data_name row.0 k) row.0.linkage (cond row.0.tls kind.Tls kind.Data) in
    let change : SymbolData → SymbolData = here_symbol format p in
    let before : now (defined_at (ps ++ p ∷ []) (Data k)) ≡ now (Some p) = ap now (defined_here ps p (Data k) e none) in
    let after : now (Some p) ≡ change (now (defined_at ps (Data k))) = named_here format (data_name row.0 k) row.0.linkage (cond row.0.tls kind.Tls kind.Data) p ∙ ap (λ (at : Option Placed). change (now at)) (sym none) in
    ap (data_symbol format (ps ++ p ∷ []) k) row.1 ∙ before ∙ after ∙ ap (λ (r : Option DataRow). change (data_symbol format ps k r)) (sym row.1)

-- the symbol of a declared identifier that the last definition defines
pub symbol_here : (s : LinkState) (ps : List Placed) (p : Placed) (id : FuncOrDataId) → IsDeclared (length s.functions) (length s.objects) id → p.definition.identifier ≡ id → defined_at ps id ≡ None
    → identifier_symbol s (ps ++ p ∷ []) id ≡ here_symbol s.target.triple.binary_format p (identifier_symbol s ps id)
symbol_here s ps p (Func k) declared e none = function_here s ps p k declared e none
symbol_here s ps p (Data k) declared e none = data_here s ps p k declared e none

function_elsewhere : (format : BinaryFormat) (ps : List Placed) (p : Placed) (k : ℕ) (row : Option FunctionRow) → is_same_identifier (Func k) p.definition.identifier ≡ false → function_symbol format (ps ++ p ∷ []) k row ≡ function_symbol format ps k row
function_elsewhere format ps p k None e = refl
function_elsewhere format ps p k (Some row) e = rw (defined_elsewhere ps p (Func k) e) refl

data_elsewhere : (format : BinaryFormat) (ps : List Placed) (p : Placed) (k : ℕ) (row : Option DataRow) → is_same_identifier (Data k) p.definition.identifier ≡ false → data_symbol format (ps ++ p ∷ []) k row ≡ data_symbol format ps k row
data_elsewhere format ps p k None e = refl
data_elsewhere format ps p k (Some row) e = rw (defined_elsewhere ps p (Data k) e) refl

pub symbol_elsewhere : (s : LinkState) (ps : List Placed) (p : Placed) (id : FuncOrDataId) → is_same_identifier id p.definition.identifier ≡ false → identifier_symbol s (ps ++ p ∷ []) id ≡ identifier_symbol s ps id
symbol_elsewhere s ps p (Func k) e = function_elsewhere s.target.triple.binary_format ps p k (slice_get s.functions k) e
symbol_elsewhere s ps p (Data k) e = data_elsewhere s.target.triple.binary_format ps p k (slice_get s.objects k) e

changed_map_later : {A B : Type 0} (f g : A → B) (xs : List A) → ((i : ℕ) (y : A) → slice_get xs i ≡ Some y → g y ≡ f y) → map g xs ≡ map f xs
changed_map_later f g [] h = refl
changed_map_later f g (x ∷ xs) h = rw (h 0 x refl, changed_map_later f g xs (λ i y e. h (suc i) y e)) refl

-- two maps that differ at one place
pub changed_map : {A B : Type 0} (f g : A → B) (change : B → B) (xs : List A) (r : ℕ) (x : A) → slice_get xs r ≡ Some x → g x ≡ change (f x) → ((i : ℕ) (y : A) → slice_get xs i ≡ Some y → i ≢ r → g y ≡ f y) → map g xs ≡ changed_at r change (map f xs)
changed_map f g change [] r x at here others = refl
changed_map f g change (y ∷ xs) zero x at here others =
    let same : y ≡ x = cc in
    rw (same, here, changed_map_later f g xs (λ i z e. others (suc i) z e (λ q. absurd (omega arith)))) refl
changed_map f g change (y ∷ xs) (suc r) x at here others =
    rw (others 0 y refl (λ q. absurd (omega arith)), changed_map f g change xs r x at here (λ i z e n. others (suc i) z e (λ q. n (omega arith)))) refl

-- the symbols of identifiers with one more definition
pub identifiers_changed : (s : LinkState) (ps : List Placed) (p : Placed) (id : FuncOrDataId) (r : ℕ) → IsDeclared (length s.functions) (length s.objects) id → p.definition.identifier ≡ id → defined_at ps id ≡ None → slice_get s.created r ≡ Some id
    → ((i : ℕ) (y : FuncOrDataId) → slice_get s.created i ≡ Some y → i ≢ r → is_same_identifier y id ≡ false)
    → map (identifier_symbol s (ps ++ p ∷ [])) s.created ≡ changed_at r (here_symbol s.target.triple.binary_format p) (map (identifier_symbol s ps) s.created)
identifiers_changed s ps p id r declared e none at apart =
    changed_map (identifier_symbol s ps) (identifier_symbol s (ps ++ p ∷ [])) (here_symbol s.target.triple.binary_format p) s.created r id at (symbol_here s ps p id declared e none)
    (λ i y found ne. symbol_elsewhere s ps p y (rw e (apart i y found ne)))
