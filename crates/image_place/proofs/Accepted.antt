-- What the calls of a valid part leave: judged relocations, plain functions, and no name but of what is local.
use Rattle.std.proofs.Common.{◌≡◌, ℕ, zero, suc, ◌+◌, ◌<◌, List, [], ◌∷◌, ◌++◌, length, take, refl, ap, sym, ◌∙◌, arith, Option, Some, None, Bool, true, false, not, map, slice_get, cond, append-nil, append_assoc, subst}
use Rattle.std.specs.Prelude.{option_map, option_and_then}
use Rattle.std.specs.List.{filter_map, cons_option, range_with_len}
use Rattle.std.specs.Option.{option_or}
use Rattle.byte_core.proofs.Lists.{get_within}
use Rattle.ir_core.specs.Moments.{Moment, moments_after, moments}
use Rattle.ir_core.specs.Target.{Target}
use Rattle.cranelift_module.specs.declared.identifiers.FuncOrDataId.TheVariants.{Func, Data}
use Rattle.cranelift_module.specs.declared.linkage.Linkage.TheVariants.{Local}
use Rattle.cranelift_module.specs.Call.{Call, declare_function, declare_anonymous_function, declare_data, declare_anonymous_data, define_function, define_data}
use Rattle.cranelift_module.specs.Rows.{FunctionRow, DataRow, is_new, function_made, data_made, functions_of, objects_of}
use Rattle.cranelift_module.specs.Definitions.{Definition, definition_made, definitions_of}
use Rattle.cranelift_module.specs.LinkState.{LinkState, state_of}
use Rattle.object_core.specs.WellFormed.{is_supported}
use Rattle.cranelift_module.specs.declared.error.BackendCause.TheVariants.{UnsupportedTarget}
use Rattle.cranelift_object.proofs.CallLaws.{not_refused}
use Rattle.cranelift_object.proofs.TargetLaws.{was_true}
use Rattle.cranelift_module.specs.Refusal.{refuse_if, backend, zero_byte, first_cause, refusal, bad_reloc, undefinable, undefinable_data, is_defined}
use Rattle.cranelift_object.specs.Kept.{IsPlainBody}
use Rattle.cranelift_object.specs.Part.{PartData, part_state, part_cause, at_start, at_call, at_end, over, start_cause, command_cause, first_refused, limit_of}
use Rattle.cranelift_object.specs.EndCause.{end_cause}
use Rattle.cranelift_object.specs.Linked.{object_of}
use Rattle.image_place.proofs.Collected.{made-from}

-- -- no cause

pub left_none : {A : Type 0} (a b : Option A) → option_or a b ≡ None → a ≡ None
left_none None b e = refl
left_none (Some x) b e = absurd (cc)

pub right_none : {A : Type 0} (a b : Option A) → option_or a b ≡ None → b ≡ None
right_none None b e = e
right_none (Some x) b e = absurd (cc)

pub mapped_none : {A B : Type 0} (f : A → B) (o : Option A) → option_map f o ≡ None → o ≡ None
mapped_none f None e = refl
mapped_none f (Some x) e = absurd (cc)

-- no call of a valid part is refused, it can be finished, and no limit is reached
pub record IsFree (part : PartData) : Type 0 where
  pub calls : first_refused part.target part.calls ≡ None
  pub ended : end_cause (part_state part) ≡ None
  pub limit : limit_of (object_of part.settings (part_state part)) ≡ None

pub part-free : (part : PartData) → part_cause part ≡ None → IsFree part
unfolding part_cause
part-free part v =
    let one = right_none (option_map (λ r. at_start r) (start_cause part.settings part.target)) _ v in
    let two = right_none (first_refused part.target part.calls) _ one in
    record {
      calls = left_none (first_refused part.target part.calls) _ one;
      ended = mapped_none (λ r. at_end r) (end_cause (part_state part)) (left_none _ _ two);
      limit = mapped_none (λ l. over l) (limit_of (object_of part.settings (part_state part))) (right_none (option_map (λ r. at_end r) (end_cause (part_state part))) _ two);
    }

-- its processor has its format
pub part-started : (part : PartData) → part_cause part ≡ None → is_supported part.target.triple.architecture part.target.triple.binary_format ≡ true
unfolding part_cause start_cause
part-started part v =
    let supported = is_supported part.target.triple.architecture part.target.triple.binary_format in
    let none = mapped_none (λ r. at_start r) (start_cause part.settings part.target) (left_none _ _ v) in
    was_true supported (not_refused (not supported) (backend UnsupportedTarget) (left_none (refuse_if (not supported) (backend UnsupportedTarget)) (first_cause (zero_byte part.settings.file_name ∷ map zero_byte part.settings.library_names)) none))

-- -- calls

none_in_by : {A : Type 0} (f : ℕ → Option A) (a n : ℕ) (o : Option A) → f a ≡ o → (slice_get (filter_map f (range_with_len (a + 1) n)) 0 ≡ None → (j : ℕ) → j < n → f (a + 1 + j) ≡ None)
    → slice_get (cons_option o (filter_map f (range_with_len (a + 1) n))) 0 ≡ None → (j : ℕ) → j < suc n → f (a + j) ≡ None
none_in_by f a n (Some x) g rest e j h = absurd (cc)
none_in_by f a n None g rest e zero h = let same : a + 0 ≡ a = omega arith in ap f same ∙ g
none_in_by f a n None g rest e (suc j) h = let same : a + suc j ≡ a + 1 + j = omega arith in ap f same ∙ rest e j (omega (arith, h))

none_in_range : {A : Type 0} (f : ℕ → Option A) (a n : ℕ) → slice_get (filter_map f (range_with_len a n)) 0 ≡ None → (j : ℕ) → j < n → f (a + j) ≡ None
none_in_range f a zero e j h = absurd (omega (arith, h))
none_in_range f a (suc n) e j h = none_in_by f a n (f a) refl (none_in_range f (a + 1) n) e j h

record At (before xs : List Call) (l : ℕ) (m : Moment Call) : Type 0 where
  before_is : m.before ≡ before ++ take l xs
  here_is : slice_get xs l ≡ Some m.here

moment_at : (before xs : List Call) (l : ℕ) (m : Moment Call) → slice_get (moments_after before xs) l ≡ Some m → At before xs l m
moment_at before [] l m e = absurd (cc)
moment_at before (c ∷ cs) zero m e = let same : record { before = before; here = c } ≡ m = cc in record { before_is = ap (λ z. z.before) (sym same) ∙ sym (append-nil before); here_is = ap (λ (z : Moment Call). Some z.here) same }
moment_at before (c ∷ cs) (suc l) m e =
    let far = moment_at (before ++ c ∷ []) cs l m e in
    record { before_is = far.before_is ∙ append_assoc before (c ∷ []) (take l cs); here_is = far.here_is }

pub accepted : (part : PartData) → part_cause part ≡ None → (l : ℕ) (m : Moment Call) → slice_get (moments part.calls) l ≡ Some m → refusal (state_of part.target m.before) m.here ≡ None
unfolding command_cause moments
accepted part v l m e =
    let at = moment_at [] part.calls l m e in
    let inside = get_within part.calls l m.here at.here_is in
    let start : 0 + l ≡ l = omega arith in
    let none = mapped_none (at_call l) (command_cause part.target part.calls l)
    (ap (λ j. option_map (at_call j) (command_cause part.target part.calls j)) (sym start) ∙ none_in_range (λ j. option_map (at_call j) (command_cause part.target part.calls j)) 0 (length part.calls) (part-free part v).calls l inside) in
    let found : option_and_then (refusal (state_of part.target (take l part.calls))) (slice_get part.calls l) ≡ refusal (state_of part.target (take l part.calls)) m.here = ap (option_and_then (refusal (state_of part.target (take l part.calls)))) at.here_is in
    ap (λ cs. refusal (state_of part.target cs) m.here) at.before_is ∙ sym found ∙ none

-- -- definitions

-- a definition with judged relocations, of a function that is defined by bytes or of data
pub record IsAccepted (target : Target) (d : Definition) : Type 0 where
  pub judged : bad_reloc target d.contents d.relocs ≡ None
  pub plain : IsPlainBody d.identifier d.contents d.section d.used

some_same : {A : Type 0} (x y : A) → Some x ≡ Some y → x ≡ y
some_same x y e = cc

accepted_call : (s : LinkState) (objects : List DataRow) (c : Call) (d : Definition) → refusal s c ≡ None → definition_made objects c ≡ Some d → IsAccepted s.target d
unfolding refusal
accepted_call s objects (define_function n align xs rs) d e made =
    let same = some_same _ d made in
    subst (IsAccepted s.target) same (record { judged = right_none (undefinable (is_defined s (Func n)) n align (slice_get s.functions n)) _ e; plain = (tt, refl, refl) })
accepted_call s objects (define_data n description) d e made =
    let same = some_same _ d made in
    subst (IsAccepted s.target) same (record { judged = right_none (undefinable_data s.target.triple.binary_format (is_defined s (Data n)) n description (slice_get s.objects n)) _ e; plain = tt })
accepted_call s objects c d e made = absurd (cc)

target_is : (target : Target) (calls : List Call) → (state_of target calls).target ≡ target
unfolding state_of
target_is target calls = refl

pub definition-accepted : (part : PartData) → part_cause part ≡ None → (k : ℕ) (d : Definition) → slice_get (part_state part).definitions k ≡ Some d → IsAccepted (part_state part).target d
unfolding state_of definitions_of
definition-accepted part v k d e =
    let from = made-from (λ (m : Moment Call). definition_made (objects_of m.before) m.here) (moments part.calls) k d e in
    let m = from.element in
    subst (λ t. IsAccepted t d) (target_is part.target m.before) (accepted_call (state_of part.target m.before) (objects_of m.before) m.here d (accepted part v from.number m from.here) from.makes)

-- -- names

function_if : (b : Bool) (name : List ℕ) (new row : FunctionRow) → new.name ≡ Some name → cond b (Some new) None ≡ Some row → row.name ≡ None → row.linkage ≡ Local
function_if true name new row named e none = absurd (let both : None ≡ Some name = sym none ∙ ap (λ (r : FunctionRow). r.name) (sym (some_same new row e)) ∙ named in cc)
function_if false name new row named e none = absurd (cc)

nameless_function : (all before : List Call) (c : Call) (row : FunctionRow) → function_made all before c ≡ Some row → row.name ≡ None → row.linkage ≡ Local
nameless_function all before (declare_function name linkage signature) row e none = function_if (is_new name before) name _ row refl e none
nameless_function all before (declare_anonymous_function signature) row e none = ap (λ (r : FunctionRow). r.linkage) (sym (some_same _ row e))
nameless_function all before c row e none = absurd (cc)

data_if : (b : Bool) (name : List ℕ) (new row : DataRow) → new.name ≡ Some name → cond b (Some new) None ≡ Some row → row.name ≡ None → row.linkage ≡ Local
data_if true name new row named e none = absurd (let both : None ≡ Some name = sym none ∙ ap (λ (r : DataRow). r.name) (sym (some_same new row e)) ∙ named in cc)
data_if false name new row named e none = absurd (cc)

nameless_data : (all before : List Call) (c : Call) (row : DataRow) → data_made all before c ≡ Some row → row.name ≡ None → row.linkage ≡ Local
nameless_data all before (declare_data name linkage writable tls) row e none = data_if (is_new name before) name _ row refl e none
nameless_data all before (declare_anonymous_data writable tls) row e none = ap (λ (r : DataRow). r.linkage) (sym (some_same _ row e))
nameless_data all before c row e none = absurd (cc)

pub function-local : (part : PartData) (k : ℕ) (row : FunctionRow) → slice_get (part_state part).functions k ≡ Some row → row.name ≡ None → row.linkage ≡ Local
unfolding state_of functions_of
function-local part k row e none =
    let from = made-from (λ (m : Moment Call). function_made part.calls m.before m.here) (moments part.calls) k row e in
    nameless_function part.calls from.element.before from.element.here row from.makes none

pub data-local : (part : PartData) (k : ℕ) (row : DataRow) → slice_get (part_state part).objects k ≡ Some row → row.name ≡ None → row.linkage ≡ Local
unfolding state_of objects_of
data-local part k row e none =
    let from = made-from (λ (m : Moment Call). data_made part.calls m.before m.here) (moments part.calls) k row e in
    nameless_data part.calls from.element.before from.element.here row from.makes none
