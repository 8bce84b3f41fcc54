-- The definitions of a valid Mach-O part were accepted, and none is larger than the part may be.
use Rattle.std.proofs.Common.{◌≡◌, ℕ, zero, suc, ◌+◌, ◌^◌, ◌<◌, ◌≤◌, List, [], ◌∷◌, length, refl, ap, sym, ◌∙◌, arith, Some, None, slice_get, subst}
use Rattle.std.specs.Prelude.{sum_by}
use Rattle.std.proofs.lemmas.List.Sums.{sum_by-cons}
use Rattle.ir_core.specs.Moments.{Moment, moments}
use Rattle.ir_core.specs.Target.{Target}
use Rattle.cranelift_module.specs.declared.identifiers.FuncOrDataId.TheVariants.{Func, Data}
use Rattle.cranelift_module.specs.Call.{Call, define_function, define_data}
use Rattle.cranelift_module.specs.Rows.{DataRow, objects_of}
use Rattle.cranelift_module.specs.Definitions.{Definition, definition_made, definitions_of, size_of}
use Rattle.cranelift_module.specs.LinkState.{LinkState, state_of}
use Rattle.cranelift_module.specs.Refusal.{refusal, undefinable, undefinable_data, is_defined}
use Rattle.cranelift_object.specs.Kept.{IsBody}
use Rattle.cranelift_object.specs.Linked.{object_of}
use Rattle.cranelift_object.specs.Placing.{room_of, align_of}
use Rattle.cranelift_object.specs.Part.{PartData, part_state, limit_in}
use Rattle.cranelift_object.proofs.CallLaws.{definable_declared, definable_aligned, function_body, data_declared, data_body}
use Rattle.object_macho.proofs.Judging.{within_limits}
use Rattle.object_macho.specs.Plan.{IsWithinLimits}
use Rattle.object_macho.specs.Counts.{mach_counts}
use Rattle.object_core.specs.MachRows.{macho_table_of}
use Rattle.image_place.specs.Laws.{AreMacho}
use Rattle.image_place.specs.ObjectFile.{part_object}
use Rattle.image_place.specs.Related.{IsPart}
use Rattle.image_place.proofs.Collected.{made-from}
use Rattle.image_place.proofs.Accepted.{left_none, right_none, part-free, accepted}
use Rattle.image_place.proofs.FileStanding.{room-over}
use Rattle.image_place.proofs.ElfLaw.{object_format}

-- -- limits

pub mach-limits : (part : PartData) → IsPart part → AreMacho part → IsWithinLimits (mach_counts (macho_table_of (part_object part)) (part_object part).content_sum)
mach-limits part h macho =
    let o = part_object part in
    within_limits (mach_counts (macho_table_of o) o.content_sum) (ap (λ f. limit_in f o) (sym (object_format part ∙ macho)) ∙ (part-free part h.valid).limit)

sum_of : {A : Type 0} (f : A → ℕ) (xs : List A) (k : ℕ) (x : A) → slice_get xs k ≡ Some x → f x ≤ sum_by f xs
sum_of f [] k x e = absurd (cc)
sum_of f (y ∷ xs) zero x e = let same : y ≡ x = cc in omega (arith, sum_by-cons f y xs, ap f same)
sum_of f (y ∷ xs) (suc k) x e = omega (arith, sum_by-cons f y xs, sum_of f xs k x e)

pub content_sum_is : (part : PartData) → (part_object part).content_sum ≡ sum_by (λ d. room_of (part_state part) d + align_of (part_state part) d) (part_state part).definitions
unfolding object_of
content_sum_is part = refl

pub counted_contents : (part : PartData) → (mach_counts (macho_table_of (part_object part)) (part_object part).content_sum).contents ≡ (part_object part).content_sum
unfolding mach_counts
counted_contents part = refl

pub definition-sized : (part : PartData) → IsPart part → AreMacho part → (k : ℕ) (d : Definition) → slice_get (part_state part).definitions k ≡ Some d → size_of d.contents < 2 ^ 31
definition-sized part h macho k d e =
    let s = part_state part in
    let f : Definition → ℕ = λ x. room_of s x + align_of s x in
    omega (arith, (mach-limits part h macho).contents, counted_contents part, content_sum_is part, sum_of f s.definitions k d e, room-over s.target.triple.binary_format (size_of d.contents))

-- -- definitions

call_body : (s : LinkState) (objects : List DataRow) (c : Call) (d : Definition) → refusal s c ≡ None → definition_made objects c ≡ Some d → size_of d.contents < 2 ^ 64 → IsBody s.target (length s.functions) (length s.objects) d
unfolding refusal
call_body s objects (define_function n align xs rs) d e made small =
    let free = left_none (undefinable (is_defined s (Func n)) n align (slice_get s.functions n)) _ e in
    (function_body s.target (length s.functions) (length s.objects) n align xs rs objects d made (definable_declared (is_defined s (Func n)) n align s.functions free) (definable_aligned (is_defined s (Func n)) n align s.functions free)
    (right_none (undefinable (is_defined s (Func n)) n align (slice_get s.functions n)) _ e) small).1
call_body s objects (define_data n description) d e made small =
    let format = s.target.triple.binary_format in
    let free = left_none (undefinable_data format (is_defined s (Data n)) n description (slice_get s.objects n)) _ e in
    (data_body s.target (length s.functions) (length s.objects) n description format (is_defined s (Data n)) s.objects objects d refl made free (data_declared format (is_defined s (Data n)) n description s.objects free)
    (right_none (undefinable_data format (is_defined s (Data n)) n description (slice_get s.objects n)) _ e) small).1
call_body s objects c d e made small = absurd (cc)

target_is : (target : Target) (calls : List Call) → (state_of target calls).target ≡ target
unfolding state_of
target_is target calls = refl

-- a definition of a valid part, as it was accepted among so many functions and data objects
pub record WasAccepted (target : Target) (d : Definition) : Type 0 where
  pub functions : ℕ
  pub objects : ℕ
  pub body : IsBody target functions objects d

pub definition-body : (part : PartData) → IsPart part → AreMacho part → (k : ℕ) (d : Definition) → slice_get (part_state part).definitions k ≡ Some d → WasAccepted (part_state part).target d
unfolding state_of definitions_of
definition-body part h macho k d e =
    let from = made-from (λ (m : Moment Call). definition_made (objects_of m.before) m.here) (moments part.calls) k d e in
    let m = from.element in
    let small : size_of d.contents < 2 ^ 64 = omega (arith, definition-sized part h macho k d e) in
    let before = state_of part.target m.before in
    let body : IsBody before.target (length before.functions) (length before.objects) d = call_body before (objects_of m.before) m.here d (accepted part h.valid from.number m from.here) from.makes small in
    record { functions = length before.functions; objects = length before.objects; body = subst (λ t. IsBody t (length before.functions) (length before.objects) d) (target_is part.target m.before) body }
