-- The texts of library calls.
use Rattle.std.proofs.Common.{◌≡◌, ℕ, zero, suc, ◌+◌, ◌<◌, ◌≤◌, ◌∷◌, List, [], Bool, true, false, cond, length, map, Some, None, refl, ap, sym, ◌∙◌, arith, bytes_eq, String, Global, string_bytes, not}
use Rattle.std.specs.Prelude.{slice_get, unwrap_or, nat_lt}
use Rattle.std.specs.List.{All, list_any, position_or_len, position_from}
use Rattle.std.proofs.lemmas.Bool.{ltb-false}
use Rattle.std.proofs.lemmas.Slice.Eq.{bytes_eq-Decides}
use Rattle.std.proofs.lemmas.Iterator.Adapters.{position_from-zero}
use Rattle.std.proofs.lemmas.List.Elements.{All-nil, All-cons}
use Rattle.cranelift_module.specs.Refusal.{first_cause, zero_byte}
use Rattle.ir_core.specs.declared.reloc.LibCall.{LibCall}
use Rattle.ir_core.specs.declared.reloc.LibCall.TheVariants.{Probestack, CeilF32, CeilF64, FloorF32, FloorF64, TruncF32, TruncF64, NearestF32, NearestF64, FmaF32, FmaF64, Memcpy, Memset, Memmove, Memcmp, ElfTlsGetAddr, ElfTlsGetOffset, X86Pshufb}
use Rattle.cranelift_module.specs.LibraryNames.{library_place}
use Rattle.cranelift_module.specs.LinkState.{LinkState}
use Rattle.cranelift_module.specs.Declarations.{DeclarationLists, declared_under}
use Rattle.cranelift_module.specs.declared.identifiers.FuncOrDataId.{FuncOrDataId}
use Rattle.cranelift_module.specs.declared.reloc.ModuleRelocTarget.TheVariants.{LibCall as Call}
use Rattle.cranelift_object.specs.Targets.{identifier, library, target_of}
use Rattle.cranelift_object.specs.Settings.{Settings, library_text}
use Rattle.cranelift_object.specs.Extras.{text_of}
use Rattle.cranelift_object.proofs.ClassLaws.{place_in, place_past, found_place}
use Rattle.cranelift_object.proofs.FinishLaws.{causes_none}
use Rattle.cranelift_object.proofs.ExtraLaws.{same_bool, or_true}

flip_eq : (a b : List ℕ) → bytes_eq a b ≡ bytes_eq b a
flip_eq a b = same_bool (bytes_eq a b) (bytes_eq b a) (λ e. (bytes_eq-Decides b a).1 (sym ((bytes_eq-Decides a b).0 e))) (λ e. (bytes_eq-Decides a b).1 (sym ((bytes_eq-Decides b a).0 e)))

-- the first place of a text among some, seen as bytes
texts_place : (text : List ℕ) (ts : List (String Global)) → position_or_len (λ t. bytes_eq (string_bytes t) text) ts ≡ position_or_len (bytes_eq text) (map string_bytes ts)
texts_place text [] = refl
texts_place text (t ∷ ts) = rw (flip_eq (string_bytes t) text, texts_place text ts) refl

past_place : {A : Type 0} (p : A → Bool) (xs : List A) (b : Bool) → list_any p xs ≡ b → nat_lt (position_or_len p xs) (length xs) ≡ false → length xs ≡ position_or_len p xs
past_place p xs true e h = absurd (let below = place_in p xs e in let past = ltb-false (position_or_len p xs) (length xs) h in omega (arith, below, past))
past_place p xs false e h = sym (place_past p xs e)

option_place : {A : Type 0} (p : A → Bool) (xs : List A) (b : Bool) → nat_lt (position_or_len p xs) (length xs) ≡ b → unwrap_or (cond b (Some (position_or_len p xs)) None) (length xs) ≡ position_or_len p xs
option_place p xs true e = refl
option_place p xs false e = past_place p xs (list_any p xs) refl e

-- a place that is found, or else the number of texts
pub place_is : (text : List ℕ) (ts : List (String Global)) → unwrap_or (position_from (λ (t : String Global). bytes_eq (string_bytes t) text) 0 ts) (length ts) ≡ position_or_len (bytes_eq text) (map string_bytes ts)
place_is text ts =
    let p : String Global → Bool = λ t. bytes_eq (string_bytes t) text in
    ap (λ o. unwrap_or o (length ts)) (sym (position_from-zero p ts)) ∙ option_place p ts (nat_lt (position_or_len p ts) (length ts)) refl ∙ texts_place text ts

any_at : (text : List ℕ) (names : List (List ℕ)) (k : ℕ) → slice_get names k ≡ Some text → list_any (bytes_eq text) names ≡ true
any_at text [] k e = absurd (cc)
any_at text (name ∷ names) zero e = let same : name ≡ text = cc in rw ((bytes_eq-Decides text name).1 (sym same)) refl
any_at text (name ∷ names) (suc k) e = or_true (bytes_eq text name) (list_any (bytes_eq text) names) (any_at text names k e)

-- a text of the table is the one at its first place
pub first_text : (settings : Settings) (text : List ℕ) (k : ℕ) → slice_get settings.library_names k ≡ Some text → text_of settings (position_or_len (bytes_eq text) settings.library_names) ≡ text
first_text settings text k e =
    let found = found_place (bytes_eq text) settings.library_names (any_at text settings.library_names k e) in
    ap (λ o. unwrap_or o []) found.1 ∙ sym ((bytes_eq-Decides text found.0).0 found.2)

-- and stands within the table
pub text_within : (settings : Settings) (text : List ℕ) (k : ℕ) → slice_get settings.library_names k ≡ Some text → position_or_len (bytes_eq text) settings.library_names < length settings.library_names
text_within settings text k e = place_in (bytes_eq text) settings.library_names (any_at text settings.library_names k e)

-- texts of which none is refused have no zero byte
pub texts_free : (texts : List (List ℕ)) → first_cause (map zero_byte texts) ≡ None → All (λ (text : List ℕ). zero_byte text ≡ None) texts
texts_free [] h = All-nil (λ (text : List ℕ). zero_byte text ≡ None)
texts_free (text ∷ texts) h =
    let parts = causes_none (zero_byte text) (first_cause (map zero_byte texts)) h in
    All-cons (λ (t : List ℕ). zero_byte t ≡ None) text texts parts.0 (texts_free texts parts.1)

place_most_from : {A : Type 0} (p : A → Bool) (x : A) (xs : List A) (k : ℕ) (b : Bool) → position_or_len p xs ≤ k → cond (not b) (1 + position_or_len p xs) 0 ≤ suc k
place_most_from p x xs k true h = omega arith
place_most_from p x xs k false h = omega (arith, h)

-- the first place of a text is at most any of its places
place_most : (text : List ℕ) (names : List (List ℕ)) (k : ℕ) → slice_get names k ≡ Some text → position_or_len (bytes_eq text) names ≤ k
place_most text [] k e = absurd (cc)
place_most text (name ∷ names) zero e = let same : name ≡ text = cc in rw ((bytes_eq-Decides text name).1 (sym same)) (omega arith)
place_most text (name ∷ names) (suc k) e = place_most_from (bytes_eq text) name names k (bytes_eq text name) (place_most text names k e)

place_small : (call : LibCall) → library_place call < 18
place_small Probestack = omega arith
place_small CeilF32 = omega arith
place_small CeilF64 = omega arith
place_small FloorF32 = omega arith
place_small FloorF64 = omega arith
place_small TruncF32 = omega arith
place_small TruncF64 = omega arith
place_small NearestF32 = omega arith
place_small NearestF64 = omega arith
place_small FmaF32 = omega arith
place_small FmaF64 = omega arith
place_small Memcpy = omega arith
place_small Memset = omega arith
place_small Memmove = omega arith
place_small Memcmp = omega arith
place_small ElfTlsGetAddr = omega arith
place_small ElfTlsGetOffset = omega arith
place_small X86Pshufb = omega arith

-- the text of a library call is told by its first place
pub call_faithful : (settings : Settings) (call : LibCall) (text : List ℕ) (p : ℕ) → slice_get settings.library_names (library_place call) ≡ Some text → p ≡ position_or_len (bytes_eq text) settings.library_names
    → (p < 18) × (position_or_len (bytes_eq (text_of settings p)) settings.library_names ≡ p)
call_faithful settings call text p at is =
    let most = place_most text settings.library_names (library_place call) at in
    let small = place_small call in
    let same = ap (text_of settings) is ∙ first_text settings text (library_place call) at in
    (omega (arith, most, small, is), ap (λ t. position_or_len (bytes_eq t) settings.library_names) same ∙ sym is)

-- under which nothing is declared
pub call_target : (settings : Settings) (s : LinkState) (call : LibCall) (text : List ℕ) (p : ℕ) (lists : DeclarationLists) → slice_get settings.library_names (library_place call) ≡ Some text → p ≡ position_or_len (bytes_eq text) settings.library_names
    → lists ≡ record { functions = s.functions; objects = s.objects } → declared_under lists text ≡ None → library (text_of settings p) ≡ target_of settings s (Call call)
call_target settings s call text p lists at is same none =
    let name : library_text settings call ≡ text = ap (λ o. unwrap_or o []) at in
    let place : text_of settings p ≡ text = ap (text_of settings) is ∙ first_text settings text (library_place call) at in
    let absent : declared_under (record { functions = s.functions; objects = s.objects }) text ≡ None = ap (λ (l : DeclarationLists). declared_under l text) (sym same) ∙ none in
    rw (name, place, absent) refl

-- or what is declared under it
pub call_declared : (settings : Settings) (s : LinkState) (call : LibCall) (text : List ℕ) (lists : DeclarationLists) (id : FuncOrDataId) → slice_get settings.library_names (library_place call) ≡ Some text
    → lists ≡ record { functions = s.functions; objects = s.objects } → declared_under lists text ≡ Some id → identifier id ≡ target_of settings s (Call call)
call_declared settings s call text lists id at same there =
    let name : library_text settings call ≡ text = ap (λ o. unwrap_or o []) at in
    let found : declared_under (record { functions = s.functions; objects = s.objects }) text ≡ Some id = ap (λ (l : DeclarationLists). declared_under l text) (sym same) ∙ there in
    rw (name, found) refl
