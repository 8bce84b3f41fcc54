-- Accepted declarations in another order leave each name the same row.
use Rattle.std.proofs.Common.{◌≡◌, ℕ, List, [], ◌∷◌, ◌++◌, Bool, true, false, cond, not, filter_map, Option, Some, None, Contains, option_map, option_to_list, refl, ap, sym, ◌∙◌, subst, bytes_eq, unwrap_or, arith, ⊎_elim}
use Rattle.std.specs.List.{list_any, find}
use Rattle.std.specs.List.Sorted.{IsPermutation}
use Rattle.std.specs.Option.{option_or}
use Rattle.std.proofs.lemmas.List.Elements.{Contains-append_left, Contains-push, Contains-push_cases}
use Rattle.std.proofs.lemmas.List.Sorted.{Contains-permutation, IsPermutation-sym, list_any-IsPermutation}
use Rattle.std.proofs.lemmas.Slice.Eq.{bytes_eq-Decides}
use Rattle.ir_core.specs.Moments.{moments}
use Rattle.ir_core.specs.Target.{Target}
use Rattle.ir_core.specs.Signature.{SignatureData, is_same_signature}
use Rattle.ir_core.proofs.MomentLaws.{by_end}
use Rattle.ir_core.proofs.Same.{same_signature-Decides}
use Rattle.cranelift_module.specs.Linkage.{greatest}
use Rattle.cranelift_module.specs.Call.{Call, declare_function, declare_anonymous_function, declare_data, declare_anonymous_data, define_function, define_data, function_linkage, data_linkage, marks_writable}
use Rattle.cranelift_module.specs.Rows.{FunctionRow, DataRow, is_new, function_made, data_made, functions_of, objects_of}
use Rattle.cranelift_module.specs.LinkState.{LinkState, state_of, step, is_function_named, is_data_named, with_first, raised_function, raised_data}
use Rattle.cranelift_module.specs.Laws.{IsAccepted}
use Rattle.cranelift_module.specs.Refusal.{refusal, zero_byte, changes_signature, changes_tls}
use Rattle.cranelift_module.proofs.OrderLaws.{greatest-IsPermutation}
use Rattle.cranelift_module.proofs.StateLaws.{made_functions, made_objects, made_functions-end, made_objects-end, function_row, data_row, none_none, not_refused, state_of-step, IsAccepted-front}

-- -- the mark of the first row that passes a test

mark_found : {A B : Type 0} → (A → Bool) → (A → B) → List A → Option B
mark_found test mark rows = option_map mark (find test rows)

first_or : {A : Type 0} (b : Bool) (x : A) (o p q : Option A) → o ≡ option_or p q → cond b (Some x) o ≡ option_or (cond b (Some x) p) q
first_or true x o p q h = refl
first_or false x o p q h = h

found_append : {A : Type 0} (test : A → Bool) (xs ys : List A) → find test (xs ++ ys) ≡ option_or (find test xs) (find test ys)
found_append test [] ys = refl
found_append test (x ∷ xs) ys = first_or (test x) x (find test (xs ++ ys)) (find test xs) (find test ys) (found_append test xs ys)

kept_or : {A B : Type 0} (mark : A → B) (s : B) (o p : Option A) → option_map mark o ≡ Some s → option_map mark (option_or o p) ≡ Some s
kept_or mark s None p h = absurd (cc)
kept_or mark s (Some row) p h = h

keeps_append : {A B : Type 0} (test : A → Bool) (mark : A → B) (rows more : List A) (s : B) → mark_found test mark rows ≡ Some s → mark_found test mark (rows ++ more) ≡ Some s
unfolding mark_found
keeps_append test mark rows more s h = ap (option_map mark) (found_append test rows more) ∙ kept_or mark s (find test rows) (find test more) h

kept_changed : {A B : Type 0} (mark : A → B) (b : Bool) (x y : A) (o : Option A) (s : B) → mark y ≡ mark x → option_map mark (cond b (Some x) o) ≡ Some s → option_map mark (cond b (Some y) o) ≡ Some s
kept_changed mark true x y o s f h = ap Some f ∙ h
kept_changed mark false x y o s f h = h

kept_rest : {A B : Type 0} (mark : A → B) (b : Bool) (x : A) (o p : Option A) (s : B) → (option_map mark o ≡ Some s → option_map mark p ≡ Some s) → option_map mark (cond b (Some x) o) ≡ Some s → option_map mark (cond b (Some x) p) ≡ Some s
kept_rest mark true x o p s k h = h
kept_rest mark false x o p s k h = k h

kept_place : {A B : Type 0} (test : A → Bool) (mark : A → B) (change : A → A) (x : A) (xs ys : List A) (s : B) (b : Bool) → test (change x) ≡ test x → mark (change x) ≡ mark x → option_map mark (cond (test x) (Some x) (find test xs)) ≡ Some s
    → (option_map mark (find test xs) ≡ Some s → option_map mark (find test ys) ≡ Some s) → option_map mark (find test (cond b (change x ∷ xs) (x ∷ ys))) ≡ Some s
kept_place test mark change x xs ys s true e f h k = ap (λ (b : Bool). option_map mark (cond b (Some (change x)) (find test xs))) e ∙ kept_changed mark (test x) x (change x) (find test xs) s f h
kept_place test mark change x xs ys s false e f h k = kept_rest mark (test x) x (find test xs) (find test ys) s k h

-- a change that keeps the test and the mark
keeps_first : {A B : Type 0} (test : A → Bool) (mark : A → B) (place : A → Bool) (change : A → A) (new : A) (rows : List A) (s : B)
    → ((x : A) → test (change x) ≡ test x) → ((x : A) → mark (change x) ≡ mark x) → mark_found test mark rows ≡ Some s → mark_found test mark (with_first place change new rows) ≡ Some s
unfolding mark_found
keeps_first test mark place change new [] s e f h = absurd (cc)
keeps_first test mark place change new (x ∷ xs) s e f h =
    kept_place test mark change x xs (with_first place change new xs) s (place x) (e x) (f x) h (λ k. keeps_first test mark place change new xs s e f k)

own_place : {A B : Type 0} (test : A → Bool) (mark : A → B) (change : A → A) (x : A) (xs ys : List A) (s : B) (b : Bool) → test x ≡ b → test (change x) ≡ test x → mark (change x) ≡ mark x
    → ((row : A) → cond b (Some x) (find test xs) ≡ Some row → mark row ≡ s) → (((row : A) → find test xs ≡ Some row → mark row ≡ s) → option_map mark (find test ys) ≡ Some s)
    → option_map mark (find test (cond b (change x ∷ xs) (x ∷ ys))) ≡ Some s
own_place test mark change x xs ys s true t e f known k = ap (λ (b : Bool). option_map mark (cond b (Some (change x)) (find test xs))) (e ∙ t) ∙ ap Some (f ∙ known x refl)
own_place test mark change x xs ys s false t e f known k = ap (λ (b : Bool). option_map mark (cond b (Some x) (find test ys))) t ∙ k known

-- what is declared under its own test has the known mark, or its own
declares_own : {A B : Type 0} (test : A → Bool) (mark : A → B) (change : A → A) (new : A) (rows : List A) (s : B)
    → ((x : A) → test (change x) ≡ test x) → ((x : A) → mark (change x) ≡ mark x) → test new ≡ true → ((row : A) → find test rows ≡ Some row → mark row ≡ s) → mark new ≡ s → mark_found test mark (with_first test change new rows) ≡ Some s
unfolding mark_found
declares_own test mark change new [] s e f own known h = rw own (ap Some h)
declares_own test mark change new (x ∷ xs) s e f own known h =
    own_place test mark change x xs (with_first test change new xs) s (test x) refl (e x) (f x) known (λ k. declares_own test mark change new xs s e f own k h)

-- -- functions: a row comes of a declaration, and all declarations of a name have its signature

signature_declared : List ℕ → Call → Option SignatureData
signature_declared n (declare_function m l s) = cond (bytes_eq m n) (Some s) None
signature_declared n _ = None

FromCall : {A B : Type 0} → (Call → Option B) → (A → B) → (B → A) → List Call → Option A → Type 0
FromCall declared mark row cs None = Unit {0}
FromCall declared mark row cs (Some x) = (c : Call) × Contains cs c × (declared c ≡ Some (mark x)) × (x ≡ row (mark x))

from_more : {A B : Type 0} (declared : Call → Option B) (mark : A → B) (row : B → A) (cs : List Call) (c : Call) (o p : Option A) → FromCall declared mark row cs o → FromCall declared mark row (cs ++ c ∷ []) p → FromCall declared mark row (cs ++ c ∷ []) (option_or o p)
unfolding FromCall
from_more declared mark row cs c None p h k = k
from_more declared mark row cs c (Some x) p h k = (h.0, Contains-append_left cs (c ∷ []) h.0 h.1, h.2, h.3)

row_for : List Call → List ℕ → SignatureData → FunctionRow
row_for all n s = function_row n (greatest (filter_map (function_linkage n) all)) s

signature : FunctionRow → SignatureData
signature row = row.signature

made_from : (all : List Call) (n : List ℕ) (cs : List Call) (c : Call) → FromCall (signature_declared n) signature (row_for all n) (cs ++ c ∷ []) (find (is_function_named n) (option_to_list (function_made all cs c)))
unfolding FromCall signature_declared row_for function_row signature
made_from all n cs (declare_function m l s) = by_new (is_new m cs) where
  by_name : (b : Bool) → bytes_eq m n ≡ b → FromCall (signature_declared n) signature (row_for all n) (cs ++ declare_function m l s ∷ []) (cond b (Some (function_row m (greatest (filter_map (function_linkage m) all)) s)) None)
  by_name true e =
      let same : m ≡ n = (bytes_eq-Decides m n).0 e in
      (declare_function m l s, Contains-push cs (declare_function m l s), ap (λ (b : Bool). cond b (Some s) None) e, ap (λ (k : List ℕ). function_row k (greatest (filter_map (function_linkage k) all)) s) same)
  by_name false e = tt

  by_new : (b : Bool) → FromCall (signature_declared n) signature (row_for all n) (cs ++ declare_function m l s ∷ []) (find (is_function_named n) (option_to_list (cond b (Some (function_row m (greatest (filter_map (function_linkage m) all)) s)) None)))
  by_new true = by_name (bytes_eq m n) refl
  by_new false = tt
made_from all n cs (declare_anonymous_function s) = tt
made_from all n cs (declare_data m l w d) = tt
made_from all n cs (declare_anonymous_data w d) = tt
made_from all n cs (define_function id align xs relocs) = tt
made_from all n cs (define_data id d) = tt

function_from : (all : List Call) (n : List ℕ) (cs : List Call) → FromCall (signature_declared n) signature (row_for all n) cs (find (is_function_named n) (made_functions all cs))
unfolding FromCall made_functions moments
function_from all n cs = by_end (λ cs. FromCall (signature_declared n) signature (row_for all n) cs (find (is_function_named n) (made_functions all cs))) none more cs where
  none : FromCall (signature_declared n) signature (row_for all n) [] (find (is_function_named n) (made_functions all []))
  none = tt

  more : (cs : List Call) (c : Call) → FromCall (signature_declared n) signature (row_for all n) cs (find (is_function_named n) (made_functions all cs))
      → FromCall (signature_declared n) signature (row_for all n) (cs ++ c ∷ []) (find (is_function_named n) (made_functions all (cs ++ c ∷ [])))
  more cs c h =
      subst (FromCall (signature_declared n) signature (row_for all n) (cs ++ c ∷ []))
      (sym (ap (find (is_function_named n)) (made_functions-end all cs c) ∙ found_append (is_function_named n) (made_functions all cs) (option_to_list (function_made all cs c))))
      (from_more (signature_declared n) signature (row_for all n) cs c (find (is_function_named n) (made_functions all cs)) (find (is_function_named n) (option_to_list (function_made all cs c))) h (made_from all n cs c))

-- a call keeps the mark that is found, and a declaration that is accepted has it
IsKept : {B : Type 0} → (LinkState → Option B) → Type 0
IsKept {B} look = (s : LinkState) (c : Call) (m : B) → look s ≡ Some m → look (step s c) ≡ Some m

IsOwned : {B : Type 0} → (Call → Option B) → (LinkState → Option B) → Type 0
IsOwned {B} declared look = (s : LinkState) (c : Call) (m : B) → refusal s c ≡ None → declared c ≡ Some m → look (step s c) ≡ Some m

HaveMark : {B : Type 0} → Target → (Call → Option B) → (LinkState → Option B) → List Call → Type 0
HaveMark {B} target declared look cs = IsAccepted target cs → (c : Call) (m : B) → Contains cs c → declared c ≡ Some m → look (state_of target cs) ≡ Some m

have_none : {B : Type 0} (target : Target) (declared : Call → Option B) (look : LinkState → Option B) → HaveMark target declared look []
unfolding HaveMark
have_none target declared look a c m h e = absurd (omega (arith, h.1))

have_more : {B : Type 0} (target : Target) (declared : Call → Option B) (look : LinkState → Option B) → IsKept look → IsOwned declared look → (cs : List Call) (x : Call) → HaveMark target declared look cs → HaveMark target declared look (cs ++ x ∷ [])
unfolding HaveMark IsKept IsOwned
have_more {B} target declared look kept owned cs x h a c m among e =
    let free = a cs x [] refl in
    ap look (state_of-step target cs x free)
    ∙ ⊎_elim (λ before. kept (state_of target cs) x m (h (IsAccepted-front target cs x a) c m before e)) (λ here. owned (state_of target cs) x m free (ap declared here ∙ e)) (Contains-push_cases cs x c among)

have_mark : {B : Type 0} (target : Target) (declared : Call → Option B) (look : LinkState → Option B) → IsKept look → IsOwned declared look → (cs : List Call) → HaveMark target declared look cs
have_mark target declared look kept owned cs = by_end (HaveMark target declared look) (have_none target declared look) (have_more target declared look kept owned) cs

some_one : {A : Type 0} (x y : A) → Some x ≡ Some y → x ≡ y
some_one {A} x y h = ap (λ (o : Option A). unwrap_or o x) h

same_row : {A B : Type 0} (declared : Call → Option B) (mark : A → B) (row row' : B → A) (cs cs' : List Call) (o o' : Option A) → IsPermutation cs cs' → ((m : B) → row m ≡ row' m)
    → FromCall declared mark row cs o → FromCall declared mark row' cs' o'
    → ((c : Call) (m : B) → Contains cs c → declared c ≡ Some m → option_map mark o ≡ Some m)
    → ((c : Call) (m : B) → Contains cs' c → declared c ≡ Some m → option_map mark o' ≡ Some m) → o ≡ o'
unfolding FromCall
same_row declared mark row row' cs cs' None None p e h h' k k' = refl
same_row declared mark row row' cs cs' None (Some y) p e h h' k k' = let z = k h'.0 (mark y) (Contains-permutation cs' cs h'.0 (IsPermutation-sym cs cs' p) h'.1) h'.2 in absurd (cc)
same_row declared mark row row' cs cs' (Some x) None p e h h' k k' = let z = k' h.0 (mark x) (Contains-permutation cs cs' h.0 p h.1) h.2 in absurd (cc)
same_row declared mark row row' cs cs' (Some x) (Some y) p e h h' k k' =
    let marks : mark y ≡ mark x = some_one (mark y) (mark x) (k' h.0 (mark x) (Contains-permutation cs cs' h.0 p h.1) h.2) in
    ap Some (h.3 ∙ e (mark x) ∙ ap row' (sym marks) ∙ sym h'.3)

-- -- functions

look_function : List ℕ → LinkState → Option SignatureData
look_function n s = mark_found (is_function_named n) signature s.functions

keeps_function : (n : List ℕ) → IsKept (look_function n)
unfolding IsKept look_function step signature
keeps_function n s (declare_function m l sig) k h = keeps_first (is_function_named n) signature (is_function_named m) (raised_function l) (record { name = Some m; linkage = l; signature = sig }) s.functions k (λ x. refl) (λ x. refl) h
keeps_function n s (declare_anonymous_function sig) k h = keeps_append (is_function_named n) signature s.functions _ k h
keeps_function n s (declare_data m l w d) k h = h
keeps_function n s (declare_anonymous_data w d) k h = h
keeps_function n s (define_function id align xs relocs) k h = h
keeps_function n s (define_data id d) k h = h

known_signature : (m : List ℕ) (sig : SignatureData) (o : Option FunctionRow) → changes_signature m sig o ≡ None → (row : FunctionRow) → o ≡ Some row → row.signature ≡ sig
unfolding signature
known_signature m sig None h row e = absurd (cc)
known_signature m sig (Some x) h row e = ap signature (sym (some_one x row e)) ∙ same (is_same_signature x.signature sig) refl (not_refused (not (is_same_signature x.signature sig)) _ h) where
  same : (b : Bool) → is_same_signature x.signature sig ≡ b → not b ≡ false → x.signature ≡ sig
  same true e n = (same_signature-Decides x.signature sig).0 e
  same false e n = absurd (cc)

owns_function : (n : List ℕ) → IsOwned (signature_declared n) (look_function n)
unfolding IsOwned look_function step signature refusal signature_declared
owns_function n s (declare_function m l sig) k h e = by_name (bytes_eq m n) refl e where
  by_name : (b : Bool) → bytes_eq m n ≡ b → cond b (Some sig) None ≡ Some k
      → mark_found (is_function_named n) signature (with_first (is_function_named m) (raised_function l) (record { name = Some m; linkage = l; signature = sig }) s.functions) ≡ Some k
  by_name true t e =
      let same : m ≡ n = (bytes_eq-Decides m n).0 t in
      let is : sig ≡ k = some_one sig k e in
      let later = none_none (zero_byte m) _ h in
      let clash = (none_none _ _ later.1).1 in
      subst (λ (name : List ℕ). mark_found (is_function_named name) signature (with_first (is_function_named m) (raised_function l) (record { name = Some m; linkage = l; signature = sig }) s.functions) ≡ Some k) same
      (declares_own (is_function_named m) signature (raised_function l) (record { name = Some m; linkage = l; signature = sig }) s.functions k (λ x. refl) (λ x. refl) ((bytes_eq-Decides m m).1 refl)
      (λ row found. known_signature m sig (find (is_function_named m) s.functions) clash row found ∙ is) is)
  by_name false t e = absurd (cc)
owns_function n s (declare_anonymous_function sig) k h e = absurd (cc)
owns_function n s (declare_data m l w d) k h e = absurd (cc)
owns_function n s (declare_anonymous_data w d) k h e = absurd (cc)
owns_function n s (define_function id align xs relocs) k h e = absurd (cc)
owns_function n s (define_data id d) k h e = absurd (cc)

function_made_from : (n : List ℕ) (cs : List Call) → FromCall (signature_declared n) signature (row_for cs n) cs (find (is_function_named n) (functions_of cs))
unfolding functions_of made_functions
function_made_from n cs = function_from cs n cs

function_marked : (target : Target) (n : List ℕ) (cs : List Call) → IsAccepted target cs → (c : Call) (m : SignatureData) → Contains cs c → signature_declared n c ≡ Some m → option_map signature (find (is_function_named n) (functions_of cs)) ≡ Some m
unfolding HaveMark look_function mark_found state_of
function_marked target n cs = have_mark target (signature_declared n) (look_function n) (keeps_function n) (owns_function n) cs

-- the function of a name is the same in both orders
pub function_any_order : (target : Target) (n : List ℕ) (cs cs' : List Call) → IsPermutation cs cs' → IsAccepted target cs → IsAccepted target cs' → find (is_function_named n) (functions_of cs) ≡ find (is_function_named n) (functions_of cs')
unfolding row_for
function_any_order target n cs cs' p a a' =
    same_row (signature_declared n) signature (row_for cs n) (row_for cs' n) cs cs' (find (is_function_named n) (functions_of cs)) (find (is_function_named n) (functions_of cs')) p
    (λ s. ap (λ g. function_row n g s) (greatest-IsPermutation (function_linkage n) cs cs' p)) (function_made_from n cs) (function_made_from n cs') (function_marked target n cs a) (function_marked target n cs' a')

-- -- the same of data

tls_declared : List ℕ → Call → Option Bool
tls_declared n (declare_data m l w d) = cond (bytes_eq m n) (Some d) None
tls_declared n _ = None

data_row_for : List Call → List ℕ → Bool → DataRow
data_row_for all n d = data_row n (greatest (filter_map (data_linkage n) all)) (list_any (marks_writable n) all) d

tls : DataRow → Bool
tls row = row.tls

data_from_call : (all : List Call) (n : List ℕ) (cs : List Call) (c : Call) → FromCall (tls_declared n) tls (data_row_for all n) (cs ++ c ∷ []) (find (is_data_named n) (option_to_list (data_made all cs c)))
unfolding FromCall tls_declared data_row_for data_row tls
data_from_call all n cs (declare_data m l w d) = by_new (is_new m cs) where
  row_of : List ℕ → DataRow
  row_of k = data_row k (greatest (filter_map (data_linkage k) all)) (list_any (marks_writable k) all) d

  by_name : (b : Bool) → bytes_eq m n ≡ b → FromCall (tls_declared n) tls (data_row_for all n) (cs ++ declare_data m l w d ∷ []) (cond b (Some (row_of m)) None)
  by_name true e =
      let same : m ≡ n = (bytes_eq-Decides m n).0 e in
      (declare_data m l w d, Contains-push cs (declare_data m l w d), ap (λ (b : Bool). cond b (Some d) None) e, ap row_of same)
  by_name false e = tt

  by_new : (b : Bool) → FromCall (tls_declared n) tls (data_row_for all n) (cs ++ declare_data m l w d ∷ []) (find (is_data_named n) (option_to_list (cond b (Some (row_of m)) None)))
  by_new true = by_name (bytes_eq m n) refl
  by_new false = tt
data_from_call all n cs (declare_anonymous_function s) = tt
data_from_call all n cs (declare_function m l s) = tt
data_from_call all n cs (declare_anonymous_data w d) = tt
data_from_call all n cs (define_function id align xs relocs) = tt
data_from_call all n cs (define_data id d) = tt

data_from : (all : List Call) (n : List ℕ) (cs : List Call) → FromCall (tls_declared n) tls (data_row_for all n) cs (find (is_data_named n) (made_objects all cs))
unfolding FromCall made_objects moments
data_from all n cs = by_end (λ cs. FromCall (tls_declared n) tls (data_row_for all n) cs (find (is_data_named n) (made_objects all cs))) none more cs where
  none : FromCall (tls_declared n) tls (data_row_for all n) [] (find (is_data_named n) (made_objects all []))
  none = tt

  more : (cs : List Call) (c : Call) → FromCall (tls_declared n) tls (data_row_for all n) cs (find (is_data_named n) (made_objects all cs))
      → FromCall (tls_declared n) tls (data_row_for all n) (cs ++ c ∷ []) (find (is_data_named n) (made_objects all (cs ++ c ∷ [])))
  more cs c h =
      subst (FromCall (tls_declared n) tls (data_row_for all n) (cs ++ c ∷ []))
      (sym (ap (find (is_data_named n)) (made_objects-end all cs c) ∙ found_append (is_data_named n) (made_objects all cs) (option_to_list (data_made all cs c))))
      (from_more (tls_declared n) tls (data_row_for all n) cs c (find (is_data_named n) (made_objects all cs)) (find (is_data_named n) (option_to_list (data_made all cs c))) h (data_from_call all n cs c))

look_data : List ℕ → LinkState → Option Bool
look_data n s = mark_found (is_data_named n) tls s.objects

keeps_data : (n : List ℕ) → IsKept (look_data n)
unfolding IsKept look_data step tls
keeps_data n s (declare_data m l w d) k h = keeps_first (is_data_named n) tls (is_data_named m) (raised_data l w) (record { name = Some m; linkage = l; writable = w; tls = d }) s.objects k (λ x. refl) (λ x. refl) h
keeps_data n s (declare_anonymous_data w d) k h = keeps_append (is_data_named n) tls s.objects _ k h
keeps_data n s (declare_function m l sig) k h = h
keeps_data n s (declare_anonymous_function sig) k h = h
keeps_data n s (define_function id align xs relocs) k h = h
keeps_data n s (define_data id d) k h = h

known_tls : (m : List ℕ) (d : Bool) (o : Option DataRow) → changes_tls m d o ≡ None → (row : DataRow) → o ≡ Some row → row.tls ≡ d
unfolding tls
known_tls m d None h row e = absurd (cc)
known_tls m true (Some x) h row e = ap tls (sym (some_one x row e)) ∙ is_true x.tls (not_refused (not x.tls) _ h) where
  is_true : (b : Bool) → not b ≡ false → b ≡ true
  is_true true n = refl
  is_true false n = absurd (cc)
known_tls m false (Some x) h row e = ap tls (sym (some_one x row e)) ∙ not_refused x.tls _ h

owns_data : (n : List ℕ) → IsOwned (tls_declared n) (look_data n)
unfolding IsOwned look_data step tls refusal tls_declared
owns_data n s (declare_data m l w d) k h e = by_name (bytes_eq m n) refl e where
  by_name : (b : Bool) → bytes_eq m n ≡ b → cond b (Some d) None ≡ Some k
      → mark_found (is_data_named n) tls (with_first (is_data_named m) (raised_data l w) (record { name = Some m; linkage = l; writable = w; tls = d }) s.objects) ≡ Some k
  by_name true t e =
      let same : m ≡ n = (bytes_eq-Decides m n).0 t in
      let is : d ≡ k = some_one d k e in
      let later = none_none (zero_byte m) _ h in
      let clash = (none_none _ _ later.1).1 in
      subst (λ (name : List ℕ). mark_found (is_data_named name) tls (with_first (is_data_named m) (raised_data l w) (record { name = Some m; linkage = l; writable = w; tls = d }) s.objects) ≡ Some k) same
      (declares_own (is_data_named m) tls (raised_data l w) (record { name = Some m; linkage = l; writable = w; tls = d }) s.objects k (λ x. refl) (λ x. refl) ((bytes_eq-Decides m m).1 refl)
      (λ row found. known_tls m d (find (is_data_named m) s.objects) clash row found ∙ is) is)
  by_name false t e = absurd (cc)
owns_data n s (declare_anonymous_function sig) k h e = absurd (cc)
owns_data n s (declare_function m l sig) k h e = absurd (cc)
owns_data n s (declare_anonymous_data w d) k h e = absurd (cc)
owns_data n s (define_function id align xs relocs) k h e = absurd (cc)
owns_data n s (define_data id d) k h e = absurd (cc)

data_made_from : (n : List ℕ) (cs : List Call) → FromCall (tls_declared n) tls (data_row_for cs n) cs (find (is_data_named n) (objects_of cs))
unfolding objects_of made_objects
data_made_from n cs = data_from cs n cs

data_marked : (target : Target) (n : List ℕ) (cs : List Call) → IsAccepted target cs → (c : Call) (m : Bool) → Contains cs c → tls_declared n c ≡ Some m → option_map tls (find (is_data_named n) (objects_of cs)) ≡ Some m
unfolding HaveMark look_data mark_found state_of
data_marked target n cs = have_mark target (tls_declared n) (look_data n) (keeps_data n) (owns_data n) cs

-- the data object of a name is the same in both orders
pub data_any_order : (target : Target) (n : List ℕ) (cs cs' : List Call) → IsPermutation cs cs' → IsAccepted target cs → IsAccepted target cs' → find (is_data_named n) (objects_of cs) ≡ find (is_data_named n) (objects_of cs')
unfolding data_row_for
data_any_order target n cs cs' p a a' =
    same_row (tls_declared n) tls (data_row_for cs n) (data_row_for cs' n) cs cs' (find (is_data_named n) (objects_of cs)) (find (is_data_named n) (objects_of cs')) p
    (λ d. ap (λ g. data_row n g (list_any (marks_writable n) cs) d) (greatest-IsPermutation (data_linkage n) cs cs' p) ∙ ap (λ w. data_row n (greatest (filter_map (data_linkage n) cs')) w d) (list_any-IsPermutation (marks_writable n) cs cs' p))
    (data_made_from n cs) (data_made_from n cs') (data_marked target n cs a) (data_marked target n cs' a')
