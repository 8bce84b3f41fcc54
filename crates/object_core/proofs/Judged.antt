-- Answers that are judged by limits.
use Rattle.std.proofs.Common.{◌≡◌, ℕ, ◌<◌, refl, ap, Bool, true, false, cond, Option, Some, None, Result, Ok, Err}
use Rattle.std.specs.Prelude.{nat_le, IfSome, is_ok}
use Rattle.std.specs.Option.{option_or}
use Rattle.std.proofs.lemmas.Bool.{leb-false}
use Rattle.object_core.specs.declared.error.EmitError.{EmitError}
use Rattle.object_core.specs.declared.error.EmitError.TheVariants.{OutOfMemory}
use Rattle.object_core.specs.Limits.{limit_if, IsJudgedBy}

-- -- what no limit means

below_by : (bound n : ℕ) (e : EmitError) (b : Bool) → nat_le bound n ≡ b → cond b (Some e) None ≡ None → n < bound
below_by bound n e true t h = absurd (cc)
below_by bound n e false t h = leb-false bound n t

pub below : (bound n : ℕ) (e : EmitError) → limit_if bound n e ≡ None → n < bound
below bound n e h = below_by bound n e (nat_le bound n) refl h

pub first_none : (a b : Option EmitError) → option_or a b ≡ None → a ≡ None
first_none None b h = refl
first_none (Some e) b h = absurd (cc)

pub rest_none : (a b : Option EmitError) → option_or a b ≡ None → b ≡ None
rest_none None b h = h
rest_none (Some e) b h = absurd (cc)

-- -- answers

abbrev refusal : (A : Type 0) → EmitError → Result A EmitError
refusal A e = Err e

told_as : (A B : Type 0) (e : EmitError) (cause : Option EmitError) → IfSome cause (λ x. refusal A e ≡ Err x) → IfSome cause (λ x. refusal B e ≡ Err x)
told_as A B e None h = tt
told_as A B e (Some x) h = let same : e ≡ x = cc in ap (λ y. Err y) same

-- a refusal that is handed on
pub judged_err : {A B : Type 0} (r : Result B EmitError) (e : EmitError) (cause : Option EmitError) → r ≡ Err e → IsJudgedBy {A = A} (Err e) cause → IsJudgedBy {A = B} r cause
judged_err {A} {B} r e cause same j = rw same (record { ok = tt; err = j.err; told = told_as A B e cause j.told })

pub judged_memory : {A : Type 0} (r : Result A EmitError) (e : EmitError) (cause : Option EmitError) → r ≡ Err e → e ≡ OutOfMemory → cause ≡ None → IsJudgedBy {A = A} r cause
judged_memory {A} r e cause same memory none = rw (same, memory) (record { ok = tt; err = tt; told = rw none tt })

pub judged_ok : {A : Type 0} (x : A) (cause : Option EmitError) → cause ≡ None → IsJudgedBy {A = A} (Ok x) cause
judged_ok {A} x cause none = record { ok = none; err = tt; told = rw none tt }

pub ok_cause : {A : Type 0} (r : Result A EmitError) (cause : Option EmitError) → is_ok r ≡ true → IsJudgedBy {A = A} r cause → cause ≡ None
ok_cause {A} (Ok x) cause h j = j.ok
ok_cause {A} (Err e) cause h j = absurd (cc)
