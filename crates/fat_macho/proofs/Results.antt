-- What is said of a result, when one fact leads to another.
use Rattle.std.proofs.Common.{Result, Ok, Err, IfOk, IfErr, OnOk, OnErr}

pub ok_as : {A E : Type 0} (r : Result A E) (P Q : A → Type 0) → ((x : A) → P x → Q x) → IfOk r P → IfOk r Q
ok_as (Ok x) P Q leads h = leads x h
ok_as (Err e) P Q leads h = h

pub err_as : {A E : Type 0} (r : Result A E) (P Q : E → Type 0) → ((e : E) → P e → Q e) → IfErr r P → IfErr r Q
err_as (Ok x) P Q leads h = h
err_as (Err e) P Q leads h = leads e h

pub on_ok_as : {A E : Type 0} (r : Result A E) (P Q : Type 0) → (P → Q) → OnOk r P → OnOk r Q
on_ok_as (Ok x) P Q leads h = leads h
on_ok_as (Err e) P Q leads h = h

pub on_err_as : {A E : Type 0} (r : Result A E) (P Q : Type 0) → (P → Q) → OnErr r P → OnErr r Q
on_err_as (Ok x) P Q leads h = h
on_err_as (Err e) P Q leads h = leads h
