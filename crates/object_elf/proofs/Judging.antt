-- Answers that are judged by the limits.
use Rattle.std.proofs.Common.{◌≡◌, ◌^◌, ap, true, Option, Some, None, Result, Ok, Err}
use Rattle.std.specs.Prelude.{IfSome, is_ok}
use Rattle.std.specs.Option.{option_or}
use Rattle.object_core.specs.declared.error.EmitError.{EmitError}
use Rattle.object_core.specs.declared.error.EmitError.TheVariants.{TooMany, TooLarge, OutOfMemory}
use Rattle.object_core.specs.declared.error.What.TheVariants.{Sections, Symbols, Contents, Names}
use Rattle.object_core.proofs.Judged.{below, first_none, rest_none}
use Rattle.object_core.specs.Object.{ObjectData}
use Rattle.object_core.specs.ElfRows.{elf_table_of}
use Rattle.object_elf.specs.Counts.{Counts, elf_counts}
use Rattle.object_elf.specs.Limits.{limit_if, limit_cause, IsJudged, IsWithinLimits}
use Rattle.object_elf.specs.PlainCounts.{plain_counts}
use Rattle.object_elf.proofs.Tables.{counts_are}

pub within_limits : (c : Counts) → limit_cause c ≡ None → IsWithinLimits c
within_limits c h =
    let sections = limit_if 65280 c.sections (TooMany Sections c.sections) in
    let symbols = limit_if (2 ^ 32) c.symbols (TooMany Symbols c.symbols) in
    let contents = limit_if (2 ^ 63) c.contents (TooLarge Contents c.contents) in
    let names = limit_if (2 ^ 32) c.names (TooLarge Names c.names) in
    let h1 = rest_none sections (option_or symbols (option_or contents names)) h in
    let h2 = rest_none symbols (option_or contents names) h1 in
    record {
      sections = below 65280 c.sections (TooMany Sections c.sections) (first_none sections (option_or symbols (option_or contents names)) h);
      symbols = below (2 ^ 32) c.symbols (TooMany Symbols c.symbols) (first_none symbols (option_or contents names) h1);
      contents = below (2 ^ 63) c.contents (TooLarge Contents c.contents) (first_none contents names h2);
      names = below (2 ^ 32) c.names (TooLarge Names c.names) (rest_none contents names h2);
    }

-- -- answers

abbrev refusal : (A : Type 0) → EmitError → Result A EmitError
refusal A e = Err e

told_as : (A B : Type 0) (e : EmitError) (cause : Option EmitError) → IfSome cause (λ x. refusal A e ≡ Err x) → IfSome cause (λ x. refusal B e ≡ Err x)
told_as A B e None h = tt
told_as A B e (Some x) h = let same : e ≡ x = cc in ap (λ y. Err y) same

-- a refusal that is handed on
pub judged_err : {A B : Type 0} (r : Result B EmitError) (e : EmitError) (c : Counts) → r ≡ Err e → IsJudged {A = A} (Err e) c → IsJudged {A = B} r c
judged_err {A} {B} r e c same j = rw same (record { ok = tt; err = j.err; told = λ h. told_as A B e (limit_cause c) (j.told h) })

pub judged_memory : {A : Type 0} (r : Result A EmitError) (e : EmitError) (c : Counts) → r ≡ Err e → e ≡ OutOfMemory → limit_cause c ≡ None → IsJudged {A = A} r c
judged_memory {A} r e c same memory none = rw (same, memory) (record { ok = tt; err = tt; told = λ h. rw none tt })

pub judged_ok : {A : Type 0} (x : A) (c : Counts) → limit_cause c ≡ None → IsJudged {A = A} (Ok x) c
judged_ok {A} x c none = record { ok = none; err = tt; told = λ h. rw none tt }

pub judged_as : {A : Type 0} (r : Result A EmitError) (o : ObjectData) → IsJudged {A = A} r (plain_counts o) → IsJudged {A = A} r (elf_counts (elf_table_of o) o.content_sum)
judged_as {A} r o j = rw (counts_are o) j

pub ok_cause : {A : Type 0} (r : Result A EmitError) (c : Counts) → is_ok r ≡ true → IsJudged {A = A} r c → limit_cause c ≡ None
ok_cause {A} (Ok x) c h j = j.ok
ok_cause {A} (Err e) c h j = absurd (cc)
