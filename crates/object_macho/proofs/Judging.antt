-- Answers that are judged by the limits.
use Rattle.std.proofs.Common.{◌≡◌, ◌^◌, None, Result, subst}
use Rattle.std.specs.Option.{option_or}
use Rattle.object_core.specs.declared.error.EmitError.{EmitError}
use Rattle.object_core.specs.declared.error.EmitError.TheVariants.{TooMany, TooLarge}
use Rattle.object_core.specs.declared.error.What.TheVariants.{Sections, Symbols, Contents, File}
use Rattle.object_core.specs.Limits.{limit_if, IsJudgedBy}
use Rattle.object_core.proofs.Judged.{below, first_none, rest_none}
use Rattle.object_core.specs.Object.{ObjectData}
use Rattle.object_core.specs.MachRows.{macho_table_of}
use Rattle.object_macho.specs.Counts.{MachCounts, mach_counts}
use Rattle.object_macho.specs.Limits.{mach_limit_cause}
use Rattle.object_macho.specs.Plan.{IsWithinLimits}
use Rattle.object_macho.specs.PlainCounts.{plain_counts}
use Rattle.object_macho.proofs.Counting.{counts_are}

pub within_limits : (c : MachCounts) → mach_limit_cause c ≡ None → IsWithinLimits c
within_limits c h =
    let sections = limit_if 256 c.sections (TooMany Sections c.sections) in
    let symbols = limit_if (2 ^ 24) c.symbols (TooMany Symbols c.symbols) in
    let contents = limit_if (2 ^ 31) c.contents (TooLarge Contents c.contents) in
    let file = limit_if (2 ^ 32) c.file (TooLarge File c.file) in
    let h1 = rest_none sections (option_or symbols (option_or contents file)) h in
    let h2 = rest_none symbols (option_or contents file) h1 in
    record {
      sections = below 256 c.sections (TooMany Sections c.sections) (first_none sections (option_or symbols (option_or contents file)) h);
      symbols = below (2 ^ 24) c.symbols (TooMany Symbols c.symbols) (first_none symbols (option_or contents file) h1);
      contents = below (2 ^ 31) c.contents (TooLarge Contents c.contents) (first_none contents file h2);
      file = below (2 ^ 32) c.file (TooLarge File c.file) (rest_none contents file h2);
    }

pub judged_as : {A : Type 0} (r : Result A EmitError) (o : ObjectData) → IsJudgedBy {A = A} r (mach_limit_cause (plain_counts o)) → IsJudgedBy {A = A} r (mach_limit_cause (mach_counts (macho_table_of o) o.content_sum))
judged_as {A} r o j = subst (λ (c : MachCounts). IsJudgedBy {A = A} r (mach_limit_cause c)) (counts_are o) j
