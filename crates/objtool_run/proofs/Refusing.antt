-- What is told of parts that are refused.
use Rattle.std.proofs.Common.{List}
use Rattle.image_build.specs.declared.error.BuildError.{BuildError}
use Rattle.image_build.specs.Built.{BuildPart, TellsBuild, build_cause}
use Rattle.image_build.proofs.Told.{told_some}
use Rattle.objtool_run.specs.Run.{ExplainsParts, TellsRefusal}
use Rattle.objtool_run.specs.declared.fault.Fault.{Fault}
use Rattle.objtool_run.specs.declared.fault.Fault.TheVariants.{Refused, BadWords, ReadFailed, WriteFailed, OutOfMemory, NotUnderstood, TooLong}

-- the fault of a build's error explains the parts
pub refused_parts : (parts : List BuildPart) (error : BuildError) (fault : Fault) → TellsBuild error (build_cause parts) → TellsRefusal error fault → ExplainsParts parts fault
refused_parts parts error (Refused text) tells told =
    let r = told_some error (build_cause parts) tells told.0 in
    record { refusal = r.0; refused = r.1; error = error; no_memory = told.0; tells = tells; text_is = told.1 }
refused_parts parts error BadWords tells told = absurd told
refused_parts parts error ReadFailed tells told = absurd told
refused_parts parts error WriteFailed tells told = absurd told
refused_parts parts error OutOfMemory tells told = tt
refused_parts parts error NotUnderstood tells told = absurd told
refused_parts parts error TooLong tells told = absurd told
