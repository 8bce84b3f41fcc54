use Rattle.std.proofs.Common.{map}
use Rattle.image_build.specs.Parts.{part_view}
use Rattle.objtool_run.proofs.Refusing.{refused_parts}
use Rattle.objtool_run.proofs.build.file_of.Goals as goal

pub returns-in-Err-clause-explained : goal.returns-in-Err-clause-explained
returns-in-Err-clause-explained c = refused_parts (map part_view c.args.parts.now) c.in-Err.error c.refused.result c.in-Err.ensures.cause c.refused.ensures
