-- A Mach-O object that is well formed has a Mach-O file.
use Rattle.std.proofs.Common.{◌≡◌, subst}
use Rattle.ir_core.specs.declared.target.BinaryFormat.{BinaryFormat}
use Rattle.ir_core.specs.declared.target.BinaryFormat.TheVariants.{Macho}
use Rattle.object_core.specs.Object.{ObjectData}
use Rattle.object_core.specs.WellFormed.{IsFormed, IsFormedIn, IsFormedMacho}

pub formed_macho : (o : ObjectData) → IsFormed o → o.format ≡ Macho → IsFormedMacho o
formed_macho o formed is = subst (λ (f : BinaryFormat). IsFormedIn f o) is formed.formed
