use Rattle.std.proofs.Common.{arith}
use Rattle.goblin_mach.specs.FatFile.{FatFile}
use Rattle.goblin_mach.proofs.Items.{length-items}
use Rattle.goblin_mach.proofs.fat.MultiArch.iter_arches.Goals as goal

pub returns-clause-bound : goal.returns-clause-bound
returns-clause-bound c =
    let fat : FatFile = record { bytes = c.self.inside.bytes.now; narches = c.self.inside.narches } in
    omega (arith, length-items fat, c.self.told.0)
