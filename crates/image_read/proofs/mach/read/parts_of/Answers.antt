use Rattle.image_read.specs.MachImage.{IsMach}
use Rattle.image_read.proofs.MachCommands.{sound_of_mach, when_none}
use Rattle.image_read.proofs.mach.read.parts_of.Goals as goal

pub returns-in_err-commands-clause-none : goal.returns-in_err-commands-clause-none
returns-in_err-commands-clause-none c =
    let no_file : IsMach c.args.file.now → ⊥ = λ mach. c.in_err-commands.ensures.none (sound_of_mach _ mach) in
    when_none _ _ no_file
