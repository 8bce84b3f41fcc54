-- What reading the input or files leaves as it was.
use Rattle.std.proofs.Common.{refl}
use Rattle.byte_core.specs.Outside.{Outside, ChangesInput}
use Rattle.fat_commands.specs.Files.{ReadsFiles}
use Rattle.objtool_run.specs.Ends.{ReadsAlone}

pub alone : (now : Outside) → ReadsAlone now now
alone now = record { output = refl; write_faults = refl; errors = refl; err_faults = refl; files = refl }

pub alone_input : (a b : Outside) → ChangesInput a b → ReadsAlone a b
alone_input a b h = record { output = h.output; write_faults = h.write_faults; errors = h.errors; err_faults = h.err_faults; files = h.files.files }

pub alone_files : (a b : Outside) → ReadsFiles a b → ReadsAlone a b
alone_files a b h = record { output = h.streams.output; write_faults = h.streams.write_faults; errors = h.streams.errors; err_faults = h.streams.err_faults; files = h.streams.files }
