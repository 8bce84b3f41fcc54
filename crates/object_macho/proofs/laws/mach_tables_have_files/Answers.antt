use Rattle.object_macho.proofs.Bytes.{bytes-mach_file}
use Rattle.object_macho.proofs.Holds.{file_holds}
use Rattle.object_macho.proofs.TableFits.{table_fits}
use Rattle.object_macho.proofs.laws.mach_tables_have_files.Goals as goal

pub returns-clause-held : goal.returns-clause-held
returns-clause-held c = file_holds

pub returns-clause-fits : goal.returns-clause-fits
returns-clause-fits c = table_fits

pub returns-clause-bytes : goal.returns-clause-bytes
returns-clause-bytes c = bytes-mach_file
