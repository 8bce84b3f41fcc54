use Rattle.pe_signed.proofs.SignedFile.{signed_law}
use Rattle.pe_signed.proofs.laws.signed_file_law.Goals as goal

pub returns : goal.returns
returns c = signed_law
