-- The printed texts of refusals.
use Rattle.std.specs.Prelude.{ℕ, false, List, ◌++◌, codes, decimal}
use Rattle.std.specs.Fmt.{digits}
use Rattle.pe_core.specs.declared.pe_error.Case.{Case}
use Rattle.pe_core.specs.declared.pe_error.Case.TheVariants.{NoOffset, MetadataRange, BadText, NoTextEnd, StreamBeforeMetadata, TooSmall, DirectoryRange, TlsOrder, BelowBase, HeaderPlaces, SectionRange, CertificateRange}
use Rattle.pe_core.specs.declared.pe_error.Error.{Error}
use Rattle.pe_core.specs.declared.pe_error.Error.TheVariants.{Malformed, BufferTooShort, OutOfMemory}

-- an address in lower-case hexadecimal, behind 0x
abbrev pub address_text : ℕ → List ℕ
address_text address = codes "0x" ++ digits 16 false address

-- what is wrong with a file, with the number that the case keeps
abbrev pub case_text : Case → List ℕ
case_text (NoOffset rva) = codes "no offset for the relative virtual address " ++ address_text rva
case_text MetadataRange = codes "CLR metadata past its end"
case_text BadText = codes "text that is not UTF-8"
case_text NoTextEnd = codes "stream name without an end"
case_text StreamBeforeMetadata = codes "CLR stream before the metadata"
case_text TooSmall = codes "load configuration too small"
case_text DirectoryRange = codes "directory past the end of the file"
case_text TlsOrder = codes "thread-local data ends before it starts"
case_text (BelowBase address) = codes "address " ++ (address_text address ++ codes " below the image base")
case_text HeaderPlaces = codes "excluded places out of order"
case_text (SectionRange i) = codes "section " ++ (decimal i ++ codes " past the end of the file")
case_text CertificateRange = codes "certificates past the end of the file"

-- why a reader gives no value
abbrev pub error_text : Error → List ℕ
error_text (Malformed case) = codes "malformed: " ++ case_text case
error_text BufferTooShort = codes "buffer too short"
error_text OutOfMemory = codes "out of memory"
