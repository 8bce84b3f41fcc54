-- Which bytes of a file its signature covers, by their positions: "Windows Authenticode Portable Executable Signature Format",
-- "Calculating the PE Image Hash".
use Rattle.std.specs.Prelude.{◌≡◌, ℕ, ◌+◌, ◌&&◌, not, nat_le, nat_lt, Bool, List, [], ◌∷◌, ◌++◌, length, filter, replicate, if◌then◌else◌}
use Rattle.pe_signed.specs.declared.authenticode.ExcludedSections.{ExcludedSections}
use Rattle.pe_core.specs.declared.section_table.SectionTable.{SectionTable}
use Rattle.pe_signed.specs.SignedRanges.{is_filled, by_pointer, fill_of}

-- a position lies from `start` on and before `end`
abbrev pub is_between : ℕ → ℕ → ℕ → Bool
is_between start end p = nat_le start p && nat_lt p end

-- a position of a file of n bytes lies outside the checksum and the certificate entry, and isn't among the last, which the certificates take
abbrev pub is_signed : ExcludedSections → ℕ → ℕ → Bool
is_signed ex n p =
    not (is_between ex.checksum.start ex.checksum.end p)
    && not (is_between ex.datadir_entry_certtable.start ex.datadir_entry_certtable.end p)
    && nat_lt (p + ex.certificate_table_size) n

-- the bytes at the positions that pass a test, where the first is at position p
unfoldable pub bytes_where : (ℕ → Bool) → ℕ → List ℕ → List ℕ
bytes_where test p [] = []
bytes_where test p (x ∷ xs) = if test p then x ∷ bytes_where test (p + 1) xs else bytes_where test (p + 1) xs

-- the signed bytes, and zeros up to a multiple of 8 of the file's length
abbrev pub signed : List ℕ → ExcludedSections → List ℕ
signed b ex = bytes_where (is_signed ex (length b)) 0 b ++ replicate (fill_of (length b)) 0

-- the sections lie one behind the other, the first at this place
abbrev pub LieEndToEnd : ℕ → List SectionTable → Type 0
LieEndToEnd at [] = Unit {0}
LieEndToEnd at (s ∷ ss) = (s.pointer_to_raw_data ≡ at) × LieEndToEnd (at + s.size_of_raw_data) ss

-- the sections that have bytes fill the file from the header's end on
abbrev pub FillFrom : ExcludedSections → List SectionTable → Type 0
FillFrom ex sections = LieEndToEnd ex.end_image_header (by_pointer (filter is_filled sections))
