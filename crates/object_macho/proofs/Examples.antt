-- The files of the tables of small objects, byte by byte: no section, a build version, a call on x86_64, an addend in a record on
-- arm64, sections and symbols of every kind, and fields on arm64.
use Rattle.std.proofs.Common.{◌≡◌, ℕ, ℤ, pos, negsuc, Bool, true, false, List, [], ◌∷◌, Some, None, refl, codes}
use Rattle.byte_core.specs.Number.{little_bytes}
use Rattle.byte_core.specs.Fields.{field_bytes}
use Rattle.byte_core.specs.LaidOut.{laid_out}
use Rattle.byte_core.specs.Strings.{string_bytes_of}
use Rattle.image_read.proofs.MachFiles.{empty_file, versioned_file, call_file, page_file, many_file, arm_file}
use Rattle.object_core.specs.LinkTable.{MachRelocation, MachTableSection, MachTableSymbol, MachTable}
use Rattle.object_macho.specs.Layout.{stored_contents, records_of, end_of_sections}
use Rattle.object_macho.specs.Counts.{mach_counts}
use Rattle.object_macho.specs.File.{mach_file, section_headers_from, mach_symbol_rows_from}

abbrev symbol : List ℕ → ℕ → ℕ → ℕ → ℕ → MachTableSymbol
symbol name n_type sect desc value = record { name = name; n_type = n_type; sect = sect; desc = desc; value = value }

abbrev section : List ℕ → List ℕ → ℕ → ℕ → ℕ → ℕ → List ℕ → List MachRelocation → MachTableSection
section segment name address size align flags contents relocations = record { segment = segment; name = name; address = address; size = size; align = align; flags = flags; contents = contents; relocations = relocations }

abbrev relocation : ℕ → ℕ → ℕ → Bool → ℕ → ℤ → MachRelocation
relocation offset symbol r_type pcrel length addend = record { offset = offset; symbol = symbol; r_type = r_type; pcrel = pcrel; length = length; addend = addend }

-- -- empty_file

abbrev pub empty_table : MachTable
empty_table =
    record {
      cputype = 0x1000007;
      cpusubtype = 3;
      build_version = None;
      sections = [];
      symbols = [];
    }

the_bytes_of_empty : mach_file empty_table ≡ empty_file
unfolding mach_file section_headers_from mach_symbol_rows_from laid_out field_bytes little_bytes stored_contents records_of end_of_sections string_bytes_of lib.Count.count_trailing_zeros
the_bytes_of_empty = refl

the_counts_of_empty : mach_counts empty_table 0 ≡ record { sections = 0; symbols = 0; contents = 0; file = 129 }
unfolding mach_counts end_of_sections records_of
the_counts_of_empty = refl

-- -- versioned_file

abbrev pub versioned_table : MachTable
versioned_table =
    record {
      cputype = 0x1000007;
      cpusubtype = 3;
      build_version = Some (record { platform = 1; minos = 720896; sdk = 0 });
      sections = [];
      symbols = [];
    }

the_bytes_of_versioned : mach_file versioned_table ≡ versioned_file
unfolding mach_file section_headers_from mach_symbol_rows_from laid_out field_bytes little_bytes stored_contents records_of end_of_sections string_bytes_of lib.Count.count_trailing_zeros
the_bytes_of_versioned = refl

the_counts_of_versioned : mach_counts versioned_table 0 ≡ record { sections = 0; symbols = 0; contents = 0; file = 153 }
unfolding mach_counts end_of_sections records_of
the_counts_of_versioned = refl

-- -- call_file

abbrev pub call_table : MachTable
call_table =
    record {
      cputype = 0x1000007;
      cpusubtype = 3;
      build_version = None;
      sections =
          section (codes "__TEXT") (codes "__text") 0 5 1 0x80000400 (0xe8 ∷ 0x11 ∷ 0x22 ∷ 0x33 ∷ 0x44 ∷ []) (relocation 1 1 1 true 2 (negsuc 3) ∷ [])
          ∷ [];
      symbols =
          symbol (codes "_f") 0xf 1 0 0
          ∷ symbol (codes "_g") 0x1 0 0 0
          ∷ [];
    }

the_bytes_of_call : mach_file call_table ≡ call_file
unfolding mach_file section_headers_from mach_symbol_rows_from laid_out field_bytes little_bytes stored_contents records_of end_of_sections string_bytes_of lib.Count.count_trailing_zeros
the_bytes_of_call = refl

the_counts_of_call : mach_counts call_table 6 ≡ record { sections = 1; symbols = 2; contents = 6; file = 263 }
unfolding mach_counts end_of_sections records_of
the_counts_of_call = refl

-- -- page_file

abbrev pub page_table : MachTable
page_table =
    record {
      cputype = 0x100000c;
      cpusubtype = 0;
      build_version = None;
      sections =
          section (codes "__TEXT") (codes "__text") 0 4 4 0x80000400 (0 ∷ 0 ∷ 0 ∷ 0x90 ∷ []) (relocation 0 1 3 true 2 (pos 16) ∷ [])
          ∷ [];
      symbols =
          symbol (codes "_f") 0xf 1 0 0
          ∷ symbol (codes "_g") 0x1 0 0 0
          ∷ [];
    }

the_bytes_of_page : mach_file page_table ≡ page_file
unfolding mach_file section_headers_from mach_symbol_rows_from laid_out field_bytes little_bytes stored_contents records_of end_of_sections string_bytes_of lib.Count.count_trailing_zeros
the_bytes_of_page = refl

the_counts_of_page : mach_counts page_table 8 ≡ record { sections = 1; symbols = 2; contents = 8; file = 271 }
unfolding mach_counts end_of_sections records_of
the_counts_of_page = refl

-- -- many_file

abbrev pub many_table : MachTable
many_table =
    record {
      cputype = 0x1000007;
      cpusubtype = 3;
      build_version = Some (record { platform = 7; minos = 0; sdk = 0 });
      sections =
          section (codes "__TEXT") (codes "__text") 0 17 16 0x80000400 (0xe8 ∷ 0 ∷ 0 ∷ 0 ∷ 0 ∷ 0 ∷ 0 ∷ 0 ∷ 0 ∷ 0 ∷ 0 ∷ 0 ∷ 0 ∷ 0 ∷ 0 ∷ 0 ∷ 0xc3 ∷ []) (relocation 1 9 2 true 2 (negsuc 3) ∷ [])
          ∷ section (codes "__DATA") (codes "__data") 17 4 1 0 (1 ∷ 2 ∷ 3 ∷ 4 ∷ []) []
          ∷ section (codes "__DATA") (codes "__const") 24 16 8 0 (0xaa ∷ 0xaa ∷ 0xaa ∷ 0xaa ∷ 0xaa ∷ 0xaa ∷ 0xaa ∷ 0xaa ∷ 0xaa ∷ 0xaa ∷ 0xaa ∷ 0xaa ∷ 0xaa ∷ 0xaa ∷ 0xaa ∷ 0xaa ∷ []) (relocation 8 3 0 false 3 (pos 0) ∷ relocation 0 5 0 false 3 (negsuc 4) ∷ [])
          ∷ section (codes "__TEXT") (codes "__const") 40 1 1 0 (0 ∷ []) []
          ∷ section (codes "__DATA") (codes "__mod_init_func") 41 8 1 0x10000009 (5 ∷ 0 ∷ 0 ∷ 0 ∷ 0 ∷ 0 ∷ 0 ∷ 0 ∷ []) []
          ∷ section (codes "__DATA") (codes "__bss") 56 16 8 1 [] []
          ∷ [];
      symbols =
          symbol (codes "_u") 0xe 2 0x20 17
          ∷ symbol (codes "_t") 0xe 3 0 24
          ∷ symbol (codes "_e") 0xe 4 0 40
          ∷ symbol (codes ".L0_4") 0xe 1 0 4
          ∷ symbol (codes "_f") 0xf 1 0 0
          ∷ symbol (codes "_z") 0x1f 6 0 56
          ∷ symbol (codes "_p") 0xf 1 0x80 16
          ∷ symbol (codes "_q") 0x1 0 0x40 0
          ∷ symbol (codes "_c") 0xf 5 0 41
          ∷ symbol (codes "_memcpy") 0x1 0 0 0
          ∷ [];
    }

the_bytes_of_many : mach_file many_table ≡ many_file
unfolding mach_file section_headers_from mach_symbol_rows_from laid_out field_bytes little_bytes stored_contents records_of end_of_sections string_bytes_of lib.Count.count_trailing_zeros
the_bytes_of_many = refl

the_counts_of_many : mach_counts many_table 87 ≡ record { sections = 6; symbols = 10; contents = 87; file = 911 }
unfolding mach_counts end_of_sections records_of
the_counts_of_many = refl

-- -- arm_file

abbrev pub arm_table : MachTable
arm_table =
    record {
      cputype = 0x100000c;
      cpusubtype = 0;
      build_version = Some (record { platform = 1; minos = 1310978; sdk = 0 });
      sections =
          section (codes "__TEXT") (codes "__text") 0 16 4 0x80000400 (0 ∷ 0 ∷ 0 ∷ 0x94 ∷ 0 ∷ 1 ∷ 0 ∷ 0x91 ∷ 8 ∷ 0 ∷ 0 ∷ 0x90 ∷ 8 ∷ 1 ∷ 0x40 ∷ 0xf9 ∷ []) (relocation 0 3 2 true 2 (pos 0) ∷ relocation 4 1 4 false 2 (negsuc 7) ∷ relocation 8 3 5 true 2 (pos 0) ∷ relocation 12 3 9 false 2 (pos 0) ∷ [])
          ∷ section (codes "__DATA") (codes "__data") 16 9 8 0 (0xff ∷ 0xff ∷ 0xff ∷ 0xff ∷ 0xff ∷ 0xff ∷ 0xff ∷ 0xff ∷ 1 ∷ []) (relocation 0 3 0 false 3 (pos 5) ∷ [])
          ∷ section (codes "__DATA") (codes "__tz") 28 4 4 0x12 [] []
          ∷ [];
      symbols =
          symbol (codes "_z") 0xe 3 0 28
          ∷ symbol (codes "_d") 0xe 2 0 16
          ∷ symbol (codes "_f") 0x1f 1 0 0
          ∷ symbol (codes "_g") 0x1 0 0 0
          ∷ [];
    }

the_bytes_of_arm : mach_file arm_table ≡ arm_file
unfolding mach_file section_headers_from mach_symbol_rows_from laid_out field_bytes little_bytes stored_contents records_of end_of_sections string_bytes_of lib.Count.count_trailing_zeros
the_bytes_of_arm = refl

the_counts_of_arm : mach_counts arm_table 45 ≡ record { sections = 3; symbols = 4; contents = 45; file = 549 }
unfolding mach_counts end_of_sections records_of
the_counts_of_arm = refl
