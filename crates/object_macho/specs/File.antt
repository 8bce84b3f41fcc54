-- The bytes of a written Mach-O file, part by part: Apple's mach-o/loader.h, mach-o/nlist.h and mach-o/reloc.h.
use Rattle.std.specs.Prelude.{ℕ, ◌+◌, ◌-◌, ◌*◌, ◌^◌, Bool, List, [], ◌∷◌, ◌++◌, map, filter, flat_map, replicate, Option, Some, None, if◌then◌else◌}
use Rattle.byte_core.specs.declared.fields.Field.{Field}
use Rattle.byte_core.specs.Fields.{field_bytes}
use Rattle.byte_core.specs.LaidOut.{Aligned, laid_out}
use Rattle.byte_core.specs.Strings.{string_bytes_of}
use Rattle.object_core.specs.declared.kinds.MachOBuildVersion.{MachOBuildVersion}
use Rattle.object_core.specs.LinkTable.{MachTableSection, MachTableSymbol, MachTable}
use Rattle.image_read.specs.MachFile.{MachHeader, LoadCommand, MachSegment, MachSectionRow, MachBuildVersion, MachSymtab, MachSymbolRow, MachRelocationRow}
use Rattle.object_macho.specs.Layout.{stored_contents, records_of, is_stored, contents_size, data_start, relocations_start, mach_names}
use Rattle.object_macho.specs.MachHolds.{mach_header_for, segment_command, segment_for, section_for, version_command, version_for, symtab_command, symtab_for, mach_symbol_for}

-- a number of w bytes
abbrev pub field : ℕ → ℕ → Field
field w value = record { width = w; value = value }

-- the numbers of the header behind its magic number
abbrev pub mach_header_fields : MachHeader → List Field
mach_header_fields h = field 4 h.cputype ∷ field 4 h.cpusubtype ∷ field 4 h.filetype ∷ field 4 h.ncmds ∷ field 4 h.sizeofcmds ∷ field 4 h.flags ∷ field 4 h.reserved ∷ []

abbrev pub mach_header_bytes : MachHeader → List ℕ
mach_header_bytes h = h.magic ++ field_bytes (mach_header_fields h)

abbrev pub command_bytes : LoadCommand → List ℕ
command_bytes c = field_bytes (field 4 c.cmd ∷ field 4 c.cmdsize ∷ [])

abbrev pub segment_bytes : MachSegment → List ℕ
segment_bytes s = s.name ++ field_bytes (field 8 s.vmaddr ∷ field 8 s.vmsize ∷ field 8 s.fileoff ∷ field 8 s.filesize ∷ field 4 s.maxprot ∷ field 4 s.initprot ∷ field 4 s.nsects ∷ field 4 s.flags ∷ [])

-- the numbers of a section's header behind its names
abbrev pub mach_section_fields : MachSectionRow → List Field
mach_section_fields r =
    field 8 r.address ∷ field 8 r.size ∷ field 4 r.offset ∷ field 4 r.align ∷ field 4 r.reloff ∷ field 4 r.nreloc ∷ field 4 r.flags ∷ field 4 r.reserved1 ∷ field 4 r.reserved2 ∷ field 4 r.reserved3 ∷ []

abbrev pub mach_section_bytes : MachSectionRow → List ℕ
mach_section_bytes r = r.name ++ (r.segment ++ field_bytes (mach_section_fields r))

abbrev pub build_version_bytes : MachBuildVersion → List ℕ
build_version_bytes v = field_bytes (field 4 v.platform ∷ field 4 v.minos ∷ field 4 v.sdk ∷ field 4 v.ntools ∷ [])

abbrev pub symtab_bytes : MachSymtab → List ℕ
symtab_bytes s = field_bytes (field 4 s.symoff ∷ field 4 s.nsyms ∷ field 4 s.stroff ∷ field 4 s.strsize ∷ [])

abbrev pub mach_symbol_bytes : MachSymbolRow → List ℕ
mach_symbol_bytes r = field_bytes (field 4 r.strx ∷ field 1 r.n_type ∷ field 1 r.sect ∷ field 2 r.desc ∷ field 8 r.value ∷ [])

abbrev pub bit : Bool → ℕ
bit value = if value then 1 else 0

-- the second word of a record
abbrev pub record_word : MachRelocationRow → ℕ
record_word r = r.symbolnum + (2 ^ 24 * bit r.pcrel + (2 ^ 25 * r.length + (2 ^ 27 * bit r.is_extern + 2 ^ 28 * r.r_type)))

abbrev pub mach_record_bytes : MachRelocationRow → List ℕ
mach_record_bytes r = field_bytes (field 4 r.address ∷ field 4 (record_word r) ∷ [])

-- -- the tables, each row at its place

-- the headers of sections whose numbers begin here
unfoldable pub section_headers_from : MachTable → ℕ → List MachTableSection → List MachSectionRow
section_headers_from t k [] = []
section_headers_from t k (s ∷ ss) = section_for t k s ∷ section_headers_from t (k + 1) ss

-- the rows of symbols whose numbers begin here
unfoldable pub mach_symbol_rows_from : MachTable → ℕ → List MachTableSymbol → List MachSymbolRow
mach_symbol_rows_from t k [] = []
mach_symbol_rows_from t k (s ∷ ss) = mach_symbol_for t k s ∷ mach_symbol_rows_from t (k + 1) ss

abbrev pub version_bytes : Option MachOBuildVersion → List ℕ
version_bytes None = []
version_bytes (Some v) = command_bytes version_command ++ build_version_bytes (version_for v)

-- a section's bytes at its alignment in memory
abbrev pub aligned_contents : ℕ → MachTableSection → Aligned
aligned_contents cputype s = record { align = s.align; bytes = stored_contents cputype s }

-- the header and the load commands
abbrev pub commands_bytes : MachTable → List ℕ
commands_bytes t =
    mach_header_bytes (mach_header_for t)
    ++ (command_bytes (segment_command t)
    ++ (segment_bytes (segment_for t) ++ (flat_map mach_section_bytes (section_headers_from t 0 t.sections) ++ (version_bytes t.build_version ++ (command_bytes symtab_command ++ symtab_bytes (symtab_for t))))))

-- the file of a table: header, commands, contents, records, symbols, names
unfoldable pub mach_file : MachTable → List ℕ
mach_file t =
    commands_bytes t
    ++ (laid_out 0 (map (aligned_contents t.cputype) (filter is_stored t.sections))
    ++ (replicate (relocations_start t - (data_start t + contents_size t)) 0
    ++ (flat_map mach_record_bytes (flat_map (records_of t.cputype) t.sections) ++ (flat_map mach_symbol_bytes (mach_symbol_rows_from t 0 t.symbols) ++ string_bytes_of (mach_names t)))))
