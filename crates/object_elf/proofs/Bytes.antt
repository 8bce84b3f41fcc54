-- The bytes of a written file are bytes, where those of its table are.
use Rattle.std.proofs.Common.{ℕ, ◌-◌, ◌<◌, ◌++◌, ◌∷◌, List, [], map, replicate, refl}
use Rattle.std.proofs.lemmas.List.Elements.{All-nil, All-cons, All-append, All-map, All-filter, All-replicate, All-weaker}
use Rattle.std.specs.Prelude.{filter, flat_map, codes}
use Rattle.std.specs.List.{All}
use Rattle.byte_core.specs.Fields.{field_bytes}
use Rattle.byte_core.specs.LaidOut.{Aligned, laid_out}
use Rattle.byte_core.proofs.Bytes.{IsByte, AreBytes, HoldsBytes, zero_is, decided, every, bytes-flat_map, bytes-field_bytes, bytes-string_bytes_of, bytes-laid_out}
use Rattle.object_core.specs.LinkTable.{ElfTable, ElfTableSection, ElfTableSymbol, ElfRelocation}
use Rattle.image_read.specs.ElfFile.{ElfSectionRow, ElfSymbolRow}
use Rattle.object_elf.specs.Layout.{is_relocated, relocation_name, section_names, symbol_names, parts_of, end_of_parts, headers_start}
use Rattle.object_elf.specs.ElfHolds.{header_for, null_symbol, record_for}
use Rattle.object_elf.specs.File.{header_fields, header_bytes, section_row_fields, section_row_bytes, symbol_row_fields, symbol_row_bytes, relocation_row_fields, relocation_row_bytes, section_contents, relocation_contents, symbol_rows_from, symbol_contents, string_contents, contents_of, section_rows, elf_file}
use Rattle.object_elf.specs.Fitting.{IsOfBytes}

bytes-section_names : (t : ElfTable) → IsOfBytes t → All AreBytes (section_names t)
unfolding section_names
bytes-section_names t h =
    let own : List (List ℕ) = map (λ (s : ElfTableSection). s.name) t.sections in
    let relocated : List ElfTableSection = filter is_relocated t.sections in
    let records : List (List ℕ) = map relocation_name relocated in
    let tables : List (List ℕ) = codes ".symtab" ∷ codes ".strtab" ∷ codes ".shstrtab" ∷ [] in
    let front = All-map AreBytes (λ (s : ElfTableSection). s.name) t.sections h.section_names in
    let named = All-filter is_relocated (λ (s : ElfTableSection). AreBytes s.name) t.sections h.section_names in
    let longer : All (λ (s : ElfTableSection). AreBytes (relocation_name s)) relocated = All-weaker (λ (s : ElfTableSection). AreBytes s.name) (λ (s : ElfTableSection). AreBytes (relocation_name s)) (λ s bytes. All-append IsByte (codes ".rela") s.name (decided (codes ".rela") refl) bytes) relocated named in
    let middle = All-cons AreBytes (codes ".note.GNU-stack") records (decided (codes ".note.GNU-stack") refl) (All-map AreBytes relocation_name relocated longer) in
    let back = All-cons AreBytes (codes ".symtab") (codes ".strtab" ∷ codes ".shstrtab" ∷ []) (decided (codes ".symtab") refl) (All-cons AreBytes (codes ".strtab") (codes ".shstrtab" ∷ []) (decided (codes ".strtab") refl) (All-cons AreBytes (codes ".shstrtab") [] (decided (codes ".shstrtab") refl) (All-nil AreBytes))) in
    All-append AreBytes (own ++ codes ".note.GNU-stack" ∷ records) tables (All-append AreBytes own (codes ".note.GNU-stack" ∷ records) front middle) back

bytes-contents_of : (t : ElfTable) → IsOfBytes t → All HoldsBytes (contents_of t)
unfolding contents_of
bytes-contents_of t h =
    let sections : List Aligned = map section_contents t.sections in
    let note : Aligned = record { align = 1; bytes = [] } in
    let relocated : List ElfTableSection = filter is_relocated t.sections in
    let records : List Aligned = map relocation_contents relocated in
    let rows : AreBytes (symbol_contents t.symbols).bytes =
    bytes-flat_map symbol_row_bytes (null_symbol ∷ symbol_rows_from 1 t.symbols) (every (λ (r : ElfSymbolRow). AreBytes (symbol_row_bytes r)) (λ r. bytes-field_bytes (symbol_row_fields r)) (null_symbol ∷ symbol_rows_from 1 t.symbols))
    in
    let recorded : (s : ElfTableSection) → HoldsBytes (relocation_contents s) =
    λ s. bytes-flat_map (λ (r : ElfRelocation). relocation_row_bytes (record_for r)) s.relocations (every (λ (r : ElfRelocation). AreBytes (relocation_row_bytes (record_for r))) (λ r. bytes-field_bytes (relocation_row_fields (record_for r))) s.relocations)
    in
    let front = All-map HoldsBytes section_contents t.sections h.contents in
    let middle = All-cons HoldsBytes note records (All-nil IsByte) (All-map HoldsBytes relocation_contents relocated (every (λ (s : ElfTableSection). HoldsBytes (relocation_contents s)) recorded relocated)) in
    let texts = bytes-string_bytes_of (symbol_names t) (All-map AreBytes (λ (s : ElfTableSymbol). s.name) t.symbols h.symbol_names) in
    let names = bytes-string_bytes_of (section_names t) (bytes-section_names t h) in
    let strings : List Aligned = string_contents (symbol_names t) ∷ string_contents (section_names t) ∷ [] in
    let back =
    All-cons HoldsBytes (symbol_contents t.symbols) strings rows
    (All-cons HoldsBytes (string_contents (symbol_names t)) (string_contents (section_names t) ∷ []) texts (All-cons HoldsBytes (string_contents (section_names t)) [] names (All-nil HoldsBytes)))
    in
    All-append HoldsBytes (sections ++ note ∷ records) (symbol_contents t.symbols ∷ strings) (All-append HoldsBytes sections (note ∷ records) front middle) back

-- -- the file

pub bytes-elf_file : (t : ElfTable) → IsOfBytes t → All (λ x. x < 256) (elf_file t)
unfolding elf_file
bytes-elf_file t h =
    let parts = parts_of t in
    let rest : ℕ = headers_start t - end_of_parts parts in
    let ident = decided (0x7f ∷ 0x45 ∷ 0x4c ∷ 0x46 ∷ 2 ∷ 1 ∷ 1 ∷ 0 ∷ 0 ∷ 0 ∷ 0 ∷ 0 ∷ 0 ∷ 0 ∷ 0 ∷ 0 ∷ []) refl in
    let header : AreBytes (header_bytes (header_for t)) = All-append IsByte (header_for t).ident (field_bytes (header_fields (header_for t))) ident (bytes-field_bytes (header_fields (header_for t))) in
    let rows : AreBytes (flat_map section_row_bytes (section_rows parts)) = bytes-flat_map section_row_bytes (section_rows parts) (every (λ (r : ElfSectionRow). AreBytes (section_row_bytes r)) (λ r. bytes-field_bytes (section_row_fields r)) (section_rows parts)) in
    let end : AreBytes (replicate rest 0 ++ flat_map section_row_bytes (section_rows parts)) = All-append IsByte (replicate rest 0) (flat_map section_row_bytes (section_rows parts)) (All-replicate IsByte rest 0 zero_is) rows in
    All-append IsByte (header_bytes (header_for t)) (laid_out 64 (contents_of t) ++ (replicate rest 0 ++ flat_map section_row_bytes (section_rows parts))) header
    (All-append IsByte (laid_out 64 (contents_of t)) (replicate rest 0 ++ flat_map section_row_bytes (section_rows parts)) (bytes-laid_out 64 (contents_of t) (bytes-contents_of t h)) end)
