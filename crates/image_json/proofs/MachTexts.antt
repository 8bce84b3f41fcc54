-- Pieces of a Mach-O image that were written one after the other are the text of a value.
use Rattle.std.proofs.Common.{◌≡◌, ℕ, List, [], ◌∷◌, ◌++◌, refl, ap, sym, ◌∙◌, append_assoc, codes}
use Rattle.json.specs.Print.{escape_byte}
use Rattle.serde_json.specs.Written.{compact_text}
use Rattle.json_form.specs.Written.{number_value, list_value}
use Rattle.image_read.specs.MachFile.{MachRelocationRow}
use Rattle.image_read.specs.MachImage.{MachSectionData, MachImageData}
use Rattle.image_json.specs.RowJson.{hex_value, next_numbers, next_flag}
use Rattle.image_json.specs.MachJson.{mach_relocation_value, mach_section_value, mach_symbol_value, mach_value, mach_text, mach_header_text, mach_numbers_text}
use Rattle.image_json.proofs.Texts.{one_number, four_numbers, regrouped}

header_before : (s : MachSectionData) (rest : List ℕ) → mach_header_text s ++ rest
    ≡ 91 ∷ (compact_text (hex_value s.segment) ++ 44 ∷ (compact_text (hex_value s.name) ++ 44 ∷ (compact_text (number_value s.address) ++ 44 ∷ (compact_text (number_value s.align) ++ 44 ∷ (compact_text (number_value s.flags) ++ 44 ∷ (compact_text (number_value s.size) ++ rest))))))
header_before s rest =
    let segment = compact_text (hex_value s.segment) in
    let name = compact_text (hex_value s.name) in
    let numbers = next_numbers (s.address ∷ s.align ∷ s.flags ∷ s.size ∷ []) in
    ap (λ t. 91 ∷ t) (append_assoc segment (44 ∷ (name ++ numbers)) rest ∙ ap (λ t. segment ++ 44 ∷ t) (append_assoc name numbers rest ∙ ap (λ t. name ++ t) (four_numbers s.address s.align s.flags s.size rest)))

pub section_written : (out a b c d e new : List ℕ) (s : MachSectionData) → a ≡ out ++ mach_header_text s → b ≡ a ++ 44 ∷ [] → c ≡ b ++ compact_text (hex_value s.contents) → d ≡ c ++ 44 ∷ []
    → e ≡ d ++ compact_text (list_value mach_relocation_value s.relocations) → new ≡ e ++ 93 ∷ [] → new ≡ out ++ compact_text (mach_section_value s)
section_written out a b c d e new s f g h i j k =
    let contents = compact_text (hex_value s.contents) in
    let records = compact_text (list_value mach_relocation_value s.relocations) in
    let whole : new ≡ (((((out ++ mach_header_text s) ++ 44 ∷ []) ++ contents) ++ 44 ∷ []) ++ records) ++ 93 ∷ [] = rw (k, j, i, h, g, f) refl in
    whole ∙ regrouped out (mach_header_text s) contents records ∙ ap (λ t. out ++ t) (header_before s (44 ∷ (contents ++ 44 ∷ (records ++ 93 ∷ []))))

pub numbers_written : (out a b c d e new : List ℕ) (i : MachImageData) → a ≡ out ++ codes "{\"cpu\":[" → b ≡ a ++ compact_text (number_value i.cputype)
    → c ≡ b ++ next_numbers (i.cpusubtype ∷ []) → d ≡ c ++ codes "],\"flags\":" → e ≡ d ++ compact_text (number_value i.flags)
    → new ≡ e ++ codes ",\"format\":\"macho\"" → new ≡ out ++ mach_numbers_text i
numbers_written out a b c d e new i f g h j k l = rw (l, k, j, h, g, f, append_assoc, append_assoc, append_assoc, append_assoc, append_assoc) refl

numbers_before : (i : MachImageData) (rest : List ℕ) → mach_numbers_text i ++ rest
    ≡ codes "{\"cpu\":[" ++ (compact_text (number_value i.cputype) ++ 44 ∷ (compact_text (number_value i.cpusubtype) ++ (codes "],\"flags\":" ++ (compact_text (number_value i.flags) ++ (codes ",\"format\":\"macho\"" ++ rest)))))
numbers_before i rest =
    let open_cpu = codes "{\"cpu\":[" in
    let cputype = compact_text (number_value i.cputype) in
    let subtype = next_numbers (i.cpusubtype ∷ []) in
    let close_cpu = codes "],\"flags\":" in
    let flags = compact_text (number_value i.flags) in
    let format = codes ",\"format\":\"macho\"" in
    let behind : (close_cpu ++ (flags ++ format)) ++ rest ≡ close_cpu ++ (flags ++ (format ++ rest)) = append_assoc close_cpu (flags ++ format) rest ∙ ap (λ t. close_cpu ++ t) (append_assoc flags format rest) in
    let second : (subtype ++ (close_cpu ++ (flags ++ format))) ++ rest ≡ 44 ∷ (compact_text (number_value i.cpusubtype) ++ (close_cpu ++ (flags ++ (format ++ rest)))) =
    append_assoc subtype (close_cpu ++ (flags ++ format)) rest ∙ one_number i.cpusubtype [] ((close_cpu ++ (flags ++ format)) ++ rest) ∙ ap (λ t. 44 ∷ (compact_text (number_value i.cpusubtype) ++ t)) behind in
    append_assoc open_cpu (cputype ++ (subtype ++ (close_cpu ++ (flags ++ format)))) rest ∙ ap (λ t. open_cpu ++ t) (append_assoc cputype (subtype ++ (close_cpu ++ (flags ++ format))) rest ∙ ap (λ t. cputype ++ t) second)

six_parts : (a b c d e f : List ℕ) → ((((a ++ b) ++ c) ++ d) ++ e) ++ f ≡ a ++ (b ++ (c ++ (d ++ (e ++ f))))
six_parts a b c d e f = rw (append_assoc, append_assoc, append_assoc, append_assoc) refl

pair_closed : (a b rest : List ℕ) → a ++ 44 ∷ (b ++ 93 ∷ rest) ≡ (a ++ 44 ∷ (b ++ 93 ∷ [])) ++ rest
pair_closed a b rest = sym (append_assoc a (44 ∷ (b ++ 93 ∷ [])) rest ∙ ap (λ t. a ++ 44 ∷ t) (append_assoc b (93 ∷ []) rest))

pub mach_written : (a b c d e new : List ℕ) (i : MachImageData) → a ≡ mach_numbers_text i → b ≡ a ++ codes ",\"sections\":" → c ≡ b ++ compact_text (list_value mach_section_value i.sections)
    → d ≡ c ++ codes ",\"symbols\":" → e ≡ d ++ compact_text (list_value mach_symbol_value i.symbols) → new ≡ e ++ 125 ∷ [] → new ≡ mach_text i
unfolding mach_value escape_byte
mach_written a b c d e new i f g h j k l =
    let sections = compact_text (list_value mach_section_value i.sections) in
    let symbols = compact_text (list_value mach_symbol_value i.symbols) in
    let whole : new ≡ ((((mach_numbers_text i ++ codes ",\"sections\":") ++ sections) ++ codes ",\"symbols\":") ++ symbols) ++ 125 ∷ [] = rw (l, k, j, h, g, f) refl in
    let rest : List ℕ = codes ",\"sections\":" ++ (sections ++ (codes ",\"symbols\":" ++ (symbols ++ 125 ∷ []))) in
    let behind_cpu : List ℕ = codes ",\"flags\":" ++ (compact_text (number_value i.flags) ++ (codes ",\"format\":\"macho\"" ++ rest)) in
    let cpu = pair_closed (compact_text (number_value i.cputype)) (compact_text (number_value i.cpusubtype)) behind_cpu in
    whole ∙ six_parts (mach_numbers_text i) (codes ",\"sections\":") sections (codes ",\"symbols\":") symbols (125 ∷ []) ∙ numbers_before i rest ∙ ap (λ t. codes "{\"cpu\":[" ++ t) cpu

-- -- relocations

nine_parts : (out a b c d e f g : List ℕ) → (((((((out ++ 91 ∷ []) ++ a) ++ b) ++ c) ++ d) ++ e) ++ f) ++ g ≡ out ++ 91 ∷ (a ++ (b ++ (c ++ (d ++ (e ++ (f ++ g))))))
nine_parts out a b c d e f g = rw (append_assoc, append_assoc, append_assoc, append_assoc, append_assoc, append_assoc, append_assoc) refl

pub relocation_written : (out a b c d e f g new : List ℕ) (r : MachRelocationRow) → a ≡ out ++ 91 ∷ [] → b ≡ a ++ compact_text (number_value r.address)
    → c ≡ b ++ next_numbers (r.symbolnum ∷ []) → d ≡ c ++ next_flag r.pcrel → e ≡ d ++ next_numbers (r.length ∷ []) → f ≡ e ++ next_flag r.is_extern
    → g ≡ f ++ next_numbers (r.r_type ∷ []) → new ≡ g ++ 93 ∷ [] → new ≡ out ++ compact_text (mach_relocation_value r)
relocation_written out a b c d e f g new r ea eb ec ed ee ef eg en =
    let address = compact_text (number_value r.address) in
    let symbol = next_numbers (r.symbolnum ∷ []) in
    let size = next_numbers (r.length ∷ []) in
    let kind = next_numbers (r.r_type ∷ []) in
    let whole : new ≡ (((((((out ++ 91 ∷ []) ++ address) ++ symbol) ++ next_flag r.pcrel) ++ size) ++ next_flag r.is_extern) ++ kind) ++ 93 ∷ [] = rw (en, eg, ef, ee, ed, ec, eb, ea) refl in
    let behind_size : List ℕ = next_flag r.is_extern ++ (kind ++ 93 ∷ []) in
    let last = ap (λ t. next_flag r.is_extern ++ t) (one_number r.r_type [] (93 ∷ [])) in
    let sized = one_number r.length [] behind_size ∙ ap (λ t. 44 ∷ (compact_text (number_value r.length) ++ t)) last in
    let named = one_number r.symbolnum [] (next_flag r.pcrel ++ (size ++ behind_size)) ∙ ap (λ t. 44 ∷ (compact_text (number_value r.symbolnum) ++ (next_flag r.pcrel ++ t))) sized in
    whole ∙ nine_parts out address symbol (next_flag r.pcrel) size (next_flag r.is_extern) kind (93 ∷ []) ∙ ap (λ t. out ++ 91 ∷ (address ++ t)) named
