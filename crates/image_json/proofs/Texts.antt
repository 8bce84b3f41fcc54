-- Pieces that were written one after the other are the text of a value.
use Rattle.std.proofs.Common.{◌≡◌, ℕ, List, [], ◌∷◌, ◌++◌, refl, ap, ◌∙◌, append_assoc, codes}
use Rattle.json.specs.Print.{escape_byte}
use Rattle.serde_json.specs.Written.{compact_text}
use Rattle.json_form.specs.Written.{number_value, list_value}
use Rattle.image_read.specs.ElfImage.{ElfSectionData, ElfImageData}
use Rattle.image_json.specs.RowJson.{hex_value, next_number, next_numbers}
use Rattle.image_json.specs.ElfJson.{relocation_value, section_value, symbol_value, elf_value, elf_text, header_text, numbers_text}

pub one_number : (n : ℕ) (ns rest : List ℕ) → next_numbers (n ∷ ns) ++ rest ≡ 44 ∷ (compact_text (number_value n) ++ (next_numbers ns ++ rest))
one_number n ns rest = append_assoc (next_number n) (next_numbers ns) rest

pub four_numbers : (a b c d : ℕ) (rest : List ℕ) → next_numbers (a ∷ b ∷ c ∷ d ∷ []) ++ rest
    ≡ 44 ∷ (compact_text (number_value a) ++ 44 ∷ (compact_text (number_value b) ++ 44 ∷ (compact_text (number_value c) ++ 44 ∷ (compact_text (number_value d) ++ rest))))
four_numbers a b c d rest = rw (one_number a (b ∷ c ∷ d ∷ []) rest, one_number b (c ∷ d ∷ []) rest, one_number c (d ∷ []) rest, one_number d [] rest) refl

pub regrouped : (out h x r : List ℕ) → (((((out ++ h) ++ 44 ∷ []) ++ x) ++ 44 ∷ []) ++ r) ++ 93 ∷ [] ≡ out ++ (h ++ 44 ∷ (x ++ 44 ∷ (r ++ 93 ∷ [])))
regrouped out h x r = rw (append_assoc, append_assoc, append_assoc, append_assoc, append_assoc) refl

header_before : (s : ElfSectionData) (rest : List ℕ) → header_text s ++ rest
    ≡ 91 ∷ (compact_text (hex_value s.name) ++ 44 ∷ (compact_text (number_value s.sh_type) ++ 44 ∷ (compact_text (number_value s.flags) ++ 44 ∷ (compact_text (number_value s.align) ++ 44 ∷ (compact_text (number_value s.size) ++ rest)))))
header_before s rest =
    ap (λ t. 91 ∷ t) (append_assoc (compact_text (hex_value s.name)) (next_numbers (s.sh_type ∷ s.flags ∷ s.align ∷ s.size ∷ [])) rest ∙ ap (λ t. compact_text (hex_value s.name) ++ t) (four_numbers s.sh_type s.flags s.align s.size rest))

pub section_written : (out a b c d e new : List ℕ) (s : ElfSectionData) → a ≡ out ++ header_text s → b ≡ a ++ 44 ∷ [] → c ≡ b ++ compact_text (hex_value s.contents) → d ≡ c ++ 44 ∷ []
    → e ≡ d ++ compact_text (list_value relocation_value s.relocations) → new ≡ e ++ 93 ∷ [] → new ≡ out ++ compact_text (section_value s)
section_written out a b c d e new s f g h i j k =
    let contents = compact_text (hex_value s.contents) in
    let records = compact_text (list_value relocation_value s.relocations) in
    let whole : new ≡ (((((out ++ header_text s) ++ 44 ∷ []) ++ contents) ++ 44 ∷ []) ++ records) ++ 93 ∷ [] = rw (k, j, i, h, g, f) refl in
    whole ∙ regrouped out (header_text s) contents records ∙ ap (λ t. out ++ t) (header_before s (44 ∷ (contents ++ 44 ∷ (records ++ 93 ∷ []))))

pub numbers_written : (out a b c d e new : List ℕ) (i : ElfImageData) → a ≡ out ++ codes "{\"flags\":" → b ≡ a ++ compact_text (number_value i.flags)
    → c ≡ b ++ codes ",\"format\":\"elf\",\"local_symbols\":" → d ≡ c ++ compact_text (number_value i.local_symbols) → e ≡ d ++ codes ",\"machine\":"
    → new ≡ e ++ compact_text (number_value i.machine) → new ≡ out ++ numbers_text i
numbers_written out a b c d e new i f g h j k l = rw (l, k, j, h, g, f, append_assoc, append_assoc, append_assoc, append_assoc, append_assoc) refl

pub elf_written : (a b c d e new : List ℕ) (i : ElfImageData) → a ≡ numbers_text i → b ≡ a ++ codes ",\"sections\":" → c ≡ b ++ compact_text (list_value section_value i.sections)
    → d ≡ c ++ codes ",\"symbols\":" → e ≡ d ++ compact_text (list_value symbol_value i.symbols) → new ≡ e ++ 125 ∷ [] → new ≡ elf_text i
unfolding elf_value escape_byte
elf_written a b c d e new i f g h j k l = rw (l, k, j, h, g, f) (simp append_assoc)
