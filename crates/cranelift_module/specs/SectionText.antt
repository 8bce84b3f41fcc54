-- The text under which a definition asks for a section. In Mach-O it is a segment, a section, a type and attributes, as the
-- directive `.section` of Apple's assembler takes them; the order of the checks is this project's own.
use Rattle.std.specs.Prelude.{◌≡◌, ℕ, ◌==◌, Bool, nat_lt, bit_or, bytes_eq, codes, List, [], ◌∷◌, length, find, slice_get, fold, Option, Some, None, option_map, unwrap_or, is_none, Result, Ok, Err, if◌then◌else◌}
use Rattle.std.specs.Borrow.{Bor}
use Rattle.std.specs.Option.{option_or}
use Rattle.std.specs.List.{slice_split}
use Rattle.ir_core.specs.declared.target.BinaryFormat.{BinaryFormat}
use Rattle.ir_core.specs.declared.target.BinaryFormat.TheVariants.{Macho}
use Rattle.cranelift_module.specs.declared.error.SectionFault.{SectionFault}
use Rattle.cranelift_module.specs.declared.error.SectionFault.TheVariants.{SegmentLong, NoComma, SectionLong, UnknownType, UnknownAttribute, TooManyParts}

-- what a text asks for
pub record SectionText : Type 0 where
  pub segment : List ℕ
  pub name : List ℕ
  pub flags : ℕ

-- the section types by name: S_REGULAR 0 and on in mach-o/loader.h
abbrev pub section_types : List (List ℕ × ℕ)
section_types =
    (codes "regular", 0)
    ∷ (codes "zerofill", 1)
    ∷ (codes "cstring_literals", 2)
    ∷ (codes "4byte_literals", 3)
    ∷ (codes "8byte_literals", 4)
    ∷ (codes "literal_pointers", 5)
    ∷ (codes "non_lazy_symbol_pointers", 6)
    ∷ (codes "lazy_symbol_pointers", 7)
    ∷ (codes "mod_init_funcs", 9)
    ∷ (codes "mod_term_funcs", 0xa)
    ∷ (codes "coalesced", 0xb)
    ∷ (codes "interposing", 0xd)
    ∷ (codes "16byte_literals", 0xe)
    ∷ (codes "thread_local_regular", 0x11)
    ∷ (codes "thread_local_zerofill", 0x12)
    ∷ (codes "thread_local_variables", 0x13)
    ∷ (codes "thread_local_variable_pointers", 0x14)
    ∷ (codes "thread_local_init_function_pointers", 0x15)
    ∷ []

-- the section attributes by name: S_ATTR_PURE_INSTRUCTIONS 0x80000000 and on in mach-o/loader.h
abbrev pub section_attributes : List (List ℕ × ℕ)
section_attributes =
    (codes "pure_instructions", 0x80000000)
    ∷ (codes "no_toc", 0x40000000)
    ∷ (codes "strip_static_syms", 0x20000000)
    ∷ (codes "no_dead_strip", 0x10000000)
    ∷ (codes "live_support", 0x08000000)
    ∷ (codes "self_modifying_code", 0x04000000)
    ∷ (codes "debug", 0x02000000)
    ∷ []

-- the number that a table has under a name
abbrev pub number_named : List (List ℕ × ℕ) → List ℕ → Option ℕ
number_named rows name = option_map (λ (row : List ℕ × ℕ). row.1) (find (λ (row : List ℕ × ℕ). bytes_eq name row.0) rows)

-- -- the parts of a text

-- the parts of a text between such bytes; no text has none
abbrev pub parts_between : ℕ → Option (List ℕ) → List (List ℕ)
parts_between separator None = []
parts_between separator (Some text) = slice_split (λ x. x == separator) text

-- the parts between commas
abbrev pub parts_of_text : List ℕ → List (List ℕ)
parts_of_text text = parts_between 44 (Some text)

-- the pieces of the attributes between plus signs; without attributes there are none
abbrev pub pieces_of : Option (List ℕ) → List (List ℕ)
pieces_of attributes = parts_between 43 attributes

-- two numbers together
abbrev pub both_bits : Option ℕ → Option ℕ → Option ℕ
both_bits (Some a) (Some b) = Some (bit_or a b)
both_bits _ _ = None

-- one attribute more
abbrev pub with_attribute : Option ℕ → List ℕ → Option ℕ
with_attribute bits name = both_bits bits (number_named section_attributes name)

-- all of these attributes together
abbrev pub all_attributes : List (List ℕ) → Option ℕ
all_attributes names = fold with_attribute (Some 0) names

-- the third part, `regular` where it is absent, as a type
abbrev pub type_in : Option (List ℕ) → Option ℕ
type_in type_name = number_named section_types (unwrap_or type_name (codes "regular"))

-- the fourth part as attributes
abbrev pub attributes_in : Option (List ℕ) → Option ℕ
attributes_in attributes = all_attributes (pieces_of attributes)

-- -- the checks

abbrev pub fault_if : Bool → SectionFault → Option SectionFault
fault_if test fault = if test then Some fault else None

abbrev pub first_fault : List (Option SectionFault) → Option SectionFault
first_fault [] = None
first_fault (fault ∷ faults) = option_or fault (first_fault faults)

-- the first check that the parts of a text fail: a segment, a section, a type and attributes, and whether there are more
abbrev pub section_fault : List ℕ → Option (List ℕ) → Option (List ℕ) → Option (List ℕ) → Bool → Option SectionFault
section_fault segment name type_name attributes has_more =
    first_fault (
    fault_if (nat_lt 16 (length segment)) SegmentLong
    ∷ fault_if (is_none name) NoComma
    ∷ fault_if (nat_lt 16 (length (unwrap_or name []))) SectionLong
    ∷ fault_if (is_none (type_in type_name)) UnknownType
    ∷ fault_if (is_none (attributes_in attributes)) UnknownAttribute
    ∷ fault_if has_more TooManyParts
    ∷ [])

abbrev pub unless : {A : Type 0} → Option SectionFault → A → Result A SectionFault
unless None answer = Ok answer
unless (Some fault) answer = Err fault

-- the type and the attributes together
abbrev pub flags_in : Option (List ℕ) → Option (List ℕ) → ℕ
flags_in type_name attributes = bit_or (unwrap_or (type_in type_name) 0) (unwrap_or (attributes_in attributes) 0)

abbrev pub section_by : List ℕ → Option (List ℕ) → Option (List ℕ) → Option (List ℕ) → Bool → Result SectionText SectionFault
section_by segment name type_name attributes has_more =
    unless (section_fault segment name type_name attributes has_more) (record { segment = segment; name = unwrap_or name []; flags = flags_in type_name attributes })

abbrev pub section_of_parts : List (List ℕ) → Result SectionText SectionFault
section_of_parts parts = section_by (unwrap_or (slice_get parts 0) []) (slice_get parts 1) (slice_get parts 2) (slice_get parts 3) (nat_lt 4 (length parts))

-- what a text asks for, or its first fault; other formats take the whole text as the name
abbrev pub section_text : BinaryFormat → List ℕ → Result SectionText SectionFault
section_text Macho text = section_of_parts (parts_of_text text)
section_text _ text = Ok (record { segment = []; name = text; flags = 0 })

-- what an answer says of a text
abbrev pub answer_of : Result (Bor (List ℕ) × Bor (List ℕ) × ℕ) SectionFault → Result SectionText SectionFault
answer_of (Ok text) = Ok (record { segment = text.0.now; name = text.1.now; flags = text.2 })
answer_of (Err fault) = Err fault

abbrev pub seen : Option (Bor (List ℕ)) → Option (List ℕ)
seen text = option_map (λ (t : Bor (List ℕ)). t.now) text

-- -- a text that is cut at its commas

-- the parts of a text by their places: where a part is absent, so are those behind it
pub record HasParts (parts : List (List ℕ)) (segment : List ℕ) (name type_name attributes : Option (List ℕ)) (has_more : Bool) : Type 0 where
  pub first : slice_get parts 0 ≡ Some segment
  pub second : slice_get parts 1 ≡ name
  pub third : slice_get parts 2 ≡ type_name
  pub fourth : slice_get parts 3 ≡ attributes
  pub more : nat_lt 4 (length parts) ≡ has_more

-- a part before some parts, where there is one
abbrev pub with_part : Option (List ℕ) → List (List ℕ) → List (List ℕ)
with_part None parts = parts
with_part (Some part) parts = part ∷ parts

-- the first part of a text between commas, and the text behind it
pub record IsCut (text part behind : Option (List ℕ)) : Type 0 where
  pub parts : parts_between 44 text ≡ with_part part (parts_between 44 behind)
  pub last : part ≡ None → behind ≡ None
