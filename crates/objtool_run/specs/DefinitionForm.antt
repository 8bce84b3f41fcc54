-- Definitions in JSON: their contents, relocations and references.
use Rattle.std.specs.Prelude.{◌≡◌, ℕ, ℤ, pos, Bool, true, false, List, [], ◌∷◌, ◌++◌, codes, if◌then◌else◌, Option, Some, None, is_some, option_and_then}
use Rattle.serde_json.specs.Data.{Data}
use Rattle.serde_json.specs.Find.{get, at, as_str, as_number, as_i64}
use Rattle.ir_core.specs.declared.reloc.Reloc.{Reloc}
use Rattle.ir_core.specs.declared.reloc.Reloc.TheVariants as reloc
use Rattle.ir_core.specs.declared.reloc.KnownSymbol.{KnownSymbol}
use Rattle.ir_core.specs.declared.reloc.KnownSymbol.TheVariants.{ElfGlobalOffsetTable, CoffTlsIndex}
use Rattle.ir_core.specs.Names.{reloc_name, known_symbol_name}
use Rattle.cranelift_module.specs.Words.{with_word}
use Rattle.cranelift_module.specs.declared.reloc.ModuleReloc.{ModuleReloc}
use Rattle.cranelift_module.specs.declared.reloc.ModuleRelocTarget.{ModuleRelocTarget}
use Rattle.cranelift_module.specs.declared.reloc.ModuleRelocTarget.TheVariants as targets
use Rattle.cranelift_module.specs.Call.{Call, define_function, define_data, Contents, bytes, zeros}
use Rattle.objtool_run.specs.ValueForm.{list_at, pair_of}
use Rattle.objtool_run.specs.TargetForm.{libcall_named}
use Rattle.json_form.specs.Form.{◌>>=◌, each_of, or_else, number_of, number_at, text_at, u32_at, u32_in, mark_or, hex_at, has_keys_within, with_keys, ended_before}

-- -- what definitions refer to

-- the symbol that a name stands for
abbrev pub known_symbol_named : List ℕ → Option KnownSymbol
known_symbol_named = with_word known_symbol_name (ElfGlobalOffsetTable ∷ CoffTlsIndex ∷ [])

-- a function or a data object by its number
abbrev pub numbered : ℕ → List ℕ → Data → Option ModuleRelocTarget
numbered namespace key d = u32_at key d >>= λ index. Some (targets.User namespace index)

-- a namespace with an index in it
abbrev pub user_target : Data → Option ModuleRelocTarget
user_target d = get (codes "user") d >>= λ value. pair_of value >>= λ pair. Some (targets.User pair.0 pair.1)

-- a call into the runtime by its name
abbrev pub libcall_target : Data → Option ModuleRelocTarget
libcall_target d = text_at (codes "libcall") d >>= λ text. libcall_named text >>= λ call. Some (targets.LibCall call)

-- a symbol of the linker by its name
abbrev pub known_target : Data → Option ModuleRelocTarget
known_target d = text_at (codes "known") d >>= λ text. known_symbol_named text >>= λ symbol. Some (targets.KnownSymbol symbol)

-- a place in a function: the function's number, and an offset
abbrev pub label_target : Data → Option ModuleRelocTarget
label_target d = get (codes "label") d >>= λ value. pair_of value >>= λ pair. Some (targets.FunctionOffset pair.0 pair.1)

-- a target that isn't declared: an object with one key, which says of which sort the target is
abbrev pub outer_target : Data → Option ModuleRelocTarget
outer_target d =
    if has_keys_within (codes "libcall" ∷ []) d then libcall_target d
    else if has_keys_within (codes "known" ∷ []) d then known_target d
    else with_keys (codes "label" ∷ []) d (label_target d)

-- a target: an object with one key, which says of which sort the target is
unfoldable pub target_of : Data → Option ModuleRelocTarget
target_of d =
    if has_keys_within (codes "function" ∷ []) d then numbered 0 (codes "function") d
    else if has_keys_within (codes "data" ∷ []) d then numbered 1 (codes "data") d
    else if has_keys_within (codes "user" ∷ []) d then user_target d
    else outer_target d

-- all kinds
abbrev pub kinds : List Reloc
kinds =
    reloc.Abs4 ∷ reloc.Abs8 ∷ reloc.X86PCRel4 ∷ reloc.X86CallPCRel4 ∷ reloc.X86CallPLTRel4 ∷ reloc.X86GOTPCRel4
    ∷ reloc.X86SecRel ∷ reloc.Arm64Call ∷ reloc.S390xPCRel32Dbl ∷ reloc.S390xPLTRel32Dbl ∷ reloc.ElfX86_64TlsGd ∷ reloc.MachOX86_64Tlv
    ∷ reloc.MachOAarch64TlsAdrPage21 ∷ reloc.MachOAarch64TlsAdrPageOff12 ∷ reloc.Aarch64TlsDescAdrPage21 ∷ reloc.Aarch64TlsDescLd64Lo12 ∷ reloc.Aarch64TlsDescAddLo12 ∷ reloc.Aarch64TlsDescCall
    ∷ reloc.Aarch64AdrGotPage21 ∷ reloc.Aarch64Ld64GotLo12Nc ∷ reloc.Aarch64AdrPrelPgHi21 ∷ reloc.Aarch64AddAbsLo12Nc ∷ reloc.RiscvCallPlt ∷ reloc.RiscvTlsGdHi20
    ∷ reloc.RiscvPCRelLo12I ∷ reloc.RiscvGotHi20 ∷ reloc.RiscvPCRelHi20 ∷ reloc.S390xTlsGd64 ∷ reloc.S390xTlsGdCall ∷ []

-- the kind that a name stands for
abbrev pub kind_of : List ℕ → Option Reloc
kind_of = with_word reloc_name kinds

-- a signed integer of at most 64 bits
abbrev pub signed_of : Data → Option ℤ
signed_of d = option_and_then as_i64 (as_number d)

-- the signed integer at a place of a list
abbrev pub signed_in : ℕ → Data → Option ℤ
signed_in place d = option_and_then as_i64 (option_and_then as_number (at place d))

-- a relocation; without an addend it has 0
unfoldable pub reloc_of : Data → Option ModuleReloc
reloc_of d = with_keys (codes "offset" ∷ codes "kind" ∷ codes "target" ∷ codes "addend" ∷ []) d do
  offset ← u32_at (codes "offset") d
  text ← text_at (codes "kind") d
  kind ← kind_of text
  value ← get (codes "target") d
  target ← target_of value
  addend ← or_else signed_of (pos 0) (get (codes "addend") d)
  Some (record { offset = offset; kind = kind; name = target; addend = addend })

-- what was read stands behind what was there
abbrev pub IsAppended : {A : Type 0} → List A → List A → Option A → Type 0
IsAppended old new None = ⊥
IsAppended old new (Some x) = new ≡ old ++ x ∷ []

-- where the address of a data object is written: an offset, a reference and an addend
unfoldable pub data_address_of : Data → Option (ℕ × ℕ × ℤ)
data_address_of d = ended_before 3 d do
  offset ← u32_in 0 d
  reference ← u32_in 1 d
  addend ← signed_in 2 d
  Some (offset, reference, addend)

abbrev pub relocs_at : List ℕ → Data → Option (List ModuleReloc)
relocs_at key d = list_at key d >>= λ ds. each_of reloc_of ds

abbrev pub targets_at : List ℕ → Data → Option (List ModuleRelocTarget)
targets_at key d = list_at key d >>= λ ds. each_of target_of ds

abbrev pub function_addresses_at : List ℕ → Data → Option (List (ℕ × ℕ))
function_addresses_at key d = list_at key d >>= λ ds. each_of pair_of ds

abbrev pub data_addresses_at : List ℕ → Data → Option (List (ℕ × ℕ × ℤ))
data_addresses_at key d = list_at key d >>= λ ds. each_of data_address_of ds

-- -- definitions

-- a definition of a function; without an alignment it asks for 1
unfoldable pub define_of : Data → Option Call
define_of d = with_keys (codes "op" ∷ codes "id" ∷ codes "align" ∷ codes "bytes" ∷ codes "relocs" ∷ []) d do
  id ← u32_at (codes "id") d
  align ← or_else number_of 1 (get (codes "align") d)
  contents ← hex_at (codes "bytes") d
  relocs ← relocs_at (codes "relocs") d
  Some (define_function id align contents relocs)

abbrev pub contents_by : Bool → Bool → Data → Option (Option Contents)
contents_by false false d = Some None
contents_by true false d = hex_at (codes "bytes") d >>= λ xs. Some (Some (bytes xs))
contents_by false true d = number_at (codes "zeros") d >>= λ n. Some (Some (zeros n))
contents_by true true d = None

-- bytes, or a number of zeros, or neither, but not both
abbrev pub contents_at : Data → Option (Option Contents)
contents_at d = contents_by (is_some (get (codes "bytes") d)) (is_some (get (codes "zeros") d)) d

-- the alignment, where one is asked for
abbrev pub align_at : Data → Option (Option ℕ)
align_at d = or_else (λ v. number_of v >>= λ n. Some (Some n)) None (get (codes "align") d)

-- the text of a section of its own, where there is one
abbrev pub section_at : Data → Option (Option (List ℕ))
section_at d = or_else (λ v. as_str v >>= λ text. Some (Some text)) None (get (codes "section") d)

abbrev pub definition_keys : List (List ℕ)
definition_keys =
    codes "op" ∷ codes "id" ∷ codes "bytes" ∷ codes "zeros" ∷ codes "align" ∷ codes "section" ∷ codes "used" ∷ codes "functions" ∷ codes "data"
    ∷ codes "function_addresses" ∷ codes "data_addresses" ∷ []

-- a definition of a data object by a description
unfoldable pub define_data_of : Data → Option Call
define_data_of d = with_keys definition_keys d do
  id ← u32_at (codes "id") d
  contents ← contents_at d
  align ← align_at d
  section ← section_at d
  used ← mark_or (codes "used") false d
  functions ← targets_at (codes "functions") d
  objects ← targets_at (codes "data") d
  function_addresses ← function_addresses_at (codes "function_addresses") d
  data_addresses ← data_addresses_at (codes "data_addresses") d
  Some (define_data id (record {
    contents = contents;
    function_decls = functions;
    data_decls = objects;
    function_relocs = function_addresses;
    data_relocs = data_addresses;
    section = section;
    align = align;
    used = used;
  }))
