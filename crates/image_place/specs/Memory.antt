-- The memory of definitions, out of the calls of their parts.
use Rattle.std.specs.Prelude.{ℕ, Bool, true, false, List, [], map, find, slice_get, codes, Option, Some, None, option_map, option_and_then, unwrap_or, if◌then◌else◌}
use Rattle.ir_core.specs.declared.reloc.Reloc.{Reloc}
use Rattle.ir_core.specs.declared.reloc.Reloc.TheVariants.{Abs4, Abs8, X86PCRel4, X86CallPCRel4}
use Rattle.ir_core.specs.declared.reloc.KnownSymbol.{KnownSymbol}
use Rattle.ir_core.specs.declared.reloc.KnownSymbol.TheVariants.{ElfGlobalOffsetTable, CoffTlsIndex}
use Rattle.ir_core.specs.declared.target.BinaryFormat.{BinaryFormat}
use Rattle.ir_core.specs.declared.target.BinaryFormat.TheVariants.{Elf}
use Rattle.cranelift_module.specs.declared.identifiers.FuncOrDataId.{FuncOrDataId}
use Rattle.cranelift_module.specs.declared.identifiers.FuncOrDataId.TheVariants.{Func, Data}
use Rattle.cranelift_module.specs.declared.linkage.Linkage.{Linkage}
use Rattle.cranelift_module.specs.declared.linkage.Linkage.TheVariants as linkage
use Rattle.cranelift_module.specs.declared.reloc.ModuleReloc.{ModuleReloc}
use Rattle.cranelift_module.specs.Rows.{FunctionRow, DataRow}
use Rattle.cranelift_module.specs.Definitions.{Definition, contents_of}
use Rattle.cranelift_module.specs.LinkState.{LinkState}
use Rattle.cranelift_module.specs.Refusal.{is_same_identifier, is_defined}
use Rattle.cranelift_object.specs.Settings.{Settings}
use Rattle.cranelift_object.specs.Targets.{RelocationTarget, identifier, library, known, label, target_of}
use Rattle.cranelift_object.specs.Part.{PartData, part_state}
use Rattle.image_place.specs.Fixups.{FixKind, absolute8, absolute4, relative4, Goal, own, named, Fixup, Piece, Addresses, memory_of}

-- the kinds that are applied; in ELF a call has the number of a relative address
abbrev pub fix_kind : BinaryFormat → Reloc → Option FixKind
fix_kind format Abs8 = Some absolute8
fix_kind format Abs4 = Some absolute4
fix_kind format X86PCRel4 = Some relative4
fix_kind Elf X86CallPCRel4 = Some relative4
fix_kind format kind = None

-- the name and the linkage of an identifier
abbrev pub declared_name : LinkState → FuncOrDataId → Option (List ℕ)
declared_name s (Func n) = option_and_then (λ (row : FunctionRow). row.name) (slice_get s.functions n)
declared_name s (Data n) = option_and_then (λ (row : DataRow). row.name) (slice_get s.objects n)

abbrev pub declared_linkage : LinkState → FuncOrDataId → Option Linkage
declared_linkage s (Func n) = option_map (λ (row : FunctionRow). row.linkage) (slice_get s.functions n)
declared_linkage s (Data n) = option_map (λ (row : DataRow). row.linkage) (slice_get s.objects n)

-- other objects see an identifier of this linkage, where it is defined
abbrev pub is_seen : Option Linkage → Bool
is_seen (Some linkage.Hidden) = true
is_seen (Some linkage.Preemptible) = true
is_seen (Some linkage.Export) = true
is_seen _ = false

abbrev pub known_text : KnownSymbol → List ℕ
known_text ElfGlobalOffsetTable = codes "_GLOBAL_OFFSET_TABLE_"
known_text CoffTlsIndex = codes "_tls_index"

-- where a target leads: into a definition of the part, else to a name
abbrev pub goal_of : LinkState → RelocationTarget → Goal FuncOrDataId
goal_of s (identifier id) = if is_defined s id then own id 0 else named (unwrap_or (declared_name s id) [])
goal_of s (library text) = named text
goal_of s (known symbol) = named (known_text symbol)
goal_of s (label function offset) = own (Func function) offset

abbrev pub fixup_of : Settings → LinkState → ModuleReloc → Fixup FuncOrDataId
fixup_of settings s r = record { offset = r.offset; kind = fix_kind s.target.triple.binary_format r.kind; goal = goal_of s (target_of settings s r.name); addend = r.addend }

abbrev pub piece_of : Settings → LinkState → Definition → Piece FuncOrDataId
piece_of settings s d =
    record {
      key = d.identifier;
      name = declared_name s d.identifier;
      exported = is_seen (declared_linkage s d.identifier);
      contents = contents_of d.contents;
      fixups = map (fixup_of settings s) d.relocs;
    }

-- the definitions of a part, which read nothing of its sections
unfoldable pub pieces_of : Settings → LinkState → List (Piece FuncOrDataId)
pieces_of settings s = map (piece_of settings s) s.definitions

abbrev pub part_pieces : PartData → List (Piece FuncOrDataId)
part_pieces part = pieces_of part.settings (part_state part)

-- the definition of an identifier
abbrev pub piece_named : FuncOrDataId → List (Piece FuncOrDataId) → Option (Piece FuncOrDataId)
piece_named id pieces = find (λ p. is_same_identifier id p.key) pieces

-- the bytes in memory of identifier id of part q, where each of its relocations has a value that fits
abbrev pub memory : List PartData → Addresses FuncOrDataId → List (List ℕ × ℕ) → ℕ → FuncOrDataId → Option (List ℕ)
memory parts at externs q id = option_and_then (λ part. option_and_then (memory_of (map part_pieces parts) at externs q) (piece_named id (part_pieces part))) (slice_get parts q)
