-- The header and the load commands, piece by piece.
use Rattle.std.proofs.Common.{◌≡◌, ℕ, ◌+◌, ◌-◌, ◌*◌, ◌++◌, List, length, Option, refl, ap, ◌∙◌, append_assoc}
use Rattle.std.specs.Prelude.{flat_map}
use Rattle.object_core.specs.declared.kinds.MachOBuildVersion.{MachOBuildVersion}
use Rattle.object_core.specs.Object.{ObjectData}
use Rattle.object_core.specs.LinkTable.{MachTable}
use Rattle.object_core.specs.MachRows.{mach_cpusubtype, macho_table_of}
use Rattle.object_macho.specs.Layout.{end_of_sections, contents_size, command_count, data_start, symbols_start, strings_start, mach_names}
use Rattle.byte_core.specs.Strings.{strings_size}
use Rattle.object_macho.specs.MachHolds.{symtab_command}
use Rattle.object_macho.specs.File.{mach_header_bytes, command_bytes, segment_bytes, mach_section_bytes, symtab_bytes, section_headers_from, version_bytes, commands_bytes}
use Rattle.object_macho.specs.Rows.{header_with, segment_with}

pub table_cpusubtype : (o : ObjectData) → (macho_table_of o).cpusubtype ≡ mach_cpusubtype o.architecture
unfolding macho_table_of
table_cpusubtype o = refl

pub table_version : (o : ObjectData) → (macho_table_of o).build_version ≡ o.build_version
unfolding macho_table_of
table_version o = refl

pub join_six : (a b c d e f one two three four five six : List ℕ) → one ≡ a → two ≡ one ++ b → three ≡ two ++ c → four ≡ three ++ d → five ≡ four ++ e → six ≡ five ++ f → six ≡ a ++ (b ++ (c ++ (d ++ (e ++ f))))
join_six a b c d e f one two three four five six h i j k l m =
    m
    ∙ ap (λ xs. xs ++ f) l
    ∙ append_assoc four e f
    ∙ ap (λ xs. xs ++ (e ++ f)) k
    ∙ append_assoc three d (e ++ f)
    ∙ ap (λ xs. xs ++ (d ++ (e ++ f))) j
    ∙ append_assoc two c (d ++ (e ++ f))
    ∙ ap (λ xs. xs ++ (c ++ (d ++ (e ++ f)))) i
    ∙ append_assoc one b (c ++ (d ++ (e ++ f)))
    ∙ ap (λ xs. xs ++ (b ++ (c ++ (d ++ (e ++ f))))) h

-- the numbers of header and commands
pub record Numbers (t : MachTable) (cpu sub ncmds size count memory start contents symoff nsyms stroff strsize : ℕ) (version : Option MachOBuildVersion) : Type 0 where
  pub cputype : cpu ≡ t.cputype
  pub cpusubtype : sub ≡ t.cpusubtype
  pub commands : ncmds ≡ command_count t.build_version
  pub sizes : size ≡ data_start t - 32
  pub counted : count ≡ length t.sections
  pub memory_is : memory ≡ end_of_sections t.sections
  pub starts : start ≡ data_start t
  pub contents_are : contents ≡ contents_size t
  pub symbols : symoff ≡ symbols_start t
  pub some : nsyms ≡ length t.symbols
  pub strings : stroff ≡ strings_start t
  pub text : strsize ≡ strings_size (mach_names t)
  pub built : version ≡ t.build_version

pub commands_are : (t : MachTable) (cpu sub ncmds size count memory start contents symoff nsyms stroff strsize : ℕ) (version : Option MachOBuildVersion) (one two three four five six : List ℕ)
    → Numbers t cpu sub ncmds size count memory start contents symoff nsyms stroff strsize version → one ≡ mach_header_bytes (header_with cpu sub ncmds size) → two ≡ one ++ command_bytes (record { cmd = 0x19; cmdsize = 72 + 80 * count })
    → three ≡ two ++ segment_bytes (segment_with memory start contents count) → four ≡ three ++ flat_map mach_section_bytes (section_headers_from t 0 t.sections) → five ≡ four ++ version_bytes version
    → six ≡ five ++ (command_bytes symtab_command ++ symtab_bytes (record { symoff = symoff; nsyms = nsyms; stroff = stroff; strsize = strsize })) → six ≡ commands_bytes t
commands_are t cpu sub ncmds size count memory start contents symoff nsyms stroff strsize version one two three four five six n h i j k l m =
    join_six _ _ _ _ _ _ one two three four five six h i j k l m
    ∙ rw (n.cputype, n.cpusubtype, n.commands, n.sizes, n.counted, n.memory_is, n.starts, n.contents_are, n.symbols, n.some, n.strings, n.text, n.built) refl
