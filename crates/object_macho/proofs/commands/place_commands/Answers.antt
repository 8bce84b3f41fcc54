use Rattle.std.proofs.Common.{◌≡◌, ◌-◌, take, length, ap, sym, ◌∙◌, arith}
use Rattle.ir_core.specs.MachO.{mach_cputype}
use Rattle.object_core.specs.MachRows.{mach_cpusubtype, macho_table_of}
use Rattle.object_macho.specs.Layout.{version_size, command_count, mach_names}
use Rattle.byte_core.specs.Strings.{strings_size}
use Rattle.object_macho.proofs.CommandPieces.{table_cpusubtype, table_version, Numbers, commands_are}
use Rattle.object_macho.proofs.Reading.{inside}
use Rattle.object_macho.proofs.SectionLoops.{length-table_sections, table_cputype}
use Rattle.object_macho.proofs.commands.place_commands.Goals as goal

pub overflow_cast-count : goal.overflow_cast-count
overflow_cast-count c = omega (arith, length-table_sections c.args.object.now, ap length c.requires.order, c.requires.fits.section_count)

pub overflow_mul-count : goal.overflow_mul-count
overflow_mul-count c = omega (arith, length-table_sections c.args.object.now, ap length c.requires.order, c.requires.fits.section_count)

pub overflow_add-count : goal.overflow_add-count
overflow_add-count c = omega (arith, length-table_sections c.args.object.now, ap length c.requires.order, c.requires.fits.section_count)

pub place_section_rows-at-requires-clause-room : goal.place_section_rows-at-requires-clause-room
place_section_rows-at-requires-clause-room c =
    omega (arith, length-table_sections c.args.object.now, ap length c.requires.order, c.place_header-at.ensures.end, c.place_command-at.ensures.end, c.place_segment-at.ensures.end, c.place_header-at.ensures.len, c.place_command-at.ensures.len, c.place_segment-at.ensures.len, c.requires.room)

pub place_version_of-at-requires : goal.place_version_of-at-requires
place_version_of-at-requires c =
    omega (
      arith,
      length-table_sections c.args.object.now,
      ap length c.requires.order,
      c.place_header-at.ensures.end,
      c.place_command-at.ensures.end,
      c.place_segment-at.ensures.end,
      c.place_section_rows-at.ensures.end,
      c.place_header-at.ensures.len,
      c.place_command-at.ensures.len,
      c.place_segment-at.ensures.len,
      c.place_section_rows-at.ensures.len,
      c.requires.room,
      ap version_size (c.macho_build_version-version.ensures ∙ sym (table_version c.args.object.now)),
    )

pub place_symtab-requires : goal.place_symtab-requires
place_symtab-requires c =
    omega (
      arith,
      length-table_sections c.args.object.now,
      ap length c.requires.order,
      c.place_header-at.ensures.end,
      c.place_command-at.ensures.end,
      c.place_segment-at.ensures.end,
      c.place_section_rows-at.ensures.end,
      c.place_version_of-at.ensures.end,
      c.place_header-at.ensures.len,
      c.place_command-at.ensures.len,
      c.place_segment-at.ensures.len,
      c.place_section_rows-at.ensures.len,
      c.place_version_of-at.ensures.len,
      c.requires.room,
      ap version_size (c.macho_build_version-version.ensures ∙ sym (table_version c.args.object.now)),
    )

pub returns-clause-end : goal.returns-clause-end
returns-clause-end c =
    omega (
      arith,
      length-table_sections c.args.object.now,
      ap length c.requires.order,
      c.place_header-at.ensures.end,
      c.place_command-at.ensures.end,
      c.place_segment-at.ensures.end,
      c.place_section_rows-at.ensures.end,
      c.place_version_of-at.ensures.end,
      c.place_symtab.ensures.end,
      ap version_size (c.macho_build_version-version.ensures ∙ sym (table_version c.args.object.now)),
    )

pub returns-clause-bytes : goal.returns-clause-bytes
returns-clause-bytes c =
    let o = c.args.object.now in
    let t = macho_table_of o in
    let s = c.args.starts in
    let version = c.macho_build_version-version.ensures ∙ sym (table_version o) in
    let count : length c.args.order.now ≡ length t.sections = omega (arith, length-table_sections o, ap length c.requires.order) in
    let text : s.length - s.strings ≡ strings_size (mach_names t) = omega (arith, c.requires.starts.length, c.requires.starts.strings, (inside t).strings) in
    let numbers : Numbers t c.mach_cputype-cputype.result c.cpusubtype.result c.command_count.result (s.start - 32) (length c.args.order.now) s.memory s.start s.contents s.symbols c.args.symbols s.strings (s.length - s.strings) c.macho_build_version-version.result =
    record {
      cputype = c.mach_cputype-cputype.ensures ∙ ap mach_cputype c.architecture-architecture.ensures ∙ sym (table_cputype o);
      cpusubtype = c.cpusubtype.ensures ∙ ap mach_cpusubtype c.architecture-architecture.ensures ∙ sym (table_cpusubtype o);
      commands = c.command_count.ensures.value ∙ ap command_count version;
      sizes = ap (λ n. n - 32) c.requires.starts.start;
      counted = count;
      memory_is = c.requires.starts.memory;
      starts = c.requires.starts.start;
      contents_are = c.requires.starts.contents;
      symbols = c.requires.starts.symbols;
      some = c.requires.symbols;
      strings = c.requires.starts.strings;
      text = text;
      built = version;
    } in
    commands_are t _ _ _ _ _ _ _ _ _ _ _ _ _ (take c.place_header-at.result c.place_header-at.new.out) (take c.place_command-at.result c.place_command-at.new.out) (take c.place_segment-at.result c.place_segment-at.new.out) (take c.place_section_rows-at.result c.place_section_rows-at.new.out)
    (take c.place_version_of-at.result c.place_version_of-at.new.out) (take c.place_symtab.result c.place_symtab.new.out) numbers c.place_header-at.ensures.bytes c.place_command-at.ensures.bytes c.place_segment-at.ensures.bytes c.place_section_rows-at.ensures.bytes
    c.place_version_of-at.ensures.bytes c.place_symtab.ensures.bytes
