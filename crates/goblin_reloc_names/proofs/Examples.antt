-- What is told of some numbers: the answers of the Rust crate's table.
use Rattle.std.proofs.Common.{◌≡◌, refl, codes}
use Rattle.goblin_reloc.specs.X86.{x86_rows}
use Rattle.goblin_reloc.specs.X86_64.{x86_64_rows}
use Rattle.goblin_reloc.specs.Arm.{arm_rows}
use Rattle.goblin_reloc.specs.Mips.{mips_rows}
use Rattle.goblin_reloc.specs.Powerpc64.{powerpc64_rows}
use Rattle.goblin_reloc_names.specs.Families.{x86, x86_64, arm, mips, powerpc64}
use Rattle.goblin_reloc_names.specs.Names.{named_rows, known_name, unknown_name, relocation_name}

without_prefix : relocation_name 1 62 ≡ codes "X86_64_64"
unfolding relocation_name known_name unknown_name named_rows x86_64 x86_64_rows
without_prefix = refl

whole : relocation_name 1 21 ≡ codes "R_PPC64_ADDR32"
unfolding relocation_name known_name unknown_name named_rows powerpc64 powerpc64_rows
whole = refl

a_none : relocation_name 0 3 ≡ codes "386_NONE"
unfolding relocation_name known_name unknown_name named_rows x86 x86_rows
a_none = refl

a_none_passed_over : relocation_name 0 62 ≡ codes "R_UNKNOWN_X86_64"
unfolding relocation_name known_name unknown_name named_rows x86_64 x86_64_rows
a_none_passed_over = refl

a_count_passed_over : relocation_name 128 51 ≡ codes "R_UNKNOWN_MIPS"
unfolding relocation_name known_name unknown_name named_rows mips mips_rows
a_count_passed_over = refl

a_second_name_passed_over : relocation_name 129 40 ≡ codes "ARM_THM_TLS_DESCSEQ16"
unfolding relocation_name known_name unknown_name named_rows arm arm_rows
a_second_name_passed_over = refl

another_machine : relocation_name 1 63 ≡ codes "R_UNKNOWN"
unfolding relocation_name known_name unknown_name
another_machine = refl
