-- In each arm the code's names are those of the machine's family.
use Rattle.std.proofs.Common.{sym, ap, unwrap_or, arith}
use Rattle.goblin_reloc_names.specs.Families.{family_of, x86, x86_64, aarch64, arm, openrisc, mips, riscv, powerpc, powerpc64, loongarch}
use Rattle.goblin_reloc_names.specs.Names.{known_in, unknown_in, known_name, unknown_name, relocation_name}
use Rattle.goblin_reloc_names.proofs.Lookup.{told-by}
use Rattle.goblin_reloc_names.proofs.Machines.{family_of-mips, family_of-other}
use Rattle.goblin_reloc_names.proofs.names.r_to_str.Goals as goal

pub returns-in-3 : goal.returns-in-3
returns-in-3 c = told-by x86 _ _ _ c.args.typ c.args.machine c.x86_names.ensures.rows c.x86_names.ensures.unknown (ap family_of c.in-3.is) c.name_in.ensures

pub returns-in-8 : goal.returns-in-8
returns-in-8 c = told-by mips _ _ _ c.args.typ c.args.machine c.mips_names.ensures.rows c.mips_names.ensures.unknown (family_of-mips c.args.machine c.in-8.is) c.name_in-in-8.ensures

pub returns-in-20 : goal.returns-in-20
returns-in-20 c = told-by powerpc _ _ _ c.args.typ c.args.machine c.powerpc_names.ensures.rows c.powerpc_names.ensures.unknown (ap family_of c.in-20.is) c.name_in-in-20.ensures

pub returns-in-21 : goal.returns-in-21
returns-in-21 c = told-by powerpc64 _ _ _ c.args.typ c.args.machine c.powerpc64_names.ensures.rows c.powerpc64_names.ensures.unknown (ap family_of c.in-21.is) c.name_in-in-21.ensures

pub returns-in-40 : goal.returns-in-40
returns-in-40 c = told-by arm _ _ _ c.args.typ c.args.machine c.arm_names.ensures.rows c.arm_names.ensures.unknown (ap family_of c.in-40.is) c.name_in-in-40.ensures

pub returns-in-62 : goal.returns-in-62
returns-in-62 c = told-by x86_64 _ _ _ c.args.typ c.args.machine c.x86_64_names.ensures.rows c.x86_64_names.ensures.unknown (ap family_of c.in-62.is) c.name_in-in-62.ensures

pub returns-in-92 : goal.returns-in-92
returns-in-92 c = told-by openrisc _ _ _ c.args.typ c.args.machine c.openrisc_names.ensures.rows c.openrisc_names.ensures.unknown (ap family_of c.in-92.is) c.name_in-in-92.ensures

pub returns-in-183 : goal.returns-in-183
returns-in-183 c = told-by aarch64 _ _ _ c.args.typ c.args.machine c.aarch64_names.ensures.rows c.aarch64_names.ensures.unknown (ap family_of c.in-183.is) c.name_in-in-183.ensures

pub returns-in-243 : goal.returns-in-243
returns-in-243 c = told-by riscv _ _ _ c.args.typ c.args.machine c.riscv_names.ensures.rows c.riscv_names.ensures.unknown (ap family_of c.in-243.is) c.name_in-in-243.ensures

pub returns-in-258 : goal.returns-in-258
returns-in-258 c = told-by loongarch _ _ _ c.args.typ c.args.machine c.loongarch_names.ensures.rows c.loongarch_names.ensures.unknown (ap family_of c.in-258.is) c.name_in-in-258.ensures

pub returns-in_default : goal.returns-in_default
unfolding relocation_name known_name unknown_name
returns-in_default c = sym (ap (λ f. unwrap_or (known_in f c.args.typ) (unknown_in f)) (family_of-other c.args.machine (omega arith) (grind arith) (grind arith) (omega arith) (omega arith) (omega arith) (grind arith) (omega arith) (omega arith) (omega arith) (omega arith) (omega arith)))
