use Rattle.std.proofs.Common.{refl}
use Rattle.pe_json.specs.LoadConfig.{number_fields}
use Rattle.pe_json.proofs.load_config.members_up_to_guard_xfg.Goals as goal

pub returns : goal.returns
unfolding number_fields
returns c =
    rw
    (c.member.ensures, c.widened32.ensures, c.member-2.ensures, c.member-3.ensures, c.member-4.ensures, c.member-5.ensures, c.member-6.ensures, c.member-7.ensures, c.member-8.ensures, c.member-9.ensures, c.member-10.ensures)
    refl
