use Rattle.std.proofs.Common.{arith, ◌<◌, ◌^◌, length, refl}
use Rattle.pe_signed.specs.SignedRanges.{ranges_of}
use Rattle.byte_core.specs.Number.{bytes_at}
use Rattle.pe_signed.proofs.FreshRanges.{extra_same}
use Rattle.pe_signed.proofs.authenticode.ranges.Goals as goal

pub returns : goal.returns
unfolding ranges_of bytes_at
returns c =
    let fits : length c.args.bytes.now < 2 ^ 64 = grind arith in
    rw (c.before_entry.ensures, c.sections_by_pointer.ensures, c.extra.ensures, c.fill.ensures, extra_same c.args.bytes.now c.args.sections.now c.args.excluded.now c.args.hashed fits c.requires.counted) refl
