use Rattle.std.proofs.Common.{refl}
use Rattle.fat_macho.proofs.PartLaws.{entry_at, entry_room}
use Rattle.fat_macho.proofs.input.entry_at.Goals as goal

pub returns-clause-entry : goal.returns-clause-entry
returns-clause-entry g c =
    entry_at _ c.read_exact.new.buf c.args.wide c.args.k c.table_end.result _ c.entry_of.result c.in_ok-read_exact.ensures.bytes
    (entry_room c.read_exact.new.buf _ c.entry_size.result _ c.read_exact.ensures.room refl c.entry_size.ensures.bound c.entry_size.ensures.value)
    (rw c.from.ensures at c.table_end.ensures.value) c.entry_of.ensures.offset c.entry_of.ensures.size
