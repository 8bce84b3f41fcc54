use Rattle.std.proofs.Common.{refl}
use Rattle.fat_macho.proofs.Classes.{class_at, front_room}
use Rattle.fat_macho.proofs.input.class_at.Goals as goal

pub returns-clause-class : goal.returns-clause-class
returns-clause-class g c =
    class_at _ c.read_exact.new.buf c.args.offset c.args.size _ c.class_of.result c.in_ok-read_exact.ensures.bytes (front_room c.read_exact.new.buf _ c.front_len.result c.args.size c.read_exact.ensures.room refl c.front_len.ensures.value) c.class_of.ensures
