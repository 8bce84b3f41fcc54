use Rattle.std.proofs.Common.{◌≡◌, ℕ, replicate, length, ap, sym, ◌∙◌, arith}
use Rattle.std.proofs.lemmas.List.{length-replicate}
use Rattle.fat_commands.specs.Files.{current_bytes}
use Rattle.fat_commands.proofs.FileLaws.{whole_written, held}
use Rattle.fat_commands.proofs.files.read_whole.Goals as goal

pub returns-in-Ok-fill-clause-ok : goal.returns-in-Ok-fill-clause-ok
returns-in-Ok-fill-clause-ok g c =
    let files = (g.H.Host.outside c.args.host.now).files in
    let file = (g.H.Host.outside c.open_file.new.self).file in
    let items : length c.in-Ok-vec.bytes.items ≡ c.in-Ok.length = ap length (c.in-Ok-vec.ensures.items_if_clones_equal (λ y e. e)) ∙ length-replicate c.in-Ok.length 0 in
    let same : length c.fill.new.buf ≡ length c.in-Ok-vec.bytes.items = c.in-Ok-fill.ensures.length ∙ ap length c.deref_mut.ensures.value in
    rw (whole_written c.in-Ok-vec.bytes.items c.fill.new.buf c.in-Ok-vec.bytes.len (c.in-Ok-vec.ensures.len ∙ sym items) same)
    (held files c.args.path.now file c.in-Ok.length c.fill.new.buf c.in-Ok.ensures.opened (same ∙ items) c.in-Ok-fill.ensures.ok)
