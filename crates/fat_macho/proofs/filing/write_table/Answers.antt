use Rattle.std.proofs.Common.{length, map}
use Rattle.fat_macho.specs.FatBytes.{header_bytes, rows_from}
use Rattle.fat_macho.specs.HeldViews.{raw_shape}
use Rattle.fat_macho.proofs.PutLaws.{on_err, front_before, front_behind}
use Rattle.fat_macho.proofs.Results.{on_err_as}
use Rattle.fat_macho.proofs.filing.write_table.Goals as goal

pub returns-in_err-write_header-clause-front : goal.returns-in_err-write_header-clause-front
returns-in_err-write_header-clause-front g c =
    on_err _ _
    (front_before (header_bytes c.args.wide (length c.args.slices.now)) (rows_from c.args.wide c.args.align c.args.start (map raw_shape c.args.slices.now)) (g.W.Sink.sink c.args.sink.now) (g.W.Sink.sink c.write_header.new.sink) c.in_err-write_header.ensures.front)

pub returns-clause-front : goal.returns-clause-front
returns-clause-front g c =
    on_err_as c.write_rows.result _ _
    (front_behind (header_bytes c.args.wide (length c.args.slices.now)) (rows_from c.args.wide c.args.align c.args.start (map raw_shape c.args.slices.now)) (g.W.Sink.sink c.args.sink.now) (g.W.Sink.sink c.write_header.new.sink) (g.W.Sink.sink c.write_rows.new.sink) c.in_ok-write_header.ensures.ok)
    c.write_rows.ensures.front
