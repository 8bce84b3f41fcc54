use Rattle.std.proofs.Common.{refl, map, length, List}
use Rattle.byte_core.specs.Streams.{SourceData}
use Rattle.fat_macho.proofs.FileLaws.{file_puts, table_fails, file_fails, numbers_are, table_room}
use Rattle.fat_macho.proofs.PutLaws.{on_err}
use Rattle.fat_macho.proofs.Results.{on_ok_as, on_err_as}
use Rattle.fat_macho.proofs.filing.write_fat.Goals as goal

pub write_table-requires-clause-short : goal.write_table-requires-clause-short
write_table-requires-clause-short g c = table_room c.args.slices.now c.layout_of-layout.result c.table_end-start.result c.layout_of-layout.ensures.numbers c.table_end-start.ensures.value c.requires.short

pub returns-in_err-write_table-clause-front : goal.returns-in_err-write_table-clause-front
returns-in_err-write_table-clause-front g c =
    let sources : List SourceData = map (λ s. g.S.Source.source s) c.args.sources.now in
    let n = numbers_are c.args.slices.now c.layout_of-layout.result c.table_end-start.result (length c.args.slices.now) c.layout_of-layout.ensures.numbers c.table_end-start.ensures.value refl in
    on_err _ _ (table_fails sources c.args.slices.now _ _ _ _ (g.W.Sink.sink c.args.sink.now) (g.W.Sink.sink c.write_table.new.sink) c.requires n c.in_err-write_table.ensures.front)

pub write_slices-requires-clause-short : goal.write_slices-requires-clause-short
write_slices-requires-clause-short g c = table_room c.args.slices.now c.layout_of-layout.result c.table_end-start.result c.layout_of-layout.ensures.numbers c.table_end-start.ensures.value c.requires.short

pub returns-clause-ok : goal.returns-clause-ok
returns-clause-ok g c =
    let sources : List SourceData = map (λ s. g.S.Source.source s) c.args.sources.now in
    let n = numbers_are c.args.slices.now c.layout_of-layout.result c.table_end-start.result (length c.args.slices.now) c.layout_of-layout.ensures.numbers c.table_end-start.ensures.value refl in
    on_ok_as c.write_slices.result _ _ (file_puts sources c.args.slices.now _ _ _ _ (g.W.Sink.sink c.args.sink.now) (g.W.Sink.sink c.write_table.new.sink) (g.W.Sink.sink c.write_slices.new.sink) c.requires n c.in_ok-write_table.ensures.ok) c.write_slices.ensures.ok

pub returns-clause-front : goal.returns-clause-front
returns-clause-front g c =
    let sources : List SourceData = map (λ s. g.S.Source.source s) c.args.sources.now in
    let n = numbers_are c.args.slices.now c.layout_of-layout.result c.table_end-start.result (length c.args.slices.now) c.layout_of-layout.ensures.numbers c.table_end-start.ensures.value refl in
    on_err_as c.write_slices.result _ _ (file_fails sources c.args.slices.now _ _ _ _ (g.W.Sink.sink c.args.sink.now) (g.W.Sink.sink c.write_table.new.sink) (g.W.Sink.sink c.write_slices.new.sink) c.requires n c.in_ok-write_table.ensures.ok) c.write_slices.ensures.front
