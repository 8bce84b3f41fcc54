use Rattle.std.specs.Prelude.{unwrap_or, []}
use Rattle.cranelift_module.specs.Call.{bytes}
use Rattle.cranelift_module.specs.Init.{init_view}
use Rattle.cranelift_object.proofs.FormatLaws.{contents_symbol}
use Rattle.cranelift_object.proofs.finishing.add_contents.Goals as goal

pub keep_symbol-requires : goal.keep_symbol-requires
keep_symbol-requires c =
    contents_symbol c.is_unstored-unstored.result c.args.object.now c.put_contents.new.object c.args.symbol c.args.section c.args.align (unwrap_or (init_view c.contents.result.now) (bytes [])) c.in_ok-offset.ensures.ok c.requires.symbol
