use Rattle.std.proofs.Common.{◌+◌, ◌≤◌, arith, drop, refl, length-append, length-drop}
use Rattle.fat_macho.proofs.CopyLaws.{copies_on, copies_fail, copies_end, block_len}
use Rattle.fat_macho.proofs.Fronts.{faults_again}
use Rattle.fat_macho.proofs.PutLaws.{on_err}
use Rattle.fat_macho.proofs.writing.copy_by_blocks.Goals as goal

pub returns-in_err-copy_block-clause-front : goal.returns-in_err-copy_block-clause-front
returns-in_err-copy_block-clause-front g c =
    let len = block_len c.copying.buf c.part_len-n.result _ _ c.part_len-n.ensures refl in
    let inside : c.copying.done + c.part_len-n.result ≤ c.args.size = omega (arith, c.part_len-n.ensures, c.copying-test.true) in
    on_err _ _ (copies_fail _ _ _ _ _ c.args.offset c.args.size c.copying.done c.part_len-n.result _ c.copying.invariant.copied c.copying.invariant.others.bytes len inside c.in_err-copy_block.ensures.front)

pub copying-preserved : goal.copying-preserved
copying-preserved g c =
    let len = block_len c.copying.buf c.part_len-n.result _ _ c.part_len-n.ensures refl in
    let inside : c.copying.done + c.part_len-n.result ≤ c.args.size = omega (arith, c.part_len-n.ensures, c.copying-test.true) in
    record {
      copied = copies_on _ _ _ _ _ c.args.offset c.args.size c.copying.done c.part_len-n.result _ c.copying.invariant.copied c.copying.invariant.others.bytes len inside c.in_ok-copy_block.ensures.ok;
      bound = inside;
      room = omega (arith, c.copy_block.ensures.room, len, c.copying.invariant.room, length-append c.copy_block.new.buf (drop c.part_len-n.result c.copying.buf), length-drop c.part_len-n.result c.copying.buf, c.part_len-n.ensures);
      others = faults_again _ _ _ c.copying.invariant.others c.copy_block.ensures.others;
      rises = omega (arith, c.copying.invariant.rises, c.copy_block.ensures.rises);
    }

pub returns-clause-ok : goal.returns-clause-ok
returns-clause-ok g c = copies_end _ _ _ c.args.offset c.args.size c.copying.done c.copying.invariant.copied (omega (arith, c.copying-test.false))
