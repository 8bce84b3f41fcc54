use Rattle.fat_commands.proofs.FileLaws.{files_again}
use Rattle.fat_commands.proofs.JoinLaws.{read_on}
use Rattle.fat_commands.proofs.join.read_all.Goals as goal

pub loop-path-preserved : goal.loop-path-preserved
loop-path-preserved g c =
    let files = (g.H.Host.outside c.args.host.now).files in
    let inv = c.loop-path.invariant in
    record {
      read = read_on files c.args.paths.now c.loop-path.path-index c.path-item.result c.loop-path.parts.items c.push_image.new.parts.items c.in_ok-bytes.bytes c.loop-path-test.true c.path-item.is c.in_ok-push_image.ensures.ok inv.read
          (rw (c.as_str.ensures.value, inv.others.streams.files) at c.in_ok-bytes.ensures.ok);
      others = files_again _ _ _ inv.others c.read_whole.ensures.others;
    }
