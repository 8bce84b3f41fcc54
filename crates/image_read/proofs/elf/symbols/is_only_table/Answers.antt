use Rattle.std.proofs.Common.{◌≡◌, arith}
use Rattle.image_read.specs.ElfFile.{section_row}
use Rattle.image_read.proofs.elf.symbols.is_only_table.Goals as goal

pub returns-then-j-k : goal.returns-then-j-k
returns-then-j-k c = (
  λ never. absurd (cc),
  λ each.
      let kind : (section_row c.args.file.now c.loop-j.j).sh_type ≡ 2 = omega (arith) in
      absurd (c.if-j-k.true ((each.at c.loop-j.j (omega arith) (omega arith)).only kind)),
)
