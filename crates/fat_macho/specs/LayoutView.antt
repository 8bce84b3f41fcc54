-- What the definitions see of the numbers of a layout.
use Rattle.std.specs.Prelude.{◌≡◌}
use Rattle.fat_macho.specs.Layout.{FatLayout}
use Rattle.fat_macho.specs.declared.layout.LayoutNumbers.{LayoutNumbers}

-- the numbers are those of this layout
pub record AreNumbersOf (n : LayoutNumbers) (l : FatLayout) : Type 0 where
  pub wide : n.wide ≡ l.wide
  pub align : n.align ≡ l.align
  pub total : n.total ≡ l.total
