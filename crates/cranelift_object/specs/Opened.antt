-- What contracts see of a builder, an open module and a finished product.
use Rattle.std.specs.Prelude.{ℕ, Bool, List}
use Rattle.ir_core.specs.Target.{Target}
use Rattle.object_core.specs.Object.{ObjectData}
use Rattle.cranelift_module.specs.LinkState.{LinkState}
use Rattle.cranelift_object.specs.Settings.{Settings}

-- a builder is its settings and its target
pub record BuilderData : Type 0 where
  pub settings : Settings
  pub target : Target

-- a module is its settings and its link state
pub record OpenModule : Type 0 where
  pub settings : Settings
  pub state : LinkState

-- a product is its object, and for each function and data object by number its symbol and whether it is defined
pub record ProductData : Type 0 where
  pub object : ObjectData
  pub functions : List (ℕ × Bool)
  pub data_objects : List (ℕ × Bool)
