-- What is told of a generated part.
use Rattle.std.specs.Prelude.{◌≡◌, ℕ, List}
use Rattle.gen_summary.specs.Summary.{IsSummary}
use Rattle.objtool_run.specs.Fault.{line}

-- the text is the line of the part's summary
pub record IsSummaryLine (seed count : ℕ) (text : List ℕ) : Type 0 where
  pub summary : List ℕ
  pub is : IsSummary seed count summary
  pub text_is : text ≡ line summary
