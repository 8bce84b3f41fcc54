-- Callbacks one at a time.
use Rattle.std.specs.Prelude.{ℕ, List, [], Option, Some, None, Result, Ok, Err}
use Rattle.pe_core.specs.declared.pe_error.Error.{Error}
use Rattle.goblin_pe.specs.Tls.{in_front}

-- what a step and the callbacks behind it give: the callback in front of them, none at the end
abbrev pub after_step : Result (Option ℕ) Error → Result (List ℕ) Error → Result (List ℕ) Error
after_step (Ok None) rest = Ok []
after_step (Ok (Some callback)) rest = in_front callback rest
after_step (Err e) rest = Err e
