use Rattle.std.proofs.Common.{rules, refl}
use Rattle.byte_core.proofs.memory_host.MemHostHost.open_file.Goals as goal

-- the opening fails as its number and the files say
pub returns-in-None-clause-exact : goal.returns-in-None-clause-exact
returns-in-None-clause-exact c = rw (← c.self.view_is) ((λ _. c.opened-self-inside.ensures.none.0 c.in-None.is), (λ _. refl))
