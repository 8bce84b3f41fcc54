use Rattle.std.proofs.Common.{rules, refl}
use Rattle.byte_core.proofs.memory_host.MemHostHost.write.Goals as goal

-- the write is refused as its number and the room say
pub returns-then-is_refused-clause-exact : goal.returns-then-is_refused-clause-exact
returns-then-is_refused-clause-exact c = rw (← c.room_left-room.ensures, ← c.self.view_is) ((λ _. c.if-is_refused.ensures.0 refl), (λ _. refl))
