-- The call uses the register of the handle, and the handle has the register again afterwards.
use Rattle.olr_c.proofs.olr_c_ask.Goals as goal

pub returns : goal.returns
returns c = rw (← c.in-Some.ensures.value, ← c.deref_mut.ensures.value, c.put.ensures) c.ask-status.ensures
