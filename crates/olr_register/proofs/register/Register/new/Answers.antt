use Rattle.olr_register.proofs.Common.{[], None, content_on, start_sound}
use Rattle.olr_register.proofs.States.{register_of}
use Rattle.olr_register.proofs.register.Register.new.Goals as goal

-- map and list are empty
pub returns : goal.returns
returns c = λ i. register_of (content_on (c.none.ensures i) (c.new.ensures i) (c.new-2.ensures i)) None (c.none-2.ensures i)

pub invariant_of-result : goal.invariant_of-result
invariant_of-result c = record {
  register = record {
    content = rw (c.new.ensures, c.new-2.ensures, c.none.ensures) start_sound.content;
    encoded = rw c.new-2.ensures tt;
    held = tt;
    margin = tt;
  };
  bounded = record {
    under_way = c.new-3.ensures _ _ [];
    sources = λ v on. absurd (rw c.new-2.ensures at on);
  };
}
