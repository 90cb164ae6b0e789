use Rattle.olr_register.proofs.Common.{content_on, start_sound}
use Rattle.olr_register.proofs.building.Building.new.Goals as goal

-- map and list are empty
pub returns : goal.returns
returns c = λ i. content_on (c.none.ensures i) (c.new.ensures i) (c.new-2.ensures i)

pub invariant_of-result : goal.invariant_of-result
invariant_of-result c = rw (c.new.ensures, c.new-2.ensures, c.none.ensures) start_sound.content
