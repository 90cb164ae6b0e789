use Rattle.olr_log.proofs.Common.{[], sym, arith, refl}
use Rattle.olr_log.specs.Texts.{recovered}
use Rattle.olr_log.proofs.scan.Scan.new.Goals as goal

pub returns : goal.returns
unfolding recovered
returns c = record {
  at = refl;
  found = refl;
  within = omega arith;
  reach = omega arith;
  rest = refl;
  over = λ over. absurd (cc over);
  stands = λ _. record { line = []; front = sym c.in_ok-with_capacity.ensures.items; rest = λ more. refl; blank = refl };
}
