use Rattle.olr_renewal.proofs.Common.{◌<◌, ◌+◌, Along, Against, arith, sources_in, changed_of, nat_tests}
use Rattle.olr_renewal.proofs.Distances.{no_detour}
use Rattle.olr_renewal.proofs.detours.are_longer.Goals as goal

pub returns : goal.returns
returns c = λ more N slot t v w sound searches v_there v_at w_there w_at.
    let C = changed_of t in
    let longer : c.args.within < c.at_least.result + c.at_least-2.result = grind (arith, nat_tests, more) in
    no_detour N sound C v w _ v_there w_there c.at_least.result c.at_least-2.result
    (λ e leads. c.at_least.ensures N slot Against (sources_in Against C) v e searches.before v_there v_at leads)
    (λ e leads. c.at_least-2.ensures N slot Along (sources_in Along C) w e searches.after w_there w_at leads) longer
