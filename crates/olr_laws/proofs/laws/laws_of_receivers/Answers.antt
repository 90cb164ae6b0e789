use Rattle.olr_laws.proofs.AmbiguityLemmas.{clear_is_distinct, no_sharper_test}
use Rattle.olr_laws.proofs.CommandLemmas.{unnamed_is_distinct, named_stands}
use Rattle.olr_laws.proofs.DirectionLemmas.{sees_by_limits, recovered_by_direction, some_by_weights}
use Rattle.olr_laws.proofs.PartnerReceivers.{read_elsewhere, read_on_roads}
use Rattle.olr_laws.proofs.ReceiverLemmas.{decoded_near, decoded_points, stretches_join, offsets_close, steps_close}
use Rattle.olr_laws.proofs.ReceiverLemmas.{nearest_own, some_receiver, some_weighted, clear_stands_out}
use Rattle.olr_laws.proofs.laws.laws_of_receivers.Goals as goal

pub returns-clause-strings : goal.returns-clause-strings
returns-clause-strings c g =
    record {
      decoded_near = decoded_near g;
      decoded_points = decoded_points g;
      stretches_join = stretches_join g;
      offsets_close = offsets_close g;
      distances_close = steps_close g;
      own_is_nearest = nearest_own g;
      recovered_by_direction = recovered_by_direction g;
      clear_stands_out = clear_stands_out g;
      clear_is_distinct = clear_is_distinct g;
    }

pub returns-clause-receivers : goal.returns-clause-receivers
returns-clause-receivers c =
    record {
      some_receiver = some_receiver;
      some_weighted = some_weighted;
      sees_by_limits = sees_by_limits;
      some_by_weights = some_by_weights;
      read_elsewhere = read_elsewhere;
      read_on_roads = read_on_roads;
      unnamed_is_distinct = unnamed_is_distinct;
      named_stands = named_stands;
      no_sharper_test = no_sharper_test;
    }
