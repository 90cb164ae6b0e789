-- Runs.
use Rattle.olr_run.proofs.Common.{Outcome, Claims, is_named, is_refused, is_dumped, Claimed, IsContent, Command, Memory, ◌≡◌}
use Rattle.olr_run.proofs.Common.{Field, read, rules, List, [], Option, None, Some, Ok, Err, refl, subst, arith, State, Read}
use Rattle.olr_run.proofs.Common.{CommandOutcome, SoundOutcome, SoundOutcomes, outcome_leads, headline_of, ◌∷◌, decoded_command}
use Rattle.std.specs.Result.{result_ok}
use Rattle.olr_run.proofs.Dumping.{dumps_of}

-- ---- the claims about a run

-- a record whose command has this outcome, or which has a fault of its own
command_claims : (s t : State) (r : Read Command) (o : Outcome) → IsContent t.content → CommandOutcome s r o t →
    Claimed s (result_ok r) o t
command_claims s t (Ok c) o sound h = search (rules, arith, outcome_leads, is_named, is_refused, is_dumped)
command_claims s t (Err f) (Ok reply) sound h = absurd (let no = h.0 in cc)
command_claims s t (Err f) (Err g) sound h = grind arith

lacking_claims : (s t : State) (given : Option Command) (o : Outcome) → IsContent t.content → (o ≡ Err Memory) × (t ≡ s) →
    Claimed s given o t
lacking_claims s t None o sound h = grind arith
lacking_claims s t (Some c) o sound h = grind arith

record_claims : (s : State) (fields : List Field) (o : Outcome) (t : State) → SoundOutcome s fields o t →
    Claimed s (decoded_command fields) o t
record_claims s fields o t h =
    grind (arith, command_claims s t (read fields) o, lacking_claims s t (decoded_command fields) o)

pub sound_after : (s t : State) (rs : List (List Field)) (os : List Outcome) → IsContent s.content →
    SoundOutcomes s rs os t → IsContent t.content
sound_after s t rs [] i p = subst (λ (u : State). IsContent u.content) p i
sound_after s t [] (o ∷ os) i p = absurd p
sound_after s t (r ∷ rs) (o ∷ os) i p = sound_after p.0 t rs os p.1.1 p.2

pub claims_of : (s : State) (rs : List (List Field)) (os : List Outcome) (t : State) → IsContent s.content →
    SoundOutcomes s rs os t → Claims s rs os t
claims_of s rs os t i h = search (rules, arith, headline_of, record_claims, dumps_of)

pub none_claimed : (s : State) (rs : List (List Field)) → IsContent s.content → Claims s rs [] s
none_claimed s rs sound = claims_of s rs [] s sound refl
