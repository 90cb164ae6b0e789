-- The records of a content as a log.
use Rattle.olr_run.proofs.Common.{Field, read_recorded, ◌≡◌, List, [], ◌∷◌, map, Result, Ok, Err, refl, ap, subst, concat}
use Rattle.olr_run.proofs.Common.{dump_lines, dump_changes, steps, fields_of_change, Change, Make, Content, IsContent, State}
use Rattle.olr_run.proofs.Common.{Fault, start_state, step, dumps_run, HaveRecords, StaysRecorded, step_stays, start_recorded}
use Rattle.olr_run.proofs.Common.{record_back, Accepted, Leads, closed, all_lines, ℕ, Option, Some, None, Dump, step_in}
use Rattle.olr_commands.specs.Reply.{Dumped, IsOutcome}
use Rattle.olr_commands.specs.Words.{reply_of}
use Rattle.olr_commands.specs.declared.reply.Dump.{Dump as Dumped_text}
use Rattle.olr_commands.specs.declared.reply.Reply.{Reply}
use Rattle.olr_commands.specs.declared.reply.Reply.TheVariants as answered

stays : (rs : List (List Field)) (s t : State) → StaysRecorded s → Accepted s rs t → StaysRecorded t
stays [] s t h a = subst StaysRecorded a h
stays (r ∷ rs) s t h a = stays rs a.3 t (step_stays s a.3 a.0 h (read_recorded r a.0 a.1) a.4) a.5

changes_accepted : (xs : List Change) (s t : State) → HaveRecords xs → steps s (map (λ x. Make x) xs) ≡ Ok t →
    Accepted s (map fields_of_change xs) t
changes_accepted [] s t h e = cc
changes_accepted (x ∷ xs) s t h e = by_step (step s (Make x)) refl (λ v. changes_accepted xs v t h.1)
  where
    by_step : (r : Result State Fault) → step s (Make x) ≡ r →
        ((v : State) → steps v (map (λ y. Make y) xs) ≡ Ok t → Accepted v (map fields_of_change xs) t)
        → Accepted s (map fields_of_change (x ∷ xs)) t
    by_step (Ok v) is more = (Make x, record_back x h.0, tt, v, is, more v (rw is at e))
    by_step (Err f) is more = absurd (let never = rw is at e in cc)

-- a content to which records lead can be written as records
pub dump_leads : (rs : List (List Field)) (c : Content) → Accepted start_state rs (closed c) → IsContent c →
    Leads (concat (dump_lines c)) c
dump_leads rs c a sound =
    record {
      records = map fields_of_change (dump_changes c);
      lines = ap concat (all_lines (dump_changes c));
      accepted = changes_accepted (dump_changes c) start_state (closed c)
          (stays rs start_state (closed c) start_recorded a).0 (dumps_run c sound);
    }

-- what is dumped
pub dumped_records : (s t : State) (count : ℕ) (text : List ℕ) → IsOutcome s Dump (Ok (Dumped count text)) t →
    (s.batch ≡ None) × (text ≡ concat (dump_lines s.content))
dumped_records s t count text h = (no_batch s.batch h.0, cc (h.1))
  where
    no_batch : (b : Option (List Change)) → step_in s.content b Dump ≡ Ok t → b ≡ None
    no_batch None e = refl
    no_batch (Some xs) e = absurd cc

-- an accepted dump has no other reply
pub only_dumped : (s t : State) (reply : Reply) → IsOutcome s Dump (Ok (reply_of reply)) t →
    ((d : Dumped_text) → reply ≡ answered.Dump d → ⊥) → ⊥
only_dumped s t (answered.Dump d) h other = other d refl
only_dumped s t (answered.Paths xs) h other = absurd (let never = h.1 in cc)
only_dumped s t (answered.Fields r) h other = absurd (let never = h.1 in cc)
only_dumped s t (answered.Held n) h other = absurd (let never = h.1 in cc)
only_dumped s t (answered.Records d) h other = absurd (let never = h.1 in cc)
only_dumped s t (answered.Names xs) h other = absurd (let never = h.1 in cc)
only_dumped s t (answered.Obstacles xs) h other = absurd (let never = h.1 in cc)
