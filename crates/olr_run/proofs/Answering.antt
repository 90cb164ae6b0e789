-- The outcome of a record, from what was read of it.
use Rattle.olr_run.proofs.Common.{Outcome, Field, read, outcome_text, RecordOutcome, answer_text, Represents, Registered, is_ok}
use Rattle.olr_run.proofs.Common.{Bor, IsOutcome, fault_text, CarriedOut, IsAnswer, ◌≡◌, ℕ, List, Result, Ok, Err, inl, inr}
use Rattle.olr_run.proofs.Common.{refl, sym, ap, ◌∙◌, arith, State, Command, IsContent, answer_of, false}
use Rattle.olr_records.specs.declared.faults.ReadFault.TheVariants.{Syntax, Range, Memory}
use Rattle.olr_commands.specs.declared.reply.Reply.{Reply}
use Rattle.olr_records.specs.Words.{IsRead, read_fault_of}
use Rattle.olr_records.specs.declared.faults.ReadFault.{ReadFault}

-- a record that decodes to a command
pub carried : (old : Registered) (fields : List Field) (new : Registered) (r : Result Reply (Bor (List ℕ))) (c : Command)
    (o : Outcome) → read fields ≡ Ok c
    → ((s : State) → Represents old.state s → (t : State) × Represents new.state t × IsOutcome s c o t)
    → IsContent new.state.content → IsAnswer r o → CarriedOut old fields new (IsAnswer r)
carried old fields new r c o e outcome sound is s represents _ =
    let h = outcome s represents in (h.0, o, h.1, (inl (rw e h.2), rw (← h.1.0) sound), is)

-- a record with a fault of its own
unread : (s : State) (fields : List Field) (f : ReadFault) → IsRead (read fields) (Err f) →
    RecordOutcome s fields (Err (read_fault_of f)) s
unread s fields Syntax e = grind arith
unread s fields Range e = grind arith
unread s fields Memory e = inr (e, refl, refl)

pub not_read : (old : Registered) (fields : List Field) (f : ReadFault) (line : Bor (List ℕ)) →
    IsRead (read fields) (Err f) → line.now ≡ fault_text (read_fault_of f) →
    CarriedOut old fields old (IsAnswer (Err line))
not_read old fields f line e is s represents sound =
    (s, Err (read_fault_of f), represents, (unread s fields f e, sound), (read_fault_of f, refl, is))

-- an outcome has the text of its answer, and accepts if the answer does
pub answer_is : (r : Result Reply (Bor (List ℕ))) (o : Outcome) → IsAnswer r o → answer_of o ≡ (answer_text r, is_ok r)
answer_is (Ok reply) o h = ap answer_of h
answer_is (Err line) o h =
    let text : outcome_text o ≡ line.now = ap outcome_text h.1 ∙ sym h.2 in
    let refused : is_ok o ≡ false = ap is_ok h.1 in λ i. (text i, refused i)
