-- What it takes to answer a command: one that is accepted, one that raises no count, and one that is rejected; and which
-- reference a text encodes, or why it encodes none.
use Rattle.olr_register.proofs.Common.{arith, ◌≡◌, ℕ, List, [], Option, Some, None, is_some, Ok, Err, refl, sym, subst, IsFalse}
use Rattle.olr_register.proofs.Common.{IsErrAnd, Content, Change, Command, State, changes_made, text_fault, IsOutcome, ByState}
use Rattle.olr_register.proofs.Common.{reply_of, command_fault_of, Reply, CommandFault, Affects, Registered, Answered, encodes}
use Rattle.olr_register.proofs.Common.{ap, ◌∙◌, result_ok, Result, changes_made_in, Not_a_reference, unconcerned, CountIs}
use Rattle.olr_register.proofs.Common.{Reference, text_fault_of, IsRefusal, RegisterState, Represents}
use Rattle.olr_commands.specs.Reply.{Lacks}
use Rattle.base64.specs.Engines.{standard}
use Rattle.base64.specs.GeneralPurpose.{decode_of, decoded_of}
use Rattle.base64.specs.declared.decode.DecodeError.{DecodeError}
use Rattle.base64.proofs.EngineFacts.{decode_of-encode_of}
use Rattle.olr_spec.specs.Bytes.{reference_bytes}
use Rattle.olr_spec.proofs.ReadLemmas.{encoded_passes}
use Rattle.olr_binary.specs.declared.faults.V3Fault.TheVariants.{Length, Status, Flags, Reserved, Memory}
use Rattle.olr_binary.specs.declared.faults.TextFault.{TextFault}
use Rattle.olr_binary.specs.declared.faults.TextFault.TheVariants.{Bytes, NotBase64}
use Rattle.olr_binary.specs.Faults.{IsFaultOf}
use Rattle.olr_binary.specs.Text.{IsTextOf, text_of}
use Rattle.olr_binary.proofs.EncodedLemmas.{reference_bytes-bytes}
use Rattle.olr_register.proofs.States.{state, InStates, in_states}
use Rattle.olr_register.proofs.Counting.{Rise, none_affected, rise_none}
use Rattle.olr_commands.specs.State as state
use Rattle.olr_commands.specs.Reply as returned
use Rattle.olr_spec.specs.Bytes as spec

-- an accepted command, which raises the count of encodings by n
abbrev pub Accepts : Registered → Command → Reply → ℕ → State → Type 0
Accepts new c r n s =
    ((t : State) × Represents new.state t × IsOutcome s c (Ok (reply_of r)) t)
    × CountIs (Affects s.content (changes_made s c)) new.state.content.paths n

pub answered_counted : (old new : Registered) (c : Command) (r : Reply) (n : ℕ) →
    ((s : State) → Represents old.state s → Accepts new c r n s) → Rise old.work new.work n →
    (IsFalse (encodes (is_some old.state.batch) c) → new.work ≡ old.work) → Answered old c (Ok r) new
answered_counted old new c r n accepts rise same = record {
  outcome = λ s h. (accepts s h).0;
  counted = λ s t h k. (
    n,
    subst (λ (d : Content). CountIs (Affects s.content (changes_made s c)) d.paths n) k.0 (accepts s h).1,
    rise.encodings,
  );
  rises = rise.rises;
  same = same;
  unchanged = tt;
}

-- one that applies no change
abbrev pub Keeps : RegisterState → Command → Reply → State → Type 0
Keeps k c r s = (changes_made s c ≡ []) × ((t : State) × Represents k t × IsOutcome s c (Ok (reply_of r)) t)

pub answered_uncounted : (old : Registered) (k : RegisterState) (c : Command) (r : Reply) →
    ((s : State) → Represents old.state s → Keeps k c r s) →
    Answered old c (Ok r) (record { state = k; work = old.work })
answered_uncounted old k c r keeps =
    answered_counted old (record { state = k; work = old.work }) c r 0 (λ s h. (
      (keeps s h).1,
      subst (λ (xs : List Change). CountIs (Affects s.content xs) k.content.paths 0) (sym (keeps s h).0)
          (none_affected s.content [] (unconcerned s.content) k.content.paths),
    ))
    (rise_none old.work) (λ off. refl)

-- the register is unchanged
pub answered_refused : (old new : Registered) (c : Command) (r : Result Reply CommandFault) (f : CommandFault) →
    new ≡ old → IsErrAnd r (λ g. g ≡ f) →
    InStates old.state.content old.state.batch (λ s. IsRefusal s c (command_fault_of f)) → Answered old c r new
answered_refused old new c (Ok q) f same is h = absurd is
answered_refused old new c (Err g) f same is h =
    subst (λ (x : Registered). Answered old c (Err g) x) (sym same)
    (record {
      outcome = λ s represents. (
        s,
        represents,
        (in_states old.state (λ s. IsRefusal s c (command_fault_of g)) (rw is h) s represents, refl),
      );
      counted = tt;
      rises = tt;
      same = tt;
      unchanged = refl;
    })

-- ---- questions: with a batch open or not, they change nothing

pub answered_same : (x : Registered) (c : Command) (r : Reply) → changes_made_in None c ≡ [] →
    ((xs : List Change) → changes_made_in (Some xs) c ≡ []) →
    ((o : Option (List Change)) → IsOutcome (state x.state.content o) c (Ok (reply_of r)) (state x.state.content o)) →
    Answered x c (Ok r) x
answered_same x c r none some all = answered_uncounted x x.state c r (λ s h. (
  elim s.batch as (λ o. changes_made_in o c ≡ []) [ None ↦ none | Some xs ↦ some xs ],
  (
    s,
    h,
    subst (λ (d : Content). IsOutcome (state d s.batch) c (Ok (reply_of r)) (state d s.batch)) h.0 (all s.batch),
  ),
))

pub refused_same : (x : Registered) (c : Command) (r : Result Reply CommandFault) (f : CommandFault) →
    IsErrAnd r (λ g. g ≡ f) →
    ((o : Option (List Change)) → IsRefusal (state x.state.content o) c (command_fault_of f)) → Answered x c r x
refused_same x c r f failed all =
    answered_refused x x c r f refl failed
    (elim x.state.batch as (λ b. InStates x.state.content b (λ s. IsRefusal s c (command_fault_of f))) [
      | None ↦ all None
      | Some b ↦ λ xs i. all (Some xs)
    ])

explain_refused : (x : Registered) (text : List ℕ) (f : CommandFault) (g : state.TextFault) →
    command_fault_of f ≡ Not_a_reference g → text_fault text ≡ Some g → Answered x (state.Explain text) (Err f) x
explain_refused x text f g is fault = refused_same x (state.Explain text) (Err f) f refl (λ o. ByState (rw (fault, is)))

-- out of memory may be reported instead of a fault of the text
explain_lacks : (x : Registered) (text : List ℕ) (f : CommandFault) → command_fault_of f ≡ state.Memory →
    Answered x (state.Explain text) (Err f) x
explain_lacks x text f is =
    refused_same x (state.Explain text) (Err f) f refl (λ o. Lacks is (grind arith))

decoded : (text : List ℕ) {r : Result (List ℕ) DecodeError} → decode_of standard text ≡ r →
    decoded_of standard text ≡ result_ok r
unfolding decoded_of
decoded text e = ap result_ok e

decoded_text : (r : Reference) (text : List ℕ) → IsTextOf r text → decoded_of standard text ≡ Some (reference_bytes r)
unfolding text_of
decoded_text r text is =
    decoded text (ap (decode_of standard) is.1
    ∙ decode_of-encode_of standard (reference_bytes r) refl (reference_bytes-bytes r is.0))

pub explain_text : (x : Registered) (text : List ℕ) (r : Reply) (q : Reference) → reply_of r ≡ returned.Fields q →
    IsTextOf q text → Answered x (state.Explain text) (Ok r) x
explain_text x text r q is of =
    let bytes = decoded_text q text of in
    let sound : text_fault text ≡ None = rw (bytes, encoded_passes q of.0) in
    answered_same x (state.Explain text) r refl (λ xs. refl)
    (λ o. (rw sound, rw is (reference_bytes q, bytes, (of.0, refl))))

pub explain_fault : (x : Registered) (text : List ℕ) (fault : TextFault) (f : CommandFault) → IsFaultOf text fault →
    command_fault_of f ≡ text_fault_of fault → Answered x (state.Explain text) (Err f) x
explain_fault x text (Bytes Memory) f is e = explain_lacks x text f e
explain_fault x text (Bytes Length) f is e = explain_refused x text f (state.Not_v3 spec.Length) e (rw (decoded text is.1, is.2))
explain_fault x text (Bytes Status) f is e = explain_refused x text f (state.Not_v3 spec.Status) e (rw (decoded text is.1, is.2))
explain_fault x text (Bytes Flags) f is e = explain_refused x text f (state.Not_v3 spec.Flags) e (rw (decoded text is.1, is.2))
explain_fault x text (Bytes Reserved) f is e = explain_refused x text f (state.Not_v3 spec.Reserved) e (rw (decoded text is.1, is.2))
explain_fault x text NotBase64 f is e = explain_refused x text f state.Not_base64 e (rw (decoded text is.1))
