-- The lines of a log are read as its records.
use Rattle.olr_run.proofs.Common.{Field, records_of, ◌≡◌, ◌∙◌, ℕ, List, [], ◌∷◌, sym, ap, subst, AllByRecursion, Content, State}
use Rattle.olr_run.proofs.Common.{start_state, Accepted, closed, Leads, IsContentOf, PlainRecord, plain_record, lines_read}
use Rattle.olr_run.proofs.Accepting.{accepted_once}
use Rattle.olr_run.proofs.Plain.{fields_plain}

are_plain : (rs : List (List Field)) (s t : State) → Accepted s rs t → AllByRecursion PlainRecord rs
are_plain [] s t a = tt
are_plain (r ∷ rs) s t a = (plain_record r a.0 a.1 (fields_plain r a.0 a.1 a.2), are_plain rs a.3 t a.5)

pub is_content : (text : List ℕ) (c : Content) → Leads text c → IsContentOf text c
is_content text c l =
    let read_back : records_of text ≡ l.records =
    ap records_of l.lines ∙ lines_read l.records (are_plain l.records start_state (closed c) l.accepted) in
    subst (λ (rs : List (List Field)). Accepted start_state rs (closed c)) (sym read_back) l.accepted

-- records lead to one content
pub same_content : (text : List ℕ) (c d : Content) → IsContentOf text c → IsContentOf text d → c ≡ d
same_content text c d l r =
    ap (λ (s : State). s.content) (accepted_once (records_of text) start_state (closed c) (closed d) l r)
