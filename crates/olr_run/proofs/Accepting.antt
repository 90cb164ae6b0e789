-- Records of a log that are accepted one after another.
use Rattle.olr_run.proofs.Common.{Field, read, append-nil, append_assoc, ◌≡◌, ◌∙◌, ℕ, List, [], ◌∷◌, ◌++◌, map, Ok, refl, sym}
use Rattle.olr_run.proofs.Common.{ap, subst, concat, fields_line, Command, State, step, Accepted, IsLogged, LeadsFrom}

-- the first one leads to one state
pub accepted_next : (s v t : State) (r : List Field) (rs : List (List Field)) (c : Command) → read r ≡ Ok c →
    step s c ≡ Ok v → Accepted s (r ∷ rs) t → Accepted v rs t
accepted_next s v t r rs c e is a =
    let same : a.0 ≡ c = (let both = sym a.1 ∙ e in cc) in
    let mid : a.3 ≡ v = (let both = sym a.4 ∙ ap (step s) same ∙ is in cc) in subst (λ (x : State). Accepted x rs t) mid a.5

pub accepted_once : (rs : List (List Field)) (s t u : State) → Accepted s rs t → Accepted s rs u → t ≡ u
accepted_once [] s t u a b = sym a ∙ b
accepted_once (r ∷ rs) s t u a b = accepted_once rs a.3 t u a.5 (accepted_next s a.3 u r rs a.0 a.1 a.4 b)

accepted_join : (rs qs : List (List Field)) (s t u : State) → Accepted s rs t → Accepted t qs u → Accepted s (rs ++ qs) u
accepted_join [] qs s t u a b = subst (λ (x : State). Accepted x qs u) (sym a) b
accepted_join (r ∷ rs) qs s t u a b = (a.0, a.1, a.2, a.3, a.4, accepted_join rs qs a.3 t u a.5 b)

lines_join : (rs qs : List (List Field)) →
    concat (map fields_line (rs ++ qs)) ≡ concat (map fields_line rs) ++ concat (map fields_line qs)
lines_join [] qs = refl
lines_join (r ∷ rs) qs =
    ap (λ (x : List ℕ). fields_line r ++ x) (lines_join rs qs)
    ∙ sym (append_assoc (fields_line r) (concat (map fields_line rs)) (concat (map fields_line qs)))

pub leads_join : (s t u : State) (x y : List ℕ) → LeadsFrom s x t → LeadsFrom t y u → LeadsFrom s (x ++ y) u
leads_join s t u x y a b =
    record {
      records = a.records ++ b.records;
      lines = (λ i. a.lines i ++ b.lines i) ∙ sym (lines_join a.records b.records);
      accepted = accepted_join a.records b.records s t u a.accepted b.accepted;
    }

pub one_leads : (s t : State) (r : List Field) (c : Command) → read r ≡ Ok c → IsLogged c → step s c ≡ Ok t →
    LeadsFrom s (fields_line r) t
one_leads s t r c e stored is =
    record { records = r ∷ []; lines = sym (append-nil (fields_line r)); accepted = (c, e, stored, t, is, refl) }
