-- Records by the positions of their fields.
use Rattle.olr_records.proofs.Common.{Add_line, Set_line, Field, ◌⊛◌, number, numbers, amount, name, place, node_fields}
use Rattle.olr_records.proofs.Common.{attributes, whole_line, line_record, set_line_record, path_fields, ◌≡◌, ◌≤◌, List, []}
use Rattle.olr_records.proofs.Common.{◌∷◌, length, drop, Ok, refl, arith}
use Rattle.olr_records.proofs.LoopLemmas.{at}

pub line-record : (fs : List Field) → 7 ≤ length fs
    → line_record (drop 1 fs) ≡ Ok (λ x l. Add_line x l) ⊛ number (at fs 1) ⊛ whole_line (at fs 2) (at fs 3)
    (attributes (at fs 4) (at fs 5) (at fs 6) (drop 7 fs))
line-record (a ∷ b ∷ c ∷ d ∷ e ∷ f ∷ g ∷ fs) h = refl
line-record fs h = absurd (omega arith)

pub set-line-record : (fs : List Field) → 5 ≤ length fs
    → set_line_record (drop 1 fs) ≡ Ok (λ x c. Set_line x c.0 c.1 c.2 c.3) ⊛ number (at fs 1) ⊛ attributes (at fs 2)
    (at fs 3) (at fs 4) (drop 5 fs)
set-line-record (a ∷ b ∷ c ∷ d ∷ e ∷ fs) h = refl
set-line-record fs h = absurd (omega arith)

pub path-fields : (fs : List Field) → 4 ≤ length fs
    → path_fields (drop 1 fs) ≡ Ok (λ n p q ls. (n, record { lines = ls; pos = p; neg = q })) ⊛ name (at fs 1) ⊛ amount
    (at fs 2) ⊛ amount (at fs 3) ⊛ numbers (drop 4 fs)
path-fields (a ∷ b ∷ c ∷ d ∷ fs) h = refl
path-fields fs h = absurd (omega arith)

pub node_at : (fs : List Field) → length fs ≡ 4 →
    node_fields (drop 1 fs) ≡ Ok (λ x p. (x, p)) ⊛ number (at fs 1) ⊛ place (at fs 2) (at fs 3)
node_at (a ∷ b ∷ c ∷ d ∷ []) h = refl
node_at fs h = absurd (omega arith)
