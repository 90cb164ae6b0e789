-- Lines as a map has them, with the slots of their ends.
--     ResolvedLine      a line's number, its ends and their slots, its length, its class and its form
--     resolved_line id from to from_slot to_slot len frc fow      that of these parts
--     record_of M slot x      that of line x, where the nodes are in these slots
--     IsResolved M slot r      r is that of a line of the map
use Rattle.std.specs.Prelude.{◌≡◌, ℕ, IsTrue}
use Rattle.std.specs.Coded.{Coded, code_by, coded_ℕ, coded×}
use Rattle.std.proofs.Common.{refl}
use Rattle.olr_spec.specs.Map.{Map, has_line, line_at, start, end, dm}

pub record ResolvedLine : Type 0 where
  pub id : ℕ
  pub from : ℕ
  pub to : ℕ
  pub from_slot : ℕ
  pub to_slot : ℕ
  pub len : ℕ
  pub frc : ℕ
  pub fow : ℕ

abbrev pub resolved_line : (id from to from_slot to_slot len frc fow : ℕ) → ResolvedLine
resolved_line id from to from_slot to_slot len frc fow =
    record { id = id; from = from; to = to; from_slot = from_slot; to_slot = to_slot; len = len; frc = frc; fow = fow }

abbrev pub record_of : Map → (ℕ → ℕ) → ℕ → ResolvedLine
record_of M slot x =
    resolved_line x (start M x) (end M x) (slot (start M x)) (slot (end M x)) (dm M x) (line_at M x).frc (line_at M x).fow

pub record IsResolved (M : Map) (slot : ℕ → ℕ) (r : ResolvedLine) : Type 0 where
  pub known : IsTrue (has_line M r.id)
  pub is : r ≡ record_of M slot r.id

abbrev coded_pair : Coded (ℕ × ℕ)
coded_pair = coded× coded_ℕ coded_ℕ

abbrev pub coded_resolved_line : Coded ResolvedLine
coded_resolved_line =
    code_by (((ℕ × ℕ) × (ℕ × ℕ)) × ((ℕ × ℕ) × (ℕ × ℕ)))
    (coded× (coded× coded_pair coded_pair) (coded× coded_pair coded_pair))
    (λ r. (((r.id, r.from), (r.to, r.from_slot)), ((r.to_slot, r.len), (r.frc, r.fow))))
    (λ p. resolved_line p.0.0.0 p.0.0.1 p.0.1.0 p.0.1.1 p.1.0.0 p.1.0.1 p.1.1.0 p.1.1.1) (λ _. refl)
