-- Whether edits affect a path, by two tests: of its nodes and lines, and of its coverage queries.
use Rattle.olr_renewal.proofs.Common.{arith, ◌≡◌, ◌⊎◌, ◌↔◌, ℕ, Bool, List, IsTrue, false, Map, Path}
use Rattle.olr_renewal.proofs.Common.{Results, TraversedTouched, LineTouched, QueryTouched, Touches}

module _ {N : Map} {T : List ℕ} (X : List ℕ) (m : Results) (P : Path) where
  pub untouched : {a b : Bool} → IsTrue a ↔ (TraversedTouched T m ⊎ LineTouched X P) → IsTrue b ↔ QueryTouched N T m.queries →
      a ≡ false → b ≡ false → ¬ Touches N T X m P
  untouched own query p q t = grind (arith, own, query, p, q, t)

  pub touched_itself : TraversedTouched T m ⊎ LineTouched X P → Touches N T X m P
  touched_itself t = grind (arith, t)
