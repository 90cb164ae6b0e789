-- What is the same on two maps that agree around a node.
use Rattle.olr_spec.proofs.Common.{passes_between, lines_where, unwrap_or, nat_tests, SameRound, eqb-true, has_line, coord_at, ap}
use Rattle.olr_spec.proofs.Common.{SameLine, no_coord, is_some, line_at, passing, no_line, Option, IsTrue, arith, start, dm_of, ℕ}
use Rattle.olr_spec.proofs.Common.{true, List, Some, refl, ◌==◌, Line, ◌≡◌, ◌+◌, ◌∷◌, map, sym, ◌∙◌, ◌↔◌, get, Map, end, [], dm}
use Rattle.olr_spec.proofs.MapLemmas.{has-lines_where, passes_at, same_selected}
use Rattle.olr_spec.proofs.ListLemmas.{Each, Each-head, Each-tail, map_same}

pub turned_round : (M N : Map) (v : ℕ) → SameRound M N v → SameRound N M v
turned_round M N v r = record {
  place = sym r.place;
  entering = λ x l. ((r.entering x l).1, (r.entering x l).0);
  leaving = λ x l. ((r.leaving x l).1, (r.leaving x l).0);
}

pub some_is : {X : Type 0} (o : Option X) (d : X) → is_some o ≡ true → o ≡ Some (unwrap_or o d)
some_is o d h = grind arith

pub known_record : (M : Map) (x : ℕ) → IsTrue (has_line M x) → get M.lines x ≡ Some (line_at M x)
known_record M x h = some_is (get M.lines x) no_line h

-- ---- parts of the same line

pub same_known : (M N : Map) (x : ℕ) → SameLine M N x → has_line M x ≡ has_line N x
same_known M N x e = ap (λ (o : Option Line). is_some o) e

pub same_record : (M N : Map) (x : ℕ) → SameLine M N x → line_at M x ≡ line_at N x
same_record M N x e = ap (λ (o : Option Line). unwrap_or o no_line) e

pub same_start : (M N : Map) (x : ℕ) → SameLine M N x → start M x ≡ start N x
same_start M N x e = ap (λ (l : Line). l.from) (same_record M N x e)

pub same_end : (M N : Map) (x : ℕ) → SameLine M N x → end M x ≡ end N x
same_end M N x e = ap (λ (l : Line). l.to) (same_record M N x e)

pub same_dm : (M N : Map) (x : ℕ) → SameLine M N x → dm M x ≡ dm N x
same_dm M N x e = ap (λ (l : Line). l.len) (same_record M N x e)

pub same_dm_of : (M N : Map) (xs : List ℕ) → Each (SameLine M N) xs → dm_of M xs ≡ dm_of N xs
same_dm_of M N [] h = refl
same_dm_of M N (x ∷ xs) h =
    λ i. same_dm M N x (Each-head (SameLine M N) x xs h) i + same_dm_of M N xs (Each-tail (SameLine M N) x xs h) i

pub same_coord : (M N : Map) (v : ℕ) → SameRound M N v → coord_at M v ≡ coord_at N v
same_coord M N v r = λ i. unwrap_or (r.place i) no_coord

-- ---- the lines of a node

pub passed : (f : Line → ℕ) (v : ℕ) (o : Option Line) → passes_at (λ l. f l == v) o ≡ true → (l : Line) × (o ≡ Some l)
    × (f l ≡ v)
passed f v o h = grind (arith, eqb-true)

-- the lines that have v as their end f, which are the same on both maps
module _ (M N : Map) (f : Line → ℕ) (v : ℕ)
    (same : (x : ℕ) (l : Line) → ((get M.lines x ≡ Some l) × (f l ≡ v)) ↔ ((get N.lines x ≡ Some l) × (f l ≡ v))) where
  by_end : (x : ℕ) → IsTrue (has_line M x) → f (line_at M x) ≡ v → SameLine M N x
  by_end x h e = known_record M x h ∙ sym ((same x (line_at M x)).0 (known_record M x h, e)).0

  -- their other ends
  ends_same : (g : Line → ℕ) → map (λ x. g (line_at M x)) (lines_where M (λ l. f l == v)) ≡
      map (λ x. g (line_at N x)) (lines_where N (λ l. f l == v))
  ends_same g = grind (arith, map_same, passed, has-lines_where, same_record, same_selected, nat_tests)

-- a line of the first map that enters or leaves the node
pub by_entering : (M N : Map) (v x : ℕ) → SameRound M N v → IsTrue (has_line M x) → end M x ≡ v → SameLine M N x
by_entering M N v x r = by_end M N (λ l. l.to) v r.entering x

pub by_leaving : (M N : Map) (v x : ℕ) → SameRound M N v → IsTrue (has_line M x) → start M x ≡ v → SameLine M N x
by_leaving M N v x r = by_end M N (λ l. l.from) v r.leaving x

pub same_passing : (M N : Map) (v : ℕ) → SameRound M N v → passing M v ≡ passing N v
same_passing M N v r = λ i. passes_between v (ends_same M N (λ l. l.to) v r.entering (λ l. l.from) i)
    (ends_same M N (λ l. l.from) v r.leaving (λ l. l.to) i)
