-- What a map of given nodes and lines has.
use Rattle.olr_spec.proofs.Common.{◌≡◌, ℕ, Bool, true, List, [], ◌∷◌, map, filter, list_all, unwrap_or, T, is_some, IsTrue}
use Rattle.olr_spec.proofs.Common.{◌&&◌, ◌∙◌, ap, sym, nat_cmp, get, entries, Line, Coord, IsMap, has_line, has_node, line_at}
use Rattle.olr_spec.proofs.Common.{coord_at, no_line, no_coord, is_good, is_coord, are_coords, lines_where, Map, start, end, dm}
use Rattle.olr_spec.proofs.Common.{passing, passes_between, leg, Leg, candidates, has, ◌==◌, and_parts, arith, cases_Bool}
use Rattle.olr_spec.proofs.Facts.{has_number}
use Rattle.std.specs.FinMap.{entries-from_sorted, get-from_sorted}
use Rattle.std.specs.FinMap.Entries.{find, is_sorted}
use Rattle.std.specs.Ordering.{eq_by_cmp}
use Rattle.olr_laws.specs.Rows.{map_of}
use Rattle.olr_laws.proofs.ReceiverLemmas.{passed}

-- the record of line x, the coordinate of node v, and whether v is a degree-two node, by the lists
abbrev pub line_in : List (ℕ × Line) → ℕ → Line
line_in ls x = unwrap_or (find nat_cmp x ls) no_line

abbrev pub coord_in : List (ℕ × Coord) → ℕ → Coord
coord_in ns v = unwrap_or (find nat_cmp v ns) no_coord

abbrev pub numbers_in : List (ℕ × Line) → (Line → Bool) → List ℕ
numbers_in ls test = map (λ e. e.0) (filter (λ e. test e.1) ls)

abbrev pub leg_in : List (ℕ × Coord) → List (ℕ × Line) → ℕ → Leg
leg_in ns ls x =
    record { line = line_in ls x; begin = coord_in ns (line_in ls x).from; finish = coord_in ns (line_in ls x).to }

abbrev pub passing_in : List (ℕ × Line) → ℕ → Bool
passing_in ls v =
    passes_between v (map (λ x. (line_in ls x).from) (numbers_in ls (λ l. l.to == v)))
    (map (λ x. (line_in ls x).to) (numbers_in ls (λ l. l.from == v)))

abbrev pub is_good_in : List (ℕ × Coord) → List (ℕ × Line) → ℕ → Bool
is_good_in ns ls x =
    is_good (line_in ls x) && (is_some (find nat_cmp (line_in ls x).from ns) && (is_some (find nat_cmp (line_in ls x).to ns)
    && are_coords (line_in ls x).shape))

abbrev IsGoodIn : List (ℕ × Coord) → List (ℕ × Line) → ℕ → Type 0
IsGoodIn ns ls x =
    (is_good (line_in ls x) ≡ true) × (is_some (find nat_cmp (line_in ls x).from ns) ≡ true)
    × (is_some (find nat_cmp (line_in ls x).to ns) ≡ true) × (are_coords (line_in ls x).shape ≡ true)

-- line x is g, and leads from node v to node w
pub record IsRoad (M : Map) (x : ℕ) (g : Leg) (v w : ℕ) : Type 0 where
  pub known : IsTrue (has_line M x)
  pub is : leg M x ≡ g
  pub from : start M x ≡ v
  pub to : end M x ≡ w

pub long : {M : Map} {x : ℕ} {g : Leg} {v w : ℕ} → IsRoad M x g v w → dm M x ≡ g.line.len
long r = ap (λ (g : Leg). g.line.len) r.is

module _ (ns : List (ℕ × Coord)) (ls : List (ℕ × Line)) (sn : T (is_sorted nat_cmp ns)) (sl : T (is_sorted nat_cmp ls)) where
  records_are : entries (map_of ns ls).lines ≡ ls
  records_are = entries-from_sorted nat_cmp ls sl

  line_is : (x : ℕ) → get (map_of ns ls).lines x ≡ find nat_cmp x ls
  line_is x = get-from_sorted nat_cmp ls x sl

  node_is : (v : ℕ) → get (map_of ns ls).nodes v ≡ find nat_cmp v ns
  node_is v = get-from_sorted nat_cmp ns v sn

  pub has_line_is : (x : ℕ) → has_line (map_of ns ls) x ≡ is_some (find nat_cmp x ls)
  has_line_is x = ap is_some (line_is x)

  pub line_at_is : (x : ℕ) → line_at (map_of ns ls) x ≡ line_in ls x
  line_at_is x i = unwrap_or (line_is x i) no_line

  pub coord_at_is : (v : ℕ) → coord_at (map_of ns ls) v ≡ coord_in ns v
  coord_at_is v i = unwrap_or (node_is v i) no_coord

  pub leg_is : (x : ℕ) → leg (map_of ns ls) x ≡ leg_in ns ls x
  leg_is x i =
      record {
        line = line_at_is x i;
        begin = coord_at_is (line_at_is x i).from i;
        finish = coord_at_is (line_at_is x i).to i;
      }

  pub road : (x v w : ℕ) → (is_some (find nat_cmp x ls) ≡ true) × ((line_in ls x).from ≡ v) × ((line_in ls x).to ≡ w) →
      IsRoad (map_of ns ls) x (leg_in ns ls x) v w
  road x v w r =
      record {
        known = has_line_is x ∙ r.0;
        is = leg_is x;
        from = ap (λ (l : Line). l.from) (line_at_is x) ∙ r.1;
        to = ap (λ (l : Line). l.to) (line_at_is x) ∙ r.2;
      }

  numbers_are : (test : Line → Bool) → lines_where (map_of ns ls) test ≡ numbers_in ls test
  numbers_are test i = map (λ e. e.0) (filter (λ e. test e.1) (records_are i))

  pub candidates_are : candidates (map_of ns ls) ≡ map (λ x. (x, leg_in ns ls x)) (numbers_in ls (λ _. true))
  candidates_are i = map (λ x. (x, leg_is x i)) (numbers_are (λ _. true) i)

  pub passing_is : (v : ℕ) → passing (map_of ns ls) v ≡ passing_in ls v
  passing_is v i =
      passes_between v (map (λ x. (line_at_is x i).from) (numbers_are (λ l. l.to == v) i))
      (map (λ x. (line_at_is x i).to) (numbers_are (λ l. l.from == v) i))

  -- a test that all lines pass, by number
  pub each_line : (t : ℕ → Bool) → list_all t (numbers_in ls (λ _. true)) ≡ true → (x : ℕ) →
      IsTrue (has_line (map_of ns ls) x) → t x ≡ true
  each_line t a x h =
      passed t (numbers_in ls (λ _. true)) a x (coe 0 1 (i. has (numbers_are (λ _. true) i) x ≡ true) (has_number (map_of ns ls) x h))

  good_nodes : (es : List (ℕ × Coord)) → list_all (λ e. is_coord e.1) es ≡ true → (v : ℕ) →
      is_some (find nat_cmp v es) ≡ true → is_coord (coord_in es v) ≡ true
  good_nodes [] a v h = absurd cc
  good_nodes (e ∷ es) a v h = grind (arith, and_parts, cases_Bool (eq_by_cmp nat_cmp v e.0), good_nodes es)

  -- the four parts of the test of line x
  pub good_line : list_all (is_good_in ns ls) (numbers_in ls (λ _. true)) ≡ true → (x : ℕ) →
      IsTrue (has_line (map_of ns ls) x) → IsGoodIn ns ls x
  good_line a x h = grind (arith, and_parts, each_line (is_good_in ns ls) a x h)

  pub sound : list_all (is_good_in ns ls) (numbers_in ls (λ _. true)) ≡ true → list_all (λ e. is_coord e.1) ns ≡ true →
      IsMap (map_of ns ls)
  sound a b =
      record {
        good = λ x h. ap is_good (line_at_is x) ∙ (good_line a x h).0;
        starts = λ x h. ap (λ l. has_node (map_of ns ls) l.from) (line_at_is x) ∙ ap is_some (node_is (line_in ls x).from) ∙ (good_line a x h).1;
        ends = λ x h. ap (λ l. has_node (map_of ns ls) l.to) (line_at_is x) ∙ ap is_some (node_is (line_in ls x).to) ∙ (good_line a x h).2;
        places = λ v h. ap is_coord (coord_at_is v) ∙ good_nodes ns b v (sym (ap is_some (node_is v)) ∙ h);
        shapes = λ x h. ap (λ l. are_coords l.shape) (line_at_is x) ∙ (good_line a x h).3;
      }
