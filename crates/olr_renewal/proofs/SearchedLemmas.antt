-- How far the distance bounds let a search go, and of which queries it shows whether they reach a touched node.
use Rattle.olr_renewal.proofs.Common.{ℕ, ◌≤◌, min, IsTrue, arith, Map, IsMap, has_node, GREATEST_LIMIT, IsUnder, Against}
use Rattle.olr_renewal.proofs.Common.{IsRight, IsSource, ◌≡◌, List, [], slice_get, Some, label_at, Near, CoverageQuery}
use Rattle.olr_renewal.proofs.Common.{AreLengths, Item, nodes_of, sources, IsSearchedFor, Begins, BeginsIn}
use Rattle.olr_renewal.proofs.Common.{ChangeSet, Dijkstra, begins_there, IsSearch, DistanceBounds, Leads}
use Rattle.olr_renewal.proofs.Distances.{near_labelled, near_found}

-- no source is beyond bounds that are right
pub source_under : (M : Map) (slot : ℕ → ℕ) (f : DistanceBounds) (v w d : ℕ) → IsTrue f.valid → IsRight M slot f →
    IsSource f v w → IsTrue (has_node M v) → d ≤ min w GREATEST_LIMIT → IsUnder f.bounds (slot v) d
source_under M slot f v w d known right source there le =
    let k = source known in
    let low = (right known).sources v k.number k.at there in
    omega (arith, k.low)

module _ (N : Map) (slot : ℕ → ℕ) (t : ChangeSet) (near : Dijkstra) where
  -- for fewer queries
  pub searched_less : (Q R : CoverageQuery → Type 0) → ((l : CoverageQuery) → R l → Q l) →
      IsSearchedFor N slot t near Q → IsSearchedFor N slot t near R
  searched_less Q R less s =
      record { from = s.from; lengths = s.lengths; reaches = s.reaches; found = λ l r. s.found l (less l r) }

  -- for those of one path
  pub searched_at : (is : List Item) (k : ℕ) (i : Item) → slice_get is k ≡ Some i → IsSearchedFor N slot t near (Begins is) →
      IsSearchedFor N slot t near (BeginsIn i.results)
  searched_at is k i at = searched_less (Begins is) (BeginsIn i.results) (λ l b. begins_there is k i l at b)

  -- from no node, where it is known that no query reaches one
  pub searched_from_none : (Q : CoverageQuery → Type 0) → IsSearch N slot Against [] near →
      ((l : CoverageQuery) → Q l → ¬ Near N (nodes_of t) l.from (min l.within GREATEST_LIMIT)) →
      IsSearchedFor N slot t near Q
  searched_from_none Q s far =
      let lengths = s.under_way.labelled in
      record {
        from = [];
        lengths = lengths;
        reaches = λ v w there le low.
            let none = (lengths.leads v there (omega arith)).listed.1 in absurd (omega arith);
        found = λ l q there short. absurd (far l q short);
      }

  -- no route of at most w from the touched nodes to v is shorter than the label of v
  abbrev pub IsExactAt : ℕ → ℕ → Type 0
  IsExactAt v w = (d : ℕ) → d ≤ w → IsTrue (has_node N v) → Leads N Against (sources t) v d → label_at near (slot v) ≤ d

  -- as far as each query reaches
  pub searched_from_touched : IsMap N → (Q : CoverageQuery → Type 0) → AreLengths N slot Against (sources t) near →
      ((l : CoverageQuery) → Q l → IsExactAt l.from (min l.within GREATEST_LIMIT)) →
      IsSearchedFor N slot t near Q
  searched_from_touched n Q lengths exact =
      record {
        from = sources t;
        lengths = lengths;
        reaches = λ v w there le low.
            near_labelled N n (nodes_of t) v (label_at near (slot v)) w low (lengths.leads v there (omega arith));
        found = λ l q there.
            near_found N n (nodes_of t) l.from (label_at near (slot l.from)) (min l.within GREATEST_LIMIT) there
            (λ d le way. exact l q d le there way);
      }
