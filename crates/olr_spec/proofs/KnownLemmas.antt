-- Coverage queries along a path's own lines are the same on another map where they are clear.
use Rattle.olr_spec.proofs.Common.{Margin, counted_dm_of, CountedRoute, ◌≡◌, ℕ, ◌+◌, List, ◌∷◌, ◌<◌, ◌≤◌, sym, ap, ◌∙◌, subst}
use Rattle.olr_spec.proofs.Common.{arith, slice_index, [], Map, start, end, SameWay, IsRoute, stretch, ChangedLine, AccountsFor}
use Rattle.olr_spec.proofs.Common.{Detour, IsClear, KnownQuery, All-contains, get_or, IsKnownWith, QueryLaws, LawOf}
use Rattle.olr_spec.proofs.Facts.{route_known, route_counted, Each, Each-head, Each-right, IsRoute-split, IsRoute-moves}
use Rattle.olr_spec.proofs.Facts.{same_there, stretch_first}
use Rattle.olr_spec.proofs.RouteMoves.{counted_longer, counted_length_same, clear_front, clear_whole}
use Rattle.olr_spec.proofs.QueryLemmas.{stretch_parts}

-- ---- on another map

-- a route's lines lead to one node
pub one_end : (M : Map) (s t u : ℕ) (xs : List ℕ) → IsRoute M s t xs → IsRoute M s u xs → t ≡ u
one_end M s t u [] v w = sym v ∙ w
one_end M s t u (x ∷ xs) v w = one_end M (end M x) t u xs v.2 w.2

module _ {g : Margin} (M N : Map) (C : List ChangedLine) (there : AccountsFor C M N) (here : AccountsFor C N M) (ls : List ℕ)
    (e : KnownQuery) (k : IsKnownWith g M ls e) (clear : IsClear N C e.query) where
  abbrev s : ℕ
  s = e.query.from

  abbrev t : ℕ
  t = e.query.to

  abbrev whole : List ℕ
  whole = stretch ls e.first e.last

  abbrev part : ℕ → List ℕ
  part m = stretch ls e.first m

  same : Each (SameWay M N) whole
  same = same_there M N C s t e.query.within there here clear whole k.route
      (omega (arith, k.within, counted_longer g M whole whole (route_known M s t whole k.route)))

  front : (m : ℕ) → e.first ≤ m → m < e.last → IsRoute M s (start M (slice_index ls m)) (part m)
  front m h lt = route_counted g M (part m) s (start M (slice_index ls m)) (part m) (k.before m h lt).route

  -- the lines from position m on
  after : (m : ℕ) → e.first ≤ m → m < e.last → IsRoute M (start M (slice_index ls m)) t (stretch ls m e.last)
  after m h lt =
      let r = IsRoute-split M s t (part m) (stretch ls m e.last)
      (subst (IsRoute M s t) (stretch_parts ls e.first m e.last h (omega arith)) k.route) in
      subst (λ (v : ℕ). IsRoute M v t (stretch ls m e.last)) (one_end M s r.0 _ (part m) r.1 (front m h lt)) r.2

  pub known_stays : IsKnownWith g N ls e
  known_stays =
      let clear_all = clear_whole g M N C there here s t whole k.route (subst (λ (d : ℕ). ¬ Detour N C s t d) k.within clear) in
      record {
        order = k.order;
        upto = k.upto;
        route = IsRoute-moves M N s t whole same k.route;
        within = k.within ∙ counted_length_same g M N whole same;
        before = λ m h lt.
            let parts = stretch_parts ls e.first m e.last h (omega arith) in
            let rest = Each-right (SameWay M N) (part m) (stretch ls m e.last) (subst (Each (SameWay M N)) parts same) in
            let line = (Each-head (SameWay M N) (slice_index ls m) (stretch ls (m + 1) e.last)
            (subst (Each (SameWay M N)) (stretch_first ls m e.last lt (omega arith)) rest)).from in
            subst (λ (v : ℕ). CountedRoute g N s v (part m)) line
            ((clear_front g M N C there here s (start M (slice_index ls m)) t (part m) (stretch ls m e.last)
            (front m h lt) (after m h lt)
            (subst (λ (d : ℕ). ¬ Detour N C s t d) (k.within ∙ ap (counted_dm_of g M) parts) clear)).0 (k.before m h lt));
        covered = grind (arith, clear_all, k.covered);
      }

-- ---- of a path

pub known_kept : (g : Margin) → LawOf (λ (l : QueryLaws g). l.known_retained)
known_kept g M N C there here ls queries clear ks known k d lt =
    let e = known k d lt in
    let right = known_stays M N C there here ls (get_or ks k d) e.right (All-contains (IsClear N C) queries (get_or ks k d).query clear e.among) in
    search (e.among, right)
