-- On a map that splits roads a shortest route follows whole roads.
use Rattle.olr_spec.proofs.Common.{inl, inr, [], ◌≡◌, ◌≢◌, ◌+◌, ◌-◌, ◌*◌, ◌≤◌, ◌<◌, ◌∷◌, sym, ap, ◌∙◌, not, has, Map}
use Rattle.olr_spec.proofs.Common.{start, end, dm, ℕ, zero, suc, IsTrue, IsRoute, UniqueShortest, Margin, counted, IsMap, length}
use Rattle.olr_spec.proofs.Common.{true, List, ◌++◌, refl, subst, arith, dm_of, none_twice, and_parts, and_from}
use Rattle.olr_spec.proofs.Common.{cases_Bool, has_line, map, append_assoc, length-append, cases_lt, Within, ◌↔◌}
use Rattle.olr_spec.specs.Elsewhere.{InReach, suffices}
use Rattle.olr_spec.specs.Split.{chains, IsNode, IsRoad, HasRoads, HasRoadsAlong, LegHasRoads, LastHasRoads, PartHasRoads, Whole, Behind}
use Rattle.olr_spec.proofs.Common.{first, last, allowed, line_at, stretch, slice_index, legs, attrs_with, fold, max, Leg, ◌==◌, AreJoined}
use Rattle.olr_spec.proofs.Facts.{Known, has_index, stretch_first, stretch_last}
use Rattle.olr_spec.proofs.FitLemmas.{range_legs, by_answer, extended_sound, answered}
use Rattle.olr_spec.proofs.JoinedLemmas.{extended_joined}
use Rattle.olr_spec.proofs.KnownLemmas.{one_end}
use Rattle.olr_spec.proofs.DecideLemmas.{last_of_list}
use Rattle.olr_spec.proofs.Common.{eq-eqb}
use Rattle.olr_spec.proofs.Facts.{path_at, path_also}
use Rattle.olr_spec.proofs.Common.{LawOf, AnswerLaws, extended_path}
use Rattle.olr_spec.proofs.LegLemmas.{part_of, line_on, once_left, once_right, of_kept, From, To}
use Rattle.olr_spec.proofs.SimpleLemmas.{IsSimple, simple_tail, simple_after, simplified}
use Rattle.olr_spec.proofs.QueryLemmas.{stretch_parts}
use Rattle.olr_spec.proofs.WayLemmas.{next_start}
use Rattle.olr_spec.proofs.Common.{RecoversTo, RecoversLast, list_any-append}
use Rattle.olr_spec.specs.Receiver.{One_line}
use Rattle.olr_spec.specs.Split.{RecoversLeg, RecoversLastLeg}
use Rattle.olr_spec.specs.Receiver.{Shortest}
use Rattle.std.specs.List.{sum_by}
use Rattle.std.proofs.lemmas.List.Sums.{sum_by-cons}
use Rattle.olr_spec.proofs.ListLemmas.{Each, Each-nil, Each-cons, Each-right, has_cases, dec_same, has_here, has_there}
use Rattle.olr_spec.proofs.RouteLemmas.{IsRoute-split, IsRoute-append, dm_of-append}
use Rattle.olr_spec.proofs.WayLemmas.{route_known}
use Rattle.olr_spec.proofs.ReceiverLemmas.{within_parts, within_greatest, recovers_only, only_more}
use Rattle.olr_spec.proofs.CountedLemmas.{counted_route, route_counted}
use Rattle.olr_spec.proofs.ElsewhereLemmas.{from_line, in_reach, longer_by, OnlyShortest}

-- ---- roads

-- the node between two lines of a route
joint : (N : Map) (s t : ℕ) (before : List ℕ) (y z : ℕ) (after : List ℕ) → IsRoute N s t (before ++ y ∷ z ∷ after) → start N z ≡ end N y
joint N s t [] y z after w = w.2.1
joint N s t (x ∷ before) y z after w = joint N (end N x) t before y z after w.2

last_in : (N : Map) (s t y : ℕ) (ys : List ℕ) → IsRoute N s t (y ∷ ys) → has (map (end N) (y ∷ ys)) t ≡ true
last_in N s t y [] w = subst (λ k. has (map (end N) (y ∷ [])) k ≡ true) w.2 (has_here (end N y) [])
last_in N s t y (z ∷ ys) w = has_there (end N y) (map (end N) (z ∷ ys)) t (last_in N (end N y) t z ys w.2)

end_front : (N : Map) (xs ys : List ℕ) (v : ℕ) → has (map (end N) xs) v ≡ true → has (map (end N) (xs ++ ys)) v ≡ true
end_front N [] ys v i = absurd cc
end_front N (x ∷ xs) ys v i = elim (has_cases (end N x) (map (end N) xs) v i) [
  | inl e ↦ subst (λ k. has (end N x ∷ map (end N) (xs ++ ys)) k ≡ true) e (has_here (end N x) (map (end N) (xs ++ ys)))
  | inr there ↦ has_there (end N x) (map (end N) (xs ++ ys)) v (end_front N xs ys v there)
]

end_back : (N : Map) (xs ys : List ℕ) (v : ℕ) → has (map (end N) ys) v ≡ true → has (map (end N) (xs ++ ys)) v ≡ true
end_back N [] ys v i = i
end_back N (x ∷ xs) ys v i = has_there (end N x) (map (end N) (xs ++ ys)) v (end_back N xs ys v i)

module _ (b : ℕ) (M N : Map) (chain : ℕ → List ℕ) (c s most : ℕ) where
  abbrev Road : ℕ → Type 0
  Road x = IsRoad b M N chain c s most x

  abbrev Reach : ℕ → Type 0
  Reach y = InReach N c s most y

  -- on line y of a road, a route to a node of M follows the road
  follow : (x : ℕ) → Road x → (after before : List ℕ) (y : ℕ) (ys : List ℕ) (v t : ℕ) → chain x ≡ before ++ y ∷ after →
      IsRoute N v t (y ∷ ys) → IsSimple N v (y ∷ ys) → Each Reach ys → IsNode M t → (later : List ℕ) × (ys ≡ after ++ later)
  follow x road [] before y ys v t is w h reach node = (ys, refl)
  follow x road (z ∷ after) before y [] v t is w h reach node =
      let inner = road.inner before after y z is in
      absurd (inner.new (subst (IsNode M) (sym w.2) node))
  follow x road (z ∷ after) before y (u ∷ ys) v t is w h reach node =
      let inner = road.inner before after y z is in
      elim (inner.onward u (reach u (has_here u ys)) w.2.1) [
        | inl e ↦
            let here : chain x ≡ (before ++ y ∷ []) ++ u ∷ after = is ∙ sym (append_assoc before (y ∷ []) (z ∷ after)) ∙ ap (λ k. (before ++ y ∷ []) ++ k ∷ after) (sym e) in
            let r = follow x road after (before ++ y ∷ []) u ys (end N y) t here w.2 (simple_tail N v y (u ∷ ys) h) (λ k i. reach k (has_there u ys k i)) node in
            (r.0, ap (λ zs. u ∷ zs) r.1 ∙ ap (λ k. k ∷ (after ++ r.0)) e)
        | inr back ↦
            let turned : has (map (end N) (y ∷ u ∷ ys)) v ≡ true =
            has_there (end N y) (map (end N) (u ∷ ys)) v (subst (λ k. has (map (end N) (u ∷ ys)) k ≡ true) (back ∙ w.1) (has_here (end N u) (map (end N) ys))) in
            absurd (grind (arith, turned, and_parts (not (has (map (end N) (y ∷ u ∷ ys)) v)) (none_twice (map (end N) (y ∷ u ∷ ys))) h))
      ]

  -- a line that begins at a node of M is the first one of its road
  first_of : (x : ℕ) → Road x → (before after : List ℕ) (y : ℕ) → chain x ≡ before ++ y ∷ after → IsNode M (start N y) → before ≡ []
  first_of x road [] after y is node = refl
  first_of x road (u ∷ us) after y is node =
      let l = last_of_list u us in
      let here : chain x ≡ l.0 ++ l.1 ∷ y ∷ after = is ∙ ap (λ zs. zs ++ y ∷ after) l.2 ∙ append_assoc l.0 (l.1 ∷ []) (y ∷ after) in
      let at = joint N (start M x) (end M x) l.0 l.1 y after (subst (IsRoute N (start M x) (end M x)) here road.route) in
      let inner = road.inner l.0 after l.1 y here in
      absurd (inner.new (subst (IsNode M) at node))

  -- a road isn't one of those behind it
  apart : (x : ℕ) (roads later : List ℕ) → IsSimple N (end M x) later →
      ((z : ℕ) → has roads z ≡ true → has (map (end N) later) (end M z) ≡ true) → not (has roads x) ≡ true
  apart x roads later h ends = elim (cases_Bool (has roads x)) [
    | inl on ↦ absurd (grind (arith, ends x on, and_parts (not (has (map (end N) later) (end M x))) (none_twice (map (end N) later)) h))
    | inr off ↦ ap not off
  ]

  -- a route as roads
  record Parsed (v t : ℕ) (ys : List ℕ) : Type 0 where
    roads : List ℕ
    is : ys ≡ chains chain roads
    route : IsRoute M v t roads
    each : Each Road roads
    once : none_twice roads ≡ true
    ends : (z : ℕ) → has roads z ≡ true → has (map (end N) ys) (end M z) ≡ true

  module _ (all : HasRoads b M N chain c s most) where
    parse : (fuel : ℕ) (v t : ℕ) (ys : List ℕ) → length ys ≤ fuel → IsRoute N v t ys → IsSimple N v ys → Each Reach ys → IsNode M v →
        IsNode M t → Parsed v t ys
    parse fuel v t [] le w h reach from to =
        record { roads = []; is = refl; route = w; each = Each-nil Road; once = refl; ends = λ z i. absurd cc }
    parse zero v t (y ∷ ys) le w h reach from to = absurd (omega (arith, le))
    parse (suc fuel) v t (y ∷ ys) le w h reach from to =
        let p = all y (reach y (has_here y ys)) in
        let x = p.0 in
        let road = p.1 in
        let on = from_line y (chain x) p.2 in
        let before = first_of x road on.0 on.1 y on.2 (subst (IsNode M) (sym w.1) from) in
        let chain_is : chain x ≡ y ∷ on.1 = on.2 ∙ ap (λ zs. zs ++ y ∷ on.1) before in
        let f = follow x road on.1 [] y ys v t chain_is w h (λ k i. reach k (has_there y ys k i)) to in
        let later = f.0 in
        let all_is : y ∷ ys ≡ chain x ++ later = ap (λ zs. y ∷ zs) f.1 ∙ ap (λ zs. zs ++ later) (sym chain_is) in
        let parts = IsRoute-split N v t (chain x) later (subst (IsRoute N v t) all_is w) in
        let begins : start M x ≡ v = sym (subst (IsRoute N (start M x) (end M x)) chain_is road.route).1 ∙ w.1 in
        let own : IsRoute N v (end M x) (chain x) = subst (λ k. IsRoute N k (end M x) (chain x)) begins road.route in
        let at = one_end N v parts.0 (end M x) (chain x) parts.1 own in
        let route_later : IsRoute N (end M x) t later = subst (λ k. IsRoute N k t later) at parts.2 in
        let simple_later = simple_after N v (end M x) (chain x) later own (subst (IsSimple N v) all_is h) in
        let reach_later = Each-right Reach (chain x) later (subst (Each Reach) all_is reach) in
        let shorter : length later ≤ fuel = omega (arith, le, ap (λ (zs : List ℕ). length zs) f.1, length-append on.1 later) in
        let r = parse fuel (end M x) t later shorter route_later simple_later reach_later (x, road.known, inr refl) to in
        let last : has (map (end N) (chain x)) (end M x) ≡ true =
        subst (λ zs. has (map (end N) zs) (end M x) ≡ true) (sym chain_is) (last_in N (start M x) (end M x) y on.1 (subst (IsRoute N (start M x) (end M x)) chain_is road.route)) in
        record {
          roads = x ∷ r.roads;
          is = all_is ∙ ap (λ zs. chain x ++ zs) r.is;
          route = (road.known, begins, r.route);
          each = Each-cons Road x r.roads road r.each;
          once = and_from (not (has r.roads x)) (none_twice r.roads) (apart x r.roads later simple_later r.ends) r.once;
          ends = λ z i. subst (λ zs. has (map (end N) zs) (end M z) ≡ true) (sym all_is)
              (elim (has_cases x r.roads z i) [
                | inl e ↦ end_front N (chain x) later (end M z) (subst (λ k. has (map (end N) (chain x)) k ≡ true) (ap (end M) e) last)
                | inr there ↦ end_back N (chain x) later (end M z) (r.ends z there)
              ]);
        }

-- ---- the only shortest route

sum_of_chains : (N : Map) (chain : ℕ → List ℕ) (xs : List ℕ) → sum_by (λ x. dm_of N (chain x)) xs ≡ dm_of N (chains chain xs)
sum_of_chains N chain [] = refl
sum_of_chains N chain (x ∷ xs) =
    omega (arith, sum_by-cons (λ y. dm_of N (chain y)) x xs, sum_of_chains N chain xs, dm_of-append N (chain x) (chains chain xs))

chains_route : (M N : Map) (chain : ℕ → List ℕ) (s t : ℕ) (xs : List ℕ) → Each (λ x. IsRoute N (start M x) (end M x) (chain x)) xs → IsRoute M s t xs →
    IsRoute N s t (chains chain xs)
chains_route M N chain s t [] h w = w
chains_route M N chain s t (x ∷ xs) h w =
    let first = subst (λ k. IsRoute N k (end M x) (chain x)) w.1 (h x (has_here x xs)) in
    IsRoute-append N s (end M x) t (chain x) (chains chain xs) first (chains_route M N chain (end M x) t xs (λ y i. h y (has_there x xs y i)) w.2)

module _ (g : Margin) (M N : Map) (n : IsMap N) (a b : ℕ) (enough : IsTrue (suffices g a b)) (chain : ℕ → List ℕ) (xs : List ℕ)
    (routes : Each (λ x. IsRoute N (start M x) (end M x) (chain x)) xs)
    (own : Each (λ x. 1000 * dm_of N (chain x) ≤ (1000 + a) * dm M x) xs) (c s t most : ℕ) (within : Within N c (chains chain xs)) (le : dm_of N (chains chain xs) ≤ most)
    (all : HasRoads b M N chain c s most) (from : IsNode M s) (to : IsNode M t) (u : UniqueShortest (counted g M xs) s t xs) where
  abbrev Roads : List ℕ
  Roads = chains chain xs

  abbrev len : ℕ → ℕ
  len x = dm_of N (chain x)

  here : IsRoute M s t xs
  here = route_counted g M xs s t xs u.route

  there : IsRoute N s t Roads
  there = chains_route M N chain s t xs routes here

  roads_longer : (zs : List ℕ) → IsRoute M s t zs → Each (Road b M N chain c s most) zs → none_twice zs ≡ true → zs ≢ xs → dm_of N Roads < dm_of N (chains chain zs)
  roads_longer zs w roads once ne =
      let longer = longer_by g M a b enough xs (route_known M s t xs here) len own zs (λ z i _. (roads z i).length) once (u.others zs (counted_route g M xs s t zs w) ne) in
      omega (arith, longer, sum_of_chains N chain xs, sum_of_chains N chain zs)

  others_longer : (ys : List ℕ) → IsRoute N s t ys → Within N c ys → ys ≢ Roads → dm_of N Roads < dm_of N ys
  others_longer ys w i ne = elim (cases_lt (dm_of N Roads) (dm_of N ys)) [
    | inl lt ↦ lt
    | inr less ↦
        let reach = in_reach N n c s t most ys w i (omega (arith, le, less)) in
        let r = simplified N n s t ys w in
        let p = parse b M N chain c s most all (length r.rest) s t r.rest (omega arith) r.route r.simple (λ y j. reach y (r.part y j)) from to in
        let as_roads : dm_of N r.rest ≡ dm_of N (chains chain p.roads) = ap (dm_of N) p.is in
        elim (dec_same p.roads xs) [
          | yes e ↦
              let same : r.rest ≡ Roads = p.is ∙ ap (chains chain) e in
              elim r.shorter [
                | inl is ↦ absurd (ne (sym is ∙ same))
                | inr lt ↦ omega (arith, lt, ap (dm_of N) same)
              ]
          | no other ↦
              let lt = roads_longer p.roads p.route p.each p.once other in
              elim r.shorter [
                | inl is ↦ omega (arith, lt, as_roads, ap (dm_of N) is)
                | inr far ↦ omega (arith, lt, as_roads, far)
              ]
        ]
  ]

  pub only_roads : OnlyShortest N c s t Roads
  only_roads ys = (
    (λ h. elim (dec_same ys Roads) [ yes e ↦ e | no ne ↦ absurd (omega (arith, others_longer ys h.route h.within ne, h.first Roads there within)) ]),
    (λ e. subst (Shortest N c s t) (sym e) (record {
      route = there;
      within = within;
      first = λ zs w i. elim (dec_same zs Roads) [ yes f ↦ omega (arith, ap (dm_of N) f) | no ne ↦ omega (arith, others_longer zs w i ne) ];
    })),
  )

-- ---- from one of its lines to another

within_both : (M : Map) (c : ℕ) (xs ys : List ℕ) → Within M c xs → Within M c ys → Within M c (xs ++ ys)
within_both M c [] ys i j = j
within_both M c (x ∷ xs) ys i j = (i.0, within_both M c xs ys i.1 j)

same_front : (xs ys : List ℕ) (l : ℕ) → xs ++ l ∷ [] ≡ ys ++ l ∷ [] → xs ≡ ys
same_front [] [] l e = refl
same_front [] (y ∷ ys) l e = absurd (omega (arith, ap (λ (zs : List ℕ). length zs) e, length-append ys (l ∷ [])))
same_front (x ∷ xs) [] l e = absurd (omega (arith, ap (λ (zs : List ℕ). length zs) e, length-append xs (l ∷ [])))
same_front (x ∷ xs) (y ∷ ys) l e =
    let heads : x ≡ y = cc in
    let tails : xs ++ l ∷ [] ≡ ys ++ l ∷ [] = cc in
    let r = same_front xs ys l tails in
    ap (λ zs. x ∷ zs) r ∙ ap (λ k. k ∷ ys) heads

-- behind the first line
only_behind : (N : Map) (c s t y : ℕ) (ys : List ℕ) → OnlyShortest N c s t (y ∷ ys) → OnlyShortest N c (end N y) t ys
only_behind N c s t y ys only zs =
    let whole = (only (y ∷ ys)).1 refl in
    let longer : (ws : List ℕ) → IsRoute N (end N y) t ws → Within N c ws → dm_of N ys ≤ dm_of N ws =
    λ ws w i. omega (arith, whole.first (y ∷ ws) (whole.route.0, whole.route.1, w) (whole.within.0, i)) in (
      (λ h.
          let e = (only (y ∷ zs)).0 (record {
            route = (whole.route.0, whole.route.1, h.route);
            within = (whole.within.0, h.within);
            first = λ ws w i. omega (arith, whole.first ws w i, h.first ys whole.route.2 whole.within.1);
          }) in
          same_rest zs ys y e),
      (λ e. subst (Shortest N c (end N y) t) (sym e) (record { route = whole.route.2; within = whole.within.1; first = longer })),
    )
  where
    same_rest : (zs ys : List ℕ) (y : ℕ) → y ∷ zs ≡ y ∷ ys → zs ≡ ys
    same_rest zs ys y e = cc

-- before the last line
only_before : (N : Map) (c s t l : ℕ) (ys : List ℕ) → OnlyShortest N c s t (ys ++ l ∷ []) → OnlyShortest N c s (start N l) ys
only_before N c s t l ys only zs =
    let whole = (only (ys ++ l ∷ [])).1 refl in
    let parts = IsRoute-split N s t ys (l ∷ []) whole.route in
    let own : IsRoute N s (start N l) ys = subst (λ k. IsRoute N s k ys) (sym parts.2.1) parts.1 in
    let within = within_parts N c ys (l ∷ []) whole.within in
    let on : (ws : List ℕ) → IsRoute N s (start N l) ws → IsRoute N s t (ws ++ l ∷ []) =
    λ ws w. IsRoute-append N s (start N l) t ws (l ∷ []) w (parts.2.0, refl, parts.2.2) in
    let on_within : (ws : List ℕ) → Within N c ws → Within N c (ws ++ l ∷ []) = λ ws i. within_both N c ws (l ∷ []) i within.1 in
    let long = dm_of-append N ys (l ∷ []) in (
      (λ h.
          let e = (only (zs ++ l ∷ [])).0 (record {
            route = on zs h.route;
            within = on_within zs h.within;
            first = λ ws w i. omega (arith, whole.first ws w i, h.first ys own within.0, long, dm_of-append N zs (l ∷ []));
          }) in
          same_front zs ys l e),
      (λ e. subst (Shortest N c s (start N l)) (sym e) (record {
        route = own;
        within = within.0;
        first = λ ws w i. omega (arith, whole.first (ws ++ l ∷ []) (on ws w) (on_within ws i), long, dm_of-append N ws (l ∷ []));
      })),
    )

-- ---- legs

first_is : (xs : List ℕ) → 0 < length xs → (more : List ℕ) × (xs ≡ first xs ∷ more)
first_is [] h = absurd (omega (arith, h))
first_is (x ∷ xs) h = (xs, refl)

last_is : (xs : List ℕ) → 0 < length xs → (front : List ℕ) × (xs ≡ front ++ last xs ∷ [])
last_is [] h = absurd (omega (arith, h))
last_is (x ∷ []) h = ([], refl)
last_is (x ∷ y ∷ xs) h = let r = last_is (y ∷ xs) (omega arith) in (x ∷ r.0, ap (λ zs. x ∷ zs) r.1)

chains-append : (chain : ℕ → List ℕ) (xs ys : List ℕ) → chains chain (xs ++ ys) ≡ chains chain xs ++ chains chain ys
chains-append chain [] ys = refl
chains-append chain (x ∷ xs) ys =
    ap (λ zs. chain x ++ zs) (chains-append chain xs ys) ∙ sym (append_assoc (chain x) (chains chain xs) (chains chain ys))

within_more : (N : Map) (c d : ℕ) (xs : List ℕ) → c ≤ d → Within N c xs → Within N d xs
within_more N c d [] le w = tt
within_more N c d (x ∷ xs) le w = (omega (arith, w.0, le), within_more N c d xs le w.1)

allowed_more : (g : Margin) (c d : ℕ) → c ≤ d → allowed g c ≤ allowed g d
allowed_more g c d le = grind (arith, cases_Bool (g.classes == 0))

chains_within : (g : Margin) (M N : Map) (chain : ℕ → List ℕ) (c : ℕ) (xs : List ℕ) → Within M c xs →
    Each (λ x. Within N (allowed g (line_at M x).frc) (chain x)) xs → Within N (allowed g c) (chains chain xs)
chains_within g M N chain c [] w h = tt
chains_within g M N chain c (x ∷ xs) w h =
    within_both N (allowed g c) (chain x) (chains chain xs)
    (within_more N (allowed g (line_at M x).frc) (allowed g c) (chain x) (allowed_more g (line_at M x).frc c w.0) (h x (has_here x xs)))
    (chains_within g M N chain c xs w.1 (λ y i. h y (has_there x xs y i)))

twice_apart : (x y : ℕ) (xs : List ℕ) → none_twice (x ∷ (xs ++ y ∷ [])) ≡ true → x ≢ y
twice_apart x y xs once e =
    let parts = and_parts (not (has (xs ++ y ∷ []) x)) (none_twice (xs ++ y ∷ [])) once in
    absurd (grind (arith, parts.0, list_any-append (λ z. z == x) xs (y ∷ []), cases_Bool (has xs x), eq-eqb y x (sym e)))

append_nil : (xs : List ℕ) → xs ++ [] ≡ xs
append_nil [] = refl
append_nil (x ∷ xs) = ap (λ zs. x ∷ zs) (append_nil xs)

-- from line f up to line l, which enters the last LRP; the lines are all, which is f and then rest, and ends with l
last_by : (N : Map) (c f l t : ℕ) (rest front all : List ℕ) → all ≡ f ∷ rest → all ≡ front ++ l ∷ [] → none_twice all ≡ true → Within N c all →
    OnlyShortest N c (end N f) t rest → (w : List ℕ) → RecoversLast N c f l w ↔ (w ≡ all)
last_by N c f l t rest [] all is ends once within only w =
    let same : f ∷ rest ≡ l ∷ [] = sym is ∙ ends in
    let one : f ≡ l = cc in
    ((λ k. grind (arith, ends, one)), (λ e. One_line one (e ∙ ends ∙ ap (λ k. k ∷ []) (sym one))))
last_by N c f l t rest (z ∷ zs) all is ends once within only w =
    let same : f ∷ rest ≡ z ∷ (zs ++ l ∷ []) = sym is ∙ ends in
    let heads : f ≡ z = cc in
    let tails : rest ≡ zs ++ l ∷ [] = cc in
    let here : all ≡ f ∷ (zs ++ l ∷ []) = is ∙ ap (λ ks. f ∷ ks) tails in
    let apart_is = twice_apart f l zs (subst (λ ks. none_twice ks ≡ true) here once) in
    let inside : Within N c (f ∷ (zs ++ l ∷ [])) = subst (Within N c) here within in
    let end_inside = within_parts N c zs (l ∷ []) inside.1 in
    only_more N c f l all zs apart_is end_inside.1.0 here (only_before N c (end N f) t l zs (subst (OnlyShortest N c (end N f) t) tails only)) w

module _ (g : Margin) (M N : Map) (m : IsMap M) (n : IsMap N) (a b : ℕ) (enough : IsTrue (suffices g a b)) (chain : ℕ → List ℕ) (ls : List ℕ)
    (known : Each (Known M) ls) (joined : AreJoined M ls) (from to : ℕ) (along : HasRoadsAlong g a M N chain (stretch ls from to)) where
  abbrev On : ℕ → Type 0
  On x = has (stretch ls from to) x ≡ true

  abbrev Class : ℕ → ℕ → ℕ
  Class p q = (attrs_with g (legs M ls) p q).lfrc

  on_part : (p q : ℕ) → from ≤ p → p ≤ q → q ≤ to → Each On (stretch ls p q)
  on_part p q f h t = part_of On ls from to p q f h t (λ x i. i)

  on_M : (p : ℕ) → p < length ls → IsTrue (has_line M (slice_index ls p))
  on_M p h = known (slice_index ls p) (has_index ls p h)

  leg_within : (p q : ℕ) → from ≤ p → p ≤ q → q ≤ to → Within N (Class p q) (chains chain (stretch ls p q))
  leg_within p q f h t =
      let c = fold max 0 (map (λ (l : Leg). l.line.frc) (legs M (stretch ls p q))) in
      let same = ap (λ (hs : List Leg). allowed g (fold max 0 (map (λ (l : Leg). l.line.frc) hs))) (range_legs M m ls known p q) in
      let on = on_part p q f h t in
      subst (λ (d : ℕ). Within N d (chains chain (stretch ls p q))) (sym same)
      (chains_within g M N chain c (stretch ls p q) (within_greatest M 0 (stretch ls p q)) (λ x i. along.classes x (on x i)))

  -- the roads of a leg up to position k, from behind the first line of the first one
  record PartIs (p q k t : ℕ) : Type 0 where
    rest : List ℕ
    is : chains chain (stretch ls p k) ≡ first (chain (slice_index ls p)) ∷ rest
    only : OnlyShortest N (Class p q) (end N (first (chain (slice_index ls p)))) t rest

  part_is : (p q k t : ℕ) → from ≤ p → p < k → k ≤ q → q ≤ to → q ≤ length ls → IsNode M t → PartHasRoads g b M N chain ls p q k t → PartIs p q k t
  part_is p q k t f lt up below h node has_roads =
      let x = slice_index ls p in
      let on_x = line_on ls from to p f (omega (arith, lt, up, below)) (omega (arith, lt, up, h)) in
      let begin = first_is (chain x) (along.some x on_x) in
      let later = chains chain (stretch ls (p + 1) k) in
      let parts : stretch ls p k ≡ x ∷ stretch ls (p + 1) k = stretch_first ls p k lt (omega (arith, lt, up, h)) in
      let whole : chains chain (stretch ls p k) ≡ first (chain x) ∷ (begin.0 ++ later) = ap (chains chain) parts ∙ ap (λ zs. zs ++ later) begin.1 in
      let leg : Within N (Class p q) (chains chain (stretch ls p k) ++ chains chain (stretch ls k q)) =
      subst (Within N (Class p q)) (ap (chains chain) (stretch_parts ls p k q (omega (arith, lt)) up) ∙ chains-append chain (stretch ls p k) (stretch ls k q))
      (leg_within p q f (omega (arith, lt, up)) below) in
      let within = (within_parts N (Class p q) (chains chain (stretch ls p k)) (chains chain (stretch ls k q)) leg).0 in
      elim has_roads [
        | Whole unique roads ↦
            let on = on_part p k f (omega (arith, lt)) (omega (arith, up, below)) in
            let only = only_roads g M N n a b enough chain (stretch ls p k) (λ y i. along.routes y (on y i)) (λ y i. along.own y (on y i)) (Class p q)
            (start M x) t (dm_of N (chains chain (stretch ls p k))) within (omega arith) roads
            (x, on_M p (omega (arith, lt, up, h)), inl refl) node unique in
            record {
              rest = begin.0 ++ later;
              is = whole;
              only = only_behind N (Class p q) (start M x) t (first (chain x)) (begin.0 ++ later)
                  (subst (OnlyShortest N (Class p q) (start M x) t) whole only);
            }
        | Behind one unique roads ↦
            let on = on_part (p + 1) k (omega (arith, f)) (omega (arith, lt)) (omega (arith, up, below)) in
            let alone : chains chain (stretch ls p k) ≡ first (chain x) ∷ later = ap (chains chain) parts ∙ ap (λ zs. zs ++ later) one in
            let all : Within N (Class p q) (first (chain x) ∷ later) = subst (Within N (Class p q)) alone within in
            let only = only_roads g M N n a b enough chain (stretch ls (p + 1) k) (λ y i. along.routes y (on y i)) (λ y i. along.own y (on y i)) (Class p q)
            (end M x) t (dm_of N later) all.1 (omega arith) roads (x, on_M p (omega (arith, lt, up, h)), inr refl) node unique in
            let route : IsRoute N (start M x) (end M x) (first (chain x) ∷ []) = subst (IsRoute N (start M x) (end M x)) one (along.routes x on_x) in
            record {
              rest = later;
              is = alone;
              only = subst (λ v. OnlyShortest N (Class p q) v t later) (sym route.2) only;
            }
      ]

  last_node : (q : ℕ) → 0 < q → q ≤ length ls → IsNode M (end M (slice_index ls (q - 1)))
  last_node q some h = (slice_index ls (q - 1), on_M (q - 1) (omega (arith, some, h)), inr refl)

  leg_once : (p q : ℕ) → from ≤ p → p ≤ q → q ≤ to → none_twice (chains chain (stretch ls p q)) ≡ true
  leg_once p q f h t =
      let front = stretch ls from p in
      let leg = stretch ls p q in
      let back = stretch ls q to in
      let is : chains chain (stretch ls from to) ≡ chains chain front ++ (chains chain leg ++ chains chain back) =
      ap (chains chain) (stretch_parts ls from p to f (omega arith) ∙ ap (λ zs. front ++ zs) (stretch_parts ls p q to h t))
      ∙ chains-append chain front (leg ++ back) ∙ ap (λ zs. chains chain front ++ zs) (chains-append chain leg back) in
      once_left (chains chain leg) (chains chain back)
      (once_right (chains chain front) (chains chain leg ++ chains chain back) (subst (λ zs. none_twice zs ≡ true) is along.once))

  leg_to : (p q : ℕ) → from ≤ p → p < q → q < to → q < length ls → LegHasRoads g b M N chain ls p q → (w : List ℕ) →
      RecoversTo N (Class p q) (first (chain (slice_index ls p))) (first (chain (slice_index ls q))) w ↔ (w ≡ chains chain (stretch ls p q))
  leg_to p q f lt t h has_roads w =
      let l = part_is p q q (end M (slice_index ls (q - 1))) f lt (omega arith) (omega arith) (omega arith) (last_node q (omega (arith, lt)) (omega arith)) has_roads in
      let y = slice_index ls q in
      let on_y = line_on ls from to q (omega (arith, f, lt)) t h in
      let begin = first_is (chain y) (along.some y on_y) in
      let route : IsRoute N (start M y) (end M y) (first (chain y) ∷ begin.0) = subst (IsRoute N (start M y) (end M y)) begin.1 (along.routes y on_y) in
      let next : end M (slice_index ls (q - 1)) ≡ start M y =
      subst (λ k. end M (slice_index ls (q - 1)) ≡ start M (slice_index ls k)) (omega (arith, lt)) (next_start M _ _ ls (q - 1) joined (omega (arith, lt, h))) in
      let only = subst (λ k. OnlyShortest N (Class p q) (end N (first (chain (slice_index ls p)))) k l.rest) (next ∙ sym route.1) l.only in
      subst (λ zs. RecoversTo N (Class p q) (first (chain (slice_index ls p))) (first (chain y)) w ↔ (w ≡ zs)) (sym l.is)
      (recovers_only N (Class p q) (first (chain (slice_index ls p))) (first (chain y)) l.rest only w)

  leg_whole : (p q : ℕ) → from ≤ p → p < q → q ≤ to → q ≤ length ls → LegHasRoads g b M N chain ls p q → (w : List ℕ) →
      RecoversLast N (Class p q) (first (chain (slice_index ls p))) (last (chain (slice_index ls (q - 1)))) w ↔ (w ≡ chains chain (stretch ls p q))
  leg_whole p q f lt t h has_roads w =
      let l = part_is p q q (end M (slice_index ls (q - 1))) f lt (omega arith) t h (last_node q (omega (arith, lt)) h) has_roads in
      let y = slice_index ls (q - 1) in
      let on_y = line_on ls from to (q - 1) (omega (arith, f, lt)) (omega (arith, lt, t)) (omega (arith, lt, h)) in
      let finish = last_is (chain y) (along.some y on_y) in
      let near = stretch ls p (q - 1) in
      let parts : stretch ls p q ≡ near ++ y ∷ [] =
      subst (λ k. stretch ls p k ≡ near ++ y ∷ []) (omega (arith, lt)) (stretch_last ls p (q - 1) (omega (arith, lt)) (omega (arith, lt, h))) in
      let behind_y : chain y ++ [] ≡ finish.0 ++ last (chain y) ∷ [] = append_nil (chain y) ∙ finish.1 in
      let whole : chains chain (stretch ls p q) ≡ (chains chain near ++ finish.0) ++ last (chain y) ∷ [] =
      ap (chains chain) parts ∙ chains-append chain near (y ∷ []) ∙ ap (λ zs. chains chain near ++ zs) behind_y
      ∙ sym (append_assoc (chains chain near) finish.0 (last (chain y) ∷ [])) in
      last_by N (Class p q) (first (chain (slice_index ls p))) (last (chain y)) (end M y) l.rest (chains chain near ++ finish.0) (chains chain (stretch ls p q)) l.is whole
      (leg_once p q f (omega (arith, lt)) t) (leg_within p q f (omega (arith, lt)) t) l.only w

  -- up to a last line that isn't split
  leg_before : (p q : ℕ) → from ≤ p → p + 1 < q → q ≤ to → q ≤ length ls → chain (slice_index ls (q - 1)) ≡ first (chain (slice_index ls (q - 1))) ∷ [] →
      PartHasRoads g b M N chain ls p q (q - 1) (start M (slice_index ls (q - 1))) → (w : List ℕ) →
      RecoversLast N (Class p q) (first (chain (slice_index ls p))) (last (chain (slice_index ls (q - 1)))) w ↔ (w ≡ chains chain (stretch ls p q))
  leg_before p q f lt t h one has_roads w =
      let y = slice_index ls (q - 1) in
      let x' = first (chain (slice_index ls p)) in
      let y' = first (chain y) in
      let node : IsNode M (start M y) = (y, on_M (q - 1) (omega (arith, lt, h)), inl refl) in
      let l = part_is p q (q - 1) (start M y) f (omega (arith, lt)) (omega arith) t h node has_roads in
      let near = stretch ls p (q - 1) in
      let parts : stretch ls p q ≡ near ++ y ∷ [] =
      subst (λ k. stretch ls p k ≡ near ++ y ∷ []) (omega (arith, lt)) (stretch_last ls p (q - 1) (omega (arith, lt)) (omega (arith, lt, h))) in
      let behind_y : chain y ++ [] ≡ y' ∷ [] = append_nil (chain y) ∙ one in
      let all : chains chain (stretch ls p q) ≡ x' ∷ (l.rest ++ y' ∷ []) =
      ap (chains chain) parts ∙ chains-append chain near (y ∷ []) ∙ ap (λ zs. chains chain near ++ zs) behind_y ∙ ap (λ zs. zs ++ y' ∷ []) l.is in
      let differ = twice_apart x' y' l.rest (subst (λ zs. none_twice zs ≡ true) all (leg_once p q f (omega (arith, lt)) t)) in
      let inside : Within N (Class p q) (x' ∷ (l.rest ++ y' ∷ [])) = subst (Within N (Class p q)) all (leg_within p q f (omega (arith, lt)) t) in
      let end_inside = within_parts N (Class p q) l.rest (y' ∷ []) inside.1 in
      let route : IsRoute N (start M y) (end M y) (y' ∷ []) =
      subst (IsRoute N (start M y) (end M y)) one (along.routes y (line_on ls from to (q - 1) (omega (arith, f, lt)) (omega (arith, lt, t)) (omega (arith, lt, h)))) in
      let only = subst (λ v. OnlyShortest N (Class p q) (end N x') v l.rest) (sym route.1) l.only in
      let finish : y' ≡ last (chain y) = sym (ap last one) in
      subst (λ v. RecoversLast N (Class p q) x' v w ↔ (w ≡ chains chain (stretch ls p q))) finish
      (only_more N (Class p q) x' y' (chains chain (stretch ls p q)) l.rest differ end_inside.1.0 all only w)

  leg_last : (p q : ℕ) → from ≤ p → p < q → q ≤ to → q ≤ length ls → LastHasRoads g b M N chain ls p q → (w : List ℕ) →
      RecoversLast N (Class p q) (first (chain (slice_index ls p))) (last (chain (slice_index ls (q - 1)))) w ↔ (w ≡ chains chain (stretch ls p q))
  leg_last p q f lt t h (inl has_roads) w = leg_whole p q f lt t h has_roads w
  leg_last p q f lt t h (inr r) w = leg_before p q f r.1 t h r.0 r.2 w

pub recovered_on_roads : (g : Margin) → LawOf (λ (l : AnswerLaws g). l.recovered_on_roads)
recovered_on_roads g M N m n a b enough chain P is r e along roads =
    let x = by_answer M P r e in
    let p = x.1 in
    let E = extended_path M P p.before p.after in
    let s = extended_sound M P is x.0 p.before p.after p.tried in
    let joined = extended_joined M P is x.0 p.before p.after p.tried in
    let here = path_at m is x.0 p along in
    path_also p (
      (answered g M E p.points r p.holds).1,
      of_kept p (LegHasRoads g b M N chain E.lines) (RecoversLeg g M N chain E.lines) (LastHasRoads g b M N chain E.lines) (RecoversLastLeg g M N chain E.lines)
          (λ i j f t h c. leg_to g M N m n a b enough chain E.lines s.known joined (From p) (To p) here i j f c.after t h)
          (λ i j f t c. leg_last g M N m n a b enough chain E.lines s.known joined (From p) (To p) here i j f c.after t c.upto)
          (path_at m is x.0 p roads),
    )
