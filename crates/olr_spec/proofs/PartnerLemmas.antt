-- The routes between the LRPs on another map.
use Rattle.olr_spec.proofs.Common.{inl, inr, None, true, has_line, List, subst, arith, IsTrue, IsMap, start, legs, Margin, refl, ◌↔◌}
use Rattle.olr_spec.proofs.Common.{◌≡◌, ℕ, ◌+◌, ◌≤◌, ◌<◌, [], ◌∷◌, sym, ap, Map, end, has, ◌-◌, length, length-append, Path, is_path}
use Rattle.olr_spec.proofs.Common.{stretch, last_kept, UniqueShortest, CountedRoute, none_twice, attrs_with, slice_index, path_fault}
use Rattle.olr_spec.proofs.Common.{first_kept, AnswerLaws, LawOf, AreJoined, dm_of, CandidateWith, RecoversTo, RecoversLast, cases_eq}
use Rattle.olr_spec.specs.Elsewhere.{HasNoOther, IsNearly, IsNearlyAlong, HasAlong, HasClasses, HasOurs, LegHasOurs, IsOurs, KeptLines, KeptLegs}
use Rattle.olr_spec.specs.Elsewhere.{RecoversLegs, suffices}
use Rattle.olr_spec.specs.Split.{chains, IsRoad, HasRoads, HasRoadsAlong, HasKeptRoads, LegHasRoads, LastHasRoads, PartHasRoads, Behind, RecoversRoads}
use Rattle.olr_spec.proofs.CountedLemmas.{counted_nil}
use Rattle.olr_spec.proofs.Facts.{has_here, Carries, kept_joins, unique_there, path_at, path_also, counted_last, covered_to, dm_of-append}
use Rattle.olr_spec.proofs.Facts.{empty_stretch, empty_unique, next_start}
use Rattle.olr_spec.proofs.QueryLemmas.{stretch_parts}
use Rattle.olr_spec.proofs.FitLemmas.{by_answer}
use Rattle.olr_spec.proofs.JoinedLemmas.{extended_joined}
use Rattle.olr_spec.proofs.ReceiverLemmas.{extended_once}
use Rattle.olr_spec.proofs.LegLemmas.{part_of, line_on, once_range, of_kept, Lines_of, From, To, Kept_of}
use Rattle.olr_spec.proofs.SplitLemmas.{recovered_on_roads}

module _ (g : Margin) (M N : Map) (n : IsMap N) (no_other : HasNoOther M N) (a b : ℕ) (enough : IsTrue (suffices g a b))
    (ls : List ℕ) (from to : ℕ) (nearly : IsNearlyAlong a b M N (stretch ls from to)) where
  nearly_part : (p q : ℕ) → from ≤ p → p ≤ q → q ≤ to → IsNearly a b M N (stretch ls p q)
  nearly_part p q f h t =
      let on = part_of (λ x. has (stretch ls from to) x ≡ true) ls from to p q f h t (λ x i. i) in
      grind (arith, on, nearly.known, nearly.own, nearly.all)

  pub carries_there : Carries g M N ls from to
  carries_there p k f lt t h c =
      let first = nearly.known (slice_index ls p) (line_on ls from to p f (omega arith) (omega arith)) in
      let last = nearly.known (slice_index ls k) (line_on ls from to k (omega arith) t h) in
      let route = unique_there g M N n no_other a b enough (stretch ls (p + 1) k) (nearly_part (p + 1) k (omega arith) (omega (arith, lt)) (omega arith))
      (end M (slice_index ls p)) (start M (slice_index ls k)) c in
      coe 0 1 (i. UniqueShortest N (sym (no_other.ends (slice_index ls p) first) i) (sym (no_other.starts (slice_index ls k) last) i) (stretch ls (p + 1) k)) route

pub routes_join_elsewhere : (g : Margin) → LawOf (λ (l : AnswerLaws g). l.routes_join_elsewhere)
routes_join_elsewhere g M N m n no_other a b enough ls js positive negative f nearly =
    let from = first_kept (legs M ls) positive js in
    let to = last_kept (legs M ls) negative js in
    kept_joins g M N (inr m) ls js positive negative (carries_there g M N n no_other a b enough ls from to nearly) f

-- ---- a map that splits no roads: there each line is a road

abbrev pub itself : ℕ → List ℕ
itself x = x ∷ []

pub chains_itself : (xs : List ℕ) → chains itself xs ≡ xs
chains_itself [] = refl
chains_itself (x ∷ xs) = ap (λ zs. x ∷ zs) (chains_itself xs)

pub road_of : (b : ℕ) (M N : Map) (c s most y : ℕ) → IsTrue (has_line N y) → IsOurs b M N y → IsRoad b M N itself c s most y
road_of b M N c s most y there o =
    record {
      known = o.known;
      route = (there, o.starts, o.ends);
      length = omega (arith, o.length);
      inner = λ before after u v is. absurd (omega (arith, ap (λ (zs : List ℕ). length zs) is, length-append before (u ∷ v ∷ after)));
    }

-- also where less is in reach
pub roads_of : (b : ℕ) (M N : Map) (c s most upto : ℕ) → most ≤ upto → HasOurs b M N c s upto → HasRoads b M N itself c s most
roads_of b M N c s most upto le ours y r =
    let o = ours y (record { known = r.known; class = r.class; way = r.way; route = r.route; within = r.within; near = omega (arith, r.near, le) }) in
    (y, road_of b M N c s most y r.known o, has_here y [])

module _ (g : Margin) (M N : Map) (m : IsMap M) (a b : ℕ) (ls : List ℕ) (joined : AreJoined M ls) (from to : ℕ)
    (along : HasAlong a M N (stretch ls from to)) where
  part_roads : (p q k t : ℕ) → from ≤ p → p < k → k ≤ q → q ≤ to → q ≤ length ls →
      CountedRoute g M (end M (slice_index ls p)) t (stretch ls (p + 1) k) → LegHasOurs g b M N ls p q → PartHasRoads g b M N itself ls p q k t
  part_roads p q k t f lt up below h counts ours =
      let c = (attrs_with g (legs M ls) p q).lfrc in
      let x = slice_index ls p in
      let most = dm_of N (chains itself (stretch ls (p + 1) k)) in
      let upto = dm_of N (stretch ls (p + 1) q) in
      let parts = ap (dm_of N) (stretch_parts ls (p + 1) k q (omega (arith, lt)) up) in
      let long : most ≤ upto = omega (arith, ap (dm_of N) (chains_itself (stretch ls (p + 1) k)), parts, dm_of-append N (stretch ls (p + 1) k) (stretch ls k q)) in
      Behind refl counts (subst (λ v. HasRoads b M N itself c v most)
      (along.ends x (line_on ls from to p f (omega (arith, lt, up, below)) (omega (arith, lt, up, h)))) (roads_of b M N c (end N x) most upto long ours))

  leg_roads : (p q : ℕ) → from ≤ p → q < to → q < length ls → CandidateWith g M ls p q → LegHasOurs g b M N ls p q → LegHasRoads g b M N itself ls p q
  leg_roads p q f t h c ours =
      let lt : p < q = c.after in
      let next : end M (slice_index ls (q - 1)) ≡ start M (slice_index ls q) =
      subst (λ k. end M (slice_index ls (q - 1)) ≡ start M (slice_index ls k)) (omega (arith, lt)) (next_start M _ _ ls (q - 1) joined (omega (arith, lt, h))) in
      part_roads p q q (end M (slice_index ls (q - 1))) f lt (omega arith) (omega arith) (omega arith)
      (subst (λ v. CountedRoute g M (end M (slice_index ls p)) v (stretch ls (p + 1) q)) (sym next) (covered_to g M ls p q q (omega arith) lt c.covered)) ours

  -- of one line, or up to the last one
  last_roads : (p q : ℕ) → from ≤ p → q ≤ to → CandidateWith g M ls p q → LegHasOurs g b M N ls p q → LastHasRoads g b M N itself ls p q
  last_roads p q f t c ours =
      let lt : p < q = c.after in
      let upto : q ≤ length ls = c.upto in
      let x = slice_index ls p in
      elim (cases_eq p (q - 1)) [
        | inl e ↦
            let bare = empty_stretch ls (p + 1) q (omega (arith, e)) in
            let here = subst (λ K. UniqueShortest K (end M x) (end M x) []) (sym (counted_nil g M)) (empty_unique M m (end M x)) in
            let there = subst (λ k. CountedRoute g M (end M x) (end M (slice_index ls k)) []) e here in
            inl (part_roads p q q (end M (slice_index ls (q - 1))) f lt (omega arith) t upto
            (subst (CountedRoute g M (end M x) (end M (slice_index ls (q - 1)))) (sym bare) there) ours)
        | inr ne ↦
            let on : q ≡ q - 1 + 1 = omega (arith, lt) in
            inr (
              refl,
              omega (arith, lt, ne),
              part_roads p q (q - 1) (start M (slice_index ls (q - 1))) f (omega (arith, lt, ne)) (omega arith) t upto
                  (counted_last g M (inr m) ls p (q - 1) (omega (arith, lt, ne)) (subst (CandidateWith g M ls p) on c)) ours,
            )
      ]

-- the lines of a path are roads, and so is what is in reach of each leg
module _ {g : Margin} {M N : Map} (m : IsMap M) (a b : ℕ) {P : Path} (is : IsTrue (is_path P.lines)) (none : path_fault M P ≡ None)
    (along : KeptLines g M P (HasAlong a M N)) where
  pub along_roads : KeptLines g M P (HasClasses g M N) → KeptLines g M P (HasRoadsAlong g a M N itself)
  along_roads classes =
      let on = along.holds in
      let within = path_at m is none along classes in
      let once = once_range (Lines_of along) (From along) (To along) (extended_once M P along.before along.after is along.tried) in
      path_also along (record {
        some = λ x i. omega arith;
        routes = λ x i. (on.known x i, on.starts x i, on.ends x i);
        own = λ x i. omega (arith, on.own x i);
        classes = λ x i. (within x i, tt);
        once = subst (λ zs. none_twice zs ≡ true) (sym (chains_itself (stretch (Lines_of along) (From along) (To along)))) once;
      })

  pub kept_roads : KeptLegs g M P (LegHasOurs g b M N) → HasKeptRoads g b M N itself P
  kept_roads ours =
      let ls = Lines_of along in
      let joined = extended_joined M P is none along.before along.after along.tried in
      path_also along (of_kept along (LegHasOurs g b M N ls) (LegHasRoads g b M N itself ls) (LegHasOurs g b M N ls) (LastHasRoads g b M N itself ls)
      (leg_roads g M N m a b ls joined (From along) (To along) along.holds) (last_roads g M N m a b ls joined (From along) (To along) along.holds)
      (path_at m is none along ours))

legs_of : (g : Margin) (M N : Map) (ls ks : List ℕ) → RecoversRoads g M N itself ls ks → RecoversLegs g M N ls ks
legs_of g M N ls [] h = tt
legs_of g M N ls (p ∷ []) h = tt
legs_of g M N ls (p ∷ q ∷ []) h =
    subst (λ zs. (w : List ℕ) → RecoversLast N (attrs_with g (legs M ls) p q).lfrc (slice_index ls p) (slice_index ls (q - 1)) w ↔ (w ≡ zs))
    (chains_itself (stretch ls p q)) h
legs_of g M N ls (p ∷ q ∷ r ∷ ks) h = (
  subst (λ zs. (w : List ℕ) → RecoversTo N (attrs_with g (legs M ls) p q).lfrc (slice_index ls p) (slice_index ls q) w ↔ (w ≡ zs))
      (chains_itself (stretch ls p q)) h.0,
  legs_of g M N ls (q ∷ r ∷ ks) h.1,
)

pub recovered_elsewhere : (g : Margin) → LawOf (λ (l : AnswerLaws g). l.recovered_elsewhere)
recovered_elsewhere g M N m n a b enough P is r e along classes ours =
    let none = (by_answer M P r e).0 in
    let roads = recovered_on_roads g M N m n a b enough itself P is r e (along_roads m a b is none along classes) (kept_roads m a b is none along ours) in
    path_also roads (roads.holds.0, legs_of g M N (Lines_of roads) (Kept_of roads) roads.holds.1)
