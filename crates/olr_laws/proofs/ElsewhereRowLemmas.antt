-- The worked rows on other maps: one with lines that ours lacks, and one on which a road is split.
use Rattle.olr_spec.proofs.Common.{◌≡◌, ◌≢◌, ℕ, ◌+◌, ◌*◌, ◌-◌, ◌<◌, ◌≤◌, List, [], ◌∷◌, ◌++◌, refl, sym, ap, ◌∙◌, IsTrue, arith}
use Rattle.olr_spec.proofs.Common.{◌==◌, ◌||◌, not, Map, IsMap, Line, has_line, line_at, start, end, dm, dm_of, IsRoute, UniqueShortest}
use Rattle.olr_spec.proofs.Common.{or_cases, inl, inr, ◌⊎◌, ◌↔◌, eqb-true, eq-eqb, not-true, nat_le, leb-true, length, length-append}
use Rattle.olr_spec.proofs.Common.{Leg, subst, has, Within, RecoversTo, true, false, le-leb, and_parts, ◌&&◌}
use Rattle.std.specs.Prelude.{if◌then◌else◌}
use Rattle.olr_spec.proofs.Facts.{has_here, has_cases}
use Rattle.olr_spec.proofs.RouteLemmas.{positive}
use Rattle.olr_spec.proofs.CountedLemmas.{counted_own, counted_other, counted_least, counted_route, route_counted}
use Rattle.olr_spec.proofs.ElsewhereLemmas.{OnlyShortest}
use Rattle.olr_spec.proofs.PartnerLemmas.{itself, road_of, roads_of}
use Rattle.olr_spec.proofs.SplitLemmas.{only_roads}
use Rattle.olr_spec.proofs.ReceiverLemmas.{recovers_only}
use Rattle.olr_spec.specs.Margins.{counted, counted_dm}
use Rattle.olr_spec.specs.Elsewhere.{HasOurs, InReach, IsOurs, HasNoOther}
use Rattle.olr_spec.specs.Split.{chains, HasRoads, IsInner, IsNode}
use Rattle.olr_spec.specs.Split as split
use Rattle.olr_laws.specs.Rows.{fifty, row_nodes, roads, roads_records, roads_path, theirs, theirs_records, split_roads, split_records}
use Rattle.olr_laws.specs.Rows.{split_chain}
use Rattle.olr_laws.proofs.MapLemmas.{sound, has_line_is, line_at_is, line_in, leg_in, each_line, long, road, IsRoad}

-- ---- on our map, where line 20 counts 1,050 dm and line 21 has 1,060

abbrev Ours : Map
Ours = roads 1000 1060

abbrev K : Map
K = counted fifty Ours (20 ∷ [])

ours_sound : IsMap Ours
ours_sound = sound row_nodes (roads_records 1000 1060) tt tt refl refl

our_20 : IsRoad Ours 20 (leg_in row_nodes (roads_records 1000 1060) 20) 2 3
our_20 = road row_nodes (roads_records 1000 1060) tt tt 20 2 3 (refl, refl, refl)

our_21 : IsRoad Ours 21 (leg_in row_nodes (roads_records 1000 1060) 21) 2 3
our_21 = road row_nodes (roads_records 1000 1060) tt tt 21 2 3 (refl, refl, refl)

-- the lines that leave node 2
from_2 : (y : ℕ) → IsTrue (has_line Ours y) → start Ours y ≡ 2 → (y ≡ 20) ⊎ (y ≡ 21)
from_2 y h from =
    let all = each_line row_nodes (roads_records 1000 1060) tt tt
    (λ y. not ((line_in (roads_records 1000 1060) y).from == 2) || (y == 20 || y == 21)) refl y h in
    grind (arith, or_cases, eqb-true, eq-eqb, not-true, line_at_is row_nodes (roads_records 1000 1060) tt tt y)

own_counts : dm K 20 ≡ 1050
own_counts = counted_own fifty Ours (20 ∷ []) 20 our_20.known refl ∙ ap (counted_dm fifty) (long our_20)

other_counts : dm K 21 ≡ 1060
other_counts = counted_other fifty Ours (20 ∷ []) 21 refl ∙ long our_21

others_longer : (ys : List ℕ) → IsRoute Ours 2 3 ys → ys ≢ 20 ∷ [] → dm_of K (20 ∷ []) < dm_of K ys
others_longer [] w ne = absurd (omega (arith, w))
others_longer (y ∷ []) w ne = elim (from_2 y w.0 w.1) [
  | inl e ↦ absurd (ne (ap (λ z. z ∷ []) e))
  | inr e ↦ omega (arith, own_counts, other_counts, ap (dm K) e)
]
others_longer (y ∷ z ∷ zs) w ne =
    let more = counted_least fifty Ours (20 ∷ []) z w.2.0 in
    let some = positive Ours ours_sound z w.2.0 in
    elim (from_2 y w.0 w.1) [
      | inl e ↦ omega (arith, own_counts, ap (dm K) e, more, some)
      | inr e ↦ omega (arith, own_counts, other_counts, ap (dm K) e)
    ]

ours_unique : UniqueShortest K 2 3 (20 ∷ [])
ours_unique =
    record {
      route = counted_route fifty Ours (20 ∷ []) 2 3 (20 ∷ []) (our_20.known, our_20.from, our_20.to);
      others = λ ys w ne. others_longer ys (route_counted fifty Ours (20 ∷ []) 2 3 ys w) ne;
    }

-- on a map where line 20 is a road within the margin, that is the way
only_20 : (N : Map) → IsMap N → (chain : ℕ → List ℕ) (most : ℕ) → split.IsRoad 24 Ours N chain 4 2 most 20 →
    1000 * dm_of N (chain 20) ≤ (1000 + 24) * dm Ours 20 → Within N 4 (chains chain (20 ∷ [])) → dm_of N (chains chain (20 ∷ [])) ≤ most →
    HasRoads 24 Ours N chain 4 2 most → OnlyShortest N 4 2 3 (chains chain (20 ∷ []))
only_20 N n chain most road own within le roads =
    let is : (x : ℕ) → IsTrue (has (20 ∷ []) x) → 20 ≡ x = λ x i. elim (has_cases 20 [] x i) [ inl e ↦ e | inr no_more ↦ absurd cc ] in
    only_roads fifty Ours N n 24 24 refl chain (20 ∷ []) (λ x i. subst (λ k. IsRoute N (start Ours k) (end Ours k) (chain k)) (is x i) road.route)
    (λ x i. subst (λ k. 1000 * dm_of N (chain k) ≤ (1000 + 24) * dm Ours k) (is x i) own)
    4 2 3 most within le roads (20, our_20.known, inl our_20.from) (20, our_20.known, inr our_20.to) ours_unique

-- ---- what is in reach

-- if no line within the class leads from a node to one that is farther by more than its length
far : (N : Map) (c : ℕ) (d : ℕ → ℕ) → ((y : ℕ) → IsTrue (has_line N y) → (line_at N y).frc ≤ c → d (end N y) ≤ d (start N y) + dm N y) →
    (s t : ℕ) (ys : List ℕ) → IsRoute N s t ys → Within N c ys → d t ≤ d s + dm_of N ys
far N c d h s t [] w i = omega (arith, ap d w)
far N c d h s t (y ∷ ys) w i =
    let rest = far N c d h (end N y) t ys w.2 i.1 in
    omega (arith, rest, h y w.0 i.0, ap d w.1)

-- ---- a map with lines that ours lacks

-- how far the nodes are from node 2 there, or less
abbrev near : ℕ → ℕ
near v = if v == 2 then 0 else if v == 3 then 1024 else if v == 4 then 1124 else 2000

theirs_sound : IsMap theirs
theirs_sound = sound row_nodes theirs_records tt tt refl refl

theirs_far : (y : ℕ) → IsTrue (has_line theirs y) → (line_at theirs y).frc ≤ 4 → near (end theirs y) ≤ near (start theirs y) + dm theirs y
theirs_far y h le =
    let all = each_line row_nodes theirs_records tt tt
    (λ y. not (nat_le (line_in theirs_records y).frc 4) || nat_le (near (line_in theirs_records y).to) (near (line_in theirs_records y).from + (line_in theirs_records y).len)) refl y h in
    grind (arith, or_cases, not-true, leb-true, le-leb, line_at_is row_nodes theirs_records tt tt y)

-- lines 20, 21 and 30 are in reach, and no others
theirs_reach : (y : ℕ) → InReach theirs 4 2 1124 y → (y ≡ 20) ⊎ ((y ≡ 21) ⊎ (y ≡ 30))
theirs_reach y r =
    let here = far theirs 4 near theirs_far 2 (start theirs y) r.way r.route r.within in
    let all = each_line row_nodes theirs_records tt tt
    (λ y. not (nat_le (line_in theirs_records y).frc 4) || (nat_le 1124 (near (line_in theirs_records y).from) || (y == 20 || (y == 21 || y == 30)))) refl y r.known in
    let class = r.class in
    let close = r.near in
    grind (arith, or_cases, not-true, leb-true, le-leb, eqb-true, line_at_is row_nodes theirs_records tt tt y)

same_line : (x v w c d : ℕ) {g h : Leg} → IsRoad Ours x g v w → IsRoad theirs x h v w → dm Ours x ≡ c → dm theirs x ≡ d →
    (1000 - 24) * c ≤ 1000 * d → IsOurs 24 Ours theirs x
same_line x v w c d o t here there le =
    record { known = o.known; starts = t.from ∙ sym o.from; ends = t.to ∙ sym o.to; length = omega (arith, here, there, le) }

their_20 : IsRoad theirs 20 (leg_in row_nodes theirs_records 20) 2 3
their_20 = road row_nodes theirs_records tt tt 20 2 3 (refl, refl, refl)

their_30 : IsRoad theirs 30 (leg_in row_nodes theirs_records 30) 3 4
their_30 = road row_nodes theirs_records tt tt 30 3 4 (refl, refl, refl)

theirs_20 : IsOurs 24 Ours theirs 20
theirs_20 = same_line 20 2 3 1000 1024 our_20 their_20 (long our_20) (long their_20) (omega arith)

theirs_21 : IsOurs 24 Ours theirs 21
theirs_21 =
    let t = road row_nodes theirs_records tt tt 21 2 3 (refl, refl, refl) in
    same_line 21 2 3 1060 1035 our_21 t (long our_21) (long t) (omega arith)

theirs_30 : IsOurs 24 Ours theirs 30
theirs_30 =
    let o = road row_nodes (roads_records 1000 1060) tt tt 30 3 4 (refl, refl, refl) in
    same_line 30 3 4 100 100 o their_30 (long o) (long their_30) (omega arith)

pub theirs_are_ours : HasOurs 24 Ours theirs 4 2 1124
theirs_are_ours y r = elim (theirs_reach y r) [
  | inl e ↦ subst (IsOurs 24 Ours theirs) (sym e) theirs_20
  | inr others ↦ elim others [
    | inl e ↦ subst (IsOurs 24 Ours theirs) (sym e) theirs_21
    | inr e ↦ subst (IsOurs 24 Ours theirs) (sym e) theirs_30
  ]
]

-- but not all lines of that map are
pub theirs_has_others : ¬ HasNoOther Ours theirs
theirs_has_others h =
    let l = road row_nodes theirs_records tt tt 40 5 6 (refl, refl, refl) in
    let on = h.known 40 l.known in
    let off : has_line Ours 40 ≡ false = has_line_is row_nodes (roads_records 1000 1060) tt tt 40 in
    absurd (grind (arith, on, off))

pub recovered_there : (w : List ℕ) → RecoversTo theirs 4 10 30 w ↔ (w ≡ 10 ∷ 20 ∷ [])
recovered_there =
    let l10 = road row_nodes theirs_records tt tt 10 1 2 (refl, refl, refl) in
    let here : dm Ours 20 ≡ 1000 = long our_20 in
    let there : dm theirs 20 ≡ 1024 = long their_20 in
    let class : (line_at theirs 20).frc ≤ 4 = omega (arith, ap (λ (l : Line). l.frc) (line_at_is row_nodes theirs_records tt tt 20)) in
    let roads = roads_of 24 Ours theirs 4 2 1124 1124 (omega arith) theirs_are_ours in
    let road = road_of 24 Ours theirs 4 2 1124 20 their_20.known theirs_20 in
    let only = only_20 theirs theirs_sound itself 1124 road (omega (arith, here, there)) (class, tt) (omega (arith, there)) roads in
    recovers_only theirs 4 10 30 (20 ∷ []) (coe 0 1 (i. OnlyShortest theirs 4 (sym l10.to i) (sym their_30.from i) (20 ∷ [])) only)

-- ---- a map on which line 20 is split

split_sound : IsMap split_roads
split_sound = sound row_nodes split_records tt tt refl refl

abbrev near_split : ℕ → ℕ
near_split v = if v == 2 then 0 else if v == 5 then 512 else if v == 3 then 1024 else if v == 4 then 1124 else 2000

split_far : (y : ℕ) → IsTrue (has_line split_roads y) → (line_at split_roads y).frc ≤ 4 →
    near_split (end split_roads y) ≤ near_split (start split_roads y) + dm split_roads y
split_far y h le =
    let all = each_line row_nodes split_records tt tt
    (λ y. nat_le (near_split (line_in split_records y).to) (near_split (line_in split_records y).from + (line_in split_records y).len)) refl y h in
    grind (arith, leb-true, line_at_is row_nodes split_records tt tt y)

split_reach : (y : ℕ) → InReach split_roads 4 2 1024 y → (y ≡ 21) ⊎ ((y ≡ 201) ⊎ (y ≡ 202))
split_reach y r =
    let here = far split_roads 4 near_split split_far 2 (start split_roads y) r.way r.route r.within in
    let all = each_line row_nodes split_records tt tt
    (λ y. nat_le 1024 (near_split (line_in split_records y).from) || (y == 21 || (y == 201 || y == 202))) refl y r.known in
    let close = r.near in
    grind (arith, or_cases, leb-true, le-leb, eqb-true, line_at_is row_nodes split_records tt tt y)

-- what leaves node 5
from_5 : (y : ℕ) → IsTrue (has_line split_roads y) → start split_roads y ≡ 5 → y ≡ 202
from_5 y h from =
    let all = each_line row_nodes split_records tt tt (λ y. not ((line_in split_records y).from == 5) || y == 202) refl y h in
    grind (arith, or_cases, eqb-true, eq-eqb, not-true, line_at_is row_nodes split_records tt tt y)

-- no line of ours begins or ends there
new_node : ¬ IsNode Ours 5
new_node n =
    let all = each_line row_nodes (roads_records 1000 1060) tt tt
    (λ y. not ((line_in (roads_records 1000 1060) y).from == 5) && not ((line_in (roads_records 1000 1060) y).to == 5)) refl n.0 n.1 in
    absurd (grind (arith, and_parts, not-true, eq-eqb, n.2, line_at_is row_nodes (roads_records 1000 1060) tt tt n.0))

-- the two lines of a road of two
pair_of : (a b : ℕ) (before after : List ℕ) (y z : ℕ) → a ∷ b ∷ [] ≡ before ++ y ∷ z ∷ after → (a ≡ y) × (b ≡ z)
pair_of a b [] after y z e = (cc, cc)
pair_of a b (u ∷ []) after y z e = absurd (omega (arith, ap (λ (zs : List ℕ). length zs) e))
pair_of a b (u ∷ v ∷ us) after y z e = absurd (omega (arith, ap (λ (zs : List ℕ). length zs) e, length-append us (y ∷ z ∷ after)))

split_201 : IsRoad split_roads 201 (leg_in row_nodes split_records 201) 2 5
split_201 = road row_nodes split_records tt tt 201 2 5 (refl, refl, refl)

split_202 : IsRoad split_roads 202 (leg_in row_nodes split_records 202) 5 3
split_202 = road row_nodes split_records tt tt 202 5 3 (refl, refl, refl)

split_20 : split.IsRoad 24 Ours split_roads split_chain 4 2 1024 20
split_20 =
    let here : dm Ours 20 ≡ 1000 = long our_20 in
    let first : dm split_roads 201 ≡ 512 = long split_201 in
    let second : dm split_roads 202 ≡ 512 = long split_202 in
    record {
      known = our_20.known;
      route = (split_201.known, split_201.from ∙ sym our_20.from, (split_202.known, split_202.from ∙ sym split_201.to, split_202.to ∙ sym our_20.to));
      length = omega (arith, here, first, second);
      inner = λ before after y z e.
          let p = pair_of 201 202 before after y z e in
          subst (λ k. IsInner Ours split_roads 4 2 1024 k z) p.0
          (subst (IsInner Ours split_roads 4 2 1024 201) p.1 (record {
            new = λ n. new_node (subst (IsNode Ours) split_201.to n);
            onward = λ w r from. inl (from_5 w r.known (from ∙ split_201.to));
          }));
    }

split_21 : split.IsRoad 24 Ours split_roads split_chain 4 2 1024 21
split_21 =
    let t = road row_nodes split_records tt tt 21 2 3 (refl, refl, refl) in
    let here : dm Ours 21 ≡ 1060 = long our_21 in
    let there : dm split_roads 21 ≡ 1035 = long t in
    record {
      known = our_21.known;
      route = (t.known, t.from ∙ sym our_21.from, t.to ∙ sym our_21.to);
      length = omega (arith, here, there);
      inner = λ before after y z e. absurd (omega (arith, ap (λ (zs : List ℕ). length zs) e, length-append before (y ∷ z ∷ after)));
    }

pub split_has_roads : HasRoads 24 Ours split_roads split_chain 4 2 1024
split_has_roads y r = elim (split_reach y r) [
  | inl e ↦ (21, split_21, subst (λ k. IsTrue (has (split_chain 21) k)) (sym e) refl)
  | inr others ↦ elim others [
    | inl e ↦ (20, split_20, subst (λ k. IsTrue (has (split_chain 20) k)) (sym e) refl)
    | inr e ↦ (20, split_20, subst (λ k. IsTrue (has (split_chain 20) k)) (sym e) refl)
  ]
]

pub recovered_roads : (w : List ℕ) → RecoversTo split_roads 4 10 30 w ↔ (w ≡ 10 ∷ 201 ∷ 202 ∷ [])
recovered_roads =
    let l10 = road row_nodes split_records tt tt 10 1 2 (refl, refl, refl) in
    let l30 = road row_nodes split_records tt tt 30 3 4 (refl, refl, refl) in
    let here : dm Ours 20 ≡ 1000 = long our_20 in
    let first : dm split_roads 201 ≡ 512 = long split_201 in
    let second : dm split_roads 202 ≡ 512 = long split_202 in
    let class : (y : ℕ) → (line_in split_records y).frc ≡ 3 → (line_at split_roads y).frc ≤ 4 = λ y e.
    omega (arith, e, ap (λ (l : Line). l.frc) (line_at_is row_nodes split_records tt tt y)) in
    let only = only_20 split_roads split_sound split_chain 1024 split_20 (omega (arith, here, first, second)) (class 201 refl, (class 202 refl, tt))
    (omega (arith, first, second)) split_has_roads in
    recovers_only split_roads 4 10 30 (201 ∷ 202 ∷ []) (coe 0 1 (i. OnlyShortest split_roads 4 (sym l10.to i) (sym l30.from i) (201 ∷ 202 ∷ [])) only)
