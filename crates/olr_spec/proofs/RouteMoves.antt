-- Unique shortest paths within a length are the same on two maps that agree around each node that a route within this
-- length reaches, or where no changed line offers a detour; and so where their own lines count longer.
use Rattle.olr_spec.proofs.Common.{list_any-append, UniqueShortest, counted_dm_of, CountedRoute, ChangedLine, AccountsFor, cond}
use Rattle.olr_spec.proofs.Common.{cases_Bool, append-nil, counted_dm, SameRound, has_line, Contains, cases_lt, List, SameLine}
use Rattle.olr_spec.proofs.Common.{SameWay, IsRoute, or_left, counted, Reaches, IsTrue, Detour, Margin, subst, arith, dm_of}
use Rattle.olr_spec.proofs.Common.{false, start, ◌++◌, refl, Bool, ◌&&◌, ◌==◌, true, Near, ◌≡◌, ◌+◌, ◌≤◌, ◌↔◌, ◌∷◌, sym, has}
use Rattle.olr_spec.proofs.Common.{Map, inl, inr, ◌∙◌, ◌⊎◌, ◌-◌, end, [], dm, ℕ, ChangeLaws, LawOf}
use Rattle.olr_spec.proofs.RouteLemmas.{IsRoute-append, dm_of-append}
use Rattle.olr_spec.proofs.CountedLemmas.{route_counted, counted_least, counted_known, counted_other, counted_start}
use Rattle.olr_spec.proofs.CountedLemmas.{counted_none, get_counted, counted_own, counted_end}
use Rattle.olr_spec.proofs.WayLemmas.{route_known}
use Rattle.olr_spec.proofs.ListLemmas.{Each-right, Each-tail, Each-left, has_there, Each-cons, Each-head, has_here, Each-nil}
use Rattle.olr_spec.proofs.ListLemmas.{Each}
use Rattle.olr_spec.proofs.AgreeLemmas.{turned_round, by_leaving, same_known, same_start, same_end, same_dm}

-- ---- lines with the same ends and lengths

pub same_way : (M N : Map) (x : ℕ) → SameLine M N x → SameWay M N x
same_way M N x e = grind (arith, same_known, same_start, same_end, same_dm)

pub same_ways : (M N : Map) (xs : List ℕ) → Each (SameLine M N) xs → Each (SameWay M N) xs
same_ways M N xs h x on = same_way M N x (h x on)

pub same_way_on : (L M N : Map) (x : ℕ) → SameWay L M x → SameWay M N x → SameWay L N x
same_way_on L M N x v w = grind arith

pub ways_dm_of : (M N : Map) (xs : List ℕ) → Each (SameWay M N) xs → dm_of M xs ≡ dm_of N xs
ways_dm_of M N [] h = refl
ways_dm_of M N (x ∷ xs) h =
    λ i. (Each-head (SameWay M N) x xs h).len i + ways_dm_of M N xs (Each-tail (SameWay M N) x xs h) i

pub IsRoute-moves : (M N : Map) (s t : ℕ) (xs : List ℕ) → Each (SameWay M N) xs → IsRoute M s t xs → IsRoute N s t xs
IsRoute-moves M N s t [] h w = w
IsRoute-moves M N s t (x ∷ xs) h w = grind (arith, h x (has_here x xs), IsRoute-moves M N (end M x) t xs (Each-tail (SameWay M N) x xs h))

-- ---- routes

-- the lines of the routes from s to t of at most d have the same ends and lengths on both maps
abbrev pub SameRoutes : Map → Map → ℕ → ℕ → ℕ → Type 0
SameRoutes M N s t d = (xs : List ℕ) → IsRoute M s t xs → dm_of M xs ≤ d → Each (SameWay M N) xs

pub route_moves : (M N : Map) (s t d : ℕ) → SameRoutes M N s t d → (xs : List ℕ) → IsRoute M s t xs × (dm_of M xs ≤ d) →
    IsRoute N s t xs × (dm_of N xs ≤ d)
route_moves M N s t d same xs w = grind (arith, IsRoute-moves, ways_dm_of)

unique_moves : (M N : Map) (s t d : ℕ) → SameRoutes M N s t d → SameRoutes N M s t d → (xs : List ℕ) → dm_of M xs ≤ d →
    UniqueShortest M s t xs → UniqueShortest N s t xs
unique_moves M N s t d there back xs h unique =
    let each = there xs unique.route h in
    let e = ways_dm_of M N xs each in
    record {
      route = IsRoute-moves M N s t xs each unique.route;
      others = λ ys w other.
          let same = back ys w in
          grind (arith, same, cases_lt, ways_dm_of N M ys, unique.others ys, IsRoute-moves N M s t ys);
    }

pub unique_same : (M N : Map) (s t d : ℕ) → SameRoutes M N s t d → SameRoutes N M s t d → (xs : List ℕ) →
    dm_of M xs ≡ dm_of N xs → dm_of M xs ≤ d → UniqueShortest M s t xs ↔ UniqueShortest N s t xs
unique_same M N s t d there back xs e h =
    (unique_moves M N s t d there back xs h, unique_moves N M s t d back there xs (omega arith))

module _ (M N : Map) (s limit : ℕ) (round : (v : ℕ) → Reaches M s limit v → SameRound M N v) where
  -- a route of K that continues from a node within reach, where K is one of both maps
  onward : (K : Map) → ((v x : ℕ) → SameRound M N v → IsTrue (has_line K x) → start K x ≡ v → SameLine M N x × SameLine K M x)
      → (v t : ℕ) (front xs : List ℕ) → IsRoute M s v front → IsRoute K v t xs → dm_of M front + dm_of K xs ≤ limit →
      Each (SameLine M N) xs
  onward K same v t front [] p w h = Each-nil (SameLine M N)
  onward K same v t front (x ∷ xs) p w h =
      grind (arith, same_known, same_start, Each-cons, IsRoute-append, same_end, same_dm, dm_of-append, (onward K same (end M x) t (front ++ x ∷ []) xs))

  pub within : (t : ℕ) → SameRoutes M N s t limit
  within t xs w h =
      same_ways M N xs (onward M (λ v x r k e. (by_leaving M N v x r k e, refl)) s t [] xs refl w (omega arith))

  other : (v x : ℕ) → SameRound M N v → IsTrue (has_line N x) → start N x ≡ v → SameLine M N x × SameLine N M x
  other v x r k e = let is = by_leaving N M v x (turned_round M N v r) k e in (sym is, is)

  pub within_other : (t : ℕ) → SameRoutes N M s t limit
  within_other t xs w h = same_ways N M xs (λ x i. sym (onward N other s t [] xs refl w (omega arith) x i))

  pub reach_same : (v : ℕ) → Reaches M s limit v ↔ Reaches N s limit v
  reach_same v = grind (arith, route_moves M N s v limit (within v), route_moves N M s v limit (within_other v))

abbrev pub detour_of : {M : Map} {C : List ChangedLine} {s t d : ℕ} (first last : ChangedLine) → Contains C first → Contains C
    last → (before after : List ℕ) → IsRoute M s first.from before → IsRoute M last.to t after →
    dm_of M before + first.len + dm_of M after ≤ d → Detour M C s t d
detour_of first last f l before after leads returns h = record {
  first = first;
  last = last;
  first_listed = f;
  last_listed = l;
  before = before;
  after = after;
  leads = leads;
  returns = returns;
  within = h;
}

-- a detour of both maps
abbrev Parts : Map → Map → List ChangedLine → ℕ → ℕ → ℕ → Type 0
Parts M N C s t d = (o : Detour M C s t d) × Each (SameWay M N) o.before × Each (SameWay M N) o.after

module _ (M N : Map) (C : List ChangedLine) (accounts : AccountsFor C M N) (t : ℕ) where
  -- the parts of a route before its first changed line and after its last one
  parts_of : (s d : ℕ) (xs : List ℕ) → IsRoute M s t xs → dm_of M xs ≤ d → Each (SameWay M N) xs ⊎ Parts M N C s t d
  parts_of s d [] w h = inl (Each-nil (SameWay M N))
  parts_of s d (x ∷ xs) w h =
      let rest : Each (SameWay M N) xs ⊎ Parts M N C (end M x) t (d - dm M x) =
      parts_of (end M x) (d - dm M x) xs w.2 (omega arith) in
      elim (accounts x w.0) [
        | inl is ↦ elim rest [
          | inl each ↦ inl (Each-cons (SameWay M N) x xs is each)
          | inr (o, b, a) ↦ inr (
            detour_of o.first o.last o.first_listed o.last_listed (x ∷ o.before) o.after (w.0, w.1, o.leads) o.returns
                (omega arith),
            Each-cons (SameWay M N) x o.before is b,
            a,
          )
        ]
        | inr c ↦ elim rest [
          | inl each ↦ inr (
            detour_of c.change c.change c.listed c.listed [] xs (sym w.1 ∙ sym c.from) (rw c.to w.2) (omega arith),
            Each-nil (SameWay M N),
            each,
          )
          | inr (o, b, a) ↦ inr (
            detour_of c.change o.last c.listed o.last_listed [] o.after (sym w.1 ∙ sym c.from) o.returns (omega arith),
            Each-nil (SameWay M N),
            a,
          )
        ]
      ]

-- if N has no detour within d
module _ (M N : Map) (C : List ChangedLine) (s t d : ℕ) (there : AccountsFor C M N) (here : AccountsFor C N M)
    (clear : ¬ Detour N C s t d) where
  pub same_there : SameRoutes M N s t d
  same_there xs w h =
      let parts = parts_of M N C there t s d xs w h in grind (arith, parts, IsRoute-moves, ways_dm_of)

  pub same_here : SameRoutes N M s t d
  same_here xs w h = elim (parts_of N M C here t s d xs w h) [ inl each ↦ each | inr p ↦ absurd (clear p.0) ]

  pub routes_same : (xs : List ℕ) → (IsRoute M s t xs × (dm_of M xs ≤ d)) ↔ (IsRoute N s t xs × (dm_of N xs ≤ d))
  routes_same xs = (route_moves M N s t d same_there xs, route_moves N M s t d same_here xs)

  pub clear_unique : (xs : List ℕ) → dm_of M xs ≡ dm_of N xs → dm_of M xs ≤ d →
      UniqueShortest M s t xs ↔ UniqueShortest N s t xs
  clear_unique = unique_same M N s t d same_there same_here

-- ---- near

near_moves : (M N : Map) (T : List ℕ) → ((v : ℕ) → has T v ≡ false → SameRound M N v) → (s w d : ℕ) (xs : List ℕ)
    → has T w ≡ true → IsRoute M s w xs → dm_of M xs ≤ d → Near N T s d
near_moves M N T round s w d [] on route h =
    record { node = s; route = []; touched = rw route on; leads = refl; within = omega arith }
near_moves M N T round s w d (x ∷ xs) on route h = elim (cases_Bool (has T s)) [
  | inl e ↦ record { node = s; route = []; touched = e; leads = refl; within = omega arith }
  | inr e ↦
      let is : SameLine M N x = by_leaving M N s x (round s e) route.0 route.1 in
      let n = near_moves M N T round (end M x) w (d - dm M x) xs on route.2 (omega arith) in
      let way = same_way M N x is in
      record { node = n.node; route = x ∷ n.route; touched = n.touched; leads = grind (arith, way, n.leads); within = omega (arith, way.len) }
]

pub near_same : LawOf (λ (l : ChangeLaws). l.near_stays)
near_same M N T round s d = (
  (λ m. near_moves M N T round s m.node d m.route m.touched m.leads m.within),
  (λ m. near_moves N M T (λ v e. turned_round M N v (round v e)) s m.node d m.route m.touched m.leads m.within),
)

-- ---- what lines count

-- what a line counts, by whether it is on the map, and its length
abbrev as_counted : Margin → List ℕ → ℕ → Bool → ℕ → ℕ
as_counted g xs x known len = cond (has xs x && known) (counted_dm g len) len

got_counted : (g : Margin) (M : Map) (xs : List ℕ) (x : ℕ) → dm (counted g M xs) x ≡ as_counted g xs x (has_line M x) (dm M x)
got_counted g M xs x = grind (arith, get_counted g M xs x, cases_Bool (g.routes == 0), counted_none)

counted_way_same : (g : Margin) (M N : Map) (xs : List ℕ) (x : ℕ) → SameWay M N x → SameWay (counted g M xs) (counted g N xs) x
counted_way_same g M N xs x e =
    grind (arith, counted_known g M xs x, counted_known g N xs x, counted_start g M xs x, counted_start g N xs x, counted_end g M xs x, counted_end g N xs x, got_counted)

pub counted_length_same : (g : Margin) (M N : Map) (xs : List ℕ) → Each (SameWay M N) xs → counted_dm_of g M xs ≡ counted_dm_of g N xs
counted_length_same g M N xs h =
    ways_dm_of (counted g M xs) (counted g N xs) xs (λ x on. counted_way_same g M N xs x (h x on))

pub counted_longer : (g : Margin) (M : Map) (xs ys : List ℕ) → Each (λ x. IsTrue (has_line M x)) ys → dm_of M ys ≤ dm_of (counted g M xs) ys
counted_longer g M xs [] known = omega arith
counted_longer g M xs (y ∷ ys) known =
    omega (arith, counted_least g M xs y (known y (has_here y ys)), counted_longer g M xs ys (λ x i. known x (has_there y ys x i)))

pub counted_routes : (g : Margin) (M N : Map) (xs : List ℕ) (s t d : ℕ) → SameRoutes M N s t d →
    SameRoutes (counted g M xs) (counted g N xs) s t d
counted_routes g M N xs s t d same ys w h =
    let here = route_counted g M xs s t ys w in
    let each = same ys here (omega (arith, h, counted_longer g M xs ys (route_known M s t ys here))) in
    λ x on. counted_way_same g M N xs x (each x on)

-- lines count at least as much where more of them are own ones
pub more_counts : (g : Margin) (M : Map) (xs rest ys : List ℕ) → Each (λ x. IsTrue (has_line M x)) ys →
    dm_of (counted g M xs) ys ≤ dm_of (counted g M (xs ++ rest)) ys
more_counts g M xs rest [] known = omega arith
more_counts g M xs rest (y ∷ ys) known =
    let more = more_counts g M xs rest ys (Each-tail (λ x. IsTrue (has_line M x)) y ys known) in
    grind (arith, more, known y (has_here y ys), cases_Bool (has xs y), list_any-append (λ z. z == y) xs rest, counted_own, counted_other, counted_least, or_left)

-- a front counts less by at least the length of the rest
pub front_counts : (g : Margin) (M : Map) (xs rest : List ℕ) → Each (λ x. IsTrue (has_line M x)) xs →
    Each (λ x. IsTrue (has_line M x)) rest → counted_dm_of g M xs + dm_of M rest ≤ counted_dm_of g M (xs ++ rest)
front_counts g M xs rest here there =
    omega (arith, more_counts g M xs rest xs here, counted_longer g M (xs ++ rest) rest there, dm_of-append (counted g M (xs ++ rest)) xs rest)

-- where no detour is as short as what a route counts, its part up to a node counts as the unique shortest path on both
-- maps or on neither
pub clear_front : (g : Margin) (M N : Map) (C : List ChangedLine) → AccountsFor C M N → AccountsFor C N M → (s v t : ℕ)
    (xs ys : List ℕ) → IsRoute M s v xs → IsRoute M v t ys → ¬ Detour N C s t (counted_dm_of g M (xs ++ ys)) →
    CountedRoute g M s v xs ↔ CountedRoute g N s v xs
clear_front g M N C there here s v t xs ys w u clear =
    let whole = IsRoute-append M s v t xs ys w u in
    let same = same_there M N C s t (counted_dm_of g M (xs ++ ys)) there here clear (xs ++ ys) whole
    (counted_longer g M (xs ++ ys) (xs ++ ys) (route_known M s t (xs ++ ys) whole)) in
    let rest = Each-right (SameWay M N) xs ys same in
    let d = counted_dm_of g M xs in
    let short = front_counts g M xs ys (route_known M s v xs w) (route_known M v t ys u) in
    let clear_part : ¬ Detour N C s v d = λ o. clear (detour_of o.first o.last o.first_listed o.last_listed o.before
    (o.after ++ ys) o.leads (IsRoute-append N o.last.to v t o.after ys o.returns (IsRoute-moves M N v t ys rest u))
    (omega (arith, o.within, short, dm_of-append N o.after ys, ways_dm_of M N ys rest))) in
    unique_same (counted g M xs) (counted g N xs) s v d
    (counted_routes g M N xs s v d (same_there M N C s v d there here clear_part))
    (counted_routes g N M xs s v d (same_here M N C s v d there here clear_part)) xs
    (counted_length_same g M N xs (Each-left (SameWay M N) xs ys same)) (omega arith)

pub clear_whole : (g : Margin) (M N : Map) (C : List ChangedLine) → AccountsFor C M N → AccountsFor C N M → (s t : ℕ)
    (xs : List ℕ) → IsRoute M s t xs → ¬ Detour N C s t (counted_dm_of g M xs) → CountedRoute g M s t xs ↔ CountedRoute g N s t xs
clear_whole g M N C there here s t xs w clear =
    clear_front g M N C there here s t t xs [] w refl
    (subst (λ (zs : List ℕ). ¬ Detour N C s t (counted_dm_of g M zs)) (sym (append-nil xs)) clear)
