-- The map as it counts for some lines, and one line more; and a search on it.
use Rattle.olr_refs.proofs.Common.{◌≡◌, ◌==◌, ◌<◌, ◌≤◌, ◌+◌, ℕ, true, List, [], ◌∷◌, ◌++◌, sym, ap, ◌∙◌, subst, refl, arith}
use Rattle.olr_refs.proofs.Common.{inl, inr, cases_lt, IsTrue, Map, start, end, dm, has, has_line, has_node, has_here, IsRoute}
use Rattle.olr_refs.proofs.Common.{UniqueShortest, dm_of, dm_of-append, Each, route_known, list_any-append, or_left, or_right}
use Rattle.olr_refs.proofs.Common.{Along, Dijkstra, IsSearch, limit_of}
use Rattle.olr_refs.proofs.Common.{Each-tail, has_cases, dec_same, label_of, Margin, counted, counted_dm}
use Rattle.olr_refs.proofs.Common.{counted_dm_of, CountedRoute, counted_own, counted_route, route_counted}
use Rattle.olr_spec.proofs.RouteMoves.{more_counts}
use Rattle.olr_search.proofs.UniqueLemmas.{label_way, way_le}
use Rattle.olr_search.specs.declared.frontier.TheConstants.{GREATEST_LIMIT}

-- ---- one line more

module _ (g : Margin) (M : Map) (xs rest : List ℕ) where
  still : (y : ℕ) → has xs y ≡ true → has (xs ++ rest) y ≡ true
  still y on = list_any-append (λ z. z == y) xs rest ∙ or_left (has xs y) (has rest y) on

  -- the lines count as much
  pub own_same : (ys : List ℕ) → Each (λ y. IsTrue (has_line M y)) ys → Each (λ y. has xs y ≡ true) ys →
      dm_of (counted g M (xs ++ rest)) ys ≡ dm_of (counted g M xs) ys
  own_same [] known own = refl
  own_same (y ∷ ys) known own =
      let same = own_same ys (Each-tail (λ z. IsTrue (has_line M z)) y ys known) (Each-tail (λ z. has xs z ≡ true) y ys own) in
      grind (arith, same, known y (has_here y ys), own y (has_here y ys), still y, counted_own)

  pub unique_more : (s t : ℕ) → CountedRoute g M s t xs → UniqueShortest (counted g M (xs ++ rest)) s t xs
  unique_more s t u =
      let here = route_counted g M xs s t xs u.route in
      record {
        route = counted_route g M (xs ++ rest) s t xs here;
        others = λ ys w ne.
            let there = route_counted g M (xs ++ rest) s t ys w in
            omega (
              arith,
              u.others ys (counted_route g M xs s t ys there) ne,
              own_same xs (route_known M s t xs here) (λ y on. on),
              more_counts g M xs rest ys (route_known M s t ys there),
            );
      }

pub line_counts : (g : Margin) (M : Map) (xs : List ℕ) (x : ℕ) → IsTrue (has_line M x) →
    dm (counted g M (xs ++ x ∷ [])) x ≡ counted_dm g (dm M x)
line_counts g M xs x known = counted_own g M (xs ++ x ∷ []) x known
    (list_any-append (λ z. z == x) xs (x ∷ []) ∙ or_right (has xs x) (has (x ∷ []) x) (has_here x []))

pub sum_counts : (g : Margin) (M : Map) (xs : List ℕ) (x : ℕ) → Each (λ y. IsTrue (has_line M y)) xs →
    IsTrue (has_line M x) → counted_dm_of g M (xs ++ x ∷ []) ≡ counted_dm_of g M xs + counted_dm g (dm M x)
sum_counts g M xs x each known = omega (
  arith,
  dm_of-append (counted g M (xs ++ x ∷ [])) xs (x ∷ []),
  own_same g M xs (x ∷ []) xs each (λ y on. on),
  line_counts g M xs x known,
)

-- ---- what a search on it settles

-- a line of a route begins after another route, which is shorter by this line at least
begins_within : (K : Map) (s t : ℕ) (xs : List ℕ) → IsRoute K s t xs → (x : ℕ) → has xs x ≡ true →
    (zs : List ℕ) × IsRoute K s (start K x) zs × IsTrue (has_line K x) × (dm_of K zs + dm K x ≤ dm_of K xs)
begins_within K s t [] w x on = absurd cc
begins_within K s t (y ∷ ys) w x on = elim (has_cases y ys x on) [
  | inl e ↦
      subst (λ z. (zs : List ℕ) × IsRoute K s (start K z) zs × IsTrue (has_line K z) × (dm_of K zs + dm K z ≤ dm_of K (y ∷ ys))) e
      ([], sym w.1, w.0, omega arith)
  | inr there ↦
      let r = begins_within K (end K y) t ys w.2 x there in (y ∷ r.0, (w.0, w.1, r.1), r.2, omega (arith, r.3))
]

-- a search that is begun one step later, and settled as far as a unique shortest path is long
module _ (K : Map) (slot : ℕ → ℕ) (s v : ℕ) (xs : List ℕ) (q : Dijkstra) (h : IsSearch K slot Along ((s, 1) ∷ []) q)
    (unique : UniqueShortest K s v xs) (settled : limit_of q ≡ dm_of K xs) where
  -- where this ends isn't settled
  pub end_ahead : IsTrue (has_node K v) → limit_of q < label_of q.frontier (slot v)
  end_ahead known = elim (cases_lt GREATEST_LIMIT (label_of q.frontier (slot v))) [
    | inl gt ↦ omega (arith, h.small)
    | inr le ↦
        let own = label_way K slot s 1 q h v known le in
        elim (dec_same own.0 xs) [
          | yes same ↦ omega (arith, own.2, ap (dm_of K) same)
          | no ne ↦ omega (arith, own.2, unique.others own.0 own.1 ne)
        ]
  ]

  -- where its lines begin is
  pub starts_settled : (x : ℕ) → has xs x ≡ true → label_of q.frontier (slot (start K x)) ≤ limit_of q
  starts_settled x on =
      let sound = h.under_way.labelled.sound in
      let p = begins_within K s v xs unique.route x on in
      let some = sound.long x p.2 in
      omega (arith, p.3, way_le K slot s 1 q h (start K x) p.0 (sound.starts x p.2) p.1 (omega (arith, p.3)))
