-- What coverage queries reach, and the footprint.
use Rattle.olr_refs.proofs.Common.{ap, get_or, sym, take, take_more, ◌<◌, ◌∙◌}
use Rattle.olr_refs.proofs.Common.{append_assoc, ◌≡◌, ◌≤◌, ◌+◌, ℕ, List, [], ◌∷◌, ◌++◌, length, Contains, arith, inl, inr}
use Rattle.olr_refs.proofs.Common.{subst, ◌⊎◌, IsTrue, ◌↔◌, AllZip}
use Rattle.olr_refs.proofs.Common.{Contains-append_left, Map, has_node, IsMap, dm_of, Path, is_path, NextWith, last_position}
use Rattle.olr_refs.proofs.Common.{Sees, FootWith, CoverageQuery, QueriesOfWith, Contains-here, Contains-cases, Along}
use Rattle.olr_refs.proofs.Common.{Dijkstra, IsSearch, LiesWithin, limit_of, SeenBy}
use Rattle.olr_refs.proofs.Common.{foot_queried_with, Contains-append_right, Contains-append_cases, NoNextWith}
use Rattle.olr_refs.proofs.Common.{FollowWith, TraversedOf, Contains-one, append-nil, Margin}
use Rattle.olr_search.proofs.SearchLemmas.{near_leads}

-- ---- what a search settles

-- a search for a query settles what the query reaches
pub search_sees : (M : Map) (place : ℕ → ℕ) (l : CoverageQuery) (q : Dijkstra) →
    IsSearch M place Along ((l.from, 0) ∷ []) q → IsTrue (has_node M l.from) → limit_of q ≡ l.within → (v : ℕ) →
    LiesWithin M Along ((l.from, 0) ∷ []) (limit_of q) v ↔ Sees M l v
search_sees M place l q h there far v = (
  λ n. grind (arith, Contains-one),
  λ r. near_leads M place Along ((l.from, 0) ∷ []) q h v (dm_of M r.0) (grind arith) record {
    source = l.from;
    begun = 0;
    lines = r.0;
    listed = Contains-here (l.from, 0) [];
    there = there;
    way = r.1;
    long = omega arith;
  },
)

-- ---- what the queries reach

pub seen_one : (M : Map) (l : CoverageQuery) (v : ℕ) → Sees M l v ↔ SeenBy M (l ∷ []) v
seen_one M l v = grind (arith, Contains-here, Contains-cases)

pub seen_append : (M : Map) (ks ls : List CoverageQuery) (v : ℕ) → SeenBy M (ks ++ ls) v ↔ (SeenBy M ks v ⊎ SeenBy M ls v)
seen_append M ks ls v = (
  λ w. elim (Contains-append_cases ks ls w.0 w.1) [ inl there ↦ inl (w.0, there, w.2) | inr there ↦ inr (w.0, there, w.2) ],
  λ s. grind (arith, Contains-append_left, Contains-append_right),
)

-- those up to the one at index i
pub seen_more : (M : Map) (ks : List CoverageQuery) (i : ℕ) (l : CoverageQuery) → i < length ks → l ≡ get_or ks i l → (v : ℕ) →
    SeenBy M (take (i + 1) ks) v ↔ (SeenBy M (take i ks) v ⊎ Sees M l v)
seen_more M ks i l lt is v =
    let e : take (i + 1) ks ≡ take i ks ++ l ∷ [] = take_more ks i l lt ∙ ap (λ k. take i ks ++ k ∷ []) (sym is) in
    let one = seen_one M l v in
    let both = seen_append M (take i ks) (l ∷ []) v in
    subst (λ ls. SeenBy M ls v ↔ (SeenBy M (take i ks) v ⊎ Sees M l v)) (sym e) (
      λ s. elim (both.0 s) [ inl old ↦ inl old | inr new ↦ inr (one.1 new) ],
      λ w. both.1 (elim w [ inl old ↦ inl old | inr new ↦ inr (one.0 new) ]),
    )

-- ---- what is noted

pub noted_then : (F G N P : Type 0) → (G ↔ (F ⊎ N)) → (N → P) → (P → N) → G ↔ (F ⊎ P)
noted_then F G N P n to back = grind arith

pub noted_more : (F G H P Q R : Type 0) → (G ↔ (F ⊎ P)) → (H ↔ (G ⊎ Q)) → (R ↔ (P ⊎ Q)) → H ↔ (F ⊎ R)
noted_more F G H P Q R n m both = grind arith

pub zip_append : {X Y : Type 0} (R : X → Y → Type 0) (ws xs : List X) (bs ys : List Y) → AllZip R ws bs → AllZip R xs ys →
    AllZip R (ws ++ xs) (bs ++ ys)
zip_append R [] xs [] ys z w = w
zip_append R (a ∷ ws) xs (b ∷ bs) ys z w = (z.0, zip_append R ws xs bs ys z.1 w)
zip_append R _ xs _ ys z w = absurd z

-- ---- from LRP to LRP

-- the LRPs so far, up to the last, go on with any that follow it
abbrev pub Led : Margin → Map → List ℕ → List ℕ → ℕ → Type 0
Led g M ls points last =
    (js : List ℕ) → FollowWith g M ls last js →
    FollowWith g M ls 0 (points ++ js) × (last_position 0 (points ++ js) ≡ last_position last js)

pub led_more : (g : Margin) (M : Map) (ls points : List ℕ) (k m : ℕ) → Led g M ls points k → NextWith g M ls k m →
    Led g M ls (points ++ m ∷ []) m
led_more g M ls points k m l n = λ js f. rw append_assoc (l (m ∷ js) (n, f))

pub led_end : (g : Margin) (M : Map) (ls points : List ℕ) (last : ℕ) → Led g M ls points last → NoNextWith g M ls last →
    FollowWith g M ls 0 points × (last_position 0 points ≡ last)
led_end g M ls points last l n = rw append-nil at (l [] n)

-- no position follows the end
pub no_next_end : (g : Margin) (M : Map) (ls : List ℕ) (k : ℕ) → length ls ≤ k → NoNextWith g M ls k
no_next_end g M ls k h = grind arith

-- ---- the footprint

-- of a path's traversed nodes and what its queries reach
pub noted_foot : (g : Margin) (M : Map) → IsMap M → (P : Path) → IsTrue (is_path P.lines) → (queries : List CoverageQuery) →
    QueriesOfWith g M P queries → (traversed foot : List ℕ) → ((v : ℕ) → Contains traversed v ↔ TraversedOf M P v) →
    ((v : ℕ) → Contains foot v ↔ (Contains traversed v ⊎ SeenBy M queries v)) → (v : ℕ) →
    Contains foot v ↔ FootWith g M P v
noted_foot g M m P is queries l traversed foot o f v = grind (arith, o v, f v, foot_queried_with g M m P is queries l v)
