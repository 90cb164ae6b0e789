-- Routes in one direction or the other, and the far ends of the lines at a node.
use Rattle.olr_search.proofs.Common.{end, start, ◌≡◌, ℕ, ◌+◌, ◌<◌, List, [], ◌∷◌, ◌++◌, Contains, IsTrue, length, get_or, refl}
use Rattle.olr_search.proofs.Common.{sym, ap, ◌∙◌, subst, arith, get_or-map, length-map, get_or_default_zero, Map, IsMap}
use Rattle.olr_search.proofs.Common.{HasEnds, has_node, has_line, dm, IsRoute, dm_of, LineEnd, Way, Leads, positive, near_end}
use Rattle.olr_search.proofs.Common.{far_end, lines_at, Direction, Along, Against, map, ends_at}
use Rattle.olr_search.proofs.ReadLemmas.{read_at, found_at}
use Rattle.olr_search.proofs.RouteEnds.{dm_of-line, route_on}

pub has_ends : (M : Map) → IsMap M → HasEnds M
has_ends M m = record { starts = m.starts; ends = m.ends; long = positive M m }

pub ends_there : (M : Map) → HasEnds M → (direction : Direction) (x : ℕ) → IsTrue (has_line M x) →
    IsTrue (has_node M (near_end M direction x)) × IsTrue (has_node M (far_end M direction x))
ends_there M m Along x known = (m.starts x known, m.ends x known)
ends_there M m Against x known = (m.ends x known, m.starts x known)

pub near_node : (M : Map) → IsMap M → (direction : Direction) (x : ℕ) → IsTrue (has_line M x) →
    IsTrue (has_node M (near_end M direction x))
near_node M m direction x known = (ends_there M (has_ends M m) direction x known).0

pub far_node : (M : Map) → IsMap M → (direction : Direction) (x : ℕ) → IsTrue (has_line M x) →
    IsTrue (has_node M (far_end M direction x))
far_node M m direction x known = (ends_there M (has_ends M m) direction x known).1

-- a route without lines stays where it begins
pub leads_first : (M : Map) (direction : Direction) (from : List (ℕ × ℕ)) (s b : ℕ) → Contains from (s, b) →
    IsTrue (has_node M s) → Leads M direction from s b
leads_first M Along from s b listed there =
    record { source = s; begun = b; lines = []; listed = listed; there = there; way = refl; long = omega arith }
leads_first M Against from s b listed there =
    record { source = s; begun = b; lines = []; listed = listed; there = there; way = refl; long = omega arith }

-- and a line extends a route
way_on : (M : Map) (direction : Direction) (s x : ℕ) (xs : List ℕ) → IsTrue (has_line M x) →
    Way M direction s (near_end M direction x) xs → (ys : List ℕ) × Way M direction s (far_end M direction x) ys
    × (dm_of M ys ≡ dm_of M xs + dm M x)
way_on M Along s x xs known w = (xs ++ x ∷ [], route_on M s x xs w known, dm_of-line M xs x)
way_on M Against s x xs known w = (x ∷ xs, (known, refl, w), omega arith)

pub leads_on : (M : Map) (direction : Direction) (from : List (ℕ × ℕ)) (x d : ℕ) → IsTrue (has_line M x) →
    Leads M direction from (near_end M direction x) d → Leads M direction from (far_end M direction x) (d + dm M x)
leads_on M direction from x d known l =
    let on = way_on M direction l.source x l.lines known l.way in
    let long : l.begun + dm_of M on.0 ≡ d + dm M x = omega (arith, l.long, on.2) in
    record { source = _; begun = _; lines = on.0; listed = l.listed; there = l.there; way = on.1; long = long }

-- what holds where the routes begin, and stays true along each line
module _ (M : Map) (from : List (ℕ × ℕ)) (P : ℕ → ℕ → Type 0) where
  -- in this direction
  abbrev pub Goes_on : Direction → Type 0
  Goes_on direction =
      (x d : ℕ) → IsTrue (has_line M x) → Leads M direction from (near_end M direction x) d → P (near_end M direction x) d →
      P (far_end M direction x) (d + dm M x)

  along : Goes_on Along → (xs : List ℕ) (u v d e : ℕ) → Leads M Along from u d → P u d → IsRoute M u v xs →
      d + dm_of M xs ≡ e → P v e
  along on [] u v d e l p w sum = let same : d ≡ e = omega arith in subst (λ (n : ℕ). P n e) w (subst (P u) same p)
  along on (x ∷ xs) u v d e l p w sum =
      let here = subst (λ (n : ℕ). Leads M Along from n d) (sym w.1) l in
      along on xs (end M x) v (d + dm M x) e (leads_on M Along from x d w.0 here)
      (on x d w.0 here (subst (λ (n : ℕ). P n d) (sym w.1) p)) w.2 (omega arith)

  against : Goes_on Against → (xs : List ℕ) (s b v e : ℕ) → Contains from (s, b) → IsTrue (has_node M s) → P s b →
      IsRoute M v s xs → b + dm_of M xs ≡ e → P v e
  against on [] s b v e listed there p w sum =
      let same : b ≡ e = omega arith in subst (λ (n : ℕ). P n e) (sym w) (subst (P s) same p)
  against on (x ∷ xs) s b v e listed there p w sum =
      let d = b + dm_of M xs in
      let first : Leads M Against from (end M x) d =
      record { source = s; begun = b; lines = xs; listed = listed; there = there; way = w.2; long = refl } in
      let same : d + dm M x ≡ e = omega arith in
      subst (λ (n : ℕ). P n e) w.1
      (subst (P (start M x)) same (on x d w.0 first (against on xs s b (end M x) d listed there p w.2 refl)))

  -- holds of each node to which they lead
  pub by_ways : (direction : Direction) → ((s b : ℕ) → Contains from (s, b) → IsTrue (has_node M s) → P s b) →
      Goes_on direction → (v d : ℕ) → Leads M direction from v d → P v d
  by_ways Along first on v d l =
      along on l.lines l.source v l.begun d (leads_first M Along from l.source l.begun l.listed l.there)
      (first l.source l.begun l.listed l.there) l.way l.long
  by_ways Against first on v d l =
      against on l.lines l.source l.begun v d l.listed l.there (first l.source l.begun l.listed l.there) l.way l.long

pub leads_node : (M : Map) → HasEnds M → (direction : Direction) (from : List (ℕ × ℕ)) (v d : ℕ) →
    Leads M direction from v d → IsTrue (has_node M v)
leads_node M m direction from v d l =
    by_ways M from (λ w _. IsTrue (has_node M w)) direction (λ s b _ there. there)
    (λ x e known _ _. (ends_there M m direction x known).1) v d l

-- a route to a node begins at one
pub way_start : (M : Map) → HasEnds M → (s v : ℕ) (xs : List ℕ) → IsRoute M s v xs → IsTrue (has_node M v) →
    IsTrue (has_node M s)
way_start M m s v [] w there = subst (λ (u : ℕ). IsTrue (has_node M u)) (sym w) there
way_start M m s v (x ∷ xs) w there = subst (λ (u : ℕ). IsTrue (has_node M u)) w.1 (m.starts x w.0)

-- ---- the far ends at a node

-- the default for a far end
abbrev pub no_end : LineEnd
no_end = record { slot = 0; len = 0 }

-- the far end of a line
abbrev far_of : Map → (ℕ → ℕ) → Direction → ℕ → LineEnd
far_of M slot direction x = record { slot = slot (far_end M direction x); len = dm M x }

ends_are : (M : Map) (slot : ℕ → ℕ) (direction : Direction) (v : ℕ) →
    ends_at M slot direction v ≡ map (far_of M slot direction) (lines_at M direction v)
ends_are M slot Along v = refl
ends_are M slot Against v = refl

pub as_many : (M : Map) (slot : ℕ → ℕ) (direction : Direction) (v : ℕ) (lines : List ℕ) (items : List LineEnd) →
    lines ≡ lines_at M direction v → items ≡ ends_at M slot direction v → length items ≡ length lines
as_many M slot direction v lines items same is =
    ap (λ (es : List LineEnd). length es) (is ∙ ends_are M slot direction v)
    ∙ length-map (lines_at M direction v) (far_of M slot direction) ∙ ap (λ (xs : List ℕ). length xs) (sym same)

-- the i-th line that is entered at a node, and its far end
pub record IsEntry (M : Map) (slot : ℕ → ℕ) (direction : Direction) (v : ℕ) (lines : List ℕ) (i : ℕ) (e : LineEnd) : Type 0
  where
    pub within : i < length lines
    pub known : IsTrue (has_line M (get_or lines i 0))
    pub leads : near_end M direction (get_or lines i 0) ≡ v
    pub there : e.slot ≡ slot (far_end M direction (get_or lines i 0))
    pub len : e.len ≡ dm M (get_or lines i 0)

pub entry_is : (M : Map) (slot : ℕ → ℕ) (direction : Direction) (v : ℕ) (lines : List ℕ) (items : List LineEnd) →
    lines ≡ lines_at M direction v → items ≡ ends_at M slot direction v → (i : ℕ) → i < length items →
    IsEntry M slot direction v lines i (get_or items i no_end)
entry_is M slot direction v lines items same is i lt =
    let made = is ∙ ends_are M slot direction v ∙ ap (λ (zs : List ℕ). map (far_of M slot direction) zs) (sym same) in
    let within : i < length lines = omega (arith, as_many M slot direction v lines items same is) in
    let x = get_or lines i 0 in
    let own = read_at M direction v lines i x same within (sym (get_or_default_zero lines i x within)) in
    let far : get_or items i no_end ≡ far_of M slot direction x =
    ap (λ (zs : List LineEnd). get_or zs i no_end) made ∙ get_or-map (far_of M slot direction) lines i 0 no_end within in
    record {
      within = within;
      known = own.0;
      leads = own.1;
      there = ap (λ (e : LineEnd). e.slot) far;
      len = ap (λ (e : LineEnd). e.len) far;
    }

-- each line that is entered at v is in the lists
pub record HasEntry (M : Map) (slot : ℕ → ℕ) (direction : Direction) (lines : List ℕ) (items : List LineEnd) (x : ℕ) : Type 0
  where
    pub index : ℕ
    pub within : index < length items
    pub line : x ≡ get_or lines index 0
    pub there : (get_or items index no_end).slot ≡ slot (far_end M direction x)
    pub len : (get_or items index no_end).len ≡ dm M x

pub has_entry : (M : Map) (slot : ℕ → ℕ) (direction : Direction) (v x : ℕ) (lines : List ℕ) (items : List LineEnd) →
    lines ≡ lines_at M direction v → items ≡ ends_at M slot direction v → IsTrue (has_line M x) → near_end M direction x ≡ v →
    HasEntry M slot direction lines items x
has_entry M slot direction v x lines items same is known near =
    let k = found_at M direction v lines x same known near in
    let many = as_many M slot direction v lines items same is in
    let e = entry_is M slot direction v lines items same is k.0 (omega arith) in
    record {
      index = k.0;
      within = omega arith;
      line = sym k.2;
      there = e.there ∙ ap (λ y. slot (far_end M direction y)) k.2;
      len = e.len ∙ ap (dm M) k.2;
    }

-- ---- the far ends alone

pub record IsEnd (M : Map) (slot : ℕ → ℕ) (direction : Direction) (v : ℕ) (e : LineEnd) : Type 0 where
  pub line : ℕ
  pub known : IsTrue (has_line M line)
  pub near : near_end M direction line ≡ v
  pub there : e.slot ≡ slot (far_end M direction line)
  pub len : e.len ≡ dm M line

pub end_is : (M : Map) (slot : ℕ → ℕ) (direction : Direction) (v : ℕ) (items : List LineEnd) (i : ℕ) →
    items ≡ ends_at M slot direction v → i < length items → IsEnd M slot direction v (get_or items i no_end)
end_is M slot direction v items i is lt =
    let e = entry_is M slot direction v (lines_at M direction v) items refl is i lt in
    record { line = get_or (lines_at M direction v) i 0; known = e.known; near = e.leads; there = e.there; len = e.len }

-- each line that is entered at v has its far end in the list
pub has_end : (M : Map) (slot : ℕ → ℕ) (direction : Direction) (v x : ℕ) (items : List LineEnd) →
    items ≡ ends_at M slot direction v → IsTrue (has_line M x) → near_end M direction x ≡ v →
    HasEntry M slot direction (lines_at M direction v) items x
has_end M slot direction v x items is known near =
    has_entry M slot direction v x (lines_at M direction v) items refl is known near
