-- What is closed and met, as bounds become less and as maps are edited, and where bounds come from.
use Rattle.olr_renewal.proofs.Common.{◌≡◌, ℕ, ◌+◌, ◌<◌, ◌≤◌, ◌⊎◌, List, [], ◌∷◌, ◌++◌, Option, Some, None, IsTrue, refl, sym}
use Rattle.olr_renewal.proofs.Common.{◌∙◌, ◌↔◌, ap, Bool, length, vec_len, subst, inl, inr, arith, is_some, min, cases_Bool, eqb-true, Map, IsMap}
use Rattle.olr_renewal.proofs.Common.{SameLine, has, has_node, start, end, dm, IsRoute, dm_of, GREATEST_LIMIT, Near}
use Rattle.olr_renewal.proofs.Common.{IsRoute-append, dm_of-append, route_start, AreBounds, Against, IsSource, IsRight}
use Rattle.olr_renewal.proofs.Common.{label_of, frontier_len, IsQueued, IsAlike, Moves, CoversSlots, alike_labels, source_of}
use Rattle.olr_renewal.proofs.Common.{bound_at, AreClosed, AreMet, AreRight, IsDue, AreUnderWay, IsUnderWay, IsEdit}
use Rattle.olr_renewal.proofs.Common.{IsUnbounded, IsLed, AreLed, IsFollowed, DistanceBounds, list_any-append}
use Rattle.std.proofs.lemmas.Bool.{or_left, or_right}
use Rattle.olr_spec.proofs.AgreeLemmas.{turned_round, by_leaving, same_known, same_start, same_end, same_dm}
use Rattle.olr_search.specs.declared.frontier.Frontier.{Frontier}

-- ---- the open nodes

pub in_both : (xs ys : List ℕ) (v : ℕ) → IsTrue (has ys v) ⊎ IsTrue (has xs v) → IsTrue (has (xs ++ ys) v)
in_both xs ys v (inl h) = rw list_any-append (or_right _ _ h)
in_both xs ys v (inr h) = rw list_any-append (or_left _ _ h)

in_last : (xs : List ℕ) (w v : ℕ) → IsTrue (has (xs ++ w ∷ []) v) → IsTrue (has xs v) ⊎ (v ≡ w)
in_last xs w v h = grind (arith, list_any-append, eqb-true)

pub due_more : (M : Map) (s : ℕ → ℕ) (T U : List ℕ) (f g : DistanceBounds) → g.bounds ≡ f.bounds → g.sources ≡ f.sources →
    ((v : ℕ) → IsDue T f v → IsDue U g v) → AreUnderWay M s T f → AreUnderWay M s U g
due_more M s T U f g bounds sources due u = grind (arith, cases_Bool)

pub node_there : (M : Map) (s : ℕ → ℕ) (p : ℕ) (o : Option ℕ) →
    ((v : ℕ) → (o ≡ Some v) ↔ (IsTrue (has_node M v) × (s v ≡ p))) → IsTrue (is_some o) → (v : ℕ) × IsTrue (has_node M v)
    × (s v ≡ p)
node_there M s p (Some v) is there = let own = (is v).0 refl in (v, own.0, own.1)
node_there M s p None is there = absurd cc

pub moves_none : (f : Frontier) → Moves f f
moves_none f = grind arith

no_more : (xs : List ℕ) → length xs ≡ 0 → xs ≡ []
no_more [] e = refl
no_more (x ∷ xs) e = absurd cc

-- where no node is open, the bounds are settled
pub settled_at_once : (f : DistanceBounds) → vec_len f.opened ≡ 0 → (M : Map) (s : ℕ → ℕ) → IsUnderWay M s [] f → IsRight M s f
settled_at_once f empty M s u valid =
    let none : f.opened.items ≡ [] = no_more f.opened.items (omega (arith, empty)) in
    let closed : (v : ℕ) → IsDue [] f v → ⊥ =
    λ v d. elim d [ inl o ↦ cc (o) | inr o ↦ let never = subst (λ (vs : List ℕ). IsTrue (has vs v)) none o in cc (never) ] in
    record {
      closed = λ x line short. elim ((u valid).closed x line short) [ inl c ↦ c | inr d ↦ absurd (closed _ d) ];
      sources = λ v d at there. elim ((u valid).sources v d at there) [ inl le ↦ le | inr o ↦ absurd (closed v o) ];
    }

-- ---- edits

module _ (M N : Map) (s r : ℕ → ℕ) (T : List ℕ) (f : DistanceBounds) (e : IsEdit T M s N r) where
  module _ (P Q : ℕ → Type 0) (more : (v : ℕ) → P v → Q v)
      (touched : (v : ℕ) → IsTrue (has T v) → IsUnbounded M s f v ⊎ Q v) where
    closed_on : AreClosed M s (bound_at f) P → AreClosed N r (bound_at f) Q
    closed_on closed x line short = elim (cases_Bool (has T (start N x))) [
      | inl on ↦ elim (touched (start N x) on) [
        | inl far ↦
            let same = ap (bound_at f) (e.slots (start N x) (e.starts x line) (e.sound.starts x line)) in
            let beyond = far.bound (e.starts x line) in absurd (omega (arith, same, beyond, short))
        | inr q ↦ inr q
      ]
      | inr off ↦
          let is : SameLine N M x =
          by_leaving N M (start N x) x (turned_round M N (start N x) (e.alike (start N x) off)) line refl in
          let starts : start N x ≡ start M x = same_start N M x is in
          let from : r (start N x) ≡ s (start M x) = e.slots (start N x) (e.starts x line) (e.sound.starts x line) ∙ ap s starts in
          let to : r (end N x) ≡ s (end M x) = e.slots (end N x) (e.ends x line) (e.sound.ends x line) ∙ ap s (same_end N M x is) in
          let long : dm N x ≡ dm M x = same_dm N M x is in
          let there = subst (λ (b : Bool). IsTrue b) (same_known N M x is) line in
          elim (closed x there (rw (from, long) at short)) [
            | inl c ↦ inl (rw (to, from, long) c)
            | inr p ↦ inr (more (start N x) (subst P (sym starts) p))
          ]
    ]

    met_on : AreMet M s (source_of f) (bound_at f) P → AreMet N r (source_of f) (bound_at f) Q
    met_on met v d at there = grind (arith, cases_Bool, bound_at, source_of, has)

  -- the nodes of each edit are among those that all edits touched
  pub edit_under_way : (T' U : List ℕ) → ((v : ℕ) → IsTrue (has T' v) → IsTrue (has U v)) →
      ((v : ℕ) → IsTrue (has T v) → IsTrue (has U v)) → IsUnderWay M s T' f → IsUnderWay N r U f
  edit_under_way T' U before more under is =
      let due : (v : ℕ) → IsDue T' f v → IsDue U f v =
      λ v d. elim d [ inl h ↦ inl (before v h) | inr o ↦ inr o ] in
      record {
        closed = closed_on (IsDue T' f) (IsDue U f) due (λ v h. inr (inl (more v h))) (under is).closed;
        sources = met_on (IsDue T' f) (IsDue U f) due (λ v h. inr (inl (more v h))) (under is).sources;
      }

  module _ (far : (v : ℕ) → IsTrue (has T v) → IsUnbounded M s f v) where
    pub spared_under_way : IsUnderWay M s [] f → IsUnderWay N r [] f
    spared_under_way under is = record {
      closed = closed_on (IsDue [] f) (IsDue [] f) (λ v d. d) (λ v h. inl (far v h)) (under is).closed;
      sources = met_on (IsDue [] f) (IsDue [] f) (λ v d. d) (λ v h. inl (far v h)) (under is).sources;
    }

    -- from a bound on, along a route within the limit
    bound_along : AreRight N r f → (u v b : ℕ) (xs : List ℕ) → IsTrue (has_node M u) → IsTrue (has_node N u) →
        bound_at f (r u) ≤ b → IsRoute N u v xs → b + dm_of N xs ≤ GREATEST_LIMIT → ¬ IsTrue (has T v)
    bound_along right u v b [] known there low is short on = grind (arith, bound_at, has)
    bound_along right u v b (x ∷ xs) known there low way short on =
        grind (arith, bound_at, has, bound_along right (end N x) v (b + dm N x) xs)

    pub far_apart : IsTrue f.valid → IsRight N r f → (v w : ℕ) → IsSource f v w → ¬ Near N T v (min w GREATEST_LIMIT)
    far_apart is right v w source near = go near.route near.leads near.within
      where
        go : (xs : List ℕ) → IsRoute N v near.node xs → dm_of N xs ≤ min w GREATEST_LIMIT → ⊥
        go [] here short = grind (arith, here, source is, (far near.node near.touched).source)
        go (x ∷ xs) way short =
            let k = source is in
            let known = subst (λ (q : ℕ). IsTrue (has_node M q)) way.1 (e.starts x way.0) in
            let there = subst (λ (q : ℕ). IsTrue (has_node N q)) way.1 (e.sound.starts x way.0) in
            let low = (right is).sources v k.number k.at there in
            let less = k.low in
            bound_along (right is) v near.node (bound_at f (r v)) (x ∷ xs) known there (omega arith) way (omega arith) near.touched

-- an edit that changes nothing
pub edit_same : (T : List ℕ) (M : Map) (s : ℕ → ℕ) → IsMap M → IsEdit T M s M s
edit_same T M s m = grind arith

-- ---- while bounds are settled

-- lines are closed, but where their starts are in the list or queued at their bounds
pub record AreSettling (M : Map) (s : ℕ → ℕ) (S : ℕ → Option ℕ) (xs : List ℕ) (f : Frontier) : Type 0 where
  pub closed : AreClosed M s (label_of f) (λ v. IsTrue (has xs v) ⊎ IsQueued f (label_of f (s v)) (s v))
  pub sources : AreMet M s S (label_of f) (λ v. IsTrue (has xs v))

module _ (M : Map) (m : IsMap M) (s : ℕ → ℕ) (S : ℕ → Option ℕ) where
  settling_next : (xs ys : List ℕ) (f h : Frontier) → ((p : ℕ) → label_of h p ≤ label_of f p)
      → ((p : ℕ) → (label_of h p ≡ label_of f p) ⊎ IsQueued h (label_of h p) p)
      → ((v : ℕ) → IsTrue (has_node M v) → IsTrue (has xs v) ⊎ IsQueued f (label_of f (s v)) (s v) →
      IsTrue (has ys v) ⊎ (IsQueued h (label_of f (s v)) (s v) ⊎ IsFollowed M s h v))
      → ((v d : ℕ) → S v ≡ Some d → IsTrue (has_node M v) → IsTrue (has xs v) → (label_of h (s v) ≤ d) ⊎ IsTrue (has ys v))
      → AreSettling M s S xs f → AreSettling M s S ys h
  settling_next xs ys f h better fresh due met was = record {
    closed = λ x line short. grind (arith, fresh, was.closed x line, better, due, m.starts x line, label_of);
    sources = λ v d at there. let le = better (s v) in grind (arith, label_of);
  }

  -- the last open node is looked at
  pub settling_looked : (xs ys : List ℕ) (w : ℕ) (f h : Frontier) → xs ≡ ys ++ w ∷ [] → Moves f h → IsFollowed M s h w →
      ((d : ℕ) → S w ≡ Some d → IsTrue (has_node M w) → label_of h (s w) ≤ d) → AreSettling M s S xs f →
      AreSettling M s S ys h
  settling_looked xs ys w f h is moves followed met =
      let last : (v : ℕ) → IsTrue (has xs v) → IsTrue (has ys v) ⊎ (v ≡ w) =
      λ v o. in_last ys w v (subst (λ (zs : List ℕ). IsTrue (has zs v)) is o) in
      settling_next xs ys f h moves.better moves.fresh (λ v there d. elim d [
        | inl o ↦ elim (last v o) [ inl still ↦ inl still | inr e ↦ inr (inr (subst (IsFollowed M s h) (sym e) followed)) ]
        | inr q ↦ inr (inl (moves.kept (label_of f (s v)) (s v) q))
      ]) (λ v d at there o. grind (arith, last v o, met d))

  -- an entry is removed from the queue, between f and g, and its lines are followed, up to h
  pub settling_popped : (f g h : Frontier) (d p : ℕ) → IsAlike f g →
      ((n q : ℕ) → IsQueued f n q → IsQueued g n q ⊎ ((n ≡ d) × (q ≡ p))) → Moves g h →
      ((v : ℕ) → IsTrue (has_node M v) → s v ≡ p → IsFollowed M s h v) → AreSettling M s S [] f → AreSettling M s S [] h
  settling_popped f g h d p alike others moves followed =
      settling_next [] [] f h (λ q. let le = moves.better q in omega (arith, alike_labels f g alike q))
      (λ q. elim (moves.fresh q) [ inl same ↦ inl (same ∙ alike_labels f g alike q) | inr new ↦ inr new ])
      (λ v there k. elim k [
        | inl o ↦ inl o
        | inr q ↦ elim (others (label_of f (s v)) (s v) q) [
          | inl still ↦ inr (inl (moves.kept (label_of f (s v)) (s v) still))
          | inr is ↦ inr (inr (followed v there is.1))
        ]
      ]) (λ v n at there o. inr o)

  -- nothing is left
  pub settled : (f g : Frontier) → IsAlike f g → ((n q : ℕ) → IsQueued f n q → GREATEST_LIMIT < n) → AreSettling M s S [] f →
      AreBounds M s Against g × ((v d : ℕ) → S v ≡ Some d → IsTrue (has_node M v) → label_of g (s v) ≤ d)
  settled f g alike far was = (near, met)
    where
      near : AreBounds M s Against g
      near x line short =
          let from = alike_labels f g alike (s (start M x)) in
          let to = alike_labels f g alike (s (end M x)) in
          elim (was.closed x line (omega arith)) [
            | inl c ↦ omega arith
            | inr k ↦ elim k [ inl o ↦ absurd cc | inr q ↦ let lt = far _ _ q in absurd (omega arith) ]
          ]

      met : (v d : ℕ) → S v ≡ Some d → IsTrue (has_node M v) → label_of g (s v) ≤ d
      met v d at there = grind (arith, was.sources v d at there, alike_labels f g alike (s v))

  -- ---- where bounds come from

  led_as : (L K : ℕ → ℕ) (p d : ℕ) (k : IsLed M s S K p d) → (L (s k.from) ≡ k.begun) ⊎ (S k.from ≡ Some k.begun) →
      IsLed M s S L p d
  led_as L K p d k begins = record {
    from = k.from;
    to = k.to;
    there = k.there;
    slot = k.slot;
    begun = k.begun;
    begins = begins;
    route = k.route;
    leads = k.leads;
    long = k.long;
  }

  pub led_then : ((v w : ℕ) → IsTrue (has_node M v) → IsTrue (has_node M w) → s v ≡ s w → v ≡ w) → (L K H : ℕ → ℕ) →
      AreLed M s S L K → AreLed M s S K H → AreLed M s S L H
  led_then apart L K H first then p = elim (then p) [
    | inl same ↦ elim (first p) [ inl was ↦ inl (same ∙ was) | inr k ↦ inr (subst (IsLed M s S L p) (sym same) k) ]
    | inr k ↦ elim k.begins [
      | inr source ↦ inr (led_as L K p (H p) k (inr source))
      | inl at ↦ elim (first (s k.from)) [
        | inl was ↦ inr (led_as L K p (H p) k (inl (sym was ∙ at)))
        | inr j ↦
            let known = route_start M m k.from k.to k.route k.leads k.there in
            let is = apart j.to k.from j.there known j.slot in
            inr (record {
              from = j.from;
              to = k.to;
              there = k.there;
              slot = k.slot;
              begun = j.begun;
              begins = j.begins;
              route = j.route ++ k.route;
              leads = IsRoute-append M j.from k.from k.to j.route k.route
                  (subst (λ (u : ℕ). IsRoute M j.from u j.route) is j.leads) k.leads;
              long = omega (arith, dm_of-append M j.route k.route, j.long, k.long);
            })
      ]
    ]
  ]

-- ---- all that holds while bounds are settled

-- of the bounds f, which were first those of old, with the nodes xs open
pub record IsSettling (M : Map) (s : ℕ → ℕ) (old : DistanceBounds) (xs : List ℕ) (f : DistanceBounds) : Type 0 where
  pub room : CoversSlots M s f.bounds
  pub sources : (v : ℕ) → source_of f v ≡ source_of old v
  pub valid : f.valid ≡ old.valid
  pub settling : AreUnderWay M s [] old → AreSettling M s (source_of old) xs f.bounds
  pub led : AreLed M s (source_of old) (bound_at old) (bound_at f)

pub settling_on : (M : Map) → IsMap M → (s : ℕ → ℕ) →
    ((v w : ℕ) → IsTrue (has_node M v) → IsTrue (has_node M w) → s v ≡ s w → v ≡ w) → (old : DistanceBounds)
    (xs ys : List ℕ) (f g : DistanceBounds) → ((v : ℕ) → source_of g v ≡ source_of f v) → g.valid ≡ f.valid →
    frontier_len g.bounds ≡ frontier_len f.bounds →
    (AreSettling M s (source_of old) xs f.bounds → AreSettling M s (source_of old) ys g.bounds) →
    AreLed M s (source_of f) (bound_at f) (bound_at g) → IsSettling M s old xs f → IsSettling M s old ys g
settling_on M m s apart old xs ys f g sources known len next led was = record {
  room = λ v there. let lt = was.room v there in omega arith;
  sources = λ v. sources v ∙ was.sources v;
  valid = known ∙ was.valid;
  settling = λ u. next (was.settling u);
  led = led_then M m s (source_of old) apart (bound_at old) (bound_at f) (bound_at g) was.led
      (coe 0 1 (i. AreLed M s (λ v. was.sources v i) (bound_at f) (bound_at g)) led);
}

-- the bounds as they are, with room for each node
pub settling_begun : (M : Map) (s : ℕ → ℕ) (f : DistanceBounds) (h : Frontier) → ((p : ℕ) → label_of h p ≡ bound_at f p) →
    CoversSlots M s h → IsSettling M s f f.opened.items (record f { bounds = h })
settling_begun M s f h labels room =
    let same : bound_at f ≡ label_of h = λ i p. sym (labels p) i in
    let due : (v : ℕ) → IsDue [] f v → IsTrue (has f.opened.items v) = λ v d. elim d [ inl none ↦ absurd cc | inr o ↦ o ] in
    record {
      room = room;
      sources = λ v. refl;
      valid = refl;
      settling = λ u. record {
        closed = subst (λ (L : ℕ → ℕ). AreClosed M s L (λ v. IsTrue (has f.opened.items v) ⊎ IsQueued h (label_of h (s v)) (s v))) same
            (λ x line short. elim (u.closed x line short) [ inl c ↦ inl c | inr d ↦ inr (inl (due (start M x) d)) ]);
        sources = subst (λ (L : ℕ → ℕ). AreMet M s (source_of f) L (λ v. IsTrue (has f.opened.items v))) same
            (λ v d at there. elim (u.sources v d at there) [ inl le ↦ inl le | inr o ↦ inr (due v o) ]);
      };
      led = λ p. inl (labels p);
    }

-- no node is open
pub settling_emptied : {M : Map} {s : ℕ → ℕ} {old : DistanceBounds} {f : DistanceBounds} →
    IsSettling M s old f.opened.items f → vec_len f.opened ≡ 0 → IsSettling M s old [] f
settling_emptied {M} {s} {old} {f} w none =
    subst (λ (ys : List ℕ). IsSettling M s old ys f) (no_more f.opened.items (omega (arith, none))) w
