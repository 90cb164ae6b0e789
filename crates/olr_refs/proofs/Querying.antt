-- The coverage queries of LRPs: what is queried from one LRP to the next, and what that says of a path.
use Rattle.olr_refs.proofs.Common.{◌≡◌, ◌<◌, ◌≤◌, ◌+◌, ◌-◌, ◌∷◌, Some, None, refl, sym, ◌∙◌, Map, Path, Queried, ℕ, nat_tests}
use Rattle.olr_refs.proofs.Common.{is_path, NextWith, querying, IsReuse, Extends, taken_end, All-push, All-weaker, List}
use Rattle.olr_refs.proofs.Common.{KnownQuery, append-nil, IsAnswered, taken_start, from_start, AreKnownWith, []}
use Rattle.olr_refs.proofs.Common.{CoverageQuery, append_assoc, option_to_list, filter-append, IsKnownOfWith, length-append}
use Rattle.olr_refs.proofs.Common.{◌++◌, length, Option, ap, subst, arith, IsTrue, nat_lt, own_of, Found, Reuse, Margin, IfSome}
use Rattle.olr_refs.proofs.Common.{KnownOfWith, Contains-append_left, Contains-append_right, drop-append_seam, take-append_seam}
use Rattle.olr_spec.proofs.AnswerLemmas.{Next-candidate}
use Rattle.olr_refs.specs.declared.chosen.Queries.{Queries}
use Rattle.olr_refs.proofs.Noting.{zip_append, Led, led_more}

-- ---- from LRP to LRP

module _ (g : Margin) (M : Map) (ls : List ℕ) (r : Reuse) where
  own_more : (qs : List CoverageQuery) (l : CoverageQuery) (ks : List KnownQuery) (o : Option KnownQuery) →
      KnownOfWith g M (own_of ls r) qs ks → IfSome o (IsKnownOfWith g M (own_of ls r) (l ∷ [])) →
      KnownOfWith g M (own_of ls r) (qs ++ l ∷ []) (ks ++ option_to_list o)
  own_more qs l ks o x t =
      let own = own_of ls r in
      let old : KnownOfWith g M own (qs ++ l ∷ []) ks = All-weaker (IsKnownOfWith g M own qs) (IsKnownOfWith g M own (qs ++ l ∷ []))
      (λ e k. record { among = Contains-append_left qs (l ∷ []) e.query k.among; right = k.right }) ks x in
      elim o as (λ p. IfSome p (IsKnownOfWith g M own (l ∷ [])) → KnownOfWith g M own (qs ++ l ∷ []) (ks ++ option_to_list p)) [
        | None ↦ λ none. rw append-nil old
        | Some e ↦ λ k. All-push (IsKnownOfWith g M own (qs ++ l ∷ [])) ks e old
            (record { among = Contains-append_right qs (l ∷ []) e.query k.among; right = k.right })
      ] t

  -- one LRP more
  pub queried_more : (is : List ℕ) (i : ℕ) (q s : Queries) (f : Found) → i + 2 < length ls →
      Queried g M ls r is q → IsAnswered g M ls r i f → s.all.items ≡ q.all.items ++ f.query ∷ [] →
      s.own.items ≡ q.own.items ++ option_to_list f.own → Queried g M ls r (is ++ i ∷ []) s
  queried_more is i q s f h x y all own =
      let here : querying ls (i ∷ []) ≡ i ∷ [] = grind (arith, nat_tests) in
      let e = filter-append (λ k. nat_lt (k + 2) (length ls)) is (i ∷ []) in
      record {
        each = rw (e, here, all) (zip_append _ _ _ _ _ x.each (y.query, tt));
        own = rw (all, own) (own_more _ _ _ f.own x.own y.own);
      }

  -- where at most one line follows line i nothing is queried
  pub queried_none : (is : List ℕ) (i : ℕ) (q : Queries) → length ls ≤ i + 2 → Queried g M ls r is q →
      Queried g M ls r (is ++ i ∷ []) q
  queried_none is i q h x =
      let here : querying ls (i ∷ []) ≡ [] = grind (arith, nat_tests) in
      let same : querying ls (is ++ i ∷ []) ≡ querying ls is =
      filter-append (λ k. nat_lt (k + 2) (length ls)) is (i ∷ []) ∙ rw (here, append-nil) refl in
      record { each = rw same x.each; own = x.own }

-- the LRPs so far, up to the last, from which nothing was queried yet, and their coverage queries
pub record Gone (g : Margin) (M : Map) (ls : List ℕ) (r : Reuse) (ps : List ℕ) (last : ℕ) (q : Queries) : Type 0 where
  pub done : List ℕ
  pub points : List ℕ
  pub positions : ps ≡ done ++ last ∷ []
  pub first : done ++ last ∷ [] ≡ 0 ∷ points
  pub led : Led g M ls points last
  pub within : last ≤ length ls
  pub queried : Queried g M ls r done q

module _ (g : Margin) (M : Map) (ls : List ℕ) (r : Reuse) where
  -- what the queries of LRP i add
  abbrev pub QueriedOn : ℕ → Queries → Queries → Type 0
  QueriedOn i q s = (before : List ℕ) → Queried g M ls r before q → Queried g M ls r (before ++ i ∷ []) s

  pub gone_more : (ps qs : List ℕ) (last m : ℕ) (q s : Queries) → Gone g M ls r ps last q → QueriedOn last q s →
      NextWith g M ls last m → qs ≡ ps ++ m ∷ [] → Gone g M ls r qs m s
  gone_more ps qs last m q s gone on n e =
      record {
        done = gone.done ++ last ∷ [];
        points = gone.points ++ m ∷ [];
        positions = rw (e, gone.positions) refl;
        first = rw gone.first refl;
        led = led_more g M ls gone.points last m gone.led n;
        within = (Next-candidate M ls last m n).upto;
        queried = on gone.done gone.queried;
      }

  pub ended : (ps : List ℕ) (last : ℕ) (q s : Queries) → (gone : Gone g M ls r ps last q) → QueriedOn last q s →
      Queried g M ls r (0 ∷ gone.points) s
  ended ps last q s gone on = subst (λ (is : List ℕ). Queried g M ls r is s) gone.first (on gone.done gone.queried)

  -- nothing is queried from the end
  pub ended_there : (ps : List ℕ) (last : ℕ) (q : Queries) → (gone : Gone g M ls r ps last q) → length ls ≤ last →
      Queried g M ls r (0 ∷ gone.points) q
  ended_there ps last q gone h =
      ended ps last q q gone (λ before x. queried_none g M ls r before last q (omega arith) x)

-- ---- of a path without a fault

-- its own lines
lines_are : (M : Map) (P E : Path) (lead : ℕ) (F G : List ℕ) → (x : Extends M P E lead F G) →
    E.lines ≡ taken_start M x.before P.lines ++ (P.lines ++ taken_end M (from_start M P x.before) x.after)
lines_are M P E lead F G x =
    ap (λ (e : Path). e.lines) x.path ∙ append_assoc (taken_start M x.before P.lines) P.lines _

pub own_is : (M : Map) (P E : Path) (lead : ℕ) (F G : List ℕ) → Extends M P E lead F G → (r : Reuse) → r.lead ≡ lead →
    r.own ≡ length P.lines → own_of E.lines r ≡ P.lines
own_is M P E lead F G x r leads owns =
    let many : r.lead + r.own - r.lead ≡ length P.lines = omega arith in
    let at : r.lead ≡ length (taken_start M x.before P.lines) = leads ∙ x.leads in
    rw (many, at, lines_are M P E lead F G x, drop-append_seam) (take-append_seam P.lines _)

pub reuse_of : (g : Margin) (M : Map) (P E : Path) (lead : ℕ) (F G : List ℕ) → Extends M P E lead F G → IsTrue (is_path P.lines) →
    (r : Reuse) → r.lead ≡ lead → r.own ≡ length P.lines → AreKnownWith g M P.lines r.known.now → IsReuse g M E.lines r
reuse_of g M P E lead F G x is r leads owns known = record {
  inside = omega (
    arith,
    ap length (lines_are M P E lead F G x),
    length-append (taken_start M x.before P.lines) (P.lines ++ taken_end M (from_start M P x.before) x.after),
    length-append P.lines (taken_end M (from_start M P x.before) x.after),
    x.leads,
  );
  few = grind arith;
  known = subst (λ (xs : List ℕ). AreKnownWith g M xs r.known.now) (sym (own_is M P E lead F G x r leads owns)) known;
}
