-- Which paths depend on nodes: that is decidable, so that the question has exactly one answer; and an edit affects only such
-- paths, and those that name a line which it adds.
use Rattle.olr_spec.proofs.Common.{arith, ◌≢◌, ◌⊎◌, zero, true, List, refl, subst, ◌||◌, IsMap, Edit, start, Path, Sees, dec_le}
use Rattle.olr_spec.proofs.Common.{◌≡◌, length, IsTrue, or_left, Set_line, has_line, edited, Reaches, is_path, NodeOf, FootWith}
use Rattle.olr_spec.proofs.Common.{inl, inr, ℕ, suc, ◌+◌, ◌-◌, ◌<◌, ◌≤◌, ◌∷◌, sym, ◌∙◌, Ok, Map, has, end, dm, []}
use Rattle.olr_spec.proofs.Common.{touched_nodes, touched_lines, extended_path, CoverageQuery, query_to_with, Bool-discrete}
use Rattle.olr_spec.proofs.Common.{append-nil, MatchOption, cases_Bool, Add_line, Drop_line, lines_out, IsQueryWith, LawOf}
use Rattle.std.proofs.Math.Decide.{dec_lt, map_dec, ℕ_discrete}
use Rattle.olr_spec.specs.Margins.{Margin}
use Rattle.olr_spec.specs.Footprint.{FootOfWith, TouchedWith, On_path, On_start_run, On_end_run, Within_reach}
use Rattle.olr_spec.proofs.AnswerLemmas.{path_also, path_at, by_fault}
use Rattle.olr_spec.proofs.DecideLemmas.{dec_and, some_encoding}
use Rattle.olr_spec.proofs.ListLemmas.{has_here, has_there, has_cases}
use Rattle.olr_spec.proofs.RouteLemmas.{positive}
use Rattle.olr_spec.proofs.RunLemmas.{leaving}
use Rattle.olr_spec.proofs.TestedLemmas.{some_last_tested, one_query}
use Rattle.olr_commands.specs.State.{Named, Content, ArePaths, On_map}
use Rattle.olr_commands.specs.Counts.{Picks, Affects, By_name, By_node, By_line}
use Rattle.olr_commands.specs.Dependents.{DependsOn, Dependents, On_node, On_line}
use Rattle.olr_laws.specs.CommandLaws.{NamesAdded, CommandLaws}

-- ---- one answer

one_picked : {A : Type 0} (P : A → Type 0) (xs ys zs : List A) → Picks P xs ys → Picks P xs zs → ys ≡ zs
one_picked P [] ys zs p q = p ∙ sym q
one_picked P (x ∷ xs) ys zs p q = grind (arith, one_picked P xs)

pub one_dependents : (c : Content) (nodes : List ℕ) (x y : List (List ℕ)) → Dependents c nodes x → Dependents c nodes y →
    x ≡ y
one_dependents c nodes x y p q =
    grind (arith, one_picked (λ n. DependsOn c.margin c.map nodes n.path) c.paths p.0 q.0 p.1 q.1)

-- ---- it is decidable

dec_or : {A B : Type 0} → Dec A → Dec B → Dec (A ⊎ B)
dec_or d e = grind arith

-- one of a list's numbers, or none
dec_some : (Q : ℕ → Type 0) → ((x : ℕ) → Dec (Q x)) → (xs : List ℕ) → Dec ((x : ℕ) × IsTrue (has xs x) × Q x)
dec_some Q d [] = no (λ h. absurd (let never = h.1 in cc))
dec_some Q d (x ∷ xs) = grind (arith, d x, dec_some Q d xs, has_here, has_there, has_cases x xs)

module _ (g : Margin) (M : Map) (m : IsMap M) (v : ℕ) where
  -- the first line of a route from s
  Begins : ℕ → ℕ → ℕ → Type 0
  Begins s d x = (IsTrue (has_line M x) × (start M x ≡ s)) × ((dm M x ≤ d) × Reaches M (end M x) (d - dm M x) v)

  reaches_by : (s d : ℕ) → ((x : ℕ) × IsTrue (has (lines_out M s) x) × Begins s d x) → Reaches M s d v
  unfolding Begins
  reaches_by s d (x, on, h) =
      let r = h.1.1 in let le = h.1.0 in let short = r.2 in (x ∷ r.0, (h.0.0, h.0.1, r.1), omega arith)

  begins_by : (s d : ℕ) → s ≢ v → Reaches M s d v → (x : ℕ) × IsTrue (has (lines_out M s) x) × Begins s d x
  unfolding Begins
  begins_by s d other ([], r, w) = absurd (other r)
  begins_by s d other (x ∷ xs, r, w) =
      (x, leaving M s x r.0 r.1, ((r.0, r.1), (omega (arith, w), (xs, r.2, omega (arith, w)))))

  dec_reaches : (fuel d s : ℕ) → d < fuel → Dec (Reaches M s d v)
  unfolding Begins
  dec_reaches zero d s lt = absurd (omega arith)
  dec_reaches (suc fuel) d s lt = elim (ℕ_discrete s v) [
    | yes e ↦ yes ([], e, omega arith)
    | no other ↦ map_dec (reaches_by s d) (begins_by s d other) (dec_some (Begins s d) (λ x.
        grind (
          arith,
          cases_Bool (has_line M x),
          dec_le (dm M x) d,
          ℕ_discrete (start M x) s,
          dec_reaches fuel (d - dm M x) (end M x),
          positive M m x,
        )) (lines_out M s))
  ]

  dec_node : (ls : List ℕ) → Dec (NodeOf M ls v)
  dec_node ls =
      dec_some (λ x. (start M x ≡ v) ⊎ (end M x ≡ v))
      (λ x. dec_or (ℕ_discrete (start M x) v) (ℕ_discrete (end M x) v)) ls

  -- the coverage query of an LRP whose line is followed by two or more lines
  Sought : List ℕ → ℕ → Type 0
  Sought ls i = (i + 2 < length ls) × ((l : CoverageQuery) × IsQueryWith g M ls i l × Sees M l v)

  dec_sought : (ls : List ℕ) (i : ℕ) → Dec (Sought ls i)
  unfolding Sought
  dec_sought ls i = elim (dec_lt (i + 2) (length ls)) [
    | no f ↦ no (λ h. f h.0)
    | yes lt ↦
        let k = some_last_tested g M m ls i (omega (arith, lt)) in
        let q : CoverageQuery = query_to_with g M ls i k.0 in
        map_dec (λ r. (lt, (q, (k.0, k.1, refl), r)))
        (λ h. subst (λ (l : CoverageQuery). Sees M l v) (one_query M ls i h.1.0 q h.1.1 (k.0, k.1, refl)) h.1.2)
        (dec_reaches (suc q.within) q.within q.from (omega arith))
  ]

  dec_touched : (ls b a js : List ℕ) → Dec (TouchedWith g M ls b a js v)
  unfolding Sought
  dec_touched ls b a js =
      map_dec (λ s. elim s [
        | inl n ↦ On_path n
        | inr (inl n) ↦ On_start_run n
        | inr (inr (inl n)) ↦ On_end_run n
        | inr (inr (inr f)) ↦ Within_reach (f.0, f.1, f.2.0, f.2.1)
      ])
      (λ t. elim t [
        | On_path n ↦ inl n
        | On_start_run n ↦ inr (inl n)
        | On_end_run n ↦ inr (inr (inl n))
        | Within_reach f ↦ inr (inr (inr (f.0, f.1, (f.2, f.3))))
      ])
      (dec_or (dec_node ls) (dec_or (dec_node b) (dec_or (dec_node a) (dec_some (Sought ls) (dec_sought ls) (0 ∷ js)))))

  dec_foot : (P : Path) → IsTrue (is_path P.lines) → Dec (FootWith g M P v)
  dec_foot P is =
      by_fault M P (λ o. Dec (MatchOption o (FootOfWith g M P v) (λ _. ⊥)))
      (λ none. let p = (some_encoding g M m P is none).1 in
      map_dec (λ t. path_also p t) (λ f. path_at m is none p f)
      (dec_touched (extended_path M P p.before p.after).lines p.before p.after p.points))
      (λ r. no (λ h. h))

module _ (g : Margin) (M : Map) (m : IsMap M) (nodes : List ℕ) where
  dec_depends : (P : Path) → IsTrue (is_path P.lines) → Dec (DependsOn g M nodes P)
  dec_depends P is =
      map_dec (λ s. elim s [
        | inl (v, on, f) ↦ On_node v on f
        | inr (x, own, h) ↦ On_line x h.0 h.1 own
      ])
      (λ d. elim d [ On_node v on f ↦ inl (v, on, f) | On_line x there at own ↦ inr (x, own, (there, at)) ])
      (dec_or (dec_some (λ v. FootWith g M P v) (λ v. dec_foot g M m v P is) nodes)
      (dec_some (λ x. IsTrue (has_line M x) × IsTrue (has nodes (start M x) || has nodes (end M x)))
      (λ x. dec_and (Bool-discrete (has_line M x) true)
      (Bool-discrete (has nodes (start M x) || has nodes (end M x)) true)) P.lines))

  pub some_dependents : (ps : List Named) → ArePaths ps →
      (qs : List Named) × Picks (λ p. DependsOn g M nodes p.path) ps qs
  some_dependents [] a = ([], refl)
  some_dependents (p ∷ ps) a =
      let rest = some_dependents ps a.1 in
      elim (dec_depends p.path a.0) [
        | yes d ↦ (p ∷ rest.0, inl (d, (rest.0, rest.1, refl)))
        | no f ↦ (rest.0, inr (f, rest.1))
      ]

-- ---- what an edit affects

module _ (c : Content) (N : Map) (e : Edit) (nodes : List ℕ) (p : Named) (made : edited c.map e ≡ Ok N)
    (given : (v : ℕ) → IsTrue (has (touched_nodes c.map e) v) → IsTrue (has nodes v)) where
  abbrev M : Map
  M = c.map

  -- a line that an edit of the map touches begins at a touched node
  begins : (e : Edit) → edited M e ≡ Ok N → (x : ℕ) → IsTrue (has (touched_lines e) x) → IsTrue (has_line M x) →
      IsTrue (has (touched_nodes M e) (start M x))
  begins (Add_line y l) ok x on there = grind (arith, has_cases y [] x on)
  begins (Set_line y frc fow len shape) ok x on there = grind (arith, has_cases y [] x on, has_here)
  begins (Drop_line y) ok x on there = grind (arith, has_cases y [] x on, has_here)
  begins e ok x on there = absurd cc

  by_affected : Affects c (On_map e ∷ []) p → DependsOn c.margin M nodes p.path ⊎ NamesAdded M e p.path
  by_affected (By_name h) = absurd cc
  by_affected (By_node v on foot) = inl (On_node v (given v (rw append-nil at on)) foot)
  by_affected (By_line x on own) =
      let touched = rw append-nil at on in
      elim (cases_Bool (has_line M x)) [
        | inl there ↦ inl (On_line x there
            (or_left (has nodes (start M x)) (has nodes (end M x)) (given (start M x) (begins e made x touched there))) own)
        | inr off ↦ inr (x, touched, off, own)
      ]

pub affected_depend : LawOf (λ (l : CommandLaws). l.affected_depend)
affected_depend c N e nodes p made given a = by_affected c N e nodes p made given a
