-- What is reported of a list, and of one path that is added, replaced or dropped, compared with the answers of the paths
-- on their maps.
use Rattle.olr_register.proofs.Common.{has_name, arith, inl, inr, ◌≡◌, ℕ, true, false, List, [], ◌∷◌, Option, Some, None, refl}
use Rattle.olr_register.proofs.Common.{ap, ◌∙◌, subst, option_map, MatchOption, IsSomeAnd, Map, Path, Answer, EncodesWith}
use Rattle.olr_register.proofs.Common.{Margin, same_name, path_named, IsContent, AllOf, Differences, Results, Item, IsEncodingOf}
use Rattle.olr_register.proofs.Common.{AreEncodings, all_named, results_in, answer_in, Reported, ◌⊎◌, ◌≢◌, not, ◌++◌, map, filter}
use Rattle.olr_register.proofs.Common.{is_some, cases_Bool, none_of, content_on, Follows, set_item, follows_self, ◌↔◌}
use Rattle.olr_register.proofs.Common.{HasAnswer, NamesDiffer, named_path, same_is, answer_if_any, Entry, entry}
use Rattle.olr_spec.proofs.AnswerLemmas.{one_answer_with}
use Rattle.olr_paths.proofs.NamedEntries.{sets_none}
use Rattle.olr_register.proofs.Listed.{each_add, each_set, each_left, each_encoded, each_follows, follows_untold, still_told}

-- the path of a name and its results, or neither
abbrev Found : Margin → Map → Option Path → Option Results → Type 0
Found g M p o = MatchOption p (o ≡ None) (λ P. IsSomeAnd o (IsEncodingOf g M P))

pub results_found : (g : Margin) (M : Map) (is : List Item) (name : List ℕ) → AreEncodings g M is →
    Found g M (path_named (all_named is) name) (results_in is name)
results_found g M [] name a = refl
results_found g M (i ∷ is) name a = grind (arith, results_found g M is name)

-- the stored answer of a path is its answer on the map
retained_answer : (g : Margin) (M : Map) (P : Path) (o : Option Results) (A : Answer) (m : Results) → o ≡ Some m → IsEncodingOf g M P m →
    option_map (λ (n : Results). n.answer) o ≡ Some A → EncodesWith g M P A
retained_answer g M P o A m is right e =
    let same : m.answer ≡ A = grind arith in subst (EncodesWith g M P) same right.answer

pub answer_held : (g : Margin) (M : Map) (is : List Item) → IsContent (content_on g M is) → AreEncodings g M is → (name : List ℕ)
    (A : Answer) → HasAnswer (content_on g M is) name A ↔ (answer_in is name ≡ Some A)
answer_held g M is content a name A =
    by (path_named (all_named is) name) (results_in is name) refl refl (results_found g M is name a) where
      by : (p : Option Path) (o : Option Results) → path_named (all_named is) name ≡ p → results_in is name ≡ o → Found g M p o →
          HasAnswer (content_on g M is) name A ↔ (answer_in is name ≡ Some A)
      by None o e f none = ((λ h. absurd (cc (e, h.1))), (λ h. absurd (grind (arith, f, none, h))))
      by (Some P) None e f h = absurd h
      by (Some P) (Some m) e f right =
          let good = named_path (all_named is) name P content.paths e in
          let one = one_answer_with g M content.map P good m.answer A right.answer in (
            (λ h. grind (arith, e, f, h, one)),
            (λ h. (P, e, retained_answer g M P (results_in is name) A m f right h)),
          )

pub planned_changes : (g h : Margin) (M N : Map) (before js : List Item) (es : List Entry) →
    IsContent (content_on g M before) → AreEncodings g M before → AreEncodings h N js →
    Reported before js es
    → Differences (content_on g M before) (content_on h N js) es
planned_changes g h M N before [] es content was a r = r
planned_changes g h M N before (j ∷ js) es content was a r =
    let held = answer_held g M before content was j.name r.0 in
    let one = retained_answer h N j.path j.results r.0 a.0.0 a.0.1 a.0.2 r.2 in
    grind (arith, held, one, r, planned_changes g h M N before js r.1 content was a.1 r.3)

pub reported_all : (g : Margin) (M : Map) (js : List Item) (es : List Entry) → AreEncodings g M js → Reported [] js es →
    AllOf g M (all_named js) es
reported_all g M [] es a r = r
reported_all g M (j ∷ js) es a r =
    let one = retained_answer g M j.path j.results r.0 a.0.0 a.0.1 a.0.2 r.2 in
    grind (arith, one, r, reported_all g M js r.1 a.1 r.3)

-- a path that is added is reported last
reported_last : (before js : List Item) (j : Item) (A : Answer) (es : List Entry) →
    option_map (λ m. m.answer) j.results ≡ Some A → answer_in before j.name ≢ Some A → Reported before js es →
    Reported before (js ++ j ∷ []) (es ++ entry j.name A ∷ [])
reported_last before [] j A es made new r =
    (A, [], made, refl, inr (new, ap (λ (fs : List Entry). fs ++ entry j.name A ∷ []) r))
reported_last before (k ∷ js) j A es made new r = grind (arith, r, reported_last before js j A r.1 made new r.3)

-- one that is replaced
reported_if_set : (g : Margin) (M : Map) (before : List Item) (name : List ℕ) (path : Path) (m : Results) →
    answer_in before name ≢ Some m.answer
    → (js : List Item) → NamesDiffer (all_named js) → is_some (path_named (all_named js) name) ≡ true →
    AreEncodings g M js → Follows before js →
    Reported before (map (set_item name path (Some m)) js) (entry name m.answer ∷ [])
reported_if_set g M before name path m new [] d h a f = absurd cc
reported_if_set g M before name path m new (j ∷ js) d h a f =
    elim (cases_Bool (same_name j.name name)) [
      | inl e ↦
          let is : j.name ≡ name = same_is j.name name e in
          let free = rw is at d.0 in
          rw (e, sets_none js name path (Some m) free, is)
          (m.answer, [], refl, follows_untold g M before js a.1 f.1, inr (new, refl))
      | inr e ↦ rw e (
        a.0.0.answer,
        entry name m.answer ∷ [],
        ap answer_if_any a.0.1,
        reported_if_set g M before name path m new js d.1 (rw e at h) a.1 f.1,
        inl (still_told a.0.0 a.0.1 f.0, refl),
      )
    ]

-- ---- one path

module _ (g : Margin) (M : Map) (is : List Item) (content : IsContent (content_on g M is)) (a : AreEncodings g M is) where
  self : Follows is is
  self = follows_self is content.names

  pub reported_add : (name : List ℕ) {path : Path} {m : Results} {es : List Entry} → has_name is name ≡ false →
      IsEncodingOf g M path m → es ≡ entry name m.answer ∷ [] →
      Differences (content_on g M is) (content_on g M (is ++ record { name = name; path = path; results = Some m } ∷ [])) es
  reported_add name {path} {m} {es} free right returned =
      let j : Item = record { name = name; path = path; results = Some m } in
      let found = rw (none_of (path_named (all_named is) name) free) at (results_found g M is name a) in
      let new : answer_in is name ≢ Some m.answer = λ e. grind (arith, found, e) in
      planned_changes g g M M is (is ++ j ∷ []) es content a (each_add (each_encoded g M) is j (m, refl, right) a)
      (rw returned (reported_last is is j m.answer [] refl new (follows_untold g M is is a self)))

  pub reported_set : (name : List ℕ) {path : Path} {m : Results} {es : List Entry} → has_name is name ≡ true →
      IsEncodingOf g M path m → ((answer_in is name ≡ Some m.answer) × (es ≡ []))
      ⊎ ((answer_in is name ≢ Some m.answer) × (es ≡ entry name m.answer ∷ [])) →
      Differences (content_on g M is) (content_on g M (map (set_item name path (Some m)) is)) es
  reported_set name {path} {m} {es} taken right returned =
      let made =
      each_set (each_encoded g M) (each_encoded g M) name path (Some m) (λ i e. (m, refl, right)) (λ i e p. p) is a in
      planned_changes g g M M is (map (set_item name path (Some m)) is) es content a made (elim returned [
        | inl h ↦ rw h.1
            (follows_untold g M is (map (set_item name path (Some m)) is) made (each_set (each_follows is) (each_follows is)
            name path (Some m) (λ i e. inr (ap (answer_in is) (same_is i.name name e) ∙ h.0)) (λ i e p. p) is self))
        | inr h ↦ rw h.1 (reported_if_set g M is name path m h.0 is content.names taken a self)
      ])

  pub reported_drop : (name : List ℕ) →
      Differences (content_on g M is) (content_on g M (filter (λ i. not (same_name i.name name)) is)) []
  reported_drop name =
      let keep = λ (i : Item). not (same_name i.name name) in
      let left = each_left (each_encoded g M) keep is a in
      planned_changes g g M M is (filter keep is) [] content a left
      (follows_untold g M is (filter keep is) left (each_left (each_follows is) keep is self))
