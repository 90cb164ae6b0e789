-- An accepted command has one reply, apart from out of memory a command has one outcome, counts are determined, and the claims
-- hold of runs from the start. The question about ambiguities names the strings in whose way something stands, nothing else.
use Rattle.std.proofs.Common.{arith, ◌≡◌, false, List, ◌++◌, Some, None, Option, IsTrue, Contains, refl, subst, IsFalse, length}
use Rattle.std.proofs.Common.{◌≢◌, inl, inr, ℕ, [], ◌∷◌, map, not, sym, ap, ◌∙◌, Ok, Err, suc}
use Rattle.std.specs.List.{AllByRecursion}
use Rattle.std.proofs.lemmas.List.Elements.{Contains-append_left, Contains-append_right, Contains-append_cases}
use Rattle.olr_commands.proofs.Common.{Map, IsMap, Path, is_path, Margin, Answer, Refused, Reference, Refusal, EncodesWith}
use Rattle.olr_commands.proofs.Common.{one_answer_with, some_answer_with, not-false, one_decoding, bytes_decides}
use Rattle.olr_spec.specs.Encoding.{Points}
use Rattle.olr_spec.specs.Recovery.{OwnLinesWith, OwnLinesOfWith}
use Rattle.olr_spec.specs.Ambiguity.{Obstacle, obstacles}
use Rattle.olr_spec.proofs.AnswerLemmas.{path_also, path_at}
use Rattle.olr_spec.proofs.FitLemmas.{by_answer, encoded_fits}
use Rattle.olr_spec.proofs.ListLemmas.{Contains-here, Contains-later, Contains-cases, dec_same}
use Rattle.olr_commands.proofs.NameLemmas.{named_path}
use Rattle.olr_commands.specs.State.{Named, State, Make, Show, Report, Commit, Fault, step, Content, Change, Command, Explain}
use Rattle.olr_commands.specs.State.{IsState, Depends, Preview, has_path, No_path, with_held, ArePaths, IsContent, path_named}
use Rattle.olr_commands.specs.State.{has_asked, HasCoords, Set_margin, Ambiguous, changes_made}
use Rattle.olr_commands.specs.Ambiguities.{NamedObstacle, named, obstacles_of, Ambiguity, Ambiguities, AskedAmbiguities}
use Rattle.olr_laws.specs.ReceiverLaws.{StandsFor, ReceiverLaws}
use Rattle.olr_laws.proofs.AmbiguityLemmas.{clear_is_distinct}
use Rattle.olr_spec.proofs.OptionLemmas.{some_of}
use Rattle.olr_commands.specs.Reply.{Entry, entry, Reply, AllOf, Shown, IsPaths, ByState, Outcome, IsOutcome, Obstacles, Fields}
use Rattle.olr_commands.specs.Reply.{HasAnswer, ChangedOf, Differences, Explained, IsChangeReply, IsRefusal, Held, lacks_memory}
use Rattle.olr_commands.specs.Reply.{Lacks, Names, Paths}
use Rattle.olr_laws.proofs.DependLemmas.{one_dependents, some_dependents}
use Rattle.olr_commands.proofs.StateLemmas.{steps_keep, when_ok}
use Rattle.olr_spec.specs.Bytes.{IsReference, reference_bytes}
use Rattle.olr_commands.specs.Dump.{dump_changes, DumpsAgain}
use Rattle.olr_laws.specs.CommandLaws.{CommandLaws}
use Rattle.olr_commands.specs.Counts.{Affects, By_name, CountIs, Raises}
use Rattle.olr_commands.proofs.CountLemmas.{unconcerned}
use Rattle.olr_commands.proofs.DumpLemmas.{dumps_lead}
use Rattle.olr_commands.specs.History.{Run, HeadlineOfHistories}
use Rattle.olr_commands.proofs.HistoryLemmas.{start_sound, names_changed, SoundOutcome, headline_of_outcomes}
use Rattle.std.proofs.Math.Decide.{map_dec, ℕ_discrete}
use Rattle.olr_spec.proofs.LawOf.{LawOf}

-- ---- the ambiguities of one path

module _ (g : Margin) (M : Map) (m : IsMap M) (P : Path) (is : IsTrue (is_path P.lines)) where
  one_own : (A : Answer) → EncodesWith g M P A → (xs ys : List ℕ) → OwnLinesOfWith g M P A xs → OwnLinesOfWith g M P A ys → xs ≡ ys
  one_own (Points r) e xs ys p q = p.holds ∙ sym (path_at m is (by_answer M P r e).0 p q)
  one_own (Refused f) e xs ys p q = p ∙ sym q

  some_own : (A : Answer) → EncodesWith g M P A → (xs : List ℕ) × OwnLinesOfWith g M P A xs
  some_own (Points r) e = (_, path_also (by_answer M P r e).1 refl)
  some_own (Refused f) e = ([], refl)

one_ambiguity : (g : Margin) (M : Map) → IsMap M → (p : Named) → IsTrue (is_path p.path.lines) → (es fs : List NamedObstacle) →
    Ambiguity g M p es → Ambiguity g M p fs → es ≡ fs
one_ambiguity g M m p is es fs a b =
    grind (arith, one_answer_with g M m p.path is a.0 b.0 a.2 b.2, one_own g M m p.path is a.0 a.2 a.1 b.1 a.3)

some_ambiguity : (g : Margin) (M : Map) → IsMap M → (p : Named) → IsTrue (is_path p.path.lines) →
    (es : List NamedObstacle) × Ambiguity g M p es
some_ambiguity g M m p is =
    let some = some_answer_with g M m p.path is in
    let own = some_own g M m p.path is some.0 some.1 in
    (map (named p.name) (obstacles_of M some.0 own.0), (some.0, own.0, some.1, own.1, refl))

-- ---- the ambiguities of all paths

one_ambiguities : (g : Margin) (M : Map) → IsMap M → (ps : List Named) → ArePaths ps → (es fs : List NamedObstacle) →
    Ambiguities g M ps es → Ambiguities g M ps fs → es ≡ fs
one_ambiguities g M m [] i es fs a b = a ∙ sym b
one_ambiguities g M m (p ∷ ps) i es fs a b =
    grind (arith, one_ambiguity g M m p i.0 a.0 b.0 a.2 b.2, one_ambiguities g M m ps i.1 a.1 b.1 a.3 b.3)

some_ambiguities : (g : Margin) (M : Map) → IsMap M → (ps : List Named) → ArePaths ps →
    (es : List NamedObstacle) × Ambiguities g M ps es
some_ambiguities g M m [] i = ([], refl)
some_ambiguities g M m (p ∷ ps) i =
    let own = some_ambiguity g M m p i.0 in
    let rest = some_ambiguities g M m ps i.1 in
    (own.0 ++ rest.0, (own.0, rest.0, own.1, rest.1, refl))

pub one_asked : (c : Content) → IsContent c → (name : Option (List ℕ)) → (es fs : List NamedObstacle) →
    AskedAmbiguities c name es → AskedAmbiguities c name fs → es ≡ fs
one_asked c i None es fs a b = one_ambiguities c.margin c.map i.map c.paths i.paths es fs a b
one_asked c i (Some name) es fs a b =
    let path = named_path c.paths name a.0 i.paths a.1 in
    grind (arith, one_ambiguity c.margin c.map i.map (record { name = name; path = a.0 }) path es fs a.2)

pub some_asked : (c : Content) → IsContent c → (name : Option (List ℕ)) → not (has_asked c name) ≡ false →
    (es : List NamedObstacle) × AskedAmbiguities c name es
some_asked c i None h = some_ambiguities c.margin c.map i.map c.paths i.paths
some_asked c i (Some name) h =
    let P = some_of (path_named c.paths name) (not-false _ h) in
    let some = some_ambiguity c.margin c.map i.map (record { name = name; path = P.0 }) (named_path c.paths name P.0 i.paths P.1) in
    (some.0, (P.0, P.1, some.1))

-- ---- what the answer about them says

-- an ambiguity of a path is in the answer under its name
in_answer : (g : Margin) (M : Map) (ps : List Named) (es : List NamedObstacle) → Ambiguities g M ps es → (p : Named) → Contains ps p →
    (own : List NamedObstacle) × Ambiguity g M p own × ((e : NamedObstacle) → Contains own e → Contains es e)
in_answer g M [] es a p c = absurd (let lt = c.1 in omega arith)
in_answer g M (q ∷ ps) es a p c = elim (Contains-cases q p ps c) [
  | inl e ↦ (a.0, grind arith, λ o h. grind (arith, Contains-append_left a.0 a.1 o h))
  | inr later ↦
      let rest = in_answer g M ps a.1 a.3 p later in
      (rest.0, rest.1, λ o h. grind (arith, Contains-append_right a.0 a.1 o (rest.2 o h)))
]

-- an entry is of one of the paths
of_path : (g : Margin) (M : Map) (ps : List Named) (es : List NamedObstacle) → Ambiguities g M ps es → (e : NamedObstacle) →
    Contains es e → (p : Named) × Contains ps p × (own : List NamedObstacle) × Ambiguity g M p own × Contains own e
of_path g M [] es a e c = absurd (let at = subst (λ (xs : List NamedObstacle). Contains xs e) a c in let lt = at.1 in omega arith)
of_path g M (q ∷ ps) es a e c =
    elim (Contains-append_cases a.0 a.1 e (subst (λ (xs : List NamedObstacle). Contains xs e) a.4 c)) [
      | inl here ↦ (q, Contains-here q ps, a.0, a.2, here)
      | inr later ↦ let r = of_path g M ps a.1 a.3 e later in (r.0, Contains-later q r.0 ps r.1, r.2, r.3, r.4)
    ]

-- with nothing under its name
none_named : (n : List ℕ) (os : List (ℕ × Obstacle)) →
    ((e : NamedObstacle) → Contains (map (named n) os) e → e.name ≢ n) → os ≡ []
none_named n [] none = refl
none_named n (o ∷ os) none = absurd (none (named n o) (Contains-here (named n o) (map (named n) os)) refl)

pub path_in : (ps : List Named) (p : Named) → ArePaths ps → Contains ps p → IsTrue (is_path p.path.lines)
path_in [] p a c = absurd (let lt = c.1 in omega arith)
path_in (q ∷ ps) p a c = grind (arith, Contains-cases q p ps c, path_in ps p a.1)

pub unnamed_is_distinct : LawOf (λ (l : ReceiverLaws). l.unnamed_is_distinct)
unnamed_is_distinct c i es a p at unnamed r e scale far w slack few =
    let own = in_answer c.margin c.map c.paths es a p at in
    let q = own.1 in
    let is = path_in c.paths p i.paths at in
    let same : q.0 ≡ Points r = one_answer_with c.margin c.map i.map p.path is q.0 (Points r) q.2 e in
    let lines : OwnLinesWith c.margin c.map p.path q.1 = subst (λ (A : Answer). OwnLinesOfWith c.margin c.map p.path A q.1) same q.3 in
    let all : own.0 ≡ map (named p.name) (obstacles c.map r q.1) =
    q.4 ∙ ap (λ (A : Answer). map (named p.name) (obstacles_of c.map A q.1)) same in
    let clear : obstacles c.map r q.1 ≡ [] =
    none_named p.name (obstacles c.map r q.1) (λ o h. unnamed o (own.2 o
    (subst (λ (xs : List NamedObstacle). Contains xs o) (sym all) h))) in
    clear_is_distinct c.margin c.map i.map p.path is r e q.1 lines clear scale far w slack few

-- an element of a list that a function gives
of_map : {A B : Type 0} (f : A → B) (xs : List A) (y : B) → Contains (map f xs) y → (x : A) × Contains xs x × (y ≡ f x)
of_map f [] y c = absurd (let lt = c.1 in omega arith)
of_map f (x ∷ xs) y c = grind (arith, Contains-cases (f x) y (map f xs) c, Contains-here x xs, Contains-later x, of_map f xs y)

stands : (g : Margin) (M : Map) (p : Named) (own : List NamedObstacle) → Ambiguity g M p own → (e : NamedObstacle) → Contains own e →
    StandsFor g M p e
stands g M p own (Points r, xs, encodes, lines, all) e c =
    let o = of_map (named p.name) (obstacles M r xs) e (subst (λ (ys : List NamedObstacle). Contains ys e) all c) in
    record {
      reference = r;
      lines = xs;
      encodes = encodes;
      own = lines;
      name = ap (λ (n : NamedObstacle). n.name) o.2;
      stands = subst (λ (q : ℕ × Obstacle). Contains (obstacles M r xs) q) (λ k. ((sym o.2 k).lrp, (sym o.2 k).obstacle)) o.1;
    }
stands g M p own (Refused f, xs, encodes, lines, all) e c =
    absurd (let at = subst (λ (ys : List NamedObstacle). Contains ys e) all c in let lt = at.1 in omega arith)

pub named_stands : LawOf (λ (l : ReceiverLaws). l.named_stands)
named_stands c es a e at =
    let r = of_path c.margin c.map c.paths es a e at in (r.0, r.1, stands c.margin c.map r.0 r.2 r.3 e r.4)

-- ---- replies are determined

-- each path has one answer, so a list of paths has one list of entries
one_all : (g : Margin) (M : Map) → IsMap M → (ps : List Named) (es fs : List Entry) → ArePaths ps → AllOf g M ps es → AllOf g M ps fs →
    es ≡ fs
one_all g M m [] es fs a p q = p ∙ sym q
one_all g M m (n ∷ ps) es fs a p q = grind (arith, one_answer_with, one_all g M m ps p.1 q.1 a.1 p.3 q.3)

one_changed : (s : Content) (g : Margin) (M : Map) → IsMap M → (ps : List Named) (es fs : List Entry) → ArePaths ps →
    ChangedOf s g M ps es → ChangedOf s g M ps fs → es ≡ fs
one_changed s g M m [] es fs a p q = p ∙ sym q
one_changed s g M m (n ∷ ps) es fs a p q = grind (arith, one_answer_with, one_changed s g M m ps p.1 q.1 a.1 p.3 q.3)

-- the path of a name has one answer
pub one_has : (c : Content) → IsContent c → (name : List ℕ) (A B : Answer) → HasAnswer c name A → HasAnswer c name B →
    A ≡ B
one_has c i name A B p q =
    grind (arith, one_answer_with c.margin c.map i.map p.0 (named_path c.paths name p.0 i.paths p.1) A B p.2)

one_explained : (text : List ℕ) (x y : Reference) → Explained text x → Explained text y → x ≡ y
one_explained text x y p q = grind (arith, one_decoding x y p.2.0 q.2.0)

one_difference : (s t : Content) → IsContent t → (r q : Reply) → IsPaths r (Differences s t) →
    IsPaths q (Differences s t) → r ≡ q
one_difference s t j r q p g = grind (arith, one_changed s t.margin t.map j.map t.paths)

one_held : (b : Option (List Change)) (s t : Content) → IsContent t → (r q : Reply) → IsChangeReply b s t r →
    IsChangeReply b s t q → r ≡ q
one_held None s t j r q p g = one_difference s t j r q p g
one_held (Some xs) s t j r q p g = p ∙ sym g

-- what an open batch would lead to is sound
held_sound : (s : State) → IsState s → IsContent (with_held s.content s.batch)
held_sound s i = grind arith

pub one_reply : LawOf (λ (l : CommandLaws). l.one_reply)
one_reply s t (Make x) r q i j p g = one_held s.batch s.content t.content j.content r q p g
one_reply s t (Show name) (Paths es) (Paths fs) i j p g = grind (arith, one_has s.content i.content name p.0 g.0 p.1 g.1)
one_reply s t (Show name) r q i j p g = grind arith
one_reply s t (Depends nodes) (Names x) (Names y) i j p g =
    ap (λ (names : List (List ℕ)). Names names) (one_dependents s.content nodes x y p g)
one_reply s t (Depends nodes) r q i j p g = grind arith
one_reply s t Report r q i j p g = grind (arith, one_all)
one_reply s t (Ambiguous name) r q i j p g = grind (arith, one_asked s.content i.content name)
one_reply s t (Explain text) (Fields x) (Fields y) i j p g = ap (λ (r : Reference). Fields r) (one_explained text x y p g)
one_reply s t (Explain text) r q i j p g = grind arith
one_reply s t Preview r q i j p g =
    one_difference s.content (with_held s.content s.batch) (held_sound s i) r q p g
one_reply s t (Commit count) r q i j p g = one_difference s.content t.content j.content r q p g
one_reply s t c r q i j p g = p ∙ sym g

-- a fault other than out of memory is that of step
pub reported_by : (s : State) (c : Command) (fault : Fault) → IsFalse (lacks_memory (Err fault)) → IsRefusal s c fault →
    step s c ≡ Err fault
reported_by s c fault n (ByState e) = e
reported_by s c fault n (Lacks is may) = grind arith

pub one_outcome : LawOf (λ (l : CommandLaws). l.one_outcome)
one_outcome s t u c (Ok r) (Ok w) i h n m p g = grind (arith, one_reply s t c r w i (steps_keep s t c i h p.0) p.1)
one_outcome s t u c o q i h n m p g = grind (arith, reported_by)

-- ---- answers are equal or not

-- a reason is decided by its kind and its number
refusals_decide : (x y : Refusal) → Dec (x ≡ y)
refusals_decide x y = grind (arith, ℕ_discrete)

-- a reference is decided by its bytes
Fits : Answer → Type 0
Fits (Points r) = IsReference r
Fits (Refused f) = ◌≡◌ {A = Refusal} f f

answers_decide : (A B : Answer) → Fits A → Fits B → Dec (A ≡ B)
unfolding Fits
answers_decide (Points r) (Points q) f g =
    map_dec (λ e. ap (λ (x : Reference). Points x) (one_decoding r q f g e))
    (λ e. let same : r ≡ q = cc in ap reference_bytes same) (dec_same (reference_bytes r) (reference_bytes q))
answers_decide (Refused x) (Refused y) f g = map_dec (λ e. ap (λ (k : Refusal). Refused k) e) (λ e. cc) (refusals_decide x y)
answers_decide A B f g = no (λ e. absurd cc)

answer_fits : (g : Margin) (M : Map) → IsMap M → (P : Path) → IsTrue (is_path P.lines) → (A : Answer) → EncodesWith g M P A → Fits A
unfolding Fits
answer_fits g M m P i (Points r) e = encoded_fits g M m P i r e
answer_fits g M m P i (Refused f) e = refl

-- ---- replies

-- whether a path had this answer
had : (c : Content) → IsContent c → (name : List ℕ) (A : Answer) → Fits A → Dec (HasAnswer c name A)
had c i name A f = by_path (path_named c.paths name) refl where
  by_path : (o : Option Path) → path_named c.paths name ≡ o → Dec (HasAnswer c name A)
  by_path None e = no (λ h. absurd (let none : ◌≡◌ {A = Option Path} None (Some h.0) = sym e ∙ h.1 in cc))
  by_path (Some P) e =
      let sound = named_path c.paths name P i.paths e in
      let some = some_answer_with c.margin c.map i.map P sound in
      map_dec (λ same. (P, e, subst (λ (B : Answer). EncodesWith c.margin c.map P B) (sym same) some.1))
      (λ h. one_has c i name A some.0 h (P, e, some.1))
      (answers_decide A some.0 f (answer_fits c.margin c.map i.map P sound some.0 some.1))

some_changed : (c : Content) → IsContent c → (g : Margin) (M : Map) → IsMap M → (ps : List Named) → ArePaths ps → (es : List Entry)
    × ChangedOf c g M ps es
some_changed c i g M m [] a = ([], refl)
some_changed c i g M m (p ∷ ps) a =
    let some = some_answer_with g M m p.path a.0 in
    let rest = some_changed c i g M m ps a.1 in
    elim (had c i p.name some.0 (answer_fits g M m p.path a.0 some.0 some.1)) [
      | yes h ↦ (rest.0, (some.0, rest.0, some.1, rest.1, inl (h, refl)))
      | no n ↦ (entry p.name some.0 ∷ rest.0, (some.0, rest.0, some.1, rest.1, inr (n, refl)))
    ]

some_all : (g : Margin) (M : Map) → IsMap M → (ps : List Named) → ArePaths ps → (es : List Entry) × AllOf g M ps es
some_all g M m [] a = ([], refl)
some_all g M m (p ∷ ps) a =
    let some = some_answer_with g M m p.path a.0 in
    let rest = some_all g M m ps a.1 in
    (entry p.name some.0 ∷ rest.0, (some.0, rest.0, some.1, rest.1, refl))

some_shown : (c : Content) → IsContent c → (name : List ℕ) → not (has_path c name) ≡ false → (es : List Entry)
    × Shown c name es
some_shown c i name h =
    let P = some_of (path_named c.paths name) (not-false _ h) in
    let some = some_answer_with c.margin c.map i.map P.0 (named_path c.paths name P.0 i.paths P.1) in
    (entry name some.0 ∷ [], (some.0, (P.0, P.1, some.1), refl))

some_difference : (c d : Content) → IsContent c → IsContent d → (es : List Entry) × Differences c d es
some_difference c d i j = some_changed c i d.margin d.map j.map d.paths j.paths

some_held : (b : Option (List Change)) (c d : Content) → IsContent c → IsContent d → (reply : Reply)
    × IsChangeReply b c d reply
some_held None c d i j = let es = some_difference c d i j in (Paths es.0, es.1)
some_held (Some xs) c d i j = (Held (suc (length xs)), refl)

when_asked : (s t : State) (name : Option (List ℕ)) → step s (Ambiguous name) ≡ Ok t → not (has_asked s.content name) ≡ false
when_asked s t name is =
    grind (arith, when_ok (not (has_asked s.content name)) No_path (Ok (record { content = s.content; batch = None })) t)

pub some_reply : LawOf (λ (l : CommandLaws). l.some_reply)
some_reply s t (Make x) i h is n =
    some_held s.batch s.content t.content i.content (steps_keep s t (Make x) i h is).content
some_reply s t (Show name) i h is n = let es =
    some_shown s.content i.content name (when_ok (not (has_path s.content name)) No_path (Ok s) t is).0 in
    (Paths es.0, es.1)
some_reply s t (Depends nodes) i h is n =
    let d = some_dependents s.content.margin s.content.map i.content.map nodes s.content.paths i.content.paths in
    (Names (map (λ p. p.name) d.0), (d.0, d.1, refl))
some_reply s t Report i h is n = let es =
    some_all s.content.margin s.content.map i.content.map s.content.paths i.content.paths in (Paths es.0, es.1)
some_reply s t (Ambiguous name) i h is n =
    let es = some_asked s.content i.content name (when_asked s t name is) in (Obstacles es.0, es.1)
some_reply s t (Explain text) i h is n = absurd (n text refl)
some_reply s t Preview i h is n =
    let es = some_difference s.content (with_held s.content s.batch) i.content (held_sound s i) in (Paths es.0, es.1)
some_reply s t (Commit count) i h is n = let es =
    some_difference s.content t.content i.content (steps_keep s t (Commit count) i h is).content in (Paths es.0, es.1)
some_reply s t c i h is n = (_, refl)

-- a preview has the replies of the commit that may follow
pub previews_commit : LawOf (λ (l : CommandLaws). l.previews_commit)
previews_commit s t count r is = grind (arith, when_ok)

-- ---- counts

pub one_count : {A : Type 0} (P : A → Type 0) (xs : List A) (n m : ℕ) → CountIs P xs n → CountIs P xs m → n ≡ m
one_count P [] n m p q = p ∙ sym q
one_count P (x ∷ xs) n m p q = grind (arith, one_count P xs, one_count P xs n m)

-- a claim that holds of nothing
pub no_count : {A : Type 0} (P : A → Type 0) → ((x : A) → ¬ P x) → (xs : List A) (n : ℕ) → CountIs P xs n → n ≡ 0
no_count P none [] n p = p
no_count P none (x ∷ xs) n p = grind (arith, none x, no_count P none xs n)

pub no_rise : (s t : State) (c : Command) (n : ℕ) → changes_made s c ≡ [] → Raises s c t n → n ≡ 0
no_rise s t c n none h = grind (arith, no_count, unconcerned)

pub one_rise : (s t : State) (c : Command) (n m : ℕ) → Raises s c t n → Raises s c t m → n ≡ m
one_rise s t c n m = one_count (Affects s.content (changes_made s c)) t.content.paths n m

-- a claim that holds of each
all_counted : {A : Type 0} (P : A → Type 0) → ((x : A) → P x) → (xs : List A) → CountIs P xs (length xs)
all_counted P all [] = refl
all_counted P all (x ∷ xs) = inl (all x, (length xs, all_counted P all xs, refl))

pub margin_raises : LawOf (λ (l : CommandLaws). l.margin_raises_all)
margin_raises s t g closed is =
    grind (arith, all_counted (Affects s.content (Set_margin g ∷ [])) (λ p. By_name refl) s.content.paths)

pub dumps_again : DumpsAgain
dumps_again c i = ap (λ (d : Content). dump_changes d) (dumps_lead c i).1

pub no_differences : (c : Content) (es : List Entry) → IsContent c → Differences c c es → es ≡ []
no_differences c [] i d = refl
no_differences c (e ∷ es) i d =
    grind (arith, bytes_decides e.name e.name, names_changed c c (e ∷ es) i d)

-- ---- runs from the start

pub outcome_keeps : (s t : State) (c : Command) (o : Outcome) → IsState s → HasCoords c → IsOutcome s c o t → IsState t
outcome_keeps s t c (Ok reply) i h p = steps_keep s t c i h p.0
outcome_keeps s t c (Err fault) i h p = subst IsState (sym p.1) i

history_keeps : (s t : State) (cs : List Command) (os : List Outcome) → IsState s → AllByRecursion HasCoords cs →
    Run IsOutcome s cs os t → IsState t × Run SoundOutcome s cs os t
history_keeps s t cs [] i h p = (subst IsState p i, p)
history_keeps s t [] (o ∷ os) i h p = absurd p
history_keeps s t (c ∷ cs) (o ∷ os) i h p =
    let mid = outcome_keeps s p.0 c o i h.0 p.1 in
    let rest = history_keeps p.0 t cs os mid h.1 p.2 in
    (rest.0, (p.0, (p.1, mid.content), rest.1))

pub headline_of_histories : HeadlineOfHistories
headline_of_histories cs os t h run = grind (arith, history_keeps, start_sound, headline_of_outcomes)
