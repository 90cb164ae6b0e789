-- Whole runs.
use Rattle.olr_commands.proofs.Common.{MatchOption, IfSome, AllByRecursion, result_unwrap_or, cases_Bool, both_ways}
use Rattle.olr_commands.proofs.Common.{not-false, bytes_decides, Map, IsMap, Path, Reference, Answer, Refused, Refusal}
use Rattle.olr_commands.proofs.Common.{EncodesWith, one_answer_with, some_answer_with, Margin}
use Rattle.std.proofs.Common.{rules, inl, inr, ◌≡◌, ℕ, Bool, true, false, cond, List, [], ◌∷◌, ◌++◌, length, Option}
use Rattle.std.proofs.Common.{Some, None, Result, Ok, Err, refl, sym, ap, ◌∙◌, subst, arith}
use Rattle.olr_spec.specs.Encoding.{Points, path_fault, EncodingWith}
use Rattle.olr_spec.specs.Margins.{IsSoundFor}
use Rattle.olr_spec.proofs.UndoLemmas.{empty_sound}
use Rattle.olr_spec.specs.Joins.{JoinedWith}
use Rattle.olr_spec.proofs.JoinedAnswers.{joined_with}
use Rattle.olr_commands.specs.State.{changes_made_in, changes_made, NamesDiffer, start_state, path_named, same_name, IsContent}
use Rattle.olr_commands.specs.State.{ArePaths, Content, Command, IsState, Change, Named, Fault, after, State, Make, step, Dump}
use Rattle.olr_commands.specs.Reply.{Entry, entry, Paths, HasAnswer, Published, ChangedOf, Differences, IsReply}
use Rattle.olr_commands.specs.Reply.{Outcome, IsOutcome, Dumped, Reply}
use Rattle.olr_commands.specs.History.{Run, brought_by, next_state, all_changes_made, OneOf, IsPublished, names}
use Rattle.olr_commands.specs.History.{NamesChanged, reports, IsNamed, IsRefused, Headline, IsDump, IsDumped}
use Rattle.olr_commands.proofs.NameLemmas.{named_path, same_is}
use Rattle.olr_commands.proofs.StateLemmas.{Ends, ends, when_ok, next_ok, after_append}
use Rattle.olr_commands.proofs.DumpLemmas.{dumps_run}

-- ---- the content

-- the changes that an accepted command applies make the new content
brings : (s t : State) (c : Command) → step s c ≡ Ok t → t.content ≡ after s.content (changes_made s c)
brings s t c is = ends (λ u. u.content ≡ after s.content (changes_made s c)) s t c is (by s.content s.batch c) where
  by : (c : Content) (b : Option (List Change)) (x : Command) →
      Ends (λ u. u.content ≡ after c (changes_made_in b x)) c b x
  by c b x = grind (arith, next_ok)

next_state_ok : (s t : State) (c : Command) → step s c ≡ Ok t → next_state s (Some c) ≡ t
next_state_ok s t c e = ap (λ (r : Result State Fault). result_unwrap_or r s) e

-- ---- runs

-- a property of each step that follows from another
pub run_each : {A : Type 0} (P Q : State → A → Outcome → State → Type 0) →
    ((s : State) (x : A) (o : Outcome) (t : State) → P s x o t → Q s x o t)
    → (s : State) (xs : List A) (os : List Outcome) (t : State) → Run P s xs os t → Run Q s xs os t
run_each P Q f s xs [] t h = h
run_each P Q f s [] (o ∷ os) t h = absurd h
run_each P Q f s (x ∷ xs) (o ∷ os) t h = (h.0, f s x o h.0 h.1, run_each P Q f h.0 xs os t h.2)

-- a run of more inputs, of which only the first are used
pub run_longer : {A : Type 0} (P : State → A → Outcome → State → Type 0) (s t : State) (xs rest : List A)
    (os : List Outcome) → Run P s xs os t → Run P s (xs ++ rest) os t
run_longer P s t xs rest [] h = h
run_longer P s t [] rest (o ∷ os) h = absurd h
run_longer P s t (x ∷ xs) rest (o ∷ os) h = (h.0, h.1, run_longer P h.0 t xs rest os h.2)

-- one run, and then another
pub run_join : {A : Type 0} (P : State → A → Outcome → State → Type 0) (s t u : State) (xs ys : List A)
    (os qs : List Outcome) → length os ≡ length xs
    → Run P s xs os t → Run P t ys qs u → Run P s (xs ++ ys) (os ++ qs) u
run_join P s t u [] ys [] qs l h p = subst (λ (a : State). Run P a ys qs u) (sym h) p
run_join P s t u [] ys (k ∷ os) qs l h p = absurd h
run_join P s t u (x ∷ xs) ys [] qs l h p = absurd (omega arith)
run_join P s t u (x ∷ xs) ys (k ∷ os) qs l h p = (h.0, h.1, run_join P h.0 t u xs ys os qs (omega arith) h.2 p)

-- a run with one step more
pub run_more : {A : Type 0} (P : State → A → Outcome → State → Type 0) (s t u : State) (xs : List A) (x : A)
    (os : List Outcome) (o : Outcome) → length os ≡ length xs
    → Run P s xs os t → P t x o u → Run P s (xs ++ x ∷ []) (os ++ o ∷ []) u
run_more P s t u xs x os o l h p = run_join P s t u xs (x ∷ []) os (o ∷ []) l h (u, p, refl)

-- the state after each: by its command if accepted, unchanged if rejected
abbrev pub Leads : State → Option Command → Outcome → State → Type 0
Leads s None (Ok reply) t = ⊥
Leads s (Some c) (Ok reply) t = step s c ≡ Ok t
Leads s asked (Err fault) t = t ≡ s

pub outcome_leads : (s : State) (c : Command) (o : Outcome) (t : State) → IsOutcome s c o t → Leads s (Some c) o t
outcome_leads s c (Ok reply) t h = h.0
outcome_leads s c (Err fault) t h = h.1

-- one command more before the changes of the rest
content_more : (s u t : State) (a : Option Command) (reply : Reply) (rest : State → List Change) →
    Leads s a (Ok reply) u → t.content ≡ after u.content (rest u) →
    t.content ≡ after s.content (brought_by s a ++ rest (next_state s a))
content_more s u t None reply rest h e = absurd h
content_more s u t (Some c) reply rest h e =
    rw (next_state_ok s u c h, after_append s.content (changes_made s c) (rest u), ← brings s u c h) e

pub content_after : {A : Type 0} (asked : A → Option Command) (s t : State) (xs : List A) (os : List Outcome) →
    Run (λ a x o b. Leads a (asked x) o b) s xs os t
    → t.content ≡ after s.content (all_changes_made asked s xs os)
content_after asked s t [] [] h = grind arith
content_after asked s t [] (o ∷ os) h = absurd h
content_after asked s t (x ∷ xs) [] h = grind arith
content_after asked s t (x ∷ xs) (Ok reply ∷ os) h =
    content_more s h.0 t (asked x) reply (λ u. all_changes_made asked u xs os) h.1 (content_after asked h.0 t xs os h.2)
content_after asked s t (x ∷ xs) (Err fault ∷ os) h = grind (arith, content_after asked s t xs os)

-- ---- answers

pub one_of : (c : Content) → IsContent c → (name : List ℕ) (P : Path) → path_named c.paths name ≡ Some P →
    OneOf c.margin c.map P
one_of c i name P e =
    let sound = named_path c.paths name P i.paths e in
    let some = some_answer_with c.margin c.map i.map P sound in
    record { answer = some.0; encodes = some.1; only = λ B h. one_answer_with c.margin c.map i.map P sound B some.0 h some.1 }

-- the only answer of a path is the published one
only_published : (c : Content) (name : List ℕ) (P : Path) (one : OneOf c.margin c.map P) (answer : Option Answer) →
    path_named c.paths name ≡ Some P → Published c name answer → answer ≡ Some one.answer
only_published c name P one None e h = grind arith
only_published c name P one (Some A) e h = grind (arith, one.only A)

pub is_published : (before later : Content) (changes : List Change) → IsContent later → later ≡ after before changes →
    IsPublished before changes later
is_published before later changes sound e =
    record {
      content = e;
      answers = λ name P is. let one = one_of later sound name P is in
          (one, λ answer p. only_published later name P one answer is p);
    }

pub start_sound : IsState start_state
start_sound = record { content = record { map = empty_sound; paths = tt; names = tt; margin = refl }; batch = tt }

-- ---- joins

joined_by : (g : Margin) (M : Map) → IsSoundFor g M → (P : Path) (r : Reference) (o : Option Refusal) → path_fault M P ≡ o →
    MatchOption o (EncodingWith g M P (Points r)) (λ f. Points r ≡ Refused f) → JoinedWith g M P r
joined_by g M sound P r None none p = joined_with g M sound P r none p
joined_by g M sound P r (Some f) is p = absurd cc

pub routes_of : (c : Content) → IsSoundFor c.margin c.map → (name : List ℕ) (r : Reference) → HasAnswer c name (Points r) →
    (P : Path) × (path_named c.paths name ≡ Some P) × JoinedWith c.margin c.map P r
routes_of c sound name r h =
    (h.0, h.1, joined_by c.margin c.map sound h.0 r (path_fault c.map h.0) refl h.2)

-- ---- replies

-- in a list without repeated names, the path of a name in the rest isn't the first path
not_first : (p : Named) (ps : List Named) (name : List ℕ) (P : Path) → NamesDiffer (p ∷ ps) →
    path_named ps name ≡ Some P → same_name p.name name ≡ false
not_first p ps name P d e = grind (arith, cases_Bool, same_is, both_ways, p.name, d.0)

named_first : (p : Named) (ps : List Named) (name : List ℕ) → same_name p.name name ≡ true →
    path_named (p ∷ ps) name ≡ Some p.path
named_first p ps name h = rw h refl

named_later : (p : Named) (ps : List Named) (name : List ℕ) → same_name p.name name ≡ false →
    path_named (p ∷ ps) name ≡ path_named ps name
named_later p ps name h = ap (λ (b : Bool). cond b (Some p.path) (path_named ps name)) h

-- the entry has the answer of a path of this list, which the path did not have before
Reports : Content → Margin → Map → List Named → Entry → Type 0
Reports before g M ps e =
    (A : Answer) × (P : Path) × (path_named ps e.name ≡ Some P) × EncodesWith g M P A × (e ≡ entry e.name A)
    × ¬ HasAnswer before e.name A

report_later : (before : Content) (g : Margin) (M : Map) (p : Named) (ps : List Named) → NamesDiffer (p ∷ ps) →
    (es : List Entry) → AllByRecursion (Reports before g M ps) es → AllByRecursion (Reports before g M (p ∷ ps)) es
unfolding Reports
report_later before g M p ps d [] h = tt
report_later before g M p ps d (e ∷ es) (r, h) = (
  (r.0, r.1, named_later p ps e.name (not_first p ps e.name r.1 d r.2) ∙ r.2, r.3, r.4, r.5),
  report_later before g M p ps d es h,
)

report_all : (before : Content) (g : Margin) (M : Map) (ps : List Named) (es : List Entry) → NamesDiffer ps →
    ChangedOf before g M ps es → AllByRecursion (Reports before g M ps) es
unfolding Reports
report_all before g M [] es d c = rw c tt
report_all before g M (p ∷ ps) es d c =
    let rest = report_later before g M p ps d c.1 (report_all before g M ps c.1 d.1 c.3) in
    let here = named_first p ps p.name ((bytes_decides p.name p.name).1 refl) in
    elim c.4 [ inl k ↦ rw k.1 rest | inr k ↦ rw k.1 ((c.0, p.path, here, c.2, refl, k.0), rest) ]

-- the entry of a name
entry_of : (P : Entry → Type 0) (es : List Entry) (name : List ℕ) → AllByRecursion P es → names es name →
    (e : Entry) × (e.name ≡ name) × P e
entry_of P [] name a h = absurd cc
entry_of P (e ∷ es) name a h = grind (arith, cases_Bool, same_is, entry_of P es name a.1)

reported : (before later : Content) (es : List Entry) → AllByRecursion (Reports before later.margin later.map later.paths) es →
    AllByRecursion (λ e. (A : Answer) × HasAnswer later e.name A × (e ≡ entry e.name A)) es
unfolding Reports
reported before later [] h = tt
reported before later (e ∷ es) h = grind (arith, reported before later es)

-- a path with an answer that it did not have before has an entry
named_by : (before : Content) (g : Margin) (M : Map) → IsMap M → (ps : List Named) (es : List Entry) → ArePaths ps →
    ChangedOf before g M ps es → (name : List ℕ) (A : Answer) (P : Path) → path_named ps name ≡ Some P →
    EncodesWith g M P A → ¬ HasAnswer before name A → names es name
named_by before g M m [] es a c name A P is answer new = absurd cc
named_by before g M m (p ∷ ps) es a c name A P is answer new =
    search (
      rules,
      arith,
      cases_Bool,
      named_first,
      one_answer_with g,
      same_is,
      named_later,
      named_by before g M m ps c.1 a.1 c.3 name A P,
    )

pub names_changed : (before later : Content) (es : List Entry) → IsContent later → Differences before later es →
    NamesChanged before later es
unfolding Reports
names_changed before later es i c =
    let all = report_all before later.margin later.map later.paths es i.names c in (
      λ name. (
        λ h. grind (arith, entry_of (Reports before later.margin later.map later.paths) es name all h),
        λ h. named_by before later.margin later.map i.map later.paths es i.paths c name h.0 h.1.0 h.1.1 h.1.2 h.2,
      ),
      reported before later es all,
    )

-- ---- the claims of a run

-- what the reply to a command reports, if it names paths
reported_of : (s t : State) (c : Command) (es : List Entry) → reports s.batch c ≡ true → IsReply s c t (Paths es) →
    Differences s.content t.content es
reported_of s t (Make x) es e h = grind arith
reported_of s t c es e h = grind arith

pub is_named : (s t : State) (c : Command) (o : Outcome) → IsContent t.content → IsOutcome s c o t → IsNamed s c o t
is_named s t c o sound h report_all es is = grind (arith, names_changed, sound, reported_of, report_all)

dumped_of : (c : Content) (b : Option (List Change)) (t : State) (x : Command) (count : ℕ) (text : List ℕ) →
    IsContent c → step (record { content = c; batch = b }) x ≡ Ok t →
    IsReply (record { content = c; batch = b }) x t (Dumped count text)
    → IsDump (record { content = c; batch = b }) count text × (t ≡ record { content = c; batch = b })
dumped_of c None t Dump count text i is h = grind (arith, when_ok, not-false, dumps_run)
dumped_of c b t x count text i is h = grind arith

pub is_dumped : (s t : State) (c : Command) (o : Outcome) → IsContent s.content → IsOutcome s c o t → IsDumped s o t
is_dumped s t c o i h count text is = let p = rw is at h in dumped_of s.content s.batch t c count text i p.0 p.1

pub is_refused : (s t : State) (c : Command) (o : Outcome) → IsOutcome s c o t → IsRefused s o t
is_refused s t c o h fault is = (rw is at h).1

-- what each step of a run gives for the claims
pub record Claimed (s : State) (asked : Option Command) (o : Outcome) (t : State) : Type 0 where
  pub leads : Leads s asked o t
  pub named : IfSome asked (λ c. IsNamed s c o t)
  pub refused : IsRefused s o t
  pub sound : IsContent t.content
  pub dumped : IsContent s.content → IsDumped s o t

-- the content is sound before each step, and at the end
run_sound : {A : Type 0} (P : State → A → Outcome → State → Type 0) →
    ((s : State) (x : A) (o : Outcome) (t : State) → P s x o t → IsContent t.content)
    → (s : State) (xs : List A) (os : List Outcome) (t : State) → IsContent s.content → Run P s xs os t →
    Run (λ a x o b. P a x o b × IsContent a.content) s xs os t × IsContent t.content
run_sound P f s xs [] t i h = (h, subst (λ (a : State). IsContent a.content) h i)
run_sound P f s [] (o ∷ os) t i h = absurd h
run_sound P f s (x ∷ xs) (o ∷ os) t i h = search (rules, arith, run_sound P f h.0 xs os t (f s x o h.0 h.1) h.2)

-- runs whose steps have Q, and give what the claims need, from a sound content
headline_by : {A : Type 0} (P Q : State → A → Outcome → State → Type 0) (asked : A → Option Command)
    → ((s : State) (x : A) (o : Outcome) (t : State) → P s x o t → Q s x o t × Claimed s (asked x) o t)
    → (s : State) (xs : List A) (os : List Outcome) (t : State) → IsContent s.content → Run P s xs os t →
    Headline Q asked s xs os t
headline_by P Q asked f s xs os t sound h =
    let all = run_sound P (λ a x o b p. (f a x o b p).1.sound) s xs os t sound h in
    let each = run_each _ (λ a x o b. Q a x o b × Claimed a (asked x) o b × IsContent a.content)
    (λ a x o b p. let k = f a x o b p.0 in (k.0, k.1, p.1)) s xs os t all.0 in
    let leads = run_each _ (λ a x o b. Leads a (asked x) o b) (λ a x o b k. k.1.leads) s xs os t each in
    record {
      run = run_each _ Q (λ a x o b k. k.0) s xs os t each;
      published = is_published s.content t.content _ all.1 (content_after asked s t xs os leads);
      joined = routes_of t.content (inr all.1.map);
      named = run_each _ _ (λ a x o b k. (k.0, k.1.named)) s xs os t each;
      refused = run_each _ _ (λ a x o b k. (k.0, k.1.refused)) s xs os t each;
      dumped = run_each _ _ (λ a x o b k. (k.0, k.1.dumped k.2)) s xs os t each;
    }

pub headline_of : {A : Type 0} (P : State → A → Outcome → State → Type 0) (asked : A → Option Command)
    → ((s : State) (x : A) (o : Outcome) (t : State) → P s x o t → Claimed s (asked x) o t)
    → (s : State) (xs : List A) (os : List Outcome) (t : State) → IsContent s.content → Run P s xs os t →
    Headline P asked s xs os t
headline_of P asked f = headline_by P P asked (λ s x o t p. (p, f s x o t p))

-- ---- the claims of commands

-- an outcome after which the content is sound
abbrev pub SoundOutcome : State → Command → Outcome → State → Type 0
SoundOutcome s c o t = IsOutcome s c o t × IsContent t.content

pub headline_of_outcomes : (s : State) (cs : List Command) (os : List Outcome) (t : State) → IsContent s.content →
    Run SoundOutcome s cs os t → Headline IsOutcome (λ c. Some c) s cs os t
headline_of_outcomes =
    headline_by SoundOutcome IsOutcome (λ c. Some c)
    (λ a c o b p. (
      p.0,
      record {
        leads = outcome_leads a c o b p.0;
        named = is_named a b c o p.1 p.0;
        refused = is_refused a b c o p.0;
        sound = p.1;
        dumped = λ i. is_dumped a b c o i p.0;
      },
    ))
