-- What changes and commands preserve of the register.
use Rattle.olr_commands.proofs.Common.{nat_le, IfSome, IfOk, result_unwrap_or, not-false, leb-false, Map, IsMap}
use Rattle.olr_commands.proofs.Common.{MapFault, edited, edits_keep}
use Rattle.std.proofs.Common.{◌≡◌, ℕ, ◌+◌, ◌≤◌, arith, Bool, true, false, List, [], ◌∷◌, ◌++◌, length, Option, Some}
use Rattle.std.proofs.Common.{None, Result, Ok, Err, refl, ap, subst}
use Rattle.olr_commands.specs.State.{Content, Fault, when, Change, On_map, Add_path, Set_path, Drop_path, Set_margin}
use Rattle.olr_commands.specs.State.{with_map, with_change, next, after, Command, Make, Begin, Commit, Abort, State}
use Rattle.olr_commands.specs.State.{full, step, step_in, IsContent, AllAccepted, IsBatch, IsState, HasCoords}
use Rattle.olr_commands.proofs.NameLemmas.{differ_push, differ_set, differ_filter, paths_push, paths_set, paths_filter}
use Rattle.std.proofs.lemmas.List.{length_push}
use Rattle.std.proofs.lemmas.Result.{IfOk-at_ok}

pub when_ok : {A : Type 0} (b : Bool) (f : Fault) (r : Result A Fault) (x : A) → when b f r ≡ Ok x → (b ≡ false)
    × (r ≡ Ok x)
when_ok true f r x e = absurd cc
when_ok false f r x e = (refl, e)

-- what is accepted, at once or if a test passes
pub accepted : {A : Type 0} (P : A → Type 0) (a b : A) → ◌≡◌ {A = Result A Fault} (Ok a) (Ok b) → P a → P b
accepted P a b e h = let same : a ≡ b = cc in subst P same h

pub passed : {A : Type 0} (P : A → Type 0) (t : Bool) (f : Fault) (a b : A) → when t f (Ok a) ≡ Ok b → P a → P b
passed P t f a b e h = accepted P a b (when_ok t f (Ok a) b e).1 h

-- ---- changes

map_keeps : (c d : Content) (r : Result Map MapFault) → ((m : Map) → r ≡ Ok m → IsMap m) → IsContent c →
    with_map c r ≡ Ok d → IsContent d
map_keeps c d (Ok m) sound i e = grind (arith, sound m)
map_keeps c d (Err f) sound i e = absurd cc

pub changes_keep : (c d : Content) (x : Change) → IsContent c → HasCoords (Make x) → with_change c x ≡ Ok d →
    IsContent d
changes_keep c d (On_map e) i h is = map_keeps c d (edited c.map e) (λ m ok. edits_keep c.map m e i.map h ok) i is
changes_keep c d (Add_path name path) i h is = grind (arith, when_ok, accepted, paths_push, not-false, differ_push)
changes_keep c d (Set_path name path) i h is = grind (arith, when_ok, accepted, paths_set, not-false, differ_set)
changes_keep c d (Drop_path name) i h is = grind (arith, passed, paths_filter, differ_filter)
changes_keep c d (Set_margin g) i h is = grind (arith, accepted)

-- ---- batches

pub next_ok : (c d : Content) (x : Change) → with_change c x ≡ Ok d → next c x ≡ d
next_ok c d x e = ap (λ (r : Result Content Fault). result_unwrap_or r c) e

pub after_append : (c : Content) (xs ys : List Change) → after c (xs ++ ys) ≡ after (after c xs) ys
after_append c [] ys = refl
after_append c (x ∷ xs) ys = after_append (next c x) xs ys

pub after_push : (c : Content) (xs : List Change) (x : Change) → after c (xs ++ x ∷ []) ≡ next (after c xs) x
after_push c xs x = after_append c xs (x ∷ [])

accepted_push : (c : Content) (xs : List Change) (x : Change) → AllAccepted c xs →
    with_change (after c xs) x ≡ Ok (next (after c xs) x) → AllAccepted c (xs ++ x ∷ [])
accepted_push c [] x a e = (e, tt)
accepted_push c (y ∷ xs) x a e = (a.0, accepted_push (next c y) xs x a.1 e)

-- a batch that is not full has capacity for one change more
few_more : (n : ℕ) → nat_le full n ≡ false → n + 1 ≤ full
few_more n h = grind (arith, leb-false)

hold : (c d : Content) (xs : List Change) (x : Change) → with_change (after c xs) x ≡ Ok d →
    nat_le full (length xs) ≡ false → IsContent c → HasCoords (Make x) → IsBatch c xs →
    IsState (record { content = c; batch = Some (xs ++ x ∷ []) })
hold c d xs x is room i h b = grind (arith, next_ok, accepted_push, after_push, changes_keep, length_push, few_more)

-- ---- commands

-- what has to be shown for P to hold after an accepted command
abbrev pub Ends : (State → Type 0) → Content → Option (List Change) → Command → Type 0
Ends P c None (Make x) = (d : Content) → with_change c x ≡ Ok d → P (record { content = d; batch = None })
Ends P c (Some xs) (Make x) = (d : Content) → with_change (after c xs) x ≡ Ok d → nat_le full (length xs) ≡ false →
    P (record { content = c; batch = Some (xs ++ x ∷ []) })
Ends P c b Begin = P (record { content = c; batch = Some [] })
Ends P c (Some xs) (Commit count) = P (record { content = after c xs; batch = None })
Ends P c b Abort = P (record { content = c; batch = None })
Ends P c b x = P (record { content = c; batch = b })

module _ (P : State → Type 0) where
  ends_in : (c : Content) (b : Option (List Change)) (x : Command) → Ends P c b x → IfOk (step_in c b x) P
  ends_in c None (Make x) h = grind arith
  ends_in c b x h = grind arith

  pub ends : (s t : State) (x : Command) → step s x ≡ Ok t → Ends P s.content s.batch x → P t
  ends s t x is h = IfOk-at_ok P is (ends_in s.content s.batch x h)

pub steps_keep : (s t : State) (c : Command) → IsState s → HasCoords c → step s c ≡ Ok t → IsState t
steps_keep s t c i h is = ends IsState s t c is (by s.content s.batch c i.content i.batch h) where
  by : (c : Content) (b : Option (List Change)) (x : Command) → IsContent c → IfSome b (IsBatch c) → HasCoords x →
      Ends IsState c b x
  by c None (Make x) i k h = grind (arith, changes_keep)
  by c (Some xs) (Make x) i k h = λ d is room. hold c d xs x is room i h k
  by c b x i k h = grind arith
