-- The lines of a log that aren't stored yet, in three parts.
use Rattle.olr_log.proofs.Common.{◌≡◌, ◌∙◌, ◌≤◌, ◌<◌, ◌-◌, ◌+◌, ℕ, Bool, true, false, List, [], ◌∷◌, ◌++◌, length, take, drop}
use Rattle.olr_log.proofs.Common.{refl, sym, ap, ◌⊎◌, inl, inr, arith, length-append, length-drop, take-append-drop, take_at}
use Rattle.olr_log.proofs.Common.{take-length, drop_at, drop-drop, append-nil, append_assoc, length-take-le, ◌≢◌, subst, is_empty}
use Rattle.olr_log.proofs.Common.{is_whole, is_whole_from, IsFront, IsLineFor, Turns, has_line, turned, if◌then◌else◌, Effect}
use Rattle.olr_log.specs.StoredLines.{AreLines, Waiting, concluded}
use Rattle.olr_input.specs.declared.record.Effect.TheVariants as effect
use Rattle.olr_log.proofs.StoredLines.{no_line, turns_join, whole_join, front_either}

pub record Parts (l : List ℕ) (r h : ℕ) (A B N : List ℕ) : Type 0 where
  pub splits : l ≡ A ++ (B ++ N)
  pub first : length A ≡ r
  pub second : r + length B ≡ h

pub record Are (l : List ℕ) (r h : ℕ) (A B N : List ℕ) : Type 0 where
  pub ready : take r l ≡ A
  pub batch : take (h - r) (drop r l) ≡ B
  pub next : drop h l ≡ N

pub are : (l : List ℕ) (r h : ℕ) (A B N : List ℕ) → Parts l r h A B N → Are l r h A B N
are l r h A B N p =
    let rest : drop r l ≡ B ++ N = ap (drop r) p.splits ∙ drop_at A (B ++ N) r p.first in
    record {
      ready = ap (take r) p.splits ∙ take_at A (B ++ N) r p.first;
      batch = ap (take (h - r)) rest ∙ take_at B N (h - r) (let e = p.second in omega arith);
      next = ap (drop h) (p.splits ∙ sym (append_assoc A B N))
          ∙ drop_at (A ++ B) N h (length-append A B ∙ (let e = p.second in let f = p.first in omega arith));
    }

abbrev pub pair : List ℕ → List ℕ → Waiting
pair a b = record { ready = a; batch = b }

abbrev pub waits : List ℕ → ℕ → ℕ → Waiting
waits l r h = pair (take r l) (take (h - r) (drop r l))

pub parts : (l : List ℕ) (r h : ℕ) → r ≤ h → h ≤ length l →
    Parts l r h (take r l) (take (h - r) (drop r l)) (drop h l)
parts l r h order within =
    let size : r + (h - r) ≡ h = omega arith in
    let rest : drop (h - r) (drop r l) ≡ drop h l = drop-drop (h - r) r l ∙ ap (λ (k : ℕ). drop k l) size in
    record {
      splits = sym (ap (λ (x : List ℕ). take r l ++ x) (ap (λ (x : List ℕ). take (h - r) (drop r l) ++ x) (sym rest) ∙ take-append-drop (h - r) (drop r l)) ∙ take-append-drop r l);
      first = length-take-le r l (omega arith);
      second = let size = length-take-le (h - r) (drop r l) (omega (arith, length-drop r l)) in omega arith;
    }

-- once so many bytes are ready, so many are those and the batch's, and the others are dropped, these lines wait
pub record Ends (l : List ℕ) (w : Waiting) (i j : ℕ) : Type 0 where
  pub lines : AreLines (take j l) i j effect.Nothing
  pub waiting : waits (take j l) i j ≡ w

pub ended : {l m : List ℕ} {w : Waiting} {i j x y : ℕ} → Ends l w i j → m ≡ take j l → (x ≡ i) × (y ≡ j) → waits m x y ≡ w
ended k is same = (λ n. waits (is n) (same.0 n) (same.1 n)) ∙ k.waiting

-- from these parts, the invariant
pub lines_are : (l : List ℕ) (r h : ℕ) (e : Effect) (A B N : List ℕ) → Parts l r h A B N → is_whole A ≡ true →
    (B ≢ [] → Turns false true B) → IsLineFor e N → AreLines l r h e
lines_are l r h e A B N p whole batch next =
    let is = are l r h A B N p in
    record {
      order = let f = p.second in omega arith;
      within = let size = ap length p.splits ∙ length-append A (B ++ N) in let more = length-append B N in let f = p.first in let g = p.second in omega arith;
      whole = ap is_whole is.ready ∙ whole;
      batch = λ some. subst (Turns false true) (sym is.batch) (batch (λ none. some (is.batch ∙ none)));
      next = subst (IsLineFor e) (sym is.next) next;
    }

module _ {l : List ℕ} {r h : ℕ} {e : Effect} (a : AreLines l r h e) where
  -- the lines that are ready, those of the batch, and that of the record that was taken last
  abbrev A : List ℕ
  A = take r l

  abbrev B : List ℕ
  B = take (h - r) (drop r l)

  abbrev N : List ℕ
  N = drop h l

  all : Parts l r h A B N
  all = parts l r h a.order a.within

  -- without the line that was taken last
  cut : Parts (take h l) r h A B []
  cut =
      let both : take h l ≡ A ++ B =
      ap (take h) (all.splits ∙ sym (append_assoc A B N)) ∙ take_at (A ++ B) N h
      (length-append A B ∙ (let f = all.first in let g = all.second in omega arith)) in
      record { splits = both ∙ ap (λ (x : List ℕ). A ++ x) (sym (append-nil B)); first = all.first; second = all.second }

  -- with another line
  with_line : (line : List ℕ) → Parts (take h l ++ line) r h A B line
  with_line line =
      record {
        splits = ap (λ (x : List ℕ). x ++ line) (cut.splits ∙ ap (λ (x : List ℕ). A ++ x) (append-nil B))
            ∙ append_assoc A B line;
        first = all.first;
        second = all.second;
      }

  -- all lines are in the batch
  pending : Parts l r (length l) A (B ++ N) []
  pending =
      record {
        splits = all.splits ∙ ap (λ (x : List ℕ). A ++ x) (sym (append-nil (B ++ N)));
        first = all.first;
        second = let size = ap length all.splits ∙ length-append A (B ++ N) in let f = all.first in omega arith;
      }

  -- all lines are ready
  readied : Parts l (length l) (length l) (A ++ (B ++ N)) [] []
  readied =
      record {
        splits = all.splits ∙ sym (append-nil (A ++ (B ++ N)));
        first = ap length (sym all.splits);
        second = omega arith;
      }

  -- those that were ready are gone
  forgotten : Parts (drop r l) 0 (h - r) [] B N
  forgotten =
      record {
        splits = ap (drop r) all.splits ∙ drop_at A (B ++ N) r all.first;
        first = refl;
        second = let g = all.second in omega arith;
      }

  cut_lines : AreLines (take h l) r h effect.Nothing
  cut_lines = lines_are (take h l) r h effect.Nothing _ _ [] cut a.whole a.batch no_line

  -- after an empty line
  full : N ≡ [] → take h l ≡ l
  full none = sym (append-nil (take h l)) ∙ ap (λ (x : List ℕ). take h l ++ x) (sym none) ∙ take-append-drop h l

  pub added_lines : (k : Effect) (line : List ℕ) → drop h l ≡ [] → IsLineFor k line → AreLines (l ++ line) r h k
  added_lines k line none is =
      subst (λ (x : List ℕ). AreLines (x ++ line) r h k) (full none)
      (lines_are (take h l ++ line) r h k _ _ line (with_line line) a.whole a.batch is)

  pub forgotten_lines : AreLines (drop r l) 0 (h - r) e
  forgotten_lines = lines_are (drop r l) 0 (h - r) e [] B N forgotten refl a.batch a.next

  some_batch : r < h → B ≢ []
  some_batch less none = let size = all.second in let nothing : length B ≡ 0 = ap length none in omega arith

  none_batch : h ≤ r → B ≡ []
  none_batch less = let none : h - r ≡ 0 = omega arith in ap (λ (n : ℕ). take n (drop r l)) none

  -- with what the record that was taken last adds, a batch is open, or none is
  turns_all : (to : Bool) → (B ≢ [] → Turns true to N) → (B ≡ [] → Turns false to N) → Turns false to (B ++ N)
  turns_all to some none = by_batch B refl
    where
      by_batch : (x : List ℕ) → B ≡ x → Turns false to (B ++ N)
      by_batch [] is = subst (λ (x : List ℕ). Turns false to (x ++ N)) (sym is) (none is)
      by_batch (b ∷ x) is =
          let holds : B ≢ [] = λ empty. let never : b ∷ x ≡ [] = sym is ∙ empty in absurd cc in
          turns_join false to B N (a.batch holds) (some holds)

  turns_by : (k : Effect) → e ≡ k → has_line k ≡ true → (o : Bool) → Turns o (turned k o) N
  turns_by k is stored o = subst (λ (x : Effect). Turns o (turned x o) N) is (a.next.turns (ap has_line is ∙ stored) o)

  held_lines : (n : ℕ) → n ≡ length l → (e ≡ effect.Begin) ⊎ ((e ≡ effect.Change) × (r < h)) →
      AreLines l r n effect.Nothing
  held_lines n is by =
      subst (λ (m : ℕ). AreLines l r m effect.Nothing) (sym is)
      (lines_are l r (length l) effect.Nothing A (B ++ N) [] pending a.whole (λ _. elim by [
        | inl b ↦ turns_all true (λ _. turns_by effect.Begin b refl true) (λ _. turns_by effect.Begin b refl false)
        | inr c ↦ turns_all true (λ _. turns_by effect.Change c.0 refl true) (λ none. absurd (some_batch c.1 none))
      ]) no_line)

  closed_by : (e ≡ effect.Commit) ⊎ ((e ≡ effect.Change) × (h ≤ r)) → Turns false false (B ++ N)
  closed_by (inl c) = turns_all false (λ _. turns_by effect.Commit c refl true) (λ _. turns_by effect.Commit c refl false)
  closed_by (inr c) = turns_all false (λ some. absurd (some (none_batch c.1))) (λ _. turns_by effect.Change c.0 refl false)

  ready_lines : (n : ℕ) → n ≡ length l → (e ≡ effect.Commit) ⊎ ((e ≡ effect.Change) × (h ≤ r)) →
      AreLines l n n effect.Nothing
  ready_lines n is by =
      let whole : is_whole (A ++ (B ++ N)) ≡ true =
      whole_join false [] A (B ++ N) a.whole ∙ ap (is_whole_from false []) (sym (append-nil (B ++ N)))
      ∙ (closed_by by).whole [] in
      subst (λ (m : ℕ). AreLines l m m effect.Nothing) (sym is)
      (lines_are l (length l) (length l) effect.Nothing (A ++ (B ++ N)) [] [] readied whole (λ some. absurd (some refl))
      no_line)

  -- ---- what waits then

  of_parts : (m : List ℕ) (i j : ℕ) (X Y Z : List ℕ) → Parts m i j X Y Z → waits m i j ≡ pair X Y
  of_parts m i j X Y Z p = let is = are m i j X Y Z p in λ k. pair (is.ready k) (is.batch k)

  cut_waits : waits (take h l) r h ≡ waits l r h
  cut_waits = of_parts (take h l) r h _ _ [] cut

  cut_next : drop h (take h l) ≡ []
  cut_next = (are (take h l) r h _ _ [] cut).next

  held_waits : (n : ℕ) → n ≡ length l → waits l r n ≡ pair A (B ++ N)
  held_waits n is = ap (waits l r) is ∙ of_parts l r (length l) A (B ++ N) [] pending

  ready_waits : (n : ℕ) → n ≡ length l → waits l n n ≡ pair (A ++ (B ++ N)) []
  ready_waits n is =
      ap (λ (m : ℕ). waits l m m) is ∙ of_parts l (length l) (length l) (A ++ (B ++ N)) [] [] readied

  not_empty : (x : List ℕ) → x ≢ [] → is_empty x ≡ false
  not_empty [] some = absurd (some refl)
  not_empty (b ∷ x) some = refl

  as_effect : (k : Effect) → e ≡ k → (x : Waiting) → x ≡ concluded k N (pair A B) → x ≡ concluded e N (pair A B)
  as_effect k is x same = same ∙ ap (λ (f : Effect). concluded f N (pair A B)) (sym is)

  opened_waits : (n : ℕ) → n ≡ length l → (e ≡ effect.Begin) ⊎ ((e ≡ effect.Change) × (r < h)) →
      waits l r n ≡ concluded e (drop h l) (waits l r h)
  opened_waits n len (inl is) = as_effect effect.Begin is _ (held_waits n len)
  opened_waits n len (inr both) =
      as_effect effect.Change both.0 _ (rw (not_empty B (some_batch both.1)) (held_waits n len))

  readied_waits : (n : ℕ) → n ≡ length l → (e ≡ effect.Commit) ⊎ ((e ≡ effect.Change) × (h ≤ r)) →
      waits l n n ≡ concluded e (drop h l) (waits l r h)
  readied_waits n len (inl is) = as_effect effect.Commit is _ (ready_waits n len)
  readied_waits n len (inr both) =
      let none = none_batch both.1 in
      as_effect effect.Change both.0 _
      (ready_waits n len ∙ ap (λ (x : List ℕ). pair (A ++ (x ++ N)) []) none
      ∙ ap (λ (x : List ℕ). if is_empty x then pair (A ++ N) [] else pair A (x ++ N)) (sym none))

  all_fronts : (n : ℕ) → n ≡ length l → (e ≡ effect.Commit) ⊎ ((e ≡ effect.Change) × (h ≤ r)) → (front : List ℕ) →
      IsFront (take n l) front → IsFront (take r l) front ⊎ (front ≡ take n l)
  all_fronts n is by front f =
      let same : take n l ≡ A ++ (B ++ N) =
      ap (λ (m : ℕ). take m l) is ∙ (are l (length l) (length l) _ [] [] readied).ready in
      subst (λ (x : List ℕ). IsFront A front ⊎ (front ≡ x)) (sym same)
      (front_either A (B ++ N) front a.whole (closed_by by) (subst (λ (x : List ℕ). IsFront x front) same f))

  -- ---- after a record

  all_taken : (n : ℕ) → n ≡ length l → take n l ≡ l
  all_taken n is = ap (λ (m : ℕ). take m l) is ∙ take-length l

  -- nothing changes
  pub stays : Ends l (waits l r h) r h
  stays = record { lines = cut_lines; waiting = cut_waits }

  pub unchanged : (e ≡ effect.Nothing) ⊎ (e ≡ effect.Compact) → Ends l (concluded e (drop h l) (waits l r h)) r h
  unchanged (inl is) = record { lines = cut_lines; waiting = as_effect effect.Nothing is _ cut_waits }
  unchanged (inr is) = record { lines = cut_lines; waiting = as_effect effect.Compact is _ cut_waits }

  -- the line that was taken last is another
  pub taken_next : (m : List ℕ) (y : ℕ) → m ≡ take h l → y ≡ h → drop y m ≡ []
  taken_next m y is same = (λ n. drop (same n) (is n)) ∙ cut_next

  pub taken_waits : (line k m : List ℕ) (x y : ℕ) → m ≡ k ++ line → k ≡ take h l → (x ≡ r) × (y ≡ h) →
      waits m x y ≡ waits l r h
  taken_waits line k m x y is cuts same =
      (λ n. waits ((is ∙ ap (λ (z : List ℕ). z ++ line) cuts) n) (same.0 n) (same.1 n))
      ∙ of_parts (take h l ++ line) r h _ _ line (with_line line)

  -- the line waits in the open batch
  pub opens : (n : ℕ) → n ≡ length l → (e ≡ effect.Begin) ⊎ ((e ≡ effect.Change) × (r < h)) →
      Ends l (concluded e (drop h l) (waits l r h)) r n
  opens n is by =
      record {
        lines = subst (λ (x : List ℕ). AreLines x r n effect.Nothing) (sym (all_taken n is)) (held_lines n is by);
        waiting = ap (λ (x : List ℕ). waits x r n) (all_taken n is) ∙ opened_waits n is by;
      }

  -- all lines are ready
  pub closes : (n : ℕ) → n ≡ length l → (e ≡ effect.Commit) ⊎ ((e ≡ effect.Change) × (h ≤ r)) →
      Ends l (concluded e (drop h l) (waits l r h)) n n
  closes n is by =
      record {
        lines = subst (λ (x : List ℕ). AreLines x n n effect.Nothing) (sym (all_taken n is)) (ready_lines n is by);
        waiting = ap (λ (x : List ℕ). waits x n n) (all_taken n is) ∙ readied_waits n is by;
      }

  pub closed_fronts : (n : ℕ) → n ≡ length l → (e ≡ effect.Commit) ⊎ ((e ≡ effect.Change) × (h ≤ r)) → {m : List ℕ} {x : ℕ} →
      m ≡ take n l → x ≡ n → (front : List ℕ) → IsFront (take x m) front → IsFront (take r l) front ⊎ (front ≡ take x m)
  closed_fronts n is by all same =
      subst (λ (p : List ℕ). (front : List ℕ) → IsFront p front → IsFront (take r l) front ⊎ (front ≡ p))
      (sym ((λ k. take (same k) (all k)) ∙ ap (take n) (all_taken n is))) (all_fronts n is by)
