-- Opening a batch, and one more change in an open batch, in terms of the definitions of commands.
use Rattle.olr_register.proofs.Common.{is_reported_first, AreEncodingsIfAny, command_fault_of, list_any-append, flat_map-append}
use Rattle.olr_register.proofs.Common.{nodes_of_change, lines_of_change, DistanceBounds, content_under, all_node_puts, append-nil}
use Rattle.olr_register.proofs.Common.{all_line_puts, RegisterState, append_assoc, takes_memory, CommandFault, follows_self, Bool}
use Rattle.olr_register.proofs.Common.{IsStateRight, content_with, with_change, under_batch, HoldsChange, Differences, map_before}
use Rattle.olr_register.proofs.Common.{length_push, log_changes, content_on, changed_of, named_held, AreTouched, IsRegister, true}
use Rattle.olr_register.proofs.Common.{Batch_full, into_batch, after_push, CanMakeAll, entries_of, all_nodes, MayReport, may_want}
use Rattle.olr_register.proofs.Common.{ByContent, IsContent, HasBounds, all_named, IsRenewal, IsRefusal, IsBatchOf, reply_of, ◌≡◌}
use Rattle.olr_register.proofs.Common.{batch_of, Answered, AreGiven, nodes_of, lines_of, flat_map, made_all, RoadMap, Content, []}
use Rattle.olr_register.proofs.Common.{held_of, ByState, Follows, next_ok, room_of, Renewed, Outcome, length, Result, nat_le, suc}
use Rattle.olr_register.proofs.Common.{map_of, Change, Margin, Begins, IsHeld, eq-eqb, Commit, arith, false, subst, Named, Fault}
use Rattle.olr_register.proofs.Common.{after, Reply, Lacks, Begin, Batch, List, ◌++◌, Some, refl, ◌==◌, ◌&&◌, Work, full, when, ℕ}
use Rattle.olr_register.proofs.Common.{Make, step, Item, None, next, ◌∷◌, map, Err, sym, ◌∙◌, has, Ok, ap}
use Rattle.olr_register.proofs.Listed.{named_twice, given_at_first}
use Rattle.olr_register.proofs.Outcomes.{answered_uncounted, answered_refused, Keeps}
use Rattle.olr_register.proofs.States.{state, register_of, of_parts, in_states, register_moved}
use Rattle.olr_register.proofs.Touched.{touched_idle}
use Rattle.olr_register.proofs.Renewed.{encoded_if_any}
use Rattle.olr_commands.specs.Reply as replies
use Rattle.olr_register.proofs.Renewed.{reencoded_encoded}
use Rattle.olr_register.proofs.Replies.{planned_changes}

-- ---- the held changes, with one more

nodes_push : (c : Content) (xs : List Change) (x : Change) →
    all_nodes c (xs ++ x ∷ []) ≡ all_nodes c xs ++ nodes_of_change (after c xs).map x
nodes_push c [] x = append-nil (nodes_of_change c.map x)
nodes_push c (y ∷ xs) x = grind (arith, nodes_push (next c y) xs x, append_assoc)

flat_push : {A : Type 0} (f : Change → List A) (xs : List Change) (x : Change) →
    flat_map f (xs ++ x ∷ []) ≡ flat_map f xs ++ f x
flat_push f xs x = rw (flat_map-append f xs (x ∷ []), append-nil (f x))

-- ---- the step

pub held_content : (c : Content) (roads : RoadMap) (is : List Item) (b : Batch) (xs : List Change) →
    IsBatchOf c (batch_of roads is b) xs → after c xs ≡ content_under roads is b
held_content c roads is b xs i =
    sym i.content ∙ ap (λ (ps : List Named). record { map = map_of roads; paths = ps; margin = b.margin })
    (named_twice (under_batch is b))

-- a commit of the right count
pub right_count : (c : Content) (b : Outcome) (xs : List Change) {n : ℕ} → IsBatchOf c b xs → b.count ≡ n →
    step (state c (Some xs)) (Commit n) ≡ Ok (state (after c xs) None)
right_count c b xs {n} i right = rw (eq-eqb (length xs) n (sym i.count ∙ right))

-- a renewal of the list under the changes
module _ (roads : RoadMap) (is : List Item) (b : Batch) (js : List Item) (n : Renewed)
    (e : IsRenewal b.margin (map_of roads) b.touched is (under_batch is b) js n) where
  pub renewed_content : (c : Content) (xs : List Change) → IsBatchOf c (batch_of roads is b) xs →
      after c xs ≡ content_on b.margin (map_of roads) js
  renewed_content c xs i =
      held_content c roads is b xs i
      ∙ ap (λ (ps : List Named). record { map = map_of roads; paths = ps; margin = b.margin }) (sym e.named)

  pub renewed_reply : (g : Margin) → IsRegister g roads is (Some b) →
      Differences (content_on g (map_before roads b.log) is) (content_on b.margin (map_of roads) js) (entries_of n)
  renewed_reply g h =
      planned_changes g b.margin (map_before roads b.log) (map_of roads) is js (entries_of n) h.content h.encoded
      (reencoded_encoded b.margin (map_of roads) (under_batch is b) js e.reencoded) e.reported

held_when : (c : Content) (ys : List Change) (b : Bool) (f : Fault) (r : Result Content Fault) →
    when b f (into_batch c ys r) ≡ into_batch c ys (when b f r)
held_when c ys b f r = grind arith

step_given : (c : Content) (old : RoadMap) (is : List Item) (b : Batch) (xs : List Change) (x : Change) →
    IsBatchOf c (batch_of old is b) xs →
    step (state c (Some xs)) (Make x) ≡ into_batch c (xs ++ x ∷ []) (content_with old is b x)
step_given c old is b xs x i =
    rw (← i.count, held_content c old is b xs i)
    (held_when c (xs ++ x ∷ []) (nat_le full b.count) Batch_full (with_change (content_under old is b) x))

may_by : (c : Content) (ys : List Change) (r : Result Content Fault) →
    ((g : Fault) → r ≡ Err g → is_reported_first g ≡ false) → may_want (into_batch c ys r) ≡ true
may_by c ys r first = grind (arith, first)

-- what is held takes memory
held_takes : (x : Change) (xs : List Change) (bare : Bool) → takes_memory (Make x) (Some xs) bare ≡ true
held_takes x xs bare = grind arith

module _ (c : Content) (old new : RoadMap) (is : List Item) (b d : Batch) (x : Change) where
  one_more : (r : Reply) (xs : List Change) → IsBatchOf c (batch_of old is b) xs →
      HoldsChange old new is b d x (Ok r) → IsBatchOf c (batch_of new is d) (xs ++ x ∷ [])
  one_more r xs i h =
      let content = held_content c old is b xs i in
      let there : with_change (after c xs) x ≡ Ok (content_under new is d) =
      ap (λ (e : Content). with_change e x) content ∙ h.made.content in
      let len = length_push xs x in
      let before = i.count in
      let later = h.count in
      record {
        content = rw (after_push c xs x, next_ok (after c xs) (content_under new is d) x there, named_twice (under_batch is d)) refl;
        count = omega arith;
        nodes = λ v. rw (h.made.nodes v, i.nodes v, nodes_push c xs x, content, list_any-append) refl;
        lines = λ y. rw (h.made.lines y, i.lines y, flat_push lines_of_change xs x, list_any-append) refl;
        given = h.made.given xs i.given;
      }

  -- ---- the answer

  is_refusal : (f : Fault) → MayReport (content_with old is b x) f → (xs : List Change) →
      IsBatchOf c (batch_of old is b) xs → IsRefusal (state c (Some xs)) (Make x) f
  is_refusal f (ByContent e) xs i = replies.ByState (step_given c old is b xs x i ∙ ap (into_batch c (xs ++ x ∷ [])) e)
  is_refusal f (Lacks e first) xs i =
      let may = ap may_want (step_given c old is b xs x i) ∙ may_by c (xs ++ x ∷ []) (content_with old is b x) first in
      replies.Lacks e (λ j. held_takes x xs (length c.paths == 0) j && may j)

  pub answered_held : (w : Work) (r : Result Reply CommandFault) → HoldsChange old new is b d x r →
      Answered (register_of c (Some (batch_of old is b)) w) (Make x) r (register_of c (Some (batch_of new is d)) w)
  answered_held w (Ok r) h =
      let taken : content_with old is b x ≡ Ok (content_under new is d) = rw h.room h.made.content in
      let later : RegisterState = record { content = c; batch = Some (batch_of new is d) } in
      answered_uncounted (register_of c (Some (batch_of old is b)) w) later (Make x) r
      (in_states (record { content = c; batch = Some (batch_of old is b) }) (Keeps later (Make x) r) (λ xs i. (
        refl,
        (
          state c (Some (xs ++ x ∷ [])),
          (refl, one_more r xs i h),
          (
            step_given c old is b xs x i ∙ ap (into_batch c (xs ++ x ∷ [])) taken,
            h.reply ∙ ap (λ (k : ℕ). replies.Held k) (h.count ∙ ap suc i.count),
          ),
        ),
      )))
  answered_held w (Err f) h =
      answered_refused (register_of c (Some (batch_of old is b)) w) (register_of c (Some (batch_of new is d)) w)
      (Make x) (Err f) f (ap (λ e. register_of c (Some e) w) h.unchanged) refl
      (is_refusal (command_fault_of f) h.refused)

-- ---- begin

-- a batch without changes
pub record IsEmpty (g : Margin) (b : Batch) : Type 0 where
  pub log : log_changes b.log ≡ []
  pub paths : (js : List Item) → under_batch js b ≡ js
  pub margin : b.margin ≡ g
  pub count : b.count ≡ 0
  pub nodes : nodes_of b.touched ≡ []
  pub lines : lines_of b.touched ≡ []
  pub changed : changed_of b.touched ≡ []

module _ (g : Margin) (roads : RoadMap) (is : List Item) (b : Batch) (bounds : DistanceBounds)
    (h : IsStateRight g roads is None bounds) (e : IsEmpty g b) where
  same_before : map_before roads b.log ≡ map_of roads
  same_before = ap (made_all (map_of roads)) e.log

  begun : IsHeld roads is b
  begun = record {
    undo = (
      subst (CanMakeAll (map_of roads) (room_of roads)) (sym e.log) tt,
      let nodes : b.log.nodes ≡ 0 = b.log.nodes_counted ∙ ap all_node_puts e.log in
          let lines : b.log.lines ≡ 0 = b.log.lines_counted ∙ ap all_line_puts e.log in
          record { nodes = omega arith; lines = omega arith },
    );
    sound = coe 0 1 (i. IsContent (content_on (sym e.margin i) (map_of roads) (sym (e.paths is) i))) h.register.content;
    edits =
        coe 0 1 (i. AreTouched (sym same_before i) (map_of roads) (sym e.nodes i) (sym e.lines i)
        (sym e.changed i)) (touched_idle (map_of roads) [] [] [] refl);
    encoded =
        coe 0 1 (i. AreEncodingsIfAny (sym e.margin i) (sym same_before i) (sym (e.paths is) i))
        (encoded_if_any g (map_of roads) is h.register.encoded);
    follows = subst (Follows is) (sym (e.paths is)) (follows_self is h.register.content.names);
    begins = λ v on. subst (λ (ks : List Item). Begins ks v) (e.paths is) on;
  }

  pub begun_held : IsStateRight g roads is (Some b) bounds
  begun_held = record {
    register = register_moved g roads roads is None (Some b) same_before begun (λ off. e.margin) h.register;
    bounded = subst (λ (T : List ℕ). HasBounds roads T is bounds) (sym e.nodes) h.bounded;
  }

  empty_batch : IsBatchOf (content_on g (map_of roads) is) (batch_of roads is b) []
  empty_batch = record {
    content =
        let paths : map named_held (map held_of (under_batch is b)) ≡ all_named is =
        ap (λ (ks : List Item). map named_held (map held_of ks)) (e.paths is) ∙ named_twice is in
        λ i. record { map = map_of roads; paths = paths i; margin = e.margin i };
    count = e.count;
    nodes = λ v. ap (λ (vs : List ℕ). has vs v) e.nodes;
    lines = λ y. ap (λ (ys : List ℕ). has ys y) e.lines;
    given =
        subst (λ (ks : List Item). AreGiven [] (map held_of ks)) (sym (e.paths is))
        (given_at_first g (map_of roads) is h.register.encoded);
  }

  pub begin_done : (w : Work) (r : Reply) → reply_of r ≡ replies.Paths [] →
      Answered (of_parts g roads is None w) Begin (Ok r) (of_parts g roads is (Some b) w)
  begin_done w r empty =
      let c : Content = content_on g (map_of roads) is in
      let later : RegisterState = record { content = c; batch = Some (batch_of roads is b) } in
      rw same_before (answered_uncounted (register_of c None w) later Begin r
      (in_states (record { content = c; batch = None }) (Keeps later Begin r)
      (refl, (state c (Some []), (refl, empty_batch), (refl, empty)))))
