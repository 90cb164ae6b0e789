-- Changes that are made at once, with no batch open.
use Rattle.olr_register.proofs.Common.{command_fault_of, DistanceBounds, touched_nodes, touched_lines, takes_memory, CommandFault}
use Rattle.olr_register.proofs.Common.{changes_keep, AreEncodings, follows_self, IsStateRight, with_change, Differences, IsErrAnd}
use Rattle.olr_register.proofs.Common.{IsTouchedBy, begins_drop, raised_work, paths_raise, changed_of, Registered, content_on, []}
use Rattle.olr_register.proofs.Common.{append-nil, Set_margin, option_map, CanRenewTo, entries_of, length-map, same_name, IsFalse}
use Rattle.olr_register.proofs.Common.{Drop_path, HasCoords, all_named, IsRenewal, ChangeSet, HasBounds, MayReport, ByContent, Ok}
use Rattle.olr_register.proofs.Common.{is_margin, IsRefusal, HasCoord, Add_path, Set_path, may_want, reply_of, nodes_of, lines_of}
use Rattle.olr_register.proofs.Common.{has_name, state_of, Answered, to_renew, batch_of, named_of, is_path, RoadMap, ap}
use Rattle.olr_register.proofs.Common.{Content, at_once, Affects, By_name, By_node, By_line, encodes, Renewed, IsState, IsPaths}
use Rattle.olr_register.proofs.Common.{CountIs, filter, length, Result, edited, map_of, Change, On_map, Margin, IsTrue, Inside, ℕ}
use Rattle.olr_register.proofs.Common.{false, Named, Fault, Reply, arith, items, Lacks, true, List, Some, None, refl, ◌==◌, ◌&&◌}
use Rattle.olr_register.proofs.Common.{Edit, Path, Work, Make, Item, ◌≡◌, ◌≢◌, not, ◌∷◌, Err, sym, ◌∙◌, Map, IsOk, No_memory, ne_eqb}
use Rattle.std.proofs.lemmas.List.{nil_from_length}
use Rattle.olr_renewal.specs.Encoded.{IsAdded, IsSet}
use Rattle.olr_register.proofs.Changing.{add_ok, set_ok, drop_ok, edit_lacks}
use Rattle.olr_register.proofs.Counting.{Rise, counted_all, counted_changes, none_affected, rise_none, rise_on}
use Rattle.olr_register.proofs.Listed.{given_all, given_none, given_at_first, each_left, each_add, each_set, each_encoded}
use Rattle.olr_register.proofs.Listed.{follows_untold, named_to_renew}
use Rattle.olr_register.proofs.Common.{IsAffected, Reported, has}
use Rattle.olr_renewal.specs.Reencoded.{AreLeft}
use Rattle.olr_register.proofs.Touched.{begins_none, can_edit, can_set}
use Rattle.olr_register.proofs.Outcomes.{answered_counted, answered_refused, Accepts}
use Rattle.olr_register.proofs.Renewed.{reencoded_encoded}
use Rattle.olr_register.proofs.Replies.{planned_changes, reported_add, reported_set, reported_drop}
use Rattle.olr_register.proofs.States.{state, of_parts, register_moved, in_states, right_as}
use Rattle.olr_commands.specs.Reply as replies

-- ---- the outcomes of a change

may_want_once : (r : Result Content Fault) → ((g : Fault) → r ≡ Err g → IsFalse (replies.is_reported_first g)) →
    may_want (at_once r) ≡ true
may_want_once r first = grind (arith, first)

-- a dropped path raises no count
drop_affects : (c : Content) (name : List ℕ) (p : Named) → ¬ Affects c (Drop_path name ∷ []) p
drop_affects c name p (By_name h) = absurd cc
drop_affects c name p (By_node v h f) = absurd cc
drop_affects c name p (By_line x h f) = absurd cc

-- a register with no batch open
module _ (r : Inside) {x : Registered} (view : of_parts r.margin r.roads (items r.paths) r.batch r.work ≡ x)
    (none : x.state.batch ≡ None) where
  abbrev M : Map
  M = map_of r.roads

  abbrev is : List Item
  is = items r.paths

  abbrev g : Margin
  g = r.margin

  abbrev c : Content
  c = content_on g M is

  shut : r.batch ≡ None
  shut =
      let closed : option_map (batch_of r.roads is) r.batch ≡ None = ap (λ (y : Registered). y.state.batch) view ∙ none in
      grind (arith, closed)

  pub no_path : length x.state.content.paths ≡ 0 → is ≡ []
  no_path bare =
      nil_from_length is (sym (length-map is named_of) ∙ ap (λ (y : Registered). length y.state.content.paths) view ∙ bare)

  -- with another map that is the same
  pub same_map : (later : RoadMap) → map_of later ≡ M → of_parts g later is r.batch r.work ≡ x
  same_map later map = rw (← view, shut, map) refl

  pub refused_now : {y : Change} {new : Registered} {q : Result Reply CommandFault} (f : CommandFault) → new ≡ x →
      IsErrAnd q (λ g. g ≡ f) → IsRefusal (state c None) (Make y) (command_fault_of f) → Answered x (Make y) q new
  refused_now {y} {new} {q} f same failed why = answered_refused x new (Make y) q f same failed (rw (← view, shut) why)

  -- the fault is the first, or out of memory where none takes precedence
  pub may_refuse_now : {y : Change} {new : Registered} {q : Result Reply CommandFault} (f : CommandFault) → new ≡ x →
      IsErrAnd q (λ g. g ≡ f) → takes_memory (Make y) None (length x.state.content.paths == 0) ≡ true →
      MayReport (with_change c y) (command_fault_of f) → Answered x (Make y) q new
  may_refuse_now {y = y} f same failed takes may = refused_now f same failed (by may) where
    by : MayReport (with_change c y) (command_fault_of f) → IsRefusal (state c None) (Make y) (command_fault_of f)
    by (ByContent is) = replies.ByState (ap at_once is)
    by (Lacks is first) =
        let now = rw (← view) at takes in replies.Lacks is (λ i. now i && may_want_once (with_change c y) first i)

  -- out of memory for an edit that the map accepts, where there are paths
  pub edit_lacks_now : {e : Edit} {new : Registered} {q : Result Reply CommandFault} → length x.state.content.paths ≢ 0 →
      IsOk (edited M e) → new ≡ x → IsErrAnd q (λ g. g ≡ No_memory) → Answered x (Make (On_map e)) q new
  edit_lacks_now {e} some accepted same failed =
      may_refuse_now No_memory same failed (rw (ne_eqb (length x.state.content.paths) 0 some)) (edit_lacks c (edited M e) accepted)

  -- the change is made: it leads to this list on the later map, es is reported, and the work is v
  pub record IsMadeNow (k : Margin) (y : Change) (later : RoadMap) (js : List Item) (es : List replies.Entry) (v : Work) :
      Type 0 where
    pub ok : with_change c y ≡ Ok (content_on k (map_of later) js)
    pub placed : HasCoords (Make y)
    pub encoded : AreEncodings k (map_of later) js
    pub differ : Differences c (content_on k (map_of later) js) es
    pub many : ℕ
    pub raised : CountIs (Affects c (y ∷ [])) (all_named js) many
    pub rise : Rise r.work v many
    pub same : IsFalse (encodes false (Make y)) → v ≡ r.work

  pub done_now : {k : Margin} {y : Change} {later : RoadMap} {js : List Item} {es : List replies.Entry} {v : Work} {q : Reply} →
      IsMadeNow k y later js es v → reply_of q ≡ replies.Paths es → Answered x (Make y) (Ok q) (of_parts k later js r.batch v)
  done_now {k} {y} {later} {js} {es} {v} {q} e says =
      let new : Registered = of_parts k later js None v in
      let reply : IsPaths (reply_of q) (Differences c (content_on k (map_of later) js)) = rw says e.differ in
      rw (← view, shut) (answered_counted (of_parts g r.roads is None r.work) new (Make y) q e.many
      (in_states (state_of g r.roads is None) (Accepts new (Make y) q e.many)
      ((state (content_on k (map_of later) js) None, (refl, tt), (ap at_once e.ok, reply)), e.raised))
      e.rise e.same)

  module _ (h : IsStateRight g r.roads is r.batch r.searches.bounds) where
    pub right : IsStateRight g r.roads is None r.searches.bounds
    right = right_as r shut h

    pub bounds_right : HasBounds r.roads [] is r.searches.bounds
    bounds_right = right.bounded

    -- where nothing changes but the bounds
    pub same_right : {later : RoadMap} {js : List Item} {f : DistanceBounds} → map_of later ≡ M → js ≡ is →
        HasBounds later [] js f → IsStateRight g later js r.batch f
    same_right {later} map list bounded =
        rw shut (record {
          register = rw list (register_moved g r.roads later is None None map tt tt right.register);
          bounded = bounded;
        })

    pub right_now : {k : Margin} {y : Change} {later : RoadMap} {js : List Item} {es : List replies.Entry} {v : Work}
        {f : DistanceBounds} → IsMadeNow k y later js es v → HasBounds later [] js f → IsStateRight k later js r.batch f
    right_now {k} {y} {later} {js} e bounded = rw shut (record {
      register = record {
        content = changes_keep c (content_on k (map_of later) js) y right.register.content e.placed e.ok;
        encoded = e.encoded;
        held = tt;
        margin = tt;
      };
      bounded = bounded;
    })

    -- ---- edits

    module _ (e : Edit) (later : RoadMap) (done : edited M e ≡ Ok (map_of later)) (placed : HasCoord e) where
      pub bare_made : is ≡ [] → IsMadeNow g (On_map e) later is [] r.work
      bare_made bare = record {
        ok = rw done refl;
        placed = placed;
        encoded = rw bare tt;
        differ = rw bare refl;
        many = 0;
        raised = rw bare refl;
        rise = rise_none r.work;
        same = λ off. let no : true ≡ false = off in absurd cc;
      }

      -- the paths on the later map, of which those that the edit affects are counted
      edit_made : (T X : List ℕ) → ((v : ℕ) → has T v ≡ has (touched_nodes M e) v) →
          ((y : ℕ) → has X y ≡ has (touched_lines e) y) → {js : List Item} → AreEncodings g (map_of later) js →
          all_named js ≡ all_named is → {es : List replies.Entry} → Reported is js es →
          {n : ℕ} → CountIs (IsAffected g M T X) is n → {v : Work} → Rise r.work v n → IsMadeNow g (On_map e) later js es v
      edit_made T X nodes lines {js} encoded named {es} reported {n} count rise = record {
        ok = rw (done, named) refl;
        placed = placed;
        encoded = encoded;
        differ = planned_changes g g M (map_of later) is js es right.register.content right.register.encoded encoded reported;
        many = n;
        raised = rw named (counted_changes c (On_map e ∷ []) T X (λ v. rw (append-nil (touched_nodes M e)) (nodes v))
            (λ y. rw (append-nil (touched_lines e)) (lines y)) is n count
            (given_none [] (On_map e) is (λ q. refl) (given_at_first g M is right.register.encoded)));
        rise = rise;
        same = λ off. let no : true ≡ false = off in absurd cc;
      }

      pub renewed_made : {t : ChangeSet} → IsTouchedBy M e t → {js : List Item} {n : Renewed} →
          IsRenewal g (map_of later) t is is js n →
          IsMadeNow g (On_map e) later js (entries_of n) (raised_work r.work n.work)
      renewed_made {t} touched {js} {n} renewal =
          let count = renewal.counted M (can_edit right e t touched (map_of later) done).before in
          edit_made (nodes_of t) (lines_of t) touched.nodes touched.lines (reencoded_encoded g (map_of later) is js renewal.reencoded) renewal.named
          renewal.reported count.1 (rise_on r.work n.work count.0 count.2)

      pub left_made : (T X : List ℕ) → ((v : ℕ) → has T v ≡ has (touched_nodes M e) v) →
          ((y : ℕ) → has X y ≡ has (touched_lines e) y) → AreLeft g M (map_of later) T X is →
          IsMadeNow g (On_map e) later is [] r.work
      left_made T X nodes lines left =
          edit_made T X nodes lines left.0 refl
          (follows_untold g (map_of later) is is left.0 (follows_self is right.register.content.names)) left.1
          (rise_none r.work)

    -- ---- the margin

    pub margin_requires : (later_g : Margin) → IsTrue (is_margin later_g) → (t : ChangeSet) → nodes_of t ≡ [] →
        changed_of t ≡ [] → CanRenewTo later_g r.roads t r.searches.bounds is (to_renew true is)
    margin_requires later_g most t nodes idle = record {
      renewable = (M, can_set g later_g most M is t idle right.register.content);
      bounded = record {
        under_way = rw nodes right.bounded.under_way;
        sources = λ v on. absurd (begins_none is v on);
      };
    }

    pub margin_made : {k : Margin} → IsTrue (is_margin k) → {t : ChangeSet} → changed_of t ≡ [] →
        {js : List Item} {n : Renewed} → IsRenewal k M t is (to_renew true is) js n →
        IsMadeNow k (Set_margin k) r.roads js (entries_of n) (raised_work r.work n.work)
    margin_made {k} most {t} idle {js} {n} renewal =
        let count = renewal.counted M (can_set g k most M is t idle right.register.content).before in
        let encoded = reencoded_encoded k M (to_renew true is) js renewal.reencoded in
        record {
          ok = rw (renewal.named, named_to_renew true is) refl;
          placed = most;
          encoded = encoded;
          differ = planned_changes g k M M is js (entries_of n) right.register.content right.register.encoded encoded
              renewal.reported;
          many = count.0;
          raised = rw renewal.named (counted_all k M (nodes_of t) (lines_of t) c (Set_margin k ∷ []) is count.0 count.1
              (given_all k [] is));
          rise = rise_on r.work n.work count.0 count.2;
          same = λ off. let no : true ≡ false = off in absurd cc;
        }

    -- ---- paths

    module _ (name : List ℕ) {js : List Item} (list : js ≡ filter (λ i. not (same_name i.name name)) is) where
      pub drop_bounded : HasBounds r.roads [] js r.searches.bounds
      drop_bounded = rw list (record {
        under_way = right.bounded.under_way;
        sources = λ v on. right.bounded.sources v (begins_drop (λ i. not (same_name i.name name)) is v on);
      })

      pub drop_made : has_name is name ≡ true → IsMadeNow g (Drop_path name) r.roads js [] r.work
      drop_made there = rw list (record {
        ok = drop_ok g M is name there;
        placed = tt;
        encoded = each_left (each_encoded g M) (λ i. not (same_name i.name name)) is right.register.encoded;
        differ = reported_drop g M is right.register.content right.register.encoded name;
        many = 0;
        raised = none_affected c (Drop_path name ∷ []) (drop_affects c name)
            (all_named (filter (λ i. not (same_name i.name name)) is));
        rise = rise_none r.work;
        same = λ off. refl;
      })

    before : IsState (state c None)
    before = record { content = right.register.content; batch = tt }

    -- a path that is added or set is encoded, and no other
    module _ {name : List ℕ} {path : Path} {js : List Item} {n : Renewed} where
      pub adds : IsAdded g M is js name path n → has_name is name ≡ false → is_path path.lines ≡ true →
          IsMadeNow g (Add_path name path) r.roads js (entries_of n) (raised_work r.work n.work)
      adds e free good =
          let ok = add_ok g M is name path (Some e.results) free good in rw e.list (record {
            ok = ok;
            placed = tt;
            encoded = each_add (each_encoded g M) is _ (e.results, refl, e.right) right.register.encoded;
            differ = reported_add g M is right.register.content right.register.encoded name free e.right e.entries;
            many = 1;
            raised = (paths_raise (state c None) _ name path before refl).0 (ap at_once ok);
            rise = rise_on r.work n.work 1 (omega (arith, e.counted));
            same = λ off. let no : true ≡ false = off in absurd cc;
          })

      pub sets : IsSet g M is js name path n → has_name is name ≡ true → is_path path.lines ≡ true →
          IsMadeNow g (Set_path name path) r.roads js (entries_of n) (raised_work r.work n.work)
      sets e there good =
          let ok = set_ok g M is name path (Some e.results) there good in rw e.list (record {
            ok = ok;
            placed = tt;
            encoded = each_set (each_encoded g M) (each_encoded g M) name path (Some e.results) (λ i p. (e.results, refl, e.right))
                (λ i k p. p) is right.register.encoded;
            differ = reported_set g M is right.register.content right.register.encoded name there e.right e.entries;
            many = 1;
            raised = (paths_raise (state c None) _ name path before refl).1 (ap at_once ok);
            rise = rise_on r.work n.work 1 (omega (arith, e.counted));
            same = λ off. let no : true ≡ false = off in absurd cc;
          })
