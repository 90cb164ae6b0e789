-- What a change makes of an open batch, by the changed part.
use Rattle.olr_register.proofs.Common.{◌≡◌, changes_of, map_before, changed_of, content_on, under_batch, Set_margin, KeepsSlots}
use Rattle.olr_register.proofs.Common.{ℕ, List, ◌++◌, refl, subst, Begins, Margin, IsHeld, Result, IsTrue, IsMade, Makes, Batch}
use Rattle.olr_register.proofs.Common.{[], with_change, changes_keep, content_under, AreTouched, StaysUnderWay, edit_differs}
use Rattle.olr_register.proofs.Common.{map, Err, sym, ap, ◌∙◌, ◌||◌, Map, Edit, has, Make, Item, ◌∷◌, true}
use Rattle.olr_register.proofs.Common.{Ok, edited, map_of, RoadMap, Change, On_map, Follows, held_of, slot_of, Overlay, or_left}
use Rattle.olr_register.proofs.Common.{or-false, IsContent, HasCoords, ChangeSet, is_margin, MayReport, IsUnderWay, CanUndoAll}
use Rattle.olr_register.proofs.Common.{touched_nodes, touched_lines, CoverageQuery, CommandFault, under_overlay, edit_under_way}
use Rattle.olr_register.proofs.Common.{HasCoord, with_map, nodes_of, lines_of, to_renew, AreGiven, IsErrAnd, or_right, IsHeldAs}
use Rattle.olr_register.proofs.Common.{nodes_of_change, lines_of_change, command_fault_of, AreEncodingsIfAny, follows_without}
use Rattle.olr_map.specs.declared.undo.UndoLog.{UndoLog}
use Rattle.olr_register.proofs.Bounded.{is_edit}
use Rattle.olr_register.proofs.Touched.{begins_none, touched_more, without_if_any}
use Rattle.olr_register.proofs.Listed.{given_all, given_none, named_to_renew}

-- a change that is not made leaves the batch as it was
pub without_answer : {old new : RoadMap} {is : List Item} {b : Batch} {log : UndoLog} {l : Overlay} {t : ChangeSet} {x : Change}
    {r : Result (Unit {0}) CommandFault} (f : CommandFault) → IsErrAnd r (λ g. g ≡ f) →
    (IsHeld old is b → CanUndoAll new log) → map_before new log ≡ map_before old b.log → map_of new ≡ map_of old →
    to_renew b.all (under_overlay is l) ≡ under_batch is b → nodes_of t ≡ nodes_of b.touched →
    lines_of t ≡ lines_of b.touched → changed_of t ≡ changed_of b.touched →
    StaysUnderWay old new b b → MayReport (with_change (content_under old is b) x) (command_fault_of f) →
    Makes old new is b (record b { log = log; overlay = l; touched = t }) x r
without_answer {r = Ok u} f failed undo before same list nodes lines changed stays may = absurd failed
without_answer {new = new} {is = is} {b = b} {r = Err g} f failed undo before same list nodes lines changed stays may = record {
  count = refl;
  before = before;
  made = tt;
  refused = rw failed may;
  unchanged = λ i. record {
    map = same i;
    paths = map held_of (list i);
    margin = b.margin;
    count = b.count;
    nodes = nodes i;
    lines = lines i;
  };
  held = λ h. record {
    undo = undo h;
    sound = coe 0 1 (i. IsContent (content_on b.margin (sym same i) (sym list i))) h.sound;
    edits = coe 0 1 (i. AreTouched (sym before i) (sym same i) (sym nodes i) (sym lines i) (sym changed i)) h.edits;
    encoded = coe 0 1 (i. AreEncodingsIfAny b.margin (sym before i) (sym list i)) h.encoded;
    follows = subst (Follows is) (sym list) h.follows;
    begins = λ v on. h.begins v (subst (λ (ks : List Item). Begins ks v) list on);
  };
  margin = λ g k. k;
  under_way = λ f h. subst (λ (T : List ℕ). IsUnderWay (map_of new) (slot_of new) T f) (sym nodes) (stays f h);
}

-- ---- a change of a path, which makes another overlay

pub path_unmade : {roads : RoadMap} {is : List Item} {b : Batch} {l : Overlay} {x : Change} {r : Result (Unit {0}) CommandFault}
    (f : CommandFault) → IsErrAnd r (λ g. g ≡ f) → to_renew b.all (under_overlay is l) ≡ under_batch is b →
    MayReport (with_change (content_under roads is b) x) (command_fault_of f) → Makes roads roads is b (record b { overlay = l }) x r
path_unmade f failed same may = without_answer f failed (λ h. h.undo) refl refl same refl refl refl (λ f h. h) may

module _ (roads : RoadMap) (is : List Item) (b : Batch) (l : Overlay) (x : Change) where
  pub path_made : (ls : List Item) → to_renew b.all (under_overlay is l) ≡ ls →
      with_change (content_under roads is b) x ≡ Ok (content_on b.margin (map_of roads) ls) → HasCoords (Make x) →
      nodes_of_change (map_of roads) x ≡ [] → lines_of_change x ≡ [] →
      ((xs : List Change) → AreGiven xs (map held_of (under_batch is b)) → AreGiven (xs ++ x ∷ []) (map held_of ls)) →
      ((M : Map) → AreEncodingsIfAny b.margin M (under_batch is b) → AreEncodingsIfAny b.margin M ls) →
      (Follows is (under_batch is b) → Follows is ls) →
      ((v : CoverageQuery) → Begins ls v → Begins (under_batch is b) v) →
      Makes roads roads is b (record b { overlay = l }) x (Ok tt)
  path_made ls same ok placed nodes lines given encoded follows begins = record {
    count = refl;
    before = refl;
    made = subst (λ (js : List Item). IsMade b.margin b.margin roads roads (under_batch is b) js b.touched b.touched x)
        (sym same)
        (record {
          content = ok;
          nodes = λ v. sym (ap (λ (vs : List ℕ). has (nodes_of b.touched) v || has vs v) nodes ∙ or-false _);
          lines = λ y. sym (ap (λ (ys : List ℕ). has (lines_of b.touched) y || has ys y) lines ∙ or-false _);
          given = given;
        });
    refused = tt;
    unchanged = tt;
    held = λ h. subst (λ (js : List Item). IsHeldAs b.margin roads is js b.log b.touched) (sym same) (record {
      undo = h.undo;
      sound = changes_keep (content_under roads is b) (content_on b.margin (map_of roads) ls) x h.sound placed ok;
      edits = h.edits;
      encoded = encoded (map_before roads b.log) h.encoded;
      follows = follows h.follows;
      begins = λ v on. h.begins v (begins v on);
    });
    margin = λ g k. k;
    under_way = λ f h. h;
  }

-- ---- an edit

module _ (old new : RoadMap) (is : List Item) (b : Batch) (log : UndoLog) (t : ChangeSet) (e : Edit)
    (undo : CanUndoAll new log) (same_before : map_before new log ≡ map_before old b.log) where
  abbrev edited_batch : Batch
  edited_batch = record b { log = log; touched = t }

  pub edit_made : edited (map_of old) e ≡ Ok (map_of new) → KeepsSlots old new → HasCoord e →
      ((v : ℕ) → has (nodes_of t) v ≡ (has (nodes_of b.touched) v || has (touched_nodes (map_of old) e) v)) →
      ((y : ℕ) → has (lines_of t) y ≡ (has (lines_of b.touched) y || has (touched_lines e) y)) →
      changed_of t ≡ changed_of b.touched ++ changes_of (map_of old) e →
      Makes old new is b edited_batch (On_map e) (Ok tt)
  edit_made done slots placed nodes lines changed =
      let content : with_change (content_under old is b) (On_map e)
      ≡ Ok (content_on b.margin (map_of new) (under_batch is b)) = ap (with_map (content_under old is b)) done in
      record {
        count = refl;
        before = same_before;
        made = record {
          content = content;
          nodes = nodes;
          lines = lines;
          given = λ xs g. given_none xs (On_map e) (under_batch is b) (λ q. refl) g;
        };
        refused = tt;
        unchanged = tt;
        held = λ h. record {
          undo = undo;
          sound = changes_keep (content_under old is b) (content_on b.margin (map_of new) (under_batch is b))
              (On_map e) h.sound placed content;
          edits =
              subst (λ (M : Map). AreTouched M (map_of new) (nodes_of t) (lines_of t) (changed_of t))
              (sym same_before) (touched_more (map_before old b.log) (map_of old) (map_of new) e (nodes_of b.touched)
              (lines_of b.touched) (nodes_of t) (lines_of t) (changed_of b.touched) (changed_of t) h.edits done
              nodes lines changed);
          encoded = subst (λ (M : Map). AreEncodingsIfAny b.margin M (under_batch is b)) (sym same_before) h.encoded;
          follows = h.follows;
          begins = h.begins;
        };
        margin = λ g k. k;
        under_way = λ f. edit_under_way (map_of old) (map_of new) (slot_of old) (slot_of new) (touched_nodes (map_of old) e) f
            (is_edit old new slots e done (touched_nodes (map_of old) e) (edit_differs (map_of old) (map_of new) e done).nodes)
            (nodes_of b.touched) (nodes_of t)
            (λ v on. nodes v ∙ or_left (has (nodes_of b.touched) v) (has (touched_nodes (map_of old) e) v) on)
            (λ v on. nodes v ∙ or_right (has (nodes_of b.touched) v) (has (touched_nodes (map_of old) e) v) on);
      }

-- ---- the margin

pub margin_made : (g : Margin) → IsTrue (is_margin g) → (roads : RoadMap) (is : List Item) (b : Batch) →
    Makes roads roads is b (record b { margin = g; all = true }) (Set_margin g) (Ok tt)
margin_made g most roads is b =
    let us = under_overlay is b.overlay in
    let content : with_change (content_under roads is b) (Set_margin g) ≡ Ok (content_on g (map_of roads) (to_renew true us)) =
    rw (named_to_renew b.all us, named_to_renew true us) refl in
    record {
      count = refl;
      before = refl;
      made = record {
        content = content;
        nodes = λ v. sym (or-false _);
        lines = λ y. sym (or-false _);
        given = λ xs h. given_all g xs us;
      };
      refused = tt;
      unchanged = tt;
      held = λ h. record {
        undo = h.undo;
        sound = changes_keep (content_under roads is b) (content_on g (map_of roads) (to_renew true us)) (Set_margin g) h.sound
            most content;
        edits = h.edits;
        encoded = without_if_any g (map_before roads b.log) us;
        follows = follows_without is us;
        begins = λ v on. absurd (begins_none us v on);
      };
      margin = λ k same off. let never : ⊥ = cc in absurd never;
      under_way = λ f h. h;
    }
