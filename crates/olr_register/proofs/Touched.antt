-- What edits touch: the maps before and after them have no other difference.
use Rattle.olr_register.proofs.Common.{Contains-append_cases, AreEncodingsIfAny, differences_add, list_any-append, AllByRecursion}
use Rattle.olr_register.proofs.Common.{None, follows_self, follows_without, without_answer, DistanceBounds, option_to_list, Contains-cases, is_margin}
use Rattle.olr_register.proofs.Common.{touched_nodes, touched_lines, CoverageQuery, IsStateRight, edit_differs, none_differs, inl}
use Rattle.olr_register.proofs.Common.{IsTouchedBy, ChangedLine, under_batch, NamesDiffer, IsRegister, content_on, CanRenewTo, Ok}
use Rattle.olr_register.proofs.Common.{AreTouched, changes_of, changed_of, map_before, all_named, ChangeSet, IsContent, nodes_of}
use Rattle.olr_register.proofs.Common.{lines_of, CanRenew, Contains, to_renew, ArePaths, IsBefore, or_right, RoadMap, is_path, []}
use Rattle.olr_register.proofs.Common.{or_left, map_of, Margin, Begins, IsTrue, edited, false, subst, arith, IsMap, Batch, List}
use Rattle.olr_register.proofs.Common.{◌++◌, refl, ◌||◌, Edit, Item, Some, ◌==◌, true, inr, ◌≡◌, ◌∷◌, sym, ◌∙◌, Map, has, map, ℕ}
use Rattle.olr_map.specs.declared.judging.EditPlan.{EditPlan}
use Rattle.olr_map.specs.EditPlans.{IsEditPlan, planned_changes}
use Rattle.olr_register.proofs.Listed.{named_to_renew}
use Rattle.olr_register.proofs.Renewed.{encoded_if_any}

-- ---- where changed lines begin

none_contained : {X : Type 0} (x : X) → ¬ Contains [] x
none_contained x c = let h = c.1 in absurd (omega arith)

only_one : (d c : ChangedLine) → Contains (d ∷ []) c → d ≡ c
only_one d c k = elim (Contains-cases d c [] k) [ inl e ↦ e | inr never ↦ absurd (none_contained c never) ]

starts_of : (M : Map) (e : Edit) (c : ChangedLine) → Contains (changes_of M e) c → has (touched_nodes M e) c.from ≡ true
starts_of M e c k = grind (arith, only_one, none_contained, k)

-- ---- no edit, and one edit more

-- nothing, or only nodes and lines that nothing touched
pub touched_idle : (M : Map) (ns xs : List ℕ) (cs : List ChangedLine) → cs ≡ [] → AreTouched M M ns xs cs
touched_idle M ns xs cs none =
    let idle = none_differs M in
    rw none (record {
      difference = record {
        nodes = λ v off. idle.nodes v refl;
        lines = λ x off. idle.lines x refl;
        there = idle.there;
        here = idle.here;
      };
      starts = λ c k. absurd (none_contained c k);
    })

-- a node or line outside the combined list is in neither part
held_by : (ms ns us : List ℕ) (v : ℕ) → has ms v ≡ (has ns v || has us v) → has ms v ≡ false → has (ns ++ us) v ≡ false
held_by ms ns us v e off = list_any-append (λ y. y == v) ns us ∙ sym e ∙ off

pub touched_more : (L M N : Map) (e : Edit) (ns xs ms ys : List ℕ) (cs ds : List ChangedLine) →
    AreTouched L M ns xs cs → edited M e ≡ Ok N
    → ((v : ℕ) → has ms v ≡ (has ns v || has (touched_nodes M e) v)) →
    ((x : ℕ) → has ys x ≡ (has xs x || has (touched_lines e) x)) → ds ≡ cs ++ changes_of M e
    → AreTouched L N ms ys ds
touched_more L M N e ns xs ms ys cs ds was ok nodes lines changes =
    let all =
    differences_add L M N ns (touched_nodes M e) xs (touched_lines e) cs (changes_of M e) was.difference
    (edit_differs M N e ok) in
    subst (AreTouched L N ms ys) (sym changes) (record {
      difference = record {
        nodes = λ v off. all.nodes v (held_by ms ns (touched_nodes M e) v (nodes v) off);
        lines = λ x off. all.lines x (held_by ys xs (touched_lines e) x (lines x) off);
        there = all.there;
        here = all.here;
      };
      starts = λ c k.
          let ours = has ns c.from in
          let its = has (touched_nodes M e) c.from in
          nodes c.from ∙ elim (Contains-append_cases cs (changes_of M e) c k) [
            | inl old ↦ or_left ours its (was.starts c old)
            | inr now ↦ or_right ours its (starts_of M e c now)
          ];
    })

-- a single edit
pub touched_edit : (M N : Map) (e : Edit) (ns xs : List ℕ) (cs : List ChangedLine) → edited M e ≡ Ok N
    → ((v : ℕ) → has ns v ≡ has (touched_nodes M e) v) → ((x : ℕ) → has xs x ≡ has (touched_lines e) x) →
    cs ≡ changes_of M e → AreTouched M N ns xs cs
touched_edit M N e ns xs cs ok nodes lines changes =
    touched_more M M N e [] [] ns xs [] cs (touched_idle M [] [] [] refl) ok nodes lines changes

-- an edit that was judged, recorded in an empty record r
pub touched_plan : (M : Map) (slot : ℕ → ℕ) (e : Edit) (j : EditPlan) (r t : ChangeSet) → IsEditPlan M slot e j →
    nodes_of r ≡ [] → lines_of r ≡ [] → changed_of r ≡ []
    → ((v : ℕ) → has (nodes_of t) v ≡ (has (nodes_of r) v || ((j.nodes.0 == v) || (j.nodes.1 == v))))
    → ((y : ℕ) → has (lines_of t) y ≡ (has (lines_of r) y || has (option_to_list j.line) y))
    → changed_of t ≡ changed_of r ++ planned_changes j → IsTouchedBy M e t
touched_plan M slot e j r t plan no_nodes no_lines no_changes nodes lines changes = record {
  nodes = λ v. rw (plan.nodes v) (rw no_nodes at (nodes v));
  lines = λ y. rw (← plan.lines) (rw no_lines at (lines y));
  changed = rw (← plan.changes) (rw no_changes at changes);
}

-- ---- what a renewal requires

are_paths : (is : List Item) → ArePaths (all_named is) → AllByRecursion (λ i. is_path i.path.lines ≡ true) is
are_paths [] p = tt
are_paths (i ∷ is) p = (p.0, are_paths is p.1)

pub is_before : (g : Margin) → IsTrue (is_margin g) → (M N : Map) (T X : List ℕ) (C : List ChangedLine) (is : List Item) →
    AreTouched M N T X C → IsMap M → ArePaths (all_named is) → AreEncodingsIfAny g M is → IsBefore g M N T X C is
is_before g most M N T X C is touched sound paths results =
    record {
      margin = most;
      sound = sound;
      difference = touched.difference;
      starts = touched.starts;
      paths = are_paths is paths;
      results = results;
    }

-- before an edit that is made at once
pub edit_before : {g : Margin} {roads : RoadMap} {is : List Item} {f : DistanceBounds} → IsStateRight g roads is None f →
    (e : Edit) (T X : List ℕ) (C : List ChangedLine) → ((v : ℕ) → has T v ≡ has (touched_nodes (map_of roads) e) v) →
    ((y : ℕ) → has X y ≡ has (touched_lines e) y) → C ≡ changes_of (map_of roads) e → (N : Map) →
    edited (map_of roads) e ≡ Ok N → IsBefore g (map_of roads) N T X C is
edit_before {g} {roads} {is} right e T X C nodes lines changed N done =
    let h = right.register in
    is_before g h.content.margin (map_of roads) N T X C is
    (touched_edit (map_of roads) N e T X C done nodes lines changed) h.content.map h.content.paths
    (encoded_if_any g (map_of roads) is h.encoded)

-- after the edit, which touches t, the list can be renewed
pub can_edit : {g : Margin} {roads : RoadMap} {is : List Item} {f : DistanceBounds} → IsStateRight g roads is None f →
    (e : Edit) (t : ChangeSet) → IsTouchedBy (map_of roads) e t → (N : Map) → edited (map_of roads) e ≡ Ok N →
    CanRenew g (map_of roads) N is is t
can_edit {is = is} right e t touched N done = record {
  names = right.register.content.names;
  follows = follows_self is right.register.content.names;
  before = edit_before right e (nodes_of t) (lines_of t) (changed_of t) touched.nodes touched.lines touched.changed N done;
}

-- what a commit renews
pub can_commit : (g : Margin) (roads : RoadMap) (is : List Item) (b : Batch) → IsRegister g roads is (Some b) →
    CanRenew b.margin (map_before roads b.log) (map_of roads) is (under_batch is b) b.touched
can_commit g roads is b h =
    let held = h.held in
    record {
      names = held.sound.names;
      follows = held.follows;
      before =
          is_before b.margin held.sound.margin (map_before roads b.log) (map_of roads) (nodes_of b.touched)
          (lines_of b.touched) (changed_of b.touched) (under_batch is b) held.edits h.content.map held.sound.paths held.encoded;
    }

pub can_renew_batch : {g : Margin} {roads : RoadMap} {is : List Item} {b : Batch} {f : DistanceBounds} →
    IsStateRight g roads is (Some b) f → CanRenewTo b.margin roads b.touched f is (under_batch is b)
can_renew_batch {g} {roads} {is} {b} h = record {
  renewable = (map_before roads b.log, can_commit g roads is b h.register);
  bounded = record {
    under_way = h.bounded.under_way;
    sources = λ l on. h.bounded.sources l (h.register.held.begins l on);
  };
}

-- ---- where the margin is set

pub without_if_any : (g : Margin) (M : Map) (is : List Item) → AreEncodingsIfAny g M (map without_answer is)
without_if_any g M [] = tt
without_if_any g M (i ∷ is) = (tt, without_if_any g M is)

pub begins_none : (is : List Item) (v : CoverageQuery) → ¬ Begins (map without_answer is) v
begins_none [] v h = h
begins_none (i ∷ is) v (inl h) = h
begins_none (i ∷ is) v (inr h) = begins_none is v h

-- each path is encoded again, with nothing known
pub can_set : (g h : Margin) → IsTrue (is_margin h) → (M : Map) (is : List Item) (t : ChangeSet) →
    changed_of t ≡ [] → IsContent (content_on g M is) → CanRenew h M M is (to_renew true is) t
can_set g h most M is t changed sound =
    let same = sym (named_to_renew true is) in
    record {
      names = subst NamesDiffer same sound.names;
      follows = follows_without is is;
      before =
          is_before h most M M (nodes_of t) (lines_of t) (changed_of t) (to_renew true is)
          (touched_idle M (nodes_of t) (lines_of t) (changed_of t) changed) sound.map (subst ArePaths same sound.paths)
          (without_if_any h M is);
    }
