use Rattle.olr_register.proofs.Common.{append_assoc, node_change, record_line, line_change, append-nil, unwrap_or, coord_at, ◌==◌}
use Rattle.olr_register.proofs.Common.{line_at, no_line, Option, length, concat, map_of, Change, false, subst, start, ◌++◌, List}
use Rattle.olr_register.proofs.Common.{Bool, Some, true, refl, Line, ◌≡◌, ◌∷◌, map, get, sym, ◌∙◌, Map, end, [], ap, ℕ}
use Rattle.std.specs.Prelude.{if◌then◌else◌}
use Rattle.olr_commands.specs.Dump.{line_changes, node_changes}
use Rattle.olr_register.proofs.records.line_records.Goals as goal

two_texts : {A : Type 0} (f : A → List ℕ) (a b : A) (t t1 t2 : List ℕ) → t ≡ [] → t1 ≡ t ++ f a → t2 ≡ t1 ++ f b →
    t2 ≡ f a ++ (f b ++ [])
two_texts f a b t t1 t2 e e1 e2 = rw (e2, e1, e) (ap (λ (r : List ℕ). f a ++ r) (sym (append-nil (f b))))

three_texts : {A : Type 0} (f : A → List ℕ) (a b d : A) (t t1 t2 t3 : List ℕ) → t ≡ [] → t1 ≡ t ++ f a → t2 ≡ t1 ++ f b →
    t3 ≡ t2 ++ f d → t3 ≡ f a ++ (f b ++ (f d ++ []))
three_texts f a b d t t1 t2 t3 e e1 e2 e3 =
    rw (e3, e2, e1, e) (append_assoc (f a) (f b) (f d) ∙ ap (λ (r : List ℕ). f a ++ (f b ++ r)) (sym (append-nil (f d))))

-- a line of the map, with its ends
module _ (M : Map) (x : ℕ) (l : Line) (at : get M.lines x ≡ Some l) (v w : ℕ) (from : v ≡ l.from) (to : w ≡ l.to) where
  line : line_at M x ≡ l
  line = ap (λ (o : Option Line). unwrap_or o no_line) at

  abbrev changes_if : Bool → ℕ → ℕ → Line → List Change
  changes_if same n m k = (node_changes M n ++ (if same then [] else node_changes M m)) ++ line_change (x, k) ∷ []

  changes : (same : Bool) → same ≡ (v == w) → changes_if same v w l ≡ line_changes M x
  changes same is =
      ap (λ (b : Bool). changes_if b v w l) is
      ∙ ap (λ (n : ℕ). changes_if (n == w) n w l) (from ∙ sym (ap (λ (k : Line). k.from) line))
      ∙ ap (λ (m : ℕ). changes_if (start M x == m) (start M x) m l) (to ∙ sym (ap (λ (k : Line). k.to) line))
      ∙ ap (λ (k : Line). changes_if (start M x == end M x) (start M x) (end M x) k) (sym line)

  abbrev Recorded : ℕ → List ℕ → List Change → Type 0
  Recorded n t cs = (n ≡ length cs) × (t ≡ concat (map record_line cs))

  one_end : true ≡ (v == w) → (t t1 t2 : List ℕ) → t ≡ [] → t1 ≡ t ++ record_line (node_change (v, coord_at M v)) →
      t2 ≡ t1 ++ record_line (line_change (x, l)) → Recorded 2 t2 (line_changes M x)
  one_end same t t1 t2 e e1 e2 =
      subst (Recorded 2 t2) (changes true same) (
        refl,
        two_texts record_line (node_change (v, coord_at M v))
            (line_change (x, l)) t t1 t2 e e1 e2,
      )

  two_ends : false ≡ (v == w) → (t t1 t2 t3 : List ℕ) → t ≡ [] → t1 ≡ t ++ record_line (node_change (v, coord_at M v)) →
      t2 ≡ t1 ++ record_line (node_change (w, coord_at M w)) → t3 ≡ t2 ++ record_line (line_change (x, l)) →
      Recorded 3 t3 (line_changes M x)
  two_ends other t t1 t2 t3 e e1 e2 e3 =
      subst (Recorded 3 t3) (changes false other) (
        refl,
        three_texts record_line (node_change (v, coord_at M v))
            (node_change (w, coord_at M w)) (line_change (x, l)) t t1 t2 t3 e e1 e2 e3,
      )

pub returns-then-eq : goal.returns-then-eq
returns-then-eq c =
    one_end (map_of c.args.roads.now) c.args.id c.args.line.now c.requires.line _ _
    (ap (λ (k : Line). k.from) c.line.view_is) (ap (λ (k : Line). k.to) c.line.view_is) c.if-eq.ensures _ _ _
    c.new-text.ensures.items c.in_ok-push_node.ensures c.in_ok-push_line_record.ensures

pub returns : goal.returns
returns c =
    two_ends (map_of c.args.roads.now) c.args.id c.args.line.now c.requires.line _ _
    (ap (λ (k : Line). k.from) c.line.view_is) (ap (λ (k : Line). k.to) c.line.view_is) c.if-eq.ensures _ _ _ _
    c.new-text.ensures.items c.in_ok-push_node.ensures c.in_ok-push_node-2.ensures c.in_ok-push_line_record-2.ensures
