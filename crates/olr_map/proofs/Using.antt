-- When a node is in use, by its two lists.
use Rattle.olr_map.proofs.Common.{nil_from_length, has-lines_where, not_from_true, common_steps, unless_false, or_right}
use Rattle.olr_map.proofs.Common.{Node_in_use, passed_line, lines_out, Drop_node, has_node, has_here, lines_at, or_left}
use Rattle.olr_map.proofs.Common.{lines_in, or_from, length, in_use, edited, false, arith, ◌==◌, near, Side, ◌||◌, true, List}
use Rattle.olr_map.proofs.Common.{Some, Line, ◌≡◌, ◌<◌, ◌∷◌, Err, sym, ◌∙◌, get, Map, has, Out, Ok, ap, In, [], ℕ}
use Rattle.std.specs.FinMap.{remove}
use Rattle.olr_map.proofs.LineRecords.{used_by, unused_by}

-- a line with an end at the node uses it
end_uses : (side : Side) (v : ℕ) (l : Line) → (near side l == v) ≡ true → (l.to == v || l.from == v) ≡ true
end_uses side v l h = grind (arith, common_steps, or_right, or_left)

module _ (side : Side) (M : Map) (v : ℕ) where
  first_uses : (zs : List ℕ) → zs ≡ lines_at side M v → 0 < length zs → in_use M v ≡ true
  first_uses [] is long = absurd (omega arith)
  first_uses (x ∷ xs) is long =
      let here : has (lines_at side M v) x ≡ true = ap (λ zs. has zs x) (sym is) ∙ has_here x xs in
      let p =
      passed_line (λ l. near side l == v) (get M.lines x) (sym (has-lines_where M (λ l. near side l == v) x) ∙ here) in
      used_by M (λ l. l.to == v || l.from == v) x p.0 p.1 (end_uses side v p.0 p.2)

  none_uses : length (lines_at side M v) ≡ 0 → (x : ℕ) (l : Line) → get M.lines x ≡ Some l → (near side l == v) ≡ false
  none_uses none x l e =
      let listed = has-lines_where M (λ k. near side k == v) x in
      grind (arith, common_steps, listed, nil_from_length (lines_at side M v))

unused_if_empty : (M : Map) (v : ℕ) → length (lines_out M v) ≡ 0 → length (lines_in M v) ≡ 0 → in_use M v ≡ false
unused_if_empty M v out into =
    unused_by M (λ l. l.to == v || l.from == v)
    (λ x l e. or_from (l.to == v) (l.from == v) (none_uses In M v into x l e) (none_uses Out M v out x l e))

-- ---- the outcome of removing a node

pub unused_by_lists : (M : Map) (v : ℕ) (outs ins : List ℕ) → outs ≡ lines_out M v → ins ≡ lines_in M v →
    length outs ≡ 0 → length ins ≡ 0 → in_use M v ≡ false
unused_by_lists M v outs ins outs_are ins_are a b = grind (arith, common_steps, unused_if_empty)

pub used_by_out : (M : Map) (v : ℕ) (outs : List ℕ) → outs ≡ lines_out M v → (length outs ≡ 0 → ⊥) → in_use M v ≡ true
used_by_out M v outs are ne = let uses = first_uses Out M v outs are in grind (arith, common_steps, uses)

pub used_by_in : (M : Map) (v : ℕ) (ins : List ℕ) → ins ≡ lines_in M v → (length ins ≡ 0 → ⊥) → in_use M v ≡ true
used_by_in M v ins are ne = let uses = first_uses In M v ins are in grind (arith, common_steps, uses)

pub drop_taken : (M : Map) (v : ℕ) → has_node M v ≡ true → in_use M v ≡ false →
    edited M (Drop_node v) ≡ Ok (record M { nodes = remove M.nodes v })
drop_taken M v there free = grind (arith, common_steps, unless_false, not_from_true)

pub drop_refused : (M : Map) (v : ℕ) → has_node M v ≡ true → in_use M v ≡ true →
    edited M (Drop_node v) ≡ Err Node_in_use
drop_refused M v there used = grind (arith, common_steps, unless_false, not_from_true)
