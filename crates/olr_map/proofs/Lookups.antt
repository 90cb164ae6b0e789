-- Values by number: in a list as a finite map, of a function at one number, and of a map after a change.
use Rattle.olr_map.proofs.Common.{nat_cmp_total, unsigned_tied, common_steps, cases_eq, FinMap, eqb-true, nat_cmp, eq-eqb}
use Rattle.olr_map.proofs.Common.{lookup, ne_eqb, arith, false, Bool, List, None, Some, cond, refl, true, ◌==◌, get, ◌∙◌, ◌∷◌}
use Rattle.olr_map.proofs.Common.{◌≡◌, [], ap, ℕ, from_entries}
use Rattle.std.specs.FinMap.{nat_cmp-IsAntisymmetric, get-from_entries, get-insert, get-remove, same_map}
use Rattle.std.specs.FinMap as finmap

module _ {V : Type 0} where
  pub all_get : (es : List (ℕ × V)) (k : ℕ) → get {R = nat_cmp} (from_entries es) k ≡ lookup (λ q. k == q) es
  all_get es k = get-from_entries nat_cmp_total es k ∙ same es where
    same : (es : List (ℕ × V)) → finmap.find nat_cmp k es ≡ lookup (λ q. k == q) es
    same [] = refl
    same (e ∷ es) =
        ap (λ (b : Bool). cond b (Some e.1) (finmap.find nat_cmp k es)) (unsigned_tied k e.0)
        ∙ ap (cond (k == e.0) (Some e.1)) (same es)

pub eqb_flip : (a b : ℕ) → (a == b) ≡ (b == a)
eqb_flip a b = grind (arith, common_steps, cases_eq, eq-eqb, ne_eqb)

-- a function of one of two values
pub over_cond : {A B : Type 0} (f : A → B) (b : Bool) (x y : A) → f (cond b x y) ≡ cond b (f x) (f y)
over_cond f true x y = refl
over_cond f false x y = refl

-- a function that has its own value put in at one number
pub unchanged_at : {A : Type 0} (f : ℕ → A) (v : ℕ) (x : A) → f v ≡ x → (k : ℕ) → f k ≡ cond (v == k) x (f k)
unchanged_at f v x is k = grind (arith, common_steps, eqb-true)

-- the value of a map at a key after an insert and a removal
pub got_insert : {Y : Type 0} (m : FinMap nat_cmp Y) (k : ℕ) (v : Y) (q : ℕ) →
    get (finmap.insert m k v) q ≡ cond (k == q) (Some v) (get m q)
got_insert m k v q = grind (arith, common_steps, get-insert, nat_cmp_total, unsigned_tied, eqb_flip)

pub got_remove : {Y : Type 0} (m : FinMap nat_cmp Y) (k q : ℕ) →
    get (finmap.remove m k) q ≡ cond (k == q) None (get m q)
got_remove m k q = grind (arith, common_steps, get-remove, nat_cmp_total, unsigned_tied, eqb_flip)

pub same_answers : {Y : Type 0} (m n : FinMap nat_cmp Y) → ((q : ℕ) → get m q ≡ get n q) → m ≡ n
same_answers m n h = same_map nat_cmp_total nat_cmp-IsAntisymmetric m n h
