-- Lists of paths after one is added, replaced or dropped: their names, and what is true of each item.
use Rattle.olr_register.proofs.Common.{inl, ◌⊎◌, ◌≡◌, ℕ, not, ◌∷◌, map, Some, None, refl, sym, ap, Map, Path, Results, Item, Bool}
use Rattle.olr_register.proofs.Common.{filter, is_some, is_none, Follows, held_of, AreGiven, Add_path, Set_path, to_renew, true}
use Rattle.olr_register.proofs.Common.{List, [], ◌++◌, Option, IfSome, Named, Change, Margin, gives, Answer, false, same_name}
use Rattle.olr_register.proofs.Common.{path_named, not_named, named_held, Set_margin, map-append, answer_if_any, arith, or-false}
use Rattle.olr_register.proofs.Common.{or_right, named_of, all_named, answer_in, Reported, set_item, with_path, list_any}
use Rattle.olr_register.proofs.Common.{list_any-append, IsEncodingOf, AreEncodings, AreEncodingsIfAny, without_answer}
use Rattle.std.proofs.lemmas.Simd.{map-map}
use lib.Pointwise.{bytes_decides}

-- ---- names and paths

pub names_add : (is : List Item) (j : Item) → all_named (is ++ j ∷ []) ≡ all_named is ++ named_of j ∷ []
names_add is j = map-append named_of is (j ∷ [])

pub names_set : (name : List ℕ) (path : Path) (results : Option Results) (is : List Item) →
    all_named (map (set_item name path results) is) ≡ map (with_path name path) (all_named is)
names_set name path results [] = refl
names_set name path results (i ∷ is) = grind (arith, names_set name path results is)

pub names_drop : (name : List ℕ) (is : List Item) →
    all_named (filter (λ i. not (same_name i.name name)) is) ≡ filter (λ p. not (same_name p.name name)) (all_named is)
names_drop name [] = refl
names_drop name (i ∷ is) = grind (arith, names_drop name is)

pub named_twice : (is : List Item) → map named_held (map held_of is) ≡ all_named is
named_twice is = map-map named_held held_of is

pub names_of_all : (is : List Item) → map (λ (p : Named). p.name) (all_named is) ≡ map (λ (i : Item). i.name) is
names_of_all is = map-map (λ (p : Named). p.name) named_of is

-- ---- what is true of each item

-- F says of a list that P holds of each item
pub record Each (P : Item → Type 0) (F : List Item → Type 0) : Type 0 where
  pub none : F []
  pub more : (i : Item) (is : List Item) → P i → F is → F (i ∷ is)
  pub first : (i : Item) (is : List Item) → F (i ∷ is) → P i
  pub rest : (i : Item) (is : List Item) → F (i ∷ is) → F is

pub each_add : {P : Item → Type 0} {F : List Item → Type 0} → Each P F → (is : List Item) (j : Item) → P j → F is →
    F (is ++ j ∷ [])
each_add e [] j p f = e.more j [] p e.none
each_add e (i ∷ is) j p f = e.more i (is ++ j ∷ []) (e.first i is f) (each_add e is j p (e.rest i is f))

-- the path of that name is replaced, together with its results
pub each_set : {P Q : Item → Type 0} {F G : List Item → Type 0} → Each P F → Each Q G → (name : List ℕ) (path : Path)
    (results : Option Results)
    → ((i : Item) → same_name i.name name ≡ true → Q (record { name = i.name; path = path; results = results })) →
    ((i : Item) → same_name i.name name ≡ false → P i → Q i) → (is : List Item) → F is →
    G (map (set_item name path results) is)
each_set e d name path results new old [] f = d.none
each_set {P} {Q} e d name path results new old (i ∷ is) f =
    let one : Q (set_item name path results i) = grind (arith, new i, old i, e.first i is f) in
    d.more (set_item name path results i) (map (set_item name path results) is) one
    (each_set e d name path results new old is (e.rest i is f))

pub each_left : {P : Item → Type 0} {F : List Item → Type 0} → Each P F → (keep : Item → Bool) (is : List Item) → F is →
    F (filter keep is)
each_left e keep [] f = f
each_left e keep (i ∷ is) f = grind (arith, e.more i (filter keep is), e.first i is f, each_left e keep is (e.rest i is f))

pub each_encoded : (g : Margin) (M : Map) →
    Each (λ i. (m : Results) × (i.results ≡ Some m) × IsEncodingOf g M i.path m) (AreEncodings g M)
each_encoded g M = record { none = tt; more = λ i is p f. (p, f); first = λ i is f. f.0; rest = λ i is f. f.1 }

pub each_if_any : (g : Margin) (M : Map) → Each (λ i. IfSome i.results (IsEncodingOf g M i.path)) (AreEncodingsIfAny g M)
each_if_any g M = record { none = tt; more = λ i is p f. (p, f); first = λ i is f. f.0; rest = λ i is f. f.1 }

pub each_follows : (before : List Item) →
    Each (λ i. (i.results ≡ None) ⊎ (answer_in before i.name ≡ answer_if_any i.results)) (Follows before)
each_follows before = record { none = tt; more = λ i is p f. (p, f); first = λ i is f. f.0; rest = λ i is f. f.1 }

pub each_given : (xs : List Change) →
    Each (λ i. is_none i.results ≡ list_any (gives i.name) xs) (λ is. AreGiven xs (map held_of is))
each_given xs = record { none = tt; more = λ i is p f. (p, f); first = λ i is f. f.0; rest = λ i is f. f.1 }

-- ---- with one change more

given_here : (q : List ℕ) (xs : List Change) (x : Change) → gives q x ≡ true → true ≡ list_any (gives q) (xs ++ x ∷ [])
given_here q xs x e = rw (list_any-append (gives q) xs (x ∷ []), e) (sym (or_right (list_any (gives q) xs) true refl))

given_still : (q : List ℕ) (xs : List Change) (x : Change) (b : Bool) → gives q x ≡ false →
    b ≡ list_any (gives q) xs → b ≡ list_any (gives q) (xs ++ x ∷ [])
given_still q xs x b e h = rw (list_any-append (gives q) xs (x ∷ []), e, or-false (list_any (gives q) xs)) h

-- one that gives no path
pub given_none : (xs : List Change) (x : Change) (is : List Item) → ((q : List ℕ) → gives q x ≡ false) →
    AreGiven xs (map held_of is) → AreGiven (xs ++ x ∷ []) (map held_of is)
given_none xs x [] none g = tt
given_none xs x (i ∷ is) none g =
    (given_still i.name xs x (is_none i.results) (none i.name) g.0, given_none xs x is none g.1)

pub given_add : (name : List ℕ) (path : Path) (xs : List Change) (is : List Item) →
    is_some (path_named (all_named is) name) ≡ false → AreGiven xs (map held_of is)
    → AreGiven (xs ++ Add_path name path ∷ []) (map held_of (is ++ record { name = name; path = path; results = None } ∷ []))
given_add name path xs [] free g = (given_here name xs (Add_path name path) ((bytes_decides name name).1 refl), tt)
given_add name path xs (i ∷ is) free g =
    let p = not_named (named_of i) (all_named is) name free in
    (given_still i.name xs (Add_path name path) (is_none i.results) p.0 g.0, given_add name path xs is p.1 g.1)

pub given_set : (name : List ℕ) (path : Path) (xs : List Change) (is : List Item) →
    AreGiven xs (map held_of is) → AreGiven (xs ++ Set_path name path ∷ []) (map held_of (map (set_item name path None) is))
given_set name path xs is g =
    each_set (each_given xs) (each_given (xs ++ Set_path name path ∷ [])) name path None
    (λ i same. given_here i.name xs (Set_path name path) same)
    (λ i other h. given_still i.name xs (Set_path name path) (is_none i.results) other h) is g

-- if the margin is set, each path is given
pub given_all : (g : Margin) (xs : List Change) (is : List Item) →
    AreGiven (xs ++ Set_margin g ∷ []) (map held_of (map without_answer is))
given_all g xs [] = tt
given_all g xs (i ∷ is) = (given_here i.name xs (Set_margin g) refl, given_all g xs is)

-- if each path was encoded, no batch added or replaced any
pub given_at_first : (g : Margin) (M : Map) (is : List Item) → AreEncodings g M is → AreGiven [] (map held_of is)
given_at_first g M [] a = tt
given_at_first g M (i ∷ is) a = (ap is_none a.0.1, given_at_first g M is a.1)

-- ---- where no path is encoded yet

pub named_to_renew : (all : Bool) (is : List Item) → all_named (to_renew all is) ≡ all_named is
named_to_renew false is = refl
named_to_renew true is = map-map named_of without_answer is

pub has_to_renew : (all : Bool) (is : List Item) (name : List ℕ) →
    is_some (path_named (all_named (to_renew all is)) name) ≡ is_some (path_named (all_named is) name)
has_to_renew all is name = ap (λ (ps : List Named). is_some (path_named ps name)) (named_to_renew all is)

pub to_renew_add : (all : Bool) (is : List Item) (name : List ℕ) (path : Path) →
    to_renew all (is ++ record { name = name; path = path; results = None } ∷ [])
    ≡ to_renew all is ++ record { name = name; path = path; results = None } ∷ []
to_renew_add false is name path = refl
to_renew_add true is name path = map-append without_answer is (record { name = name; path = path; results = None } ∷ [])

pub to_renew_set : (all : Bool) (name : List ℕ) (path : Path) (is : List Item) →
    to_renew all (map (set_item name path None) is) ≡ map (set_item name path None) (to_renew all is)
to_renew_set false name path is = refl
to_renew_set true name path [] = refl
to_renew_set true name path (i ∷ is) = grind (arith, to_renew_set true name path is)

pub to_renew_drop : (all : Bool) (name : List ℕ) (is : List Item) →
    to_renew all (filter (λ i. not (same_name i.name name)) is) ≡ filter (λ i. not (same_name i.name name)) (to_renew all is)
to_renew_drop false name is = refl
to_renew_drop true name [] = refl
to_renew_drop true name (i ∷ is) = grind (arith, to_renew_drop true name is)

pub still_told : {o : Option Answer} {p : Option Results} (m : Results) → p ≡ Some m → (p ≡ None) ⊎ (o ≡ answer_if_any p) → o ≡ Some m.answer
still_told m encoded h = grind arith

-- if each path was encoded, nothing is reported
pub follows_untold : (g : Margin) (M : Map) (before js : List Item) → AreEncodings g M js → Follows before js → Reported before js []
follows_untold g M before [] a f = refl
follows_untold g M before (j ∷ js) a f =
    (a.0.0.answer, [], ap answer_if_any a.0.1, follows_untold g M before js a.1 f.1, inl (still_told a.0.0 a.0.1 f.0, refl))
