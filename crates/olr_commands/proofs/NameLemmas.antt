-- Lists of named paths: what is preserved when a path is appended, set or dropped.
use Rattle.olr_commands.proofs.Common.{filter, bytes_decides, Path, is_path}
use Rattle.std.proofs.Common.{◌≡◌, ℕ, Bool, true, false, List, [], ◌∷◌, ◌++◌, map, Some, is_some, IsTrue, refl, arith}
use Rattle.olr_commands.specs.State.{Named, NamesDiffer, ArePaths, same_name, path_named, with_path}

-- ---- names

pub same_is : (a b : List ℕ) → same_name a b ≡ true → a ≡ b
same_is a b h = (bytes_decides a b).0 h

pub flipped : (a b : List ℕ) → same_name a b ≡ false → same_name b a ≡ false
flipped a b h = grind (arith, bytes_decides)

-- with one more name at the end
pub named_push : (ps : List Named) (n : Named) (name : List ℕ) → is_some (path_named ps name) ≡ false →
    same_name n.name name ≡ false → is_some (path_named (ps ++ n ∷ []) name) ≡ false
named_push [] n name h g = grind arith
named_push (p ∷ ps) n name h g = grind (arith, named_push ps n name)

pub not_named : (p : Named) (ps : List Named) (name : List ℕ) → is_some (path_named (p ∷ ps) name) ≡ false →
    (same_name p.name name ≡ false) × (is_some (path_named ps name) ≡ false)
not_named p ps name h = (grind arith, grind arith)

pub differ_push : (ps : List Named) (n : Named) → NamesDiffer ps → is_some (path_named ps n.name) ≡ false →
    NamesDiffer (ps ++ n ∷ [])
differ_push [] n d h = (refl, tt)
differ_push (p ∷ ps) n d h =
    (grind (arith, named_push ps n p.name, flipped p.name n.name), differ_push ps n d.1 (grind arith))

pub set_name : (name : List ℕ) (path : Path) (p : Named) → (with_path name path p).name ≡ p.name
set_name name path p = grind arith

pub named_set : (name : List ℕ) (path : Path) (ps : List Named) (q : List ℕ) → is_some (path_named ps q) ≡ false →
    is_some (path_named (map (with_path name path) ps) q) ≡ false
named_set name path [] q h = refl
named_set name path (p ∷ ps) q h = grind (arith, named_set name path ps q, set_name name path p)

pub differ_set : (name : List ℕ) (path : Path) (ps : List Named) → NamesDiffer ps →
    NamesDiffer (map (with_path name path) ps)
differ_set name path [] d = tt
differ_set name path (p ∷ ps) d =
    (grind (arith, set_name name path p, named_set name path ps p.name d.0), differ_set name path ps d.1)

pub named_filter : (test : Named → Bool) (ps : List Named) (q : List ℕ) → is_some (path_named ps q) ≡ false →
    is_some (path_named (filter test ps) q) ≡ false
named_filter test [] q h = refl
named_filter test (p ∷ ps) q h = grind (arith, named_filter test ps q)

pub differ_filter : (test : Named → Bool) (ps : List Named) → NamesDiffer ps → NamesDiffer (filter test ps)
differ_filter test [] d = tt
differ_filter test (p ∷ ps) d = grind (arith, named_filter test ps p.name d.0, differ_filter test ps d.1)

-- ---- paths

pub paths_push : (ps : List Named) (n : Named) → ArePaths ps → IsTrue (is_path n.path.lines) → ArePaths (ps ++ n ∷ [])
paths_push [] n a h = (h, tt)
paths_push (p ∷ ps) n a h = (a.0, paths_push ps n a.1 h)

pub paths_set : (name : List ℕ) (path : Path) (ps : List Named) → ArePaths ps → IsTrue (is_path path.lines) →
    ArePaths (map (with_path name path) ps)
paths_set name path [] a h = tt
paths_set name path (p ∷ ps) a h = (grind (arith, a.0), paths_set name path ps a.1 h)

pub paths_filter : (test : Named → Bool) (ps : List Named) → ArePaths ps → ArePaths (filter test ps)
paths_filter test [] a = tt
paths_filter test (p ∷ ps) a = grind (arith, a.0, paths_filter test ps a.1)

pub named_path : (ps : List Named) (name : List ℕ) (P : Path) → ArePaths ps → path_named ps name ≡ Some P →
    IsTrue (is_path P.lines)
named_path [] name P a e = absurd cc
named_path (p ∷ ps) name P a e = grind (arith, named_path ps name P a.1)
