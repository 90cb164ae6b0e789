-- The lines of a path without fault join, and so do those of the extended path.
use Rattle.olr_spec.proofs.Common.{◌≡◌, ◌<◌, ℕ, suc, List, ◌∷◌, ◌++◌, length, None, refl, arith, length-append, ◌==◌, []}
use Rattle.olr_spec.proofs.Common.{eqb-true, IsTrue, Map, start, end, Path, is_path, Tried, MayPrecede, MayFollow}
use Rattle.olr_spec.proofs.Common.{extended_path, AreJoined, first_break, path_fault, cases_Bool}
use Rattle.olr_spec.proofs.Facts.{IsRoute-append, Each, Each-head, Each-tail, Each-from, Known, or_None, map_None, sound_lines}
use Rattle.olr_spec.proofs.Facts.{path_nonempty, last_push, extended_keeps}

-- ---- a path without fault

pub joined_of : (M : Map) (k : ℕ) (ls : List ℕ) → 0 < length ls → Each (Known M) ls → first_break M k ls ≡ None → AreJoined M ls
joined_of M k [] h a e = absurd (omega arith)
joined_of M k (x ∷ []) h a e = (Each-head (Known M) x [] a, refl, refl)
joined_of M k (x ∷ y ∷ ls) h a e =
    let rest = Each-tail (Known M) x (y ∷ ls) a in
    grind (arith, joined_of M (suc k) (y ∷ ls), rest, Each-head (Known M) x (y ∷ ls) a, eqb-true, cases_Bool (end M x == start M y))

pub path_joined : (M : Map) (P : Path) → IsTrue (is_path P.lines) → path_fault M P ≡ None → AreJoined M P.lines
path_joined M P is e = grind (arith, map_None, or_None, joined_of, path_nonempty, Each-from, sound_lines)

-- ---- its runs of degree-two nodes

-- joined lines, at least one
record IsJoinedPath (M : Map) (ls : List ℕ) : Type 0 where
  some : 0 < length ls
  joined : AreJoined M ls

preceded : (M : Map) (x : ℕ) (ls : List ℕ) → MayPrecede M x ls → IsJoinedPath M ls → IsJoinedPath M (x ∷ ls)
preceded M x ls p j = grind (arith)

pushed : (M : Map) (ls : List ℕ) (x : ℕ) → MayFollow M ls x → IsJoinedPath M ls → IsJoinedPath M (ls ++ x ∷ [])
pushed M ls x p j = grind (arith, IsRoute-append, length-append, last_push)

pub extended_joined : (M : Map) (P : Path) → IsTrue (is_path P.lines) → path_fault M P ≡ None → (b a : List ℕ)
    → Tried M P b a → AreJoined M (extended_path M P b a).lines
extended_joined M P is e b a tried =
    (extended_keeps M (IsJoinedPath M) (preceded M) (pushed M) P b a tried
    (record { some = path_nonempty P.lines is; joined = path_joined M P is e })).joined
