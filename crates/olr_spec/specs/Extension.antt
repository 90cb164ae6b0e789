-- A path, and how its ends are extended to valid nodes.
--     Path, is_path ls      lines with two offsets in decimetres; from 1 to 10,000 lines, none twice
--     passing M v      v is a degree-two node: it has exactly two neighbours, and its lines only connect them. Every
--         other node is valid
--     StartRun M c ls, EndRun M ls c      c is a run of degree-two nodes: its lines lead to the lines ls, or on
--         from them, through such nodes
--     LongestStart M c ls, LongestEnd M ls c      c is the longest such run within the limit
--     Tried M P b a      b and a are the longest runs at the start of the path and at its end
--     extended_path M P b a      the path with those of them that lead to valid nodes, and the increased offsets
--     AreJoined M ls      the lines are on the map, and each ends where the next starts
use Rattle.std.specs.Prelude.{◌≡◌, ◌≢◌, ℕ, ◌+◌, ◌≤◌, Bool, true, false, not, ◌&&◌, ◌||◌, List, [], ◌∷◌, ◌++◌, map}
use Rattle.std.specs.Prelude.{length, nat_le, ◌==◌, if◌then◌else◌, ⊤, IsTrue, IsFalse}
use Rattle.olr_spec.specs.Map.{Map, has_line, start, end, lines_in, lines_out, has}
use Rattle.olr_spec.specs.Routes.{IsRoute, dm_of}

-- a line location: the positive offset is cut off at its start, the negative one at its end (White Paper, offsets)
pub record Path : Type 0 where
  pub lines : List ℕ
  pub pos : ℕ
  pub neg : ℕ

abbrev pub none_twice : List ℕ → Bool
none_twice [] = true
none_twice (x ∷ xs) = not (has xs x) && none_twice xs

-- from 1 to 10,000 lines, none twice (profile)
abbrev pub is_path : List ℕ → Bool
is_path ls = nat_le 1 (length ls) && nat_le (length ls) 10000 && none_twice ls

-- ---- degree-two nodes

-- u and w are different, and neither is v
abbrev pub apart : ℕ → ℕ → ℕ → Bool
apart v u w = not (u == v) && not (w == v) && not (u == w)

-- by the other ends of the lines that enter v, and of those that leave it: one line from u and one to w, or exactly one
-- from each of u and w, and one to each
abbrev pub passes_between : ℕ → List ℕ → List ℕ → Bool
passes_between v (u ∷ []) (w ∷ []) = apart v u w
passes_between v (u ∷ w ∷ []) (p ∷ q ∷ []) = apart v u w && ((p == u && q == w) || (p == w && q == u))
passes_between v _ _ = false

-- a node that is not valid, since nothing turns off there (White Paper, encoding steps, valid nodes; this exact test:
-- profile)
abbrev pub passing : Map → ℕ → Bool
passing M v = passes_between v (map (start M) (lines_in M v)) (map (end M) (lines_out M v))

-- ---- runs of degree-two nodes

-- the first line, and the last
abbrev pub first : List ℕ → ℕ
first [] = 0
first (x ∷ xs) = x

abbrev pub last : List ℕ → ℕ
last [] = 0
last (x ∷ []) = x
last (x ∷ y ∷ xs) = last (y ∷ xs)

-- the lines are on the map, and each ends where the next starts
abbrev pub AreJoined : Map → List ℕ → Type 0
AreJoined M ls = IsRoute M (start M (first ls)) (end M (last ls)) ls

-- line x may precede the lines ls: it ends at their first node, which is a degree-two node, it doesn't start where the
-- first of them ends, and it isn't one of them
pub record MayPrecede (M : Map) (x : ℕ) (ls : List ℕ) : Type 0 where
  pub known : IsTrue (has_line M x)
  pub joins : end M x ≡ start M (first ls)
  pub through : IsTrue (passing M (end M x))
  pub onward : start M x ≢ end M (first ls)
  pub fresh : IsFalse (has ls x)

-- the mirror image: line x may follow the lines ls
pub record MayFollow (M : Map) (ls : List ℕ) (x : ℕ) : Type 0 where
  pub known : IsTrue (has_line M x)
  pub joins : start M x ≡ end M (last ls)
  pub through : IsTrue (passing M (start M x))
  pub onward : end M x ≢ start M (last ls)
  pub fresh : IsFalse (has ls x)

-- each line of c may precede the lines after it in c and ls
abbrev pub StartRun : Map → List ℕ → List ℕ → Type 0
StartRun M [] ls = ⊤
StartRun M (x ∷ c) ls = MayPrecede M x (c ++ ls) × StartRun M c ls

-- each line of c may follow ls and the lines before it in c
abbrev pub EndRun : Map → List ℕ → List ℕ → Type 0
EndRun M ls [] = ⊤
EndRun M ls (x ∷ c) = MayFollow M ls x × EndRun M (ls ++ x ∷ []) c

-- 15,000 m in decimetres: the greatest distance from one LRP to the next (White Paper, data format rules), and the
-- greatest length of a run (profile)
abbrev pub limit : ℕ
limit = 150000

-- of two such runs one is a suffix of the other, so the longest is unique
pub record LongestStart (M : Map) (c ls : List ℕ) : Type 0 where
  pub run : StartRun M c ls
  pub within : dm_of M c ≤ limit
  pub longest : (d : List ℕ) → StartRun M d ls → dm_of M d ≤ limit → dm_of M d ≤ dm_of M c

-- of two such runs one is a prefix of the other
pub record LongestEnd (M : Map) (ls c : List ℕ) : Type 0 where
  pub run : EndRun M ls c
  pub within : dm_of M c ≤ limit
  pub longest : (d : List ℕ) → EndRun M ls d → dm_of M d ≤ limit → dm_of M d ≤ dm_of M c

-- a tried run is added if it leads to a valid node; otherwise nothing is added (White Paper, encoding steps; both
-- limits: profile)
abbrev pub taken_start : Map → List ℕ → List ℕ → List ℕ
taken_start M c ls = if passing M (start M (first (c ++ ls))) then [] else c

abbrev pub taken_end : Map → List ℕ → List ℕ → List ℕ
taken_end M ls c = if passing M (end M (last (ls ++ c))) then [] else c

-- the path with what is added at its start; its end is extended after that
abbrev pub from_start : Map → Path → List ℕ → List ℕ
from_start M P b = taken_start M b P.lines ++ P.lines

-- both tried runs
pub record Tried (M : Map) (P : Path) (b a : List ℕ) : Type 0 where
  pub before : LongestStart M b P.lines
  pub after : LongestEnd M (from_start M P b) a

-- each offset increases by the length that is added at its end
abbrev pub extended_path : Map → Path → List ℕ → List ℕ → Path
extended_path M P b a =
    record {
      lines = from_start M P b ++ taken_end M (from_start M P b) a;
      pos = P.pos + dm_of M (taken_start M b P.lines);
      neg = P.neg + dm_of M (taken_end M (from_start M P b) a);
    }
