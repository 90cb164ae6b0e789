-- What is known of joined lines.
use Rattle.olr_refs.proofs.Common.{◌≡◌, ◌<◌, ◌+◌, ℕ, List, [], ◌∷◌, ◌++◌, length, take, get_or, ap, ◌∙◌, arith, length-append}
use Rattle.olr_refs.proofs.Common.{cases_order, get_or_default, slice_index, IsTrue, Map, has_line, dm, dm_of, AreJoined}
use Rattle.olr_refs.proofs.Common.{dm_of-append, has_index, DistancesTo, get_or_append_left, take_more, get_or-append_seam}
use Rattle.olr_refs.proofs.Common.{route_known, ResolvedLine, record_of, node_at, end, last_index, nat_tests, ◌-◌}

-- line k is on the map
pub known_at : (M : Map) (ls : List ℕ) (k : ℕ) → AreJoined M ls → k < length ls → IsTrue (has_line M (slice_index ls k))
known_at M ls k w h = route_known M _ _ ls w (slice_index ls k) (has_index ls k h)

-- and so is the one that is read there with another default
pub known_get : (M : Map) (ls : List ℕ) (k d : ℕ) → AreJoined M ls → k < length ls → IsTrue (has_line M (get_or ls k d))
known_get M ls k d w h = rw (get_or_default ls k d 0 h) (known_at M ls k w h)

-- where the last line ends
pub last_end : (M : Map) (slot : ℕ → ℕ) (ls : List ℕ) (k : ℕ) (r : ResolvedLine) → 0 < length ls → k ≡ length ls →
    r ≡ record_of M slot (slice_index ls (length ls - 1)) → (r.to ≡ node_at M ls k) × (r.to_slot ≡ slot (node_at M ls k))
last_end M slot ls k r some e is =
    let end_is : end M (slice_index ls (length ls - 1)) ≡ node_at M ls k = grind (arith, nat_tests, last_index) in
    (ap (λ (s : ResolvedLine). s.to) is ∙ end_is, ap (λ (s : ResolvedLine). s.to_slot) is ∙ ap slot end_is)

-- ---- distances

-- the length of one more line
pub longer_by : (M : Map) (ls : List ℕ) (k : ℕ) → k < length ls →
    dm_of M (take (k + 1) ls) ≡ dm_of M (take k ls) + dm M (slice_index ls k)
longer_by M ls k h =
    ap (dm_of M) (take_more ls k 0 h) ∙ dm_of-append M (take k ls) (slice_index ls k ∷ []) ∙ omega arith

pub one_more : (M : Map) (ls ds es : List ℕ) (k a : ℕ) → DistancesTo M ls k ds → es ≡ ds ++ a ∷ [] →
    a ≡ dm_of M (take (k + 1) ls) → DistancesTo M ls (k + 1) es
one_more M ls ds es k a d e h = grind (arith, length-append, cases_order, get_or-append_seam, get_or_append_left)
