-- Positions of paths that edits may affect.
--     Includes xs ys      the numbers of xs are among those of ys
--     Finds path_ids i v found      the positions of the path ids of the number v are found.
--     Covers N T X is found      a path whose position isn't found is not affected
--     CoversSearched N slot t near is found      the same for the paths for whose queries it was searched
--     FindsChanged cs is found      a path whose position isn't found is not changed
use Rattle.std.specs.Prelude.{◌≡◌, ℕ, ◌<◌, List, Some, None, false, length, get_or, slice_get, IsTrue}
use Rattle.olr_spec.specs.Map.{Map, has}
use Rattle.olr_paths.specs.PathIds.{holds}
use Rattle.olr_paths.specs.declared.index.Index.{Index}
use Rattle.olr_paths.specs.Items.{Item}
use Rattle.olr_renewal.specs.Actions.{ToSkip}
use Rattle.olr_paths.specs.Overlaid.{Changes, change_at}
use Rattle.olr_renewal.specs.ChangeSets.{nodes_of, lines_of}
use Rattle.olr_renewal.specs.AffectedSearches.{IsSearchedFor}
use Rattle.olr_paths.specs.Origins.{BeginsIn}
use Rattle.olr_renewal.specs.declared.change_set.ChangeSet.{ChangeSet}
use Rattle.olr_search.specs.declared.distances.Dijkstra.{Dijkstra}

abbrev pub Includes : List ℕ → List ℕ → Type 0
Includes xs ys = (k : ℕ) → IsTrue (has xs k) → IsTrue (has ys k)

abbrev pub Finds : List ℕ → Index → ℕ → List ℕ → Type 0
Finds path_ids i v found = (k : ℕ) → k < length path_ids → IsTrue (holds i v (get_or path_ids k 0)) →
    IsTrue (has found k)

abbrev pub Covers : Map → List ℕ → List ℕ → List Item → List ℕ → Type 0
Covers N T X is found = (k : ℕ) (i : Item) → slice_get is k ≡ Some i → has found k ≡ false → ToSkip N T X i.results i.path

abbrev pub CoversSearched : Map → (ℕ → ℕ) → ChangeSet → Dijkstra → List Item → List ℕ → Type 0
CoversSearched N slot t near is found =
    (k : ℕ) (i : Item) → slice_get is k ≡ Some i → has found k ≡ false → IsSearchedFor N slot t near (BeginsIn i.results) →
    ToSkip N (nodes_of t) (lines_of t) i.results i.path

abbrev pub FindsChanged : Changes → List Item → List ℕ → Type 0
FindsChanged cs is found =
    (k : ℕ) (i : Item) → slice_get is k ≡ Some i → has found k ≡ false → change_at cs i.name ≡ None
