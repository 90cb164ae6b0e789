use Rattle.olr_paths.proofs.Common.{◌≡◌, ◌<◌, ℕ, String, Global, Some, slice_get, get_or, NamedPath}
use Rattle.olr_paths.proofs.PathIdLemmas.{NamedNoted}
use Rattle.olr_paths.proofs.path_list.PathList.all_noted.Given as goal

-- the paths so far have their index entries
abbrev pub invariant-loop-k : goal.invariant-loop-k
invariant-loop-k l = (j : ℕ) (e : String Global × NamedPath) → j < l.k → slice_get l.self.paths.entries j ≡ Some e →
    NamedNoted l.finder (get_or l.self.path_ids.items j 0) e.1
