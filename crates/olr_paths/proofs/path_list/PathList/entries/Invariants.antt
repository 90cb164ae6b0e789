use Rattle.olr_paths.proofs.Common.{List, [], ◌≤◌, ◌+◌, ◌++◌, map, length, Entry, entry_of, items, Reported, AreEncoded}
use Rattle.olr_paths.proofs.Common.{vec_len, vec_capacity}
use Rattle.olr_paths.proofs.NamedEntries.{items_of}
use Rattle.olr_paths.proofs.path_list.PathList.entries.Given as goal

-- all paths are reported, if those that are left are; there is room for these, and they were encoded
abbrev pub invariant-loop-name : goal.invariant-loop-name
invariant-loop-name l =
    ((es : List Entry) → Reported [] (items_of l.name-iterator) es →
    Reported [] (items l.self) (map entry_of l.entries.items ++ es))
    × (vec_len l.entries + length l.name-iterator ≤ vec_capacity l.entries) × AreEncoded (items_of l.name-iterator)
    × (length l.name-iterator ≤ length l.self.paths.entries)
