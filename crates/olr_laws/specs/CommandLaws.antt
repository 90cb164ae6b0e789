-- The laws of states, replies and counts.
use Rattle.std.specs.Prelude.{◌≡◌, ◌≢◌, ◌⊎◌, ◌↔◌, ℕ, List, [], ◌∷◌, length, None, Ok, Contains, IsTrue, IsFalse}
use Rattle.olr_spec.specs.Map.{Map, IsMap, Edit, edited, touched_nodes, touched_lines, has, has_node, has_line}
use Rattle.olr_spec.specs.Extension.{Path}
use Rattle.olr_spec.specs.Margins.{Margin}
use Rattle.olr_commands.specs.State.{Content, Add_path, Set_path, Set_margin, Make, State, Command, Explain, Begin, Preview}
use Rattle.olr_commands.specs.State.{Commit, Abort, HasCoords, IsState, step, changes_made, Named, Change, On_map}
use Rattle.olr_commands.specs.Dump.{dump_changes, node_changes, line_changes}
use Rattle.olr_commands.specs.Dependents.{DependsOn}
use Rattle.olr_commands.specs.Reply.{Reply, IsReply, Outcome, IsOutcome, lacks_memory}
use Rattle.olr_commands.specs.Counts.{Raises, Affects}

-- a path that names a line which the edit adds
abbrev pub NamesAdded : Map → Edit → Path → Type 0
NamesAdded M e P = (x : ℕ) × IsTrue (has (touched_lines e) x) × IsFalse (has_line M x) × IsTrue (has P.lines x)

pub record CommandLaws : Type 0 where
  pub steps_keep : (s t : State) (c : Command) → IsState s → HasCoords c → step s c ≡ Ok t → IsState t
  -- an accepted command has at most one reply
  pub one_reply : (s t : State) (c : Command) (r q : Reply) → IsState s → IsState t → IsReply s c t r → IsReply s c t q →
      r ≡ q
  -- and it has one; for explain this follows from reading the bytes
  pub some_reply : (s t : State) (c : Command) → IsState s → HasCoords c → step s c ≡ Ok t →
      ((text : List ℕ) → c ≢ Explain text) → (reply : Reply) × IsReply s c t reply
  -- apart from out of memory, a command has one outcome
  pub one_outcome : (s t u : State) (c : Command) (o q : Outcome) → IsState s → HasCoords c → IsFalse (lacks_memory o) →
      IsFalse (lacks_memory q) → IsOutcome s c o t → IsOutcome s c q u → (o ≡ q) × (t ≡ u)
  -- committing an empty batch leaves the content; abort restores the state before begin
  pub empty_commit : (s t u : State) → step s Begin ≡ Ok t → step t (Commit 0) ≡ Ok u → u ≡ s
  pub abort_gives_back : (c : Content) (b u : State) → b.content ≡ c → step b Abort ≡ Ok u →
      u ≡ record { content = c; batch = None }
  -- a preview has the replies of the commit that may follow
  pub previews_commit : (s t : State) (count : ℕ) (r : Reply) → step s (Commit count) ≡ Ok t →
      IsReply s Preview s r ↔ IsReply s (Commit count) t r
  -- the rise of the count is determined, and 0 for commands that apply no change
  pub one_rise : (s t : State) (c : Command) (n m : ℕ) → Raises s c t n → Raises s c t m → n ≡ m
  pub no_rise : (s t : State) (c : Command) (n : ℕ) → changes_made s c ≡ [] → Raises s c t n → n ≡ 0
  -- outside a batch, adding or setting a path raises the count by one
  pub paths_raise_one : (s t : State) (name : List ℕ) (path : Path) → IsState s → s.batch ≡ None →
      (step s (Make (Add_path name path)) ≡ Ok t → Raises s (Make (Add_path name path)) t 1)
      × (step s (Make (Set_path name path)) ≡ Ok t → Raises s (Make (Set_path name path)) t 1)
  -- and setting the margin, also to what it was, by the number of paths
  pub margin_raises_all : (s t : State) (g : Margin) → s.batch ≡ None → step s (Make (Set_margin g)) ≡ Ok t →
      Raises s (Make (Set_margin g)) t (length s.content.paths)
  -- the records that show a node, or a line with its ends, are records of a dump
  pub shown_are_dumped : (c : Content) (n : ℕ) (x : Change) → IsMap c.map →
      (IsTrue (has_node c.map n) → Contains (node_changes c.map n) x → Contains (dump_changes c) x)
      × (IsTrue (has_line c.map n) → Contains (line_changes c.map n) x → Contains (dump_changes c) x)
  -- an edit that touches none but these nodes affects only paths that depend on them, and those that name a line which
  -- it adds
  pub affected_depend : (c : Content) (N : Map) (e : Edit) (nodes : List ℕ) (p : Named) → edited c.map e ≡ Ok N →
      ((v : ℕ) → IsTrue (has (touched_nodes c.map e) v) → IsTrue (has nodes v)) → Affects c (On_map e ∷ []) p →
      DependsOn c.margin c.map nodes p.path ⊎ NamesAdded c.map e p.path
