-- What an open batch makes of a change.
--     path_by p, change_of c      the path of these parts;  the change, in terms of commands
--     AreGiven xs hs      `given` is true for the paths that one of the changes gives
--     MayReport taking fault      the first fault, or out of memory where no fault takes precedence over it
--     IsMade g h old new ks ls s t x      the change leads from the first margin, map, list and touched set to the second
--     StaysUnderWay old new b d      bounds that are under way on the old map, but for what batch b touched, are so on the
--         new map, but for what batch d touched
--     Makes old new is b d x result      it is made, or it is rejected and the batch is unchanged
--     HoldsChange old new is b d x result      it is held too, or it is rejected
use Rattle.std.specs.Prelude.{◌≡◌, ℕ, suc, ◌||◌, [], ◌∷◌, ◌++◌, List, map, Result, Ok, Err, OnOk, OnErr, nat_le, IsFalse, string_bytes}
use Rattle.std.specs.Result.{IfOk, IfErr}
use Rattle.std.specs.List.{list_any, AllByRecursion}
use Rattle.olr_spec.specs.Map.{has}
use Rattle.olr_spec.specs.Extension.{Path}
use Rattle.olr_spec.specs.Margins.{Margin}
use Rattle.olr_model.specs.Edits.{edit_of}
use Rattle.olr_map.specs.RoadMaps.{map_of, slot_of, map_before}
use Rattle.olr_map.specs.declared.road_map.RoadMap.{RoadMap}
use Rattle.olr_renewal.specs.Bounds.{IsUnderWay}
use Rattle.olr_renewal.specs.declared.distance_bounds.DistanceBounds.{DistanceBounds}
use Rattle.olr_commands.specs.State as state
use Rattle.olr_commands.specs.State.{Content, Fault, Memory, Batch_full, full, when, with_change}
use Rattle.olr_commands.specs.Reply.{is_reported_first}
use Rattle.olr_commands.specs.Reply as replies
use Rattle.olr_commands.specs.Counts.{nodes_of_change, lines_of_change, gives}
use Rattle.olr_commands.specs.Words.{command_fault_of, reply_of, path_along}
use Rattle.olr_commands.specs.declared.reply.Reply.{Reply}
use Rattle.olr_commands.specs.declared.fault.CommandFault.{CommandFault}
use Rattle.olr_paths.specs.Items.{Item}
use Rattle.olr_renewal.specs.ChangeSets.{nodes_of, lines_of}
use Rattle.olr_renewal.specs.declared.change_set.ChangeSet.{ChangeSet}
use Rattle.olr_register.specs.RegisterState.{Held}
use Rattle.olr_register.specs.Contents.{held_of, content_on, under_batch, content_under, batch_of, IsHeld, KeepsMargin}
use Rattle.olr_register.specs.declared.batch.Batch.{Batch}
use Rattle.olr_register.specs.declared.change.PathParts.{PathParts}
use Rattle.olr_register.specs.declared.change.Change.{Change}
use Rattle.olr_register.specs.declared.change.Change.TheVariants as change

abbrev pub path_by : PathParts → Path
path_by p = path_along p.lines.items p.pos p.neg

abbrev pub change_of : Change → state.Change
change_of (change.Edit e) = state.On_map (edit_of e)
change_of (change.AddPath name parts) = state.Add_path (string_bytes name) (path_by parts)
change_of (change.SetPath name parts) = state.Set_path (string_bytes name) (path_by parts)
change_of (change.DropPath name) = state.Drop_path (string_bytes name)
change_of (change.SetMargin g) = state.Set_margin g

abbrev pub AreGiven : List state.Change → List Held → Type 0
AreGiven xs hs = AllByRecursion (λ h. h.given ≡ list_any (gives h.name) xs) hs

pub data MayReport (taking : Result Content Fault) (fault : Fault) : Type 0 where
  ByContent : taking ≡ Err fault → MayReport taking fault
  Lacks : fault ≡ Memory → ((first : Fault) → taking ≡ Err first → IsFalse (is_reported_first first)) →
      MayReport taking fault

pub record IsMade (g h : Margin) (old new : RoadMap) (ks ls : List Item) (s t : ChangeSet) (x : state.Change) : Type 0 where
  pub content : with_change (content_on g (map_of old) ks) x ≡ Ok (content_on h (map_of new) ls)
  pub nodes : (v : ℕ) → has (nodes_of t) v ≡ (has (nodes_of s) v || has (nodes_of_change (map_of old) x) v)
  pub lines : (y : ℕ) → has (lines_of t) y ≡ (has (lines_of s) y || has (lines_of_change x) y)
  pub given : (xs : List state.Change) → AreGiven xs (map held_of ks) → AreGiven (xs ++ x ∷ []) (map held_of ls)

abbrev pub IsMadeIn : RoadMap → RoadMap → List Item → Batch → Batch → state.Change → Type 0
IsMadeIn old new is b d x =
    IsMade b.margin d.margin old new (under_batch is b) (under_batch is d) b.touched d.touched x

abbrev pub StaysUnderWay : RoadMap → RoadMap → Batch → Batch → Type 0
StaysUnderWay old new b d =
    (bounds : DistanceBounds) → IsUnderWay (map_of old) (slot_of old) (nodes_of b.touched) bounds →
    IsUnderWay (map_of new) (slot_of new) (nodes_of d.touched) bounds

pub record Makes (old new : RoadMap) (is : List Item) (b d : Batch) (x : state.Change)
    (result : Result (Unit {0}) CommandFault) : Type 0
  where
    pub count : d.count ≡ b.count
    pub before : map_before new d.log ≡ map_before old b.log
    pub made : OnOk result (IsMadeIn old new is b d x)
    pub refused : IfErr result (λ f. MayReport (with_change (content_under old is b) x) (command_fault_of f))
    pub unchanged : OnErr result (batch_of new is d ≡ batch_of old is b)
    pub held : IsHeld old is b → IsHeld new is d
    pub margin : (g : Margin) → KeepsMargin g b → KeepsMargin g d
    pub under_way : StaysUnderWay old new b d

-- the content after the held changes and this one, or the first fault
abbrev pub content_with : RoadMap → List Item → Batch → state.Change → Result Content Fault
content_with old is b x = when (nat_le full b.count) Batch_full (with_change (content_under old is b) x)

pub record HoldsChange (old new : RoadMap) (is : List Item) (b d : Batch) (x : state.Change)
    (result : Result Reply CommandFault) : Type 0
  where
    pub before : map_before new d.log ≡ map_before old b.log
    pub made : OnOk result (IsMadeIn old new is b d x)
    pub room : OnOk result (IsFalse (nat_le full b.count))
    pub count : OnOk result (d.count ≡ suc b.count)
    pub reply : IfOk result (λ r. reply_of r ≡ replies.Held d.count)
    pub refused : IfErr result (λ f. MayReport (content_with old is b x) (command_fault_of f))
    pub unchanged : OnErr result (batch_of new is d ≡ batch_of old is b)
    pub held : IsHeld new is d
    pub margin : (g : Margin) → KeepsMargin g b → KeepsMargin g d
    pub under_way : StaysUnderWay old new b d
