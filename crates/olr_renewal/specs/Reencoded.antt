-- Which paths of a list are encoded again, and what is reported and counted.
--     results_at r      the new results.
--     encodings_of r      how many encodings are counted
--     IsStep      the effect of the action for a path
--     IsGiven N g ls action      the coverage queries that are not searched again are right on the map
--     IsRenewal g N t before is js r      the list js is the list is, renewed on N, after changes t that led from a map
--         where its results were right;  r reports the answers that are not those of the list before, and counts an
--         encoding for each path that was affected
--     AreLeft g M N T X is      the results of the list are right on N as well, and edits of M that touch T and X affect no path
--     to_renew_by u is      the list or, if the margin was set, the list of which no path is encoded yet
--     CanRenewOver map slot u bounds before is      the list is, to which changes led from the list before, can be renewed after the
--         map update u: map and slot are those of its map
--     CanRenewUnder map slot u f is o      the list is can be renewed under the changes of an overlay, and no name occurs twice
--     AreRenewed map u before is js r      the list js is the list is, renewed after the update
--     IsRenewed map u before is r      the list is with the results of r is renewed, and r reports and counts it
--     IsPutIn u is r js s      these results are put in the list js;  s reports and counts as r does, and has the coverage
--         queries that are new
--     IsUnchanged map u is, AreAffectedNames map u is names      the results of the list are right on the map of the update;
--         the names of the paths that its edits would affect
--     ReportsIfOther before name A es fs      an entry is appended if the answer is not the earlier one of the
--         name
use Rattle.std.specs.Prelude.{◌≡◌, ◌≢◌, ℕ, List, [], ◌∷◌, ◌++◌, map, Some, ◌⊎◌, ⊤}
use Rattle.olr_spec.specs.Map.{Map}
use Rattle.olr_spec.specs.Margins.{Margin}
use Rattle.olr_spec.specs.Queries.{AreKnownWith}
use Rattle.olr_search.specs.Counts.{raised_count}
use Rattle.olr_commands.specs.Counts.{CountIs}
use Rattle.olr_commands.specs.Words.{entry_of}
use Rattle.olr_spec.specs.Encoding.{Answer}
use Rattle.olr_commands.specs.Reply.{Entry, entry}
use Rattle.olr_commands.specs.State.{NamesDiffer}
use Rattle.olr_paths.specs.Items.{Results, Item, IsEncodingOf, AreEncodings, answer_in, all_named}
use Rattle.olr_paths.specs.Origins.{AreNewQueries}
use Rattle.olr_paths.specs.Changes.{Reported, to_renew}
use Rattle.olr_renewal.specs.AffectedSearches.{AreBoundsOf}
use Rattle.olr_renewal.specs.declared.distance_bounds.DistanceBounds.{DistanceBounds}
use Rattle.olr_paths.specs.Overlaid.{under_overlay}
use Rattle.olr_paths.specs.Stored.{Put, all_put, puts_of}
use Rattle.olr_paths.specs.declared.overlay.Overlay.{Overlay}
use Rattle.olr_renewal.specs.ChangeSets.{nodes_of, lines_of, changed_of}
use Rattle.olr_renewal.specs.declared.actions.Action.{Action}
use Rattle.olr_renewal.specs.declared.actions.Action.TheVariants.{Skip, Retain, Encode}
use Rattle.olr_renewal.specs.declared.change_set.ChangeSet.{ChangeSet}
use Rattle.olr_renewal.specs.Changes.{Follows, IsBefore, IsAffected, AreReencoded, AffectedNames}
use Rattle.olr_renewal.specs.declared.renewal.Renewal.{Renewal}
use Rattle.olr_renewal.specs.declared.renewal.Renewed.{Renewed}
use Rattle.olr_renewal.specs.declared.update.MapUpdate.{MapUpdate}

abbrev pub results_at : Renewal → List Put
results_at r = puts_of r.fresh.items

abbrev pub entries_of : Renewed → List Entry
entries_of r = map entry_of r.entries.items

abbrev pub after_renewal : Renewal → List Item → List Item
after_renewal r is = all_put is (results_at r)

abbrev pub ReportsIfOther : List Item → List ℕ → Answer → List Entry → List Entry → Type 0
ReportsIfOther before name A es fs =
    ((answer_in before name ≡ Some A) × (fs ≡ es)) ⊎ ((answer_in before name ≢ Some A) × (fs ≡ es ++ entry name A ∷ []))

-- ---- one path

abbrev pub encodings_of : Renewal → ℕ
encodings_of r = r.renewed.work.encodings

-- the path is encoded again
abbrev pub IsEncodedAt : Margin → Map → List Item → Item → ℕ → Renewal → Renewal → Type 0
IsEncodedAt g N before i k r s =
    (m : Results) × IsEncodingOf g N i.path m
    × (results_at s ≡ results_at r ++ record { position = k; path = i.path; results = Some m } ∷ [])
    × ReportsIfOther before i.name m.answer (entries_of r.renewed) (entries_of s.renewed)
    × (encodings_of s ≡ raised_count (encodings_of r) 1)

abbrev pub IsStep : Margin → Map → List Item → Item → ℕ → Action → Renewal → Renewal → Type 0
IsStep g N before i k Skip r s = s ≡ r
IsStep g N before i k Retain r s =
    (results_at s ≡ results_at r) × (entries_of s.renewed ≡ entries_of r.renewed)
    × (encodings_of s ≡ raised_count (encodings_of r) 1)
IsStep g N before i k (Encode ks) r s = IsEncodedAt g N before i k r s

abbrev pub IsGiven : Map → Margin → List ℕ → Action → Type 0
IsGiven N g ls (Encode ks) = AreKnownWith g N ls ks.items
IsGiven N g ls _ = ⊤

-- ---- the whole list

-- the results of the list are right on L, and the changes led from L to N
abbrev pub WasBefore : Margin → Map → Map → ChangeSet → List Item → Type 0
WasBefore g L N t is = IsBefore g L N (nodes_of t) (lines_of t) (changed_of t) is

pub record IsRenewal (g : Margin) (N : Map) (t : ChangeSet) (before is js : List Item) (r : Renewed) : Type 0 where
  pub reencoded : AreReencoded g N is js
  pub named : all_named js ≡ all_named is
  pub reported : Reported before js (entries_of r)
  pub counted : (L : Map) → WasBefore g L N t is → (n : ℕ) × CountIs (IsAffected g L (nodes_of t) (lines_of t)) is n
      × (r.work.encodings ≡ raised_count 0 n)

abbrev pub AreLeft : Margin → Map → Map → List ℕ → List ℕ → List Item → Type 0
AreLeft g M N T X is = AreEncodings g N is × CountIs (IsAffected g M T X) is 0

-- ---- after a map update

pub record IsRenewable (g : Margin) (N : Map) (slot : ℕ → ℕ) (t : ChangeSet) (f : DistanceBounds) (earlier is : List Item)
    : Type 0 where
  pub follows : Follows earlier is
  pub bounds : AreBoundsOf N slot f is
  pub before : (L : Map) × WasBefore g L N t is

abbrev pub to_renew_by : {M : Type 0} → MapUpdate M → List Item → List Item
to_renew_by u is = to_renew u.sets_margin is

abbrev pub CanRenewOver : {M : Type 0} → (M → Map) → (M → ℕ → ℕ) → MapUpdate M → DistanceBounds → List Item → List Item → Type 0
CanRenewOver map slot u f before is =
    IsRenewable u.margin (map u.map.now) (slot u.map.now) u.touched.now f before (to_renew_by u is)

abbrev pub AreRenewed : {M : Type 0} → (M → Map) → MapUpdate M → List Item → List Item → List Item → Renewed → Type 0
AreRenewed map u before is js r = IsRenewal u.margin (map u.map.now) u.touched.now before (to_renew_by u is) js r

pub record CanRenewUnder {M : Type 0} (map : M → Map) (slot : M → ℕ → ℕ) (u : MapUpdate M) (f : DistanceBounds)
    (is : List Item) (o : Overlay) : Type 0
  where
    pub names : NamesDiffer (all_named (under_overlay is o))
    pub renewable : CanRenewOver map slot u f is (under_overlay is o)

abbrev pub IsRenewed : {M : Type 0} → (M → Map) → MapUpdate M → List Item → List Item → Renewal → Type 0
IsRenewed map u before is r = AreRenewed map u before is (after_renewal r (to_renew_by u is)) r.renewed

pub record IsPutIn {M : Type 0} (u : MapUpdate M) (is : List Item) (r : Renewal) (js : List Item) (s : Renewed) : Type 0 where
  pub items : js ≡ after_renewal r (to_renew_by u is)
  pub entries : s.entries ≡ r.renewed.entries
  pub work : s.work ≡ r.renewed.work
  pub queries : AreNewQueries s.queries.items (to_renew_by u is) js

-- ---- without a change of the map

abbrev pub IsUnchanged : {M : Type 0} → (M → Map) → MapUpdate M → List Item → Type 0
IsUnchanged map u is = WasBefore u.margin (map u.map.now) (map u.map.now) u.touched.now is

abbrev pub AreAffectedNames : {M : Type 0} → (M → Map) → MapUpdate M → List Item → List (List ℕ) → Type 0
AreAffectedNames map u is names =
    AffectedNames u.margin (map u.map.now) (nodes_of u.touched.now) (lines_of u.touched.now) is names
