-- How a register represents a state in memory: of an open batch not the changes, but their result.
--     RegisterState      a content and, if a batch is open, its result
--     IsBatchOf c b xs      the batch is the result of these changes, made one after another from c
--     Represents k s      the register represents the state
use Rattle.std.specs.Prelude.{◌≡◌, ℕ, Bool, List, map, length, Option, Some, None}
use Rattle.std.specs.List.{list_any, AllByRecursion}
use Rattle.std.specs.Coded.{Coded, code_by, coded_ℕ, coded_bool, coded_list, coded_option, coded×}
use Rattle.std.proofs.Common.{refl}
use Rattle.olr_spec.specs.Map.{Map, has}
use Rattle.olr_spec.specs.Extension.{Path}
use Rattle.olr_spec.specs.Margins.{Margin}
use Rattle.olr_spec.specs.Codes.{coded_map}
use Rattle.olr_answers.specs.Coded.{coded_path}
use Rattle.olr_commands.specs.State.{Named, Content, Change, after, State}
use Rattle.olr_commands.specs.Counts.{all_nodes, all_lines, gives}

-- a path of a batch's list, and whether the batch encodes it in any case: it added or replaced it, or set the margin
pub record Held : Type 0 where
  pub name : List ℕ
  pub path : Path
  pub given : Bool

-- the map, the paths and the margin after the batch's changes, the number of changes, and the nodes and lines that they
-- touch
pub record Batch : Type 0 where
  pub map : Map
  pub paths : List Held
  pub margin : Margin
  pub count : ℕ
  pub nodes : List ℕ
  pub lines : List ℕ

pub record RegisterState : Type 0 where
  pub content : Content
  pub batch : Option Batch

abbrev pub named_held : Held → Named
named_held h = record { name = h.name; path = h.path }

abbrev pub content_of : Batch → Content
content_of b = record { map = b.map; paths = map named_held b.paths; margin = b.margin }

pub record IsBatchOf (c : Content) (b : Batch) (xs : List Change) : Type 0 where
  pub content : content_of b ≡ after c xs
  pub count : b.count ≡ length xs
  pub nodes : (v : ℕ) → has b.nodes v ≡ has (all_nodes c xs) v
  pub lines : (x : ℕ) → has b.lines x ≡ has (all_lines xs) x
  pub given : AllByRecursion (λ h. h.given ≡ list_any (gives h.name) xs) b.paths

abbrev pub RepresentsBatch : Content → Option Batch → Option (List Change) → Type 0
RepresentsBatch c None None = Unit {0}
RepresentsBatch c (Some b) (Some xs) = IsBatchOf c b xs
RepresentsBatch c None (Some xs) = ⊥
RepresentsBatch c (Some b) None = ⊥

abbrev pub Represents : RegisterState → State → Type 0
Represents k s = (k.content ≡ s.content) × RepresentsBatch k.content k.batch s.batch

-- ---- codes, for an `impl Model`

abbrev pub coded_named : Coded Named
coded_named =
    code_by (List ℕ × Path) (coded× (coded_list coded_ℕ) coded_path) (λ n. (n.name, n.path))
    (λ t. record { name = t.0; path = t.1 }) (λ _. refl)

abbrev pub coded_margin : Coded Margin
coded_margin =
    code_by (ℕ × ℕ) (coded× coded_ℕ coded_ℕ) (λ g. (g.routes, g.classes)) (λ t. record { routes = t.0; classes = t.1 })
    (λ _. refl)

abbrev pub coded_content : Coded Content
coded_content =
    code_by (Map × (List Named × Margin)) (coded× coded_map (coded× (coded_list coded_named) coded_margin))
    (λ c. (c.map, (c.paths, c.margin))) (λ t. record { map = t.0; paths = t.1.0; margin = t.1.1 }) (λ _. refl)

abbrev pub coded_held : Coded Held
coded_held =
    code_by (List ℕ × (Path × Bool)) (coded× (coded_list coded_ℕ) (coded× coded_path coded_bool))
    (λ h. (h.name, (h.path, h.given))) (λ t. record { name = t.0; path = t.1.0; given = t.1.1 }) (λ _. refl)

abbrev pub coded_batch : Coded Batch
coded_batch =
    code_by ((Map × List Held) × ((Margin × ℕ) × (List ℕ × List ℕ)))
    (coded× (coded× coded_map (coded_list coded_held))
    (coded× (coded× coded_margin coded_ℕ) (coded× (coded_list coded_ℕ) (coded_list coded_ℕ))))
    (λ b. ((b.map, b.paths), ((b.margin, b.count), (b.nodes, b.lines))))
    (λ t. record { map = t.0.0; paths = t.0.1; margin = t.1.0.0; count = t.1.0.1; nodes = t.1.1.0; lines = t.1.1.1 })
    (λ _. refl)

abbrev pub coded_register_state : Coded RegisterState
coded_register_state =
    code_by (Content × Option Batch) (coded× coded_content (coded_option coded_batch)) (λ k. (k.content, k.batch))
    (λ t. record { content = t.0; batch = t.1 }) (λ _. refl)
