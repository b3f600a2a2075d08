-- What a search holds, as a state of its trail.
use Rattle.std.specs.Prelude.{◌≡◌, ◌<◌, ◌≤◌, ◌+◌, ℕ, List, [], ◌∷◌, ◌++◌, map, reverse, length, Option, Some, None, ⊤, slice_get, slice_index_or, vec_len, vec_capacity}
use Rattle.std.specs.List.{AllByRecursion}
use Rattle.std.specs.Option.{option_map}
use Rattle.fractions.specs.Rational.{ℚ}
use Rattle.dictionaries.specs.Dictionary.{first_of_program}
use Rattle.dictionaries.specs.Run.{IsReached}
use Rattle.node_pick.specs.Rules.{Rule, Follows}
use Rattle.node_pick.specs.Messages.{Message, question, news}
use Rattle.node_pick.specs.declared.info.NodeEvent.TheVariants as events
use Rattle.node_pick.specs.declared.info.NodeInfo.{NodeInfo}
use Rattle.linear_models.specs.Model.{Model}
use Rattle.searches.specs.Trees as trees
use Rattle.searches.specs.Trails as trails
use Rattle.search_paths.specs.Tables as table
use Rattle.search_ends.specs.Ends.{IsNext}
use Rattle.branch_bound.specs.declared.frontier.Ending.{Ending}
use Rattle.branch_bound.specs.declared.frontier.Ending.TheVariants as endings
use Rattle.branch_bound.specs.declared.frontier.Visit.{Visit}
use Rattle.branch_bound.specs.declared.frontier.Found.{Found}
use Rattle.branch_bound.specs.declared.frontier.Way.{Way}
use Rattle.branch_bound.specs.declared.frontier.Frontier.{Frontier}
use Rattle.branch_bound.specs.declared.work.Work.{Work}

-- ---- nodes by their numbers
abbrev pub path_of : List (List trees.Part) → ℕ → List trees.Part
path_of paths n = slice_index_or paths n []

abbrev pub node_of : List (List trees.Part) → ℕ → Option ℚ → trees.Node
node_of paths n bound = record { number = n; path = path_of paths n; bound = bound }

abbrev pub waiting_of : List (List trees.Part) → NodeInfo → trees.Node
waiting_of paths i = node_of paths i.number i.bound

abbrev pub ending_of : Ending → trees.Ending
ending_of (endings.Parts lower) = trees.in_parts lower
ending_of (endings.Clash i j) = trees.in_clash i j
ending_of endings.Leaf = trees.in_leaf

abbrev pub opened_of : List (List trees.Part) → Visit → trails.Opened
opened_of paths v = record { node = node_of paths v.number v.bound; pivots = v.pivots; ending = ending_of v.ending }

abbrev pub work_of : List (List trees.Part) → Work → trails.Work
work_of paths w = record { node = waiting_of paths w.info; pivots = w.pivots; dictionary = w.dict }

abbrev pub found_of : Found → trees.Found
found_of f = record { point = f.point.items; value = f.value }

abbrev pub value_of : Found → ℚ
value_of f = f.value

abbrev pub way_of : Way → trees.Way
way_of w = record { point = w.point.items; direction = w.direction.items }

-- the state of a frontier and the node that is worked on
abbrev pub state_of : Frontier → Option Work → trails.State
state_of f work = record {
  opened = reverse (map (opened_of f.paths.paths) f.opened.items);
  waiting = map (waiting_of f.paths.paths) f.waiting.items;
  count = length f.paths.paths;
  found = option_map found_of f.found;
  way = option_map way_of f.way;
  work = option_map (work_of f.paths.paths) work;
}

-- ---- what is held in order
-- the node is there, and its depth is the length of its path
pub record IsListed (paths : List (List trees.Part)) (i : NodeInfo) : Type 0 where
  pub there : i.number < length paths
  pub depth : i.depth ≡ length (path_of paths i.number)
  pub short : i.depth ≤ i.number

abbrev pub AreListed : List (List trees.Part) → List NodeInfo → Type 0
AreListed paths is = AllByRecursion (IsListed paths) is

-- the nodes that have ended are there
abbrev pub AreThere : List (List trees.Part) → List Visit → Type 0
AreThere paths vs = AllByRecursion (λ v. v.number < length paths) vs

pub record IsOrderly (f : Frontier) : Type 0 where
  pub waiting : AreListed f.paths.paths f.waiting.items
  pub opened : AreThere f.paths.paths f.opened.items

-- room for the end of one node more, and for so many nodes that may wait after it
pub record HasRoom (f : Frontier) (n : ℕ) : Type 0 where
  pub paths : table.HasRoom f.paths n
  pub opened : vec_len f.opened < vec_capacity f.opened
  pub waiting : vec_len f.waiting + n ≤ vec_capacity f.waiting

-- only the room has changed
pub record IsSame (before after : Frontier) : Type 0 where
  pub paths : after.paths.paths ≡ before.paths.paths
  pub opened : after.opened.items ≡ before.opened.items
  pub waiting : after.waiting.items ≡ before.waiting.items
  pub found : after.found ≡ before.found
  pub way : after.way ≡ before.way

-- ---- states that change by a step
-- a part of the node waits
abbrev pub with_child : trails.State → trees.Node → trees.Part → ℚ → trails.State
with_child s node part value = record s { waiting = s.waiting ++ trees.child s.count node part value ∷ []; count = s.count + 1 }

-- a new root waits, and nothing else
abbrev pub with_root : trails.State → trails.State
with_root s = record s { waiting = trees.root s.count ∷ []; count = s.count + 1 }

-- the node has ended
abbrev pub with_opened : trails.State → trees.Node → ℕ → trees.Ending → trails.State
with_opened s node k e = record s { opened = record { node = node; pivots = k; ending = e } ∷ s.opened }

-- ---- the node that is worked on
-- its box, its program with a dictionary of that program's run, and room for its end
pub record IsReady (m : Model) (f : Frontier) (w : Work) : Type 0 where
  pub within : w.within ≡ trails.box_of m (waiting_of f.paths.paths w.info)
  pub program : w.program ≡ trails.node_program m (option_map way_of f.way) (waiting_of f.paths.paths w.info)
  pub reached : IsReached w.program w.dict
  pub columns : length w.program.columns ≡ length m.whole
  pub point : length w.point.items ≡ length m.whole
  pub direction : length w.direction.items ≡ length m.whole
  pub listed : IsListed f.paths.paths w.info
  pub room : HasRoom f 2

-- and its run goes on, with the next pivot that is kept with it
abbrev pub IsReadyIf : Model → Frontier → Option Work → Type 0
IsReadyIf m f None = ⊤
IsReadyIf m f (Some w) = IsReady m f w × IsNext w.dict w.next

-- ---- openings
-- what was made ready for a node that still waits
pub record IsPrepared (m : Model) (f : Frontier) (of : NodeInfo) (w : Work) : Type 0 where
  pub info : w.info ≡ of
  pub pivots : w.pivots ≡ 0
  pub within : w.within ≡ trails.box_of m (waiting_of f.paths.paths of)
  pub program : w.program ≡ trails.node_program m (option_map way_of f.way) (waiting_of f.paths.paths of)
  pub first : w.dict ≡ first_of_program w.program
  pub columns : length w.program.columns ≡ length m.whole
  pub point : length w.point.items ≡ length m.whole
  pub direction : length w.direction.items ≡ length m.whole
  pub room : HasRoom f 2

-- the node of a place that the rule allows waits no more, and is ready; the question and its opening were heard
pub record IsOpened (m : Model) (before after : Frontier) (rule : Rule) (heard : List Message → Type 0) (w : Work) : Type 0 where
  pub place : ℕ
  pub chosen : slice_get before.waiting.items place ≡ Some w.info
  pub follows : Follows rule before.waiting.items place
  pub hears : heard (question before.waiting.items place ∷ news (events.Opened w.info.number) ∷ [])
  pub state : state_of after None ≡ trails.without_place (state_of before None) place
  pub ready : IsReady m after w
  pub pivots : w.pivots ≡ 0
  pub first : w.dict ≡ first_of_program w.program
