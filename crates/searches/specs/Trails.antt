-- The trail of a search: its openings and pivots one after the other, and what stands after each.
-- (Schrijver, Theory of Linear and Integer Programming, chapter 24; Chvatal, Linear Programming, chapter 3.)
use Rattle.std.specs.Prelude.{◌≡◌, ◌≤◌, ◌⊎◌, ◌+◌, ◌++◌, ℕ, suc, ℤ, Bool, true, false, List, [], ◌∷◌, length, map, All, Option, Some, None, slice_get, ⊤}
use Rattle.std.specs.List.{remove}
use Rattle.fractions.specs.Rational.{ℚ, ◌<ℚ◌, ◌≤ℚ◌, zero_ℚ}
use Rattle.fractions.specs.Vectors.{at}
use Rattle.fractions.specs.Floor.{floor_ℚ}
use Rattle.optimality.specs.Groups.{AreDifferent}
use Rattle.optimality.specs.Optimal.{IsWhole}
use Rattle.affine_forms.specs.Forms.{constant_form}
use Rattle.linear_programs.specs.Program.{Program, cell_numbers}
use Rattle.dictionaries.specs.Dictionary.{Dictionary, first_of_program, pivoted}
use Rattle.dictionaries.specs.Reading.{point_of, basic_solution, change_along}
use Rattle.dictionaries.specs.Narrow.{IsNarrowPivot}
use Rattle.dictionaries.specs.Bland.{NextPivot, IsBestEnd, IsInfeasibleEnd, IsUnboundedEnd, HasEnded}
use Rattle.node_pick.specs.Rules.{Rule, Follows}
use Rattle.linear_models.specs.Box.{Box}
use Rattle.linear_models.specs.Model.{Model, is_whole_at, maximised}
use Rattle.linear_models.specs.Standard.{standard}
use Rattle.searches.specs.Trees.{Node, End, empty, beaten, whole, split, clash, endless, Ending, ending_at, box_along, new_nodes, root, Found, found_at, Way, way_at, info}
use Rattle.searches.specs.Alike.{AreFirstAlike, BoundsDiffer, SplitsAt, FloorIs}

-- ---- how the run of a node's program ends
-- with no point; with a best point and its value; with a point and a direction: all by their decisions
pub data Outcome : Type 0 where
  no_point : Outcome
  best : (point : List ℚ) (value : ℚ) → Outcome
  no_bound : (point direction : List ℚ) → Outcome

-- the numbers of the decisions at the dictionary's basic solution
abbrev pub decisions_at : Program → Dictionary → List ℚ
decisions_at p d = cell_numbers p (point_of p (basic_solution d))

-- and how they change where the variable of the column c grows by 1
abbrev pub decisions_along : Program → Dictionary → ℕ → List ℚ
decisions_along p d c = cell_numbers p (point_of p (change_along d c))

-- the dictionary is the last one of a run that ends so
pub data Finishes (p : Program) (d : Dictionary) : Outcome → Type 0 where
  without_point : IsInfeasibleEnd d → Finishes p d no_point
  at_best : IsBestEnd d → Finishes p d (best (decisions_at p d) (at d.objective 0))
  without_bound : (c : ℕ) → IsUnboundedEnd d c → Finishes p d (no_bound (decisions_at p d) (decisions_along p d c))

-- ---- what becomes of the node then
-- after an unbounded program the objective is 0
abbrev pub is_plain : Option Way → Bool
is_plain None = false
is_plain (Some w) = true

-- the part of the model's box to which the node's path leads
abbrev pub box_of : Model → Node → Box
box_of m node = box_along m.bounds node.path

-- its standard program, with the objective 0 after an unbounded program
abbrev pub node_program : Model → Option Way → Node → Program
node_program m way node = standard m (box_of m node) (is_plain way)

-- a value is better than that of the point found, if one is found
abbrev pub IsBetterThan : Option Found → ℚ → Type 0
IsBetterThan None v = ⊤
IsBetterThan (Some f) v = f.value <ℚ v

-- the decision is to be whole and isn't
pub record IsBroken (m : Model) (x : List ℚ) (j : ℕ) : Type 0 where
  pub marked : is_whole_at m.whole j ≡ true
  pub broken : ¬ (IsWhole (at x j))

-- of those the one of least number
pub record IsFirstBroken (m : Model) (x : List ℚ) (j : ℕ) : Type 0 where
  pub broken : IsBroken m x j
  pub least : (i : ℕ) → IsBroken m x i → j ≤ i

-- each decision that is to be whole is
abbrev pub IsUnbroken : Model → List ℚ → Type 0
IsUnbroken m x = (j : ℕ) → ¬ (IsBroken m x j)

-- an opened node of this box whose run ends with this outcome comes to this end: where all decisions that are to be whole are, but two of a group hold the same number,
-- the box is split at one of these whose bounds differ, and without one the node is closed
pub data ComesTo (m : Model) (box : Box) (found : Option Found) : Outcome → End → Type 0 where
  is_empty : ComesTo m box found no_point empty
  is_endless : (x way : List ℚ) → ComesTo m box found (no_bound x way) (endless x way)
  is_beaten : (x : List ℚ) (v : ℚ) (f : Found) → found ≡ Some f → v ≤ℚ f.value → ComesTo m box found (best x v) (beaten v)
  is_whole : (x : List ℚ) (v : ℚ) → IsBetterThan found v → IsUnbroken m x → All (AreDifferent x) m.groups → ComesTo m box found (best x v) (whole x v)
  is_split : (x : List ℚ) (v : ℚ) (j : ℕ) → IsBetterThan found v → IsFirstBroken m x j → ComesTo m box found (best x v) (split j (floor_ℚ (at x j)) v)
  is_parted : (x : List ℚ) (v : ℚ) (i j c : ℕ) (f : ℤ) → IsBetterThan found v → IsUnbroken m x → AreFirstAlike x m.groups i j → SplitsAt box i j c → FloorIs box c (at x c) f
      → ComesTo m box found (best x v) (split c f v)
  is_clash : (x : List ℚ) (v : ℚ) (i j : ℕ) → IsBetterThan found v → IsUnbroken m x → AreFirstAlike x m.groups i j → ¬ (BoundsDiffer box i) → ¬ (BoundsDiffer box j)
      → ComesTo m box found (best x v) (clash i j v)

-- ---- where a search stands
-- a node that was opened, the pivots made in it, and how it ended
pub record Opened : Type 0 where
  pub node : Node
  pub pivots : ℕ
  pub ending : Ending

-- the node that is worked on, the pivots made in it, and the dictionary that they have led to
pub record Work : Type 0 where
  pub node : Node
  pub pivots : ℕ
  pub dictionary : Dictionary

-- the nodes that were opened and have ended, the latest first; those that wait, in rising number; how many nodes there are in all;
-- the best whole point found; the way out of an unbounded program; the node that is worked on
pub record State : Type 0 where
  pub opened : List Opened
  pub waiting : List Node
  pub count : ℕ
  pub found : Option Found
  pub way : Option Way
  pub work : Option Work

-- the root waits
abbrev pub start : State
start = record { opened = []; waiting = root 0 ∷ []; count = 1; found = None; way = None; work = None }

-- the node at a place waits no more
abbrev pub without_place : State → ℕ → State
without_place s p = record s { waiting = remove s.waiting p }

-- a node is worked on
abbrev pub worked : State → Node → ℕ → Dictionary → State
worked s node k d = record s { work = Some record { node = node; pivots = k; dictionary = d } }

-- the nodes that wait after an end: a second tree begins with its root alone
abbrev pub waiting_after : End → List Node → List Node → List Node
waiting_after (endless point direction) waiting new = new
waiting_after empty waiting new = waiting ++ new
waiting_after (beaten value) waiting new = waiting ++ new
waiting_after (whole point value) waiting new = waiting ++ new
waiting_after (split j f value) waiting new = waiting ++ new
waiting_after (clash i j value) waiting new = waiting ++ new

-- the node has come to its end
abbrev pub ended : State → Node → ℕ → End → State
ended s node k e = record {
  opened = record { node = node; pivots = k; ending = ending_at s.count e } ∷ s.opened;
  waiting = waiting_after e s.waiting (new_nodes s.count node e);
  count = s.count + length (new_nodes s.count node e);
  found = found_at e s.found;
  way = way_at e s.way;
  work = None;
}

-- no decision is to be whole
abbrev pub HasNoMarks : Model → Type 0
HasNoMarks m = (j : ℕ) → is_whole_at m.whole j ≡ true → ⊥

-- what is to be as great as can be is 0 everywhere
abbrev pub HasNoObjective : Model → Type 0
HasNoObjective m = maximised m.goal m.objective ≡ constant_form zero_ℚ

-- why a search is over: no node waits; the objective is 0 and a whole point is found; or the root is unbounded and no decision is to be whole
pub data IsOver (m : Model) (s : State) : Type 0 where
  none_waits : s.waiting ≡ [] → IsOver m s
  one_is_enough : (f : Found) → (is_plain s.way ≡ true) ⊎ HasNoObjective m → s.found ≡ Some f → IsOver m s
  unbounded_at_once : (w : Way) → HasNoMarks m → s.way ≡ Some w → IsOver m s

-- ---- units
-- the opening of the node of a number, or the pivot of a row and a column
pub data SearchUnit : Type 0 where
  opening : (number : ℕ) → SearchUnit
  pivot : (row column : ℕ) → SearchUnit

-- the node has come to this dictionary: its run goes on, or it ends
pub data Becomes (m : Model) (s : State) (node : Node) (k : ℕ) (d : Dictionary) : State → Type 0 where
  goes_on : ¬ (HasEnded d) → Becomes m s node k d (worked s node k d)
  ends : (o : Outcome) (e : End) → Finishes (node_program m s.way node) d o → ComesTo m (box_of m node) s.found o e → Becomes m s node k d (ended s node k e)

-- one unit: the opening of a waiting node, at a place that the rule allows, or the next pivot of the node that is worked on, each of its numbers narrow
pub data Grows (m : Model) (rule : Rule) (s : State) : SearchUnit → State → Type 0 where
  opens : (p : ℕ) (node : Node) (t : State) → s.work ≡ None → ¬ (IsOver m s) → slice_get s.waiting p ≡ Some node → Follows rule (map info s.waiting) p
      → Becomes m (without_place s p) node 0 (first_of_program (node_program m s.way node)) t → Grows m rule s (opening node.number) t
  pivots : (w : Work) (r c : ℕ) (t : State) → s.work ≡ Some w → NextPivot w.dictionary r c → IsNarrowPivot w.dictionary r c
      → Becomes m s w.node (suc w.pivots) (pivoted w.dictionary r c) t → Grows m rule s (pivot r c) t

-- these units, the latest first, lead from the one state to the other, and each opening follows the rule
pub data Leads (m : Model) (rule : Rule) (s : State) : List SearchUnit → State → Type 0 where
  stays : Leads m rule s [] s
  grows : (us : List SearchUnit) (t : State) (u : SearchUnit) (t' : State) → Leads m rule s us t → Grows m rule t u t' → Leads m rule s (u ∷ us) t'

-- a trail of the model by a rule, and where it leads
abbrev pub Trail : Model → Rule → List SearchUnit → State → Type 0
Trail m rule us s = Leads m rule start us s
