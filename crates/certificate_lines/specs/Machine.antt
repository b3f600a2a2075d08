-- Reading lines from the first one on: what is still to come.
use Rattle.std.specs.Prelude.{ℕ, zero, suc, List, [], ◌∷◌, Option, Some, None}
use Rattle.certificate_lines.specs.Line.{Line, claim_line, point_line, ray_line, split_line, best_line, empty_line, clash_line, end_line, Said, said_optimal, said_infeasible, said_unbounded}

-- the claim; the point, and a tree; the point, and a direction; the direction; so many trees, and the last line; nothing
pub data State : Type 0 where
  at_claim : State
  at_point : State
  at_start : State
  at_ray : State
  at_trees : (waiting : ℕ) → State
  at_end : State

abbrev pub after_claim : Said → State
after_claim (said_optimal v) = at_point
after_claim said_infeasible = at_trees 1
after_claim said_unbounded = at_start

-- after a node's line where so many trees are still to come; none where none is
abbrev pub after_leaf : ℕ → Option State
after_leaf zero = None
after_leaf (suc n) = Some (at_trees n)

abbrev pub after_split : ℕ → Option State
after_split zero = None
after_split (suc n) = Some (at_trees (suc (suc n)))

abbrev pub after_end : ℕ → Option State
after_end zero = Some at_end
after_end (suc n) = None

-- a line where so many trees are still to come
abbrev pub step_in_trees : ℕ → Line → Option State
step_in_trees n (split_line j f) = after_split n
step_in_trees n (best_line ys) = after_leaf n
step_in_trees n (empty_line ys) = after_leaf n
step_in_trees n (clash_line i j) = after_leaf n
step_in_trees n end_line = after_end n
step_in_trees n (claim_line s) = None
step_in_trees n (point_line xs) = None
step_in_trees n (ray_line xs) = None

abbrev pub if_claim : Line → Option State
if_claim (claim_line s) = Some (after_claim s)
if_claim (point_line xs) = None
if_claim (ray_line xs) = None
if_claim (split_line j f) = None
if_claim (best_line ys) = None
if_claim (empty_line ys) = None
if_claim (clash_line i j) = None
if_claim end_line = None

abbrev pub if_point : State → Line → Option State
if_point s (point_line xs) = Some s
if_point s (claim_line c) = None
if_point s (ray_line xs) = None
if_point s (split_line j f) = None
if_point s (best_line ys) = None
if_point s (empty_line ys) = None
if_point s (clash_line i j) = None
if_point s end_line = None

abbrev pub if_ray : Line → Option State
if_ray (ray_line xs) = Some (at_trees 0)
if_ray (claim_line s) = None
if_ray (point_line xs) = None
if_ray (split_line j f) = None
if_ray (best_line ys) = None
if_ray (empty_line ys) = None
if_ray (clash_line i j) = None
if_ray end_line = None

-- what is to come after one more line; none where it can't stand there
abbrev pub step : State → Line → Option State
step at_claim l = if_claim l
step at_point l = if_point (at_trees 1) l
step at_start l = if_point at_ray l
step at_ray l = if_ray l
step (at_trees n) l = step_in_trees n l
step at_end l = None

-- after all of the lines
abbrev pub run : List Line → Option State → Option State
run [] s = s
run (l ∷ ls) None = None
run (l ∷ ls) (Some s) = run ls (step s l)
