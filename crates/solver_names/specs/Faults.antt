-- The faults of what the names of a sheet say, in the order in which they are told: by their kinds, and then by constraint.
use Rattle.std.specs.Prelude.{ℕ, ◌==◌, ◌&&◌, ◌||◌, ◌++◌, not, nat_lt, Bool, true, false, List, [], ◌∷◌, map, find, flat_map, length, if◌then◌else◌, Option, Some, None, option_to_list}
use Rattle.optimality.specs.declared.kinds.Relation.{Relation}
use Rattle.std.specs.List.{range_with_len}
use Rattle.cell_refs.specs.Areas.{Area, area_len, cell_at}
use Rattle.cell_refs.specs.declared.cell.Cell.{Cell}
use Rattle.cell_refs.specs.declared.place.Place.{Place}
use Rattle.solver_names.specs.declared.limits.TheConstants.{MOST_DECISIONS, MOST_ROWS}
use Rattle.solver_names.specs.declared.name.Name.TheVariants as name
use Rattle.solver_names.specs.declared.faults.Fault.{Fault}
use Rattle.solver_names.specs.declared.faults.Fault.TheVariants as fault
use Rattle.solver_names.specs.declared.faults.Check.{Check}
use Rattle.solver_names.specs.declared.faults.Check.TheVariants as check
use Rattle.solver_names.specs.declared.said.Said.{Said}
use Rattle.solver_names.specs.declared.said.Said.TheVariants.{Says}
use Rattle.solver_names.specs.declared.constraints.Code.{Code}
use Rattle.solver_names.specs.declared.constraints.Code.TheVariants as code
use Rattle.solver_names.specs.declared.constraints.Constraint.{Constraint}
use Rattle.solver_names.specs.declared.constraints.Side.{Side}
use Rattle.solver_names.specs.declared.constraints.Side.TheVariants as side
use Rattle.solver_names.specs.Texts.{is_absent, is_unformed, or_else}
use Rattle.solver_names.specs.Constraints.{is_among, is_related, left_cells, right_place}
use Rattle.solver_names.specs.Read.{Read}

-- how many decision cells and how many expanded rows there may be
abbrev pub most_decisions : ℕ
most_decisions = MOST_DECISIONS

abbrev pub most_rows : ℕ
most_rows = MOST_ROWS

abbrev pub where_so : Bool → Fault → List Fault
where_so b f = if b then f ∷ [] else []

-- the decision cells are named by nothing
abbrev pub no_decisions : Read → List Fault
no_decisions r = where_so (is_absent r.decisions) fault.NoNames

-- a text isn't of its form: the decision cells, the objective, then the left and the right side of each constraint
abbrev pub sides_unformed : Constraint → List Fault
sides_unformed c = where_so (is_unformed c.left) (fault.Reference (name.Left c.k)) ++ where_so (is_unformed c.right) (fault.Reference (name.Right c.k))

abbrev pub cells_unformed : Read → List Fault
cells_unformed r =
    where_so (is_unformed r.decisions) (fault.Reference name.Decisions) ++ where_so (is_unformed r.objective) (fault.Reference name.Objective)

-- a constraint has no left side, no code, or no right side where its code is a relation
abbrev pub missing : Constraint → List Fault
missing c = where_so (is_absent c.left || is_absent c.code || (is_related c.code && is_absent c.right)) (fault.Missing c.k)

-- a code is none of the six
abbrev pub bad_code : Constraint → List Fault
bad_code c = where_so (is_unformed c.code) (fault.Code c.k)

-- a right area has neither one cell nor as many as the left
abbrev pub mismatch_of : ℕ → Said Area → Said Side → List Fault
mismatch_of k (Says a) (Says (side.Area b)) = where_so (not ((area_len b == 1) || (area_len b == area_len a))) (fault.Sizes k (area_len a) (area_len b))
mismatch_of k _ _ = []

abbrev pub mismatch : Constraint → List Fault
mismatch c = mismatch_of c.k c.left c.right

-- a cell that is to be whole, binary or different from others is no decision cell: the first one
abbrev pub is_mark : Said Code → Bool
is_mark (Says code.Whole) = true
is_mark (Says code.Binary) = true
is_mark (Says code.Different) = true
is_mark _ = false

abbrev pub other_cell : List Cell → List Cell → Option Cell
other_cell decisions cells = find (λ cell. not (is_among decisions cell)) cells

abbrev pub no_decision : List Cell → Constraint → List Fault
no_decision decisions c = if is_mark c.code then map (fault.NotDecision c.k) (option_to_list (other_cell decisions (left_cells c.left))) else []

-- an option isn't of its form. What is wanted is read where there is an objective, and the value where it is to be reached.
abbrev pub is_reached : Said ℕ → Bool
is_reached (Says n) = n == 3
is_reached _ = false

abbrev pub bad_options : Read → List Fault
bad_options r =
    let wanted = not (is_absent r.objective) in
    where_so (wanted && is_unformed r.goal) (fault.Option name.Goal) ++ (where_so (wanted && (is_reached r.goal && is_unformed r.value)) (fault.Option name.Value)
    ++ (where_so (is_unformed r.negative) (fault.Option name.Negative) ++ where_so (is_unformed r.count) (fault.Option name.Count)))

abbrev pub decisions_of : Read → List Cell
decisions_of r = or_else r.decisions []

abbrev pub too_many_decisions : List Cell → List Fault
too_many_decisions decisions = where_so (nat_lt most_decisions (length decisions)) (fault.TooManyDecisions (length decisions))

-- ---- rows
-- the row of the left cell at a place
abbrev pub row_at : Constraint → Relation → Area → ℕ → Relation × Cell × Place
row_at c r a i = (r, cell_at a i, right_place c.k c.right i)

-- the rows of a constraint whose code is a relation: one for each left cell
abbrev pub rows_by : Constraint → Said Code → Said Area → List (Relation × Cell × Place)
rows_by c (Says (code.Related r)) (Says a) = map (row_at c r a) (range_with_len 0 (area_len a))
rows_by c _ _ = []

abbrev pub rows_of : Constraint → List (Relation × Cell × Place)
rows_of c = rows_by c c.code c.left

abbrev pub all_rows : List Constraint → List (Relation × Cell × Place)
all_rows cs = flat_map rows_of cs

abbrev pub too_many_rows : List Constraint → List Fault
too_many_rows cs = where_so (nat_lt most_rows (length (all_rows cs))) (fault.TooManyRows (length (all_rows cs)))

-- ---- all of them
-- the faults of a constraint by each check
abbrev pub found_by : Check → List Cell → Constraint → List Fault
found_by check.Sides decisions c = sides_unformed c
found_by check.Parts decisions c = missing c
found_by check.Code decisions c = bad_code c
found_by check.Sizes decisions c = mismatch c
found_by check.Decisions decisions c = no_decision decisions c

abbrev pub all_by : Check → List Cell → List Constraint → List Fault
all_by check decisions cs = flat_map (found_by check decisions) cs

-- those of the constraints, check by check
abbrev pub of_constraints : List Cell → List Constraint → List Fault
of_constraints decisions cs =
    all_by check.Sides decisions cs ++ (all_by check.Parts decisions cs ++ (all_by check.Code decisions cs
    ++ (all_by check.Sizes decisions cs ++ all_by check.Decisions decisions cs)))

abbrev pub too_many : List Cell → List Constraint → List Fault
too_many decisions cs = too_many_decisions decisions ++ too_many_rows cs

-- all faults in their order
abbrev pub faults : Read → List Fault
faults r =
    no_decisions r ++ (cells_unformed r ++ (of_constraints (decisions_of r) r.constraints ++ (bad_options r ++ too_many (decisions_of r) r.constraints)))

-- the first, where there is one
abbrev pub first : List Fault → Option Fault
first [] = None
first (f ∷ fs) = Some f
