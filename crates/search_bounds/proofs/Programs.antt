-- The run of a standard program of a model's box has few pivots.
use Rattle.std.proofs.Common.{ℕ, ◌+◌, ◌≤◌, Bool, ◌∷◌, length, arith}
use Rattle.dictionaries.specs.Dictionary.{Dictionary, first_of_program}
use Rattle.dictionaries.specs.Count.{choose}
use Rattle.dictionaries.specs.Run.{Leads}
use Rattle.dictionaries.proofs.Runs.{first_on_the_way}
use Rattle.dictionaries.proofs.Short.{runs_are_short}
use Rattle.linear_models.specs.Box.{Box}
use Rattle.linear_models.specs.Model.{Model, IsValid}
use Rattle.linear_models.specs.Standard.{standard}
use Rattle.linear_models.specs.Laws.{IsBoxOf}
use Rattle.linear_models.proofs.Points.{standard_keeps_points}
use Rattle.search_bounds.specs.Enough.{most_columns, most_rows}
use Rattle.search_bounds.proofs.MoreChoices.{choices_grow}
use Rattle.search_bounds.proofs.Sizes.{columns_few, rows_are_few}

-- the choices of basic variables of a program of the model's boxes
abbrev pub bases_of : Model → ℕ
bases_of m = choose (most_columns m + most_rows m + 1) (most_rows m)

pub pivots_few : (m : Model) (box : Box) (plain : Bool) (k : ℕ) (d : Dictionary) → IsValid m → IsBoxOf m box → Leads k (first_of_program (standard m box plain)) d → 1 + k ≤ bases_of m
pivots_few m box plain k d v b l =
    let p = standard m box plain in
    let s : length (first_of_program p ∷ l.later) ≤ choose (length p.objective + length p.rows + 1) (length p.rows) =
    runs_are_short p (first_of_program p) l.later (first_on_the_way p (standard_keeps_points.regular m box plain v b).regular) l.follow in
    let t = choices_grow (length p.objective) (length p.rows) (most_columns m) (most_rows m) (columns_few m box plain b) (rows_are_few m box plain b) in
    let c = l.count in
    omega (arith, s, t, c)
