-- A program that is put together from its columns, its objective and its rows.
use Rattle.std.proofs.Common.{◌≡◌, ℕ, Bool, sym, ap, ap₂, ◌∙◌, List, [], ◌++◌, map, Option}
use Rattle.std.proofs.lemmas.List.{map-append}
use Rattle.std.specs.Prelude.{flat_map}
use Rattle.fractions.specs.Rational.{ℚ}
use Rattle.fractions.specs.Rows.{Row}
use Rattle.affine_forms.specs.Forms.{AffineForm, coefficient}
use Rattle.linear_models.specs.Box.{Box}
use Rattle.linear_models.specs.Model.{Model}
use Rattle.linear_models.specs.Standard.{columns_from, limits, limits_of_bounds, limits_of_row, program_row, splits_of, spread, standard, wanted}

-- the parts, told by the columns that decisions have, the wanted form and the rows before and after the bounds
pub record IsAssembled (m : Model) (box : Box) (plain : Bool) (columns : List (ℕ × Option ℕ)) (objective : List ℚ) (constant : ℚ) (rows : List Row) : Type 0 where
  pub splits : List Bool
  pub form : AffineForm
  pub before : List Row
  pub splits_are : splits ≡ splits_of box
  pub form_is : form ≡ wanted m plain
  pub columns_are : columns ≡ columns_from 0 splits
  pub objective_is : objective ≡ spread splits (coefficient form.terms)
  pub constant_is : constant ≡ form.constant
  pub before_are : before ≡ [] ++ map (program_row splits) (flat_map limits_of_row m.rows)
  pub rows_are : rows ≡ before ++ map (program_row splits) (limits_of_bounds 0 box.least box.greatest)

pub assembled : (m : Model) (box : Box) (plain : Bool) (columns : List (ℕ × Option ℕ)) (objective : List ℚ) (constant : ℚ) (rows : List Row) → IsAssembled m box plain columns objective constant rows
    → record { columns = columns; objective = objective; constant = constant; rows = rows } ≡ standard m box plain
assembled m box plain columns objective constant rows a =
    let c : columns ≡ columns_from 0 (splits_of box) = a.columns_are ∙ ap (columns_from 0) a.splits_are in
    let o : objective ≡ spread (splits_of box) (coefficient (wanted m plain).terms) = a.objective_is ∙ ap₂ (λ s (f : AffineForm). spread s (coefficient f.terms)) a.splits_are a.form_is in
    let k : constant ≡ (wanted m plain).constant = a.constant_is ∙ ap (λ (f : AffineForm). f.constant) a.form_is in
    let r : rows ≡ map (program_row (splits_of box)) (limits m box) =
    a.rows_are ∙ ap (λ xs. xs ++ map (program_row a.splits) (limits_of_bounds 0 box.least box.greatest)) a.before_are
    ∙ sym (map-append (program_row a.splits) (flat_map limits_of_row m.rows) (limits_of_bounds 0 box.least box.greatest)) ∙ ap (λ s. map (program_row s) (limits m box)) a.splits_are in
    λ i. record { columns = c i; objective = o i; constant = k i; rows = r i }
