-- Single values and grids of one element under an assignment.
use Rattle.std.proofs.Common.{◌≡◌, refl, ap, List, [], ◌∷◌, map}
use Rattle.sheet_model.specs.Operators as operators
use Rattle.sheet_model.specs.Operators.{single}
use Rattle.affine_forms.specs.Forms.{Assignment}
use Rattle.form_values.specs.Grids.{Raster}
use Rattle.form_values.specs.Meaning.{abs_at, arg_at}
use Rattle.form_values.specs.declared.abs.Abs.{Abs}
use Rattle.form_values.specs.declared.abs.AbsArg.{AbsArg}
use Rattle.form_values.specs.declared.abs.AbsArg.TheVariants.{One, Area}
use Rattle.form_table.specs.Wanted as wanted

module _ (x : Assignment) where
  single_area : (g : Raster) (items : List Abs) → g.items ≡ items → single (arg_at x (Area g)) ≡ arg_at x (wanted.one_of g items)
  single_area g [] e = ap (λ items. operators.one_of (record { rows = g.rows; columns = g.columns; items = map (abs_at x) g.items }) (map (abs_at x) items)) e
  single_area g (a ∷ []) e = ap (λ items. operators.one_of (record { rows = g.rows; columns = g.columns; items = map (abs_at x) g.items }) (map (abs_at x) items)) e
  single_area g (a ∷ b ∷ items) e = ap (λ items. operators.one_of (record { rows = g.rows; columns = g.columns; items = map (abs_at x) g.items }) (map (abs_at x) items)) e

  pub single_at : (a : AbsArg) → single (arg_at x a) ≡ arg_at x (wanted.single a)
  single_at (One a) = refl
  single_at (Area g) = single_area g g.items refl
