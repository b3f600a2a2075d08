-- The form of a place is a form.
use Rattle.std.proofs.Common.{◌≡◌, List, Some, subst}
use Rattle.fractions.specs.Rational.{zero_ℚ}
use Rattle.cell_refs.specs.declared.cell.Cell.{Cell}
use Rattle.sheet_model.specs.declared.value.Value.TheVariants.{Number, Text, Logical, Empty, Error}
use Rattle.recalculation.specs.Entries.{Book}
use Rattle.affine_forms.specs.Forms.{AffineForm, IsForm, constant_form}
use Rattle.form_values.proofs.Opening.{open_has_a_term}
use Rattle.form_values.specs.declared.abs.Abs.{Abs}
use Rattle.form_values.specs.declared.abs.Abs.TheVariants.{Known, Affine, Test}
use Rattle.cell_refs.specs.declared.place.Place.{Place}
use Rattle.sheet_problems.specs.Forms.{HasForm, number_form}
use Rattle.sheet_problems.specs.Places.{Sides}
use Rattle.sheet_problems.proofs.Placed.{placed}

number_is_form : (a : Abs) (f : AffineForm) → number_form a ≡ Some f → IsForm f
number_is_form (Affine g) f e = let s : g.form ≡ f = cc in subst IsForm s (open_has_a_term g).0
number_is_form (Known (Number y)) f e = let s : constant_form y ≡ f = cc in subst IsForm s record { rise = tt }
number_is_form (Known Empty) f e = let s : constant_form zero_ℚ ≡ f = cc in subst IsForm s record { rise = tt }
number_is_form (Known (Text y)) f e = cc
number_is_form (Known (Logical y)) f e = cc
number_is_form (Known (Error k)) f e = cc
number_is_form (Test g r) f e = cc

pub place_is_form : (book : Book) (sides : Sides) (decisions : List Cell) (p : Place) (f : AffineForm) → HasForm book sides decisions p f → IsForm f
place_is_form book sides decisions p f h = let r = placed book sides decisions p f h in number_is_form r.abs f r.number
