-- What a value is worth at an assignment while decisions are open (Chvatal, Linear Programming, chapter 1: an assignment gives each
-- decision a number; OpenDocument 1.2 part 2, section 4: values).
use Rattle.std.specs.Prelude.{IsTrue, List, [], ◌∷◌, map}
use Rattle.sheet_model.specs.declared.value.Value.{Value}
use Rattle.sheet_model.specs.declared.value.Value.TheVariants.{Number, Logical}
use Rattle.sheet_model.specs.declared.grid.Arg.{Arg}
use Rattle.sheet_model.specs.declared.grid.Arg.TheVariants as arg
use Rattle.affine_forms.specs.Forms.{Assignment, IsForm, worth, has_terms}
use Rattle.affine_forms.specs.Relations.{holds}
use Rattle.form_values.specs.declared.open_form.Open.{Open}
use Rattle.form_values.specs.declared.abs.Abs.{Abs}
use Rattle.form_values.specs.declared.abs.Abs.TheVariants.{Known, Affine, Test}
use Rattle.form_values.specs.declared.abs.AbsArg.{AbsArg}
use Rattle.form_values.specs.declared.abs.AbsArg.TheVariants.{One, Area}

-- ---- the value at an assignment
-- a form has its worth, and a test of one says whether that is in the relation to 0
abbrev pub abs_at : Assignment → Abs → Value
abs_at x (Known v) = v
abs_at x (Affine o) = Number (worth x o.form)
abs_at x (Test o r) = Logical (holds r (worth x o.form))

-- an area has the values of its elements
abbrev pub arg_at : Assignment → AbsArg → Arg
arg_at x (One a) = arg.One (abs_at x a)
arg_at x (Area g) = arg.Area (record { rows = g.rows; columns = g.columns; items = map (abs_at x) g.items })

-- the elements of an argument, row by row
abbrev pub elements_of : AbsArg → List Abs
elements_of (One a) = a ∷ []
elements_of (Area g) = g.items

-- ---- open values
-- each has a form with a term
abbrev pub OpenHasATerm : Type 0
OpenHasATerm = (o : Open) → IsForm o.form × IsTrue (has_terms o.form)
