-- What is among some numbers, of which some may be open, and the best of them.
use Rattle.std.specs.Prelude.{ℕ, ◌+◌, Bool, if◌then◌else◌, List, [], ◌∷◌, Some, None, unwrap_or}
use Rattle.fractions.specs.Rational.{ℚ, zero_ℚ, le_ℚ}
use Rattle.sheet_model.specs.declared.value.Value.TheVariants.{Number}
use Rattle.affine_forms.specs.Forms.{AffineForm, same_terms}
use Rattle.form_values.specs.Entries.{entry}
use Rattle.form_values.specs.Trials.{Trial, given, breaks}
use Rattle.form_values.specs.declared.abs.Abs.{Abs}
use Rattle.form_values.specs.declared.abs.Abs.TheVariants.{Known}
use Rattle.form_values.specs.declared.abs.AbsArg.{AbsArg}
use Rattle.form_table.specs.Wanted.{Wanted, form, open_test, none}
use Rattle.form_table.specs.Items.{items_in, on_items}
use Rattle.form_ops.specs.declared.extremes.Extremum.{Extremum}
use Rattle.form_ops.specs.declared.extremes.Extremum.TheVariants.{Least, Greatest}
use Rattle.form_ops.specs.declared.extremes.Best.{Best}
use Rattle.form_ops.specs.declared.extremes.Best.TheVariants.{Nothing, Found, Bent}
use Rattle.form_ops.specs.declared.extremes.Taken.{Taken}

-- whether a number is at least as good as another
abbrev pub is_better : Extremum → ℚ → ℚ → Bool
is_better Least = le_ℚ
is_better Greatest = λ x y. le_ℚ y x

-- the best of two forms
abbrev pub best_with : Extremum → Best → AffineForm → Best
best_with e Nothing f = Found f
best_with e (Found b) f = if same_terms f.terms b.terms then Found (if is_better e f.constant b.constant then f else b) else Bent
best_with e Bent f = Bent

-- before any is taken
abbrev pub untaken : Taken
untaken = record { error = None; test = None; best = Nothing }

-- one more, which stands in an argument
abbrev pub taken_one : Extremum → ℕ → Taken → Wanted → Taken
taken_one e i s (none k) = record { error = Some (unwrap_or s.error k); test = s.test; best = s.best }
taken_one e i s open_test = record { error = s.error; test = Some (unwrap_or s.test i); best = s.best }
taken_one e i s (form f) = record { error = s.error; test = s.test; best = best_with e s.best f }

-- all of a list more
abbrev pub taken_all : Extremum → ℕ → Taken → List Wanted → Taken
taken_all e i s [] = s
taken_all e i s (w ∷ ws) = taken_all e i (taken_one e i s w) ws

-- all of some arguments more
abbrev pub taken_args : Extremum → ℕ → Taken → List AbsArg → Taken
taken_args e i s [] = s
taken_args e i s (a ∷ args) = taken_args e (i + 1) (taken_all e i s (items_in a)) args

-- what is made of the best
abbrev pub of_best : Best → Trial Abs
of_best Nothing = given (Known (Number zero_ℚ))
of_best (Found f) = given (entry f)
of_best Bent = breaks

-- what is made of all
abbrev pub of_taken : Taken → Trial AbsArg
of_taken s = on_items s.error s.test (of_best s.best)
