-- Parts of a formula while some decisions are open: what each looks at, and its value or why it has none.
use Rattle.std.specs.Prelude.{ℕ, List, [], ◌∷◌, map, slice_index_or, Option, Some, None, Result, Ok, Err}
use Rattle.calculations.specs.Calculation.{narrow}
use Rattle.cell_refs.specs.declared.cell.Cell.{Cell}
use Rattle.cell_refs.specs.declared.span.Span.{Span}
use Rattle.recalculation.specs.Evaluation.{CellGrid}
use Rattle.recalculation.specs.Looks.{Argument}
use Rattle.form_values.specs.Trials.{Trial, Refusal, Breaks, Undecided}
use Rattle.form_values.specs.declared.abs.AbsArg.{AbsArg}
use Rattle.form_extraction.specs.declared.forms.Outcome.{Outcome}
use Rattle.form_extraction.specs.declared.forms.Outcome.TheVariants.{Gives, Refused, Without}
use Rattle.form_extraction.specs.declared.forms.Why.TheVariants as why

-- a part: its place in the text, the cells at which it looks, its outcome, and its cells where it is a reference
pub record Part : Type 0 where
  pub span : Span
  pub looks : List Cell
  pub outcome : Outcome
  pub reference : Option CellGrid

-- the value, where there is one
abbrev pub value_in : Outcome → Option AbsArg
value_in (Gives a) = Some a
value_in _ = None

-- what a call takes of a part to tell at which cells it looks
abbrev pub argument : Part → Argument AbsArg
argument p = record { looks = p.looks; outcome = value_in p.outcome; reference = p.reference }

-- ---- what a row of the form table makes of some parts
-- the place of an argument
abbrev pub span_at : Span → List Part → ℕ → Span
span_at whole parts i = slice_index_or (map (λ (p : Part). p.span) parts) i whole

-- what isn't affine and what is too wide is the whole, and what is open the argument
abbrev pub refused_at : Span → List Part → Refusal → Outcome
refused_at whole parts Breaks = Refused whole why.Break
refused_at whole parts (Undecided i) = Refused (span_at whole parts i) why.Undecided

abbrev pub tried : {A : Type 0} → Span → List Part → (A → Outcome) → Option (Result A Refusal) → Outcome
tried whole parts f None = Refused whole why.Wide
tried whole parts f (Some (Ok a)) = f a
tried whole parts f (Some (Err r)) = refused_at whole parts r

abbrev pub tried_on : {A : Type 0} → Span → List Part → Trial A → (A → Outcome) → Outcome
tried_on whole parts c f = tried whole parts f (narrow c)

abbrev pub outcome_by : Span → List Part → Trial AbsArg → Outcome
outcome_by whole parts c = tried_on whole parts c Gives

-- ---- what takes the values of parts: the first outcome without one is the whole's
abbrev pub on_outcome : Outcome → (AbsArg → Outcome) → Outcome
on_outcome (Gives a) f = f a
on_outcome (Refused at cause) f = Refused at cause
on_outcome Without f = Without

abbrev pub on_part : Part → (AbsArg → Outcome) → Outcome
on_part p f = on_outcome p.outcome f

abbrev pub on_parts : List Part → (List AbsArg → Outcome) → Outcome
on_parts [] f = f []
on_parts (p ∷ ps) f = on_part p (λ a. on_parts ps (λ args. f (a ∷ args)))
