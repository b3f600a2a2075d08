-- The first reason why a sheet has no linear model: a needed place without a form, or a side or an objective that isn't a number.
use Rattle.std.specs.Prelude.{◌≡◌, ◌≢◌, length, Option, Some, None, Contains}
use Rattle.std.specs.Ordering.{nat_cmp}
use Rattle.std.specs.declared.cmp.Ordering.{Ordering}
use Rattle.std.specs.declared.cmp.Ordering.TheVariants.{Less, Greater}
use Rattle.optimality.specs.Problem.{Assignment}
use Rattle.cell_refs.specs.Cells.{cell_cmp}
use Rattle.cell_refs.specs.declared.span.Span.{Span}
use Rattle.cell_refs.specs.declared.place.Place.{Place}
use Rattle.cell_refs.specs.declared.place.Place.TheVariants as place
use Rattle.form_extraction.specs.declared.forms.CellForm.{CellForm}
use Rattle.form_extraction.specs.declared.forms.CellForm.TheVariants.{Refused, Circular, Malformed}
use Rattle.form_extraction.specs.declared.forms.Why.{Why}
use Rattle.form_extraction.specs.declared.forms.Why.TheVariants as why
use Rattle.sheet_problems.specs.Forms.{form_at}
use Rattle.sheet_problems.specs.Places.{worth_at}
use Rattle.form_needs.specs.Needed.{Asked, IsNeeded}
use Rattle.form_needs.specs.declared.refusal.FormRefusal.{FormRefusal}
use Rattle.form_needs.specs.declared.refusal.FormRefusal.TheVariants as refusal

-- ---- the least place
-- cells in their order, and then right sides by the numbers of their constraints
abbrev pub place_cmp : Place → Place → Ordering
place_cmp (place.Cell a) (place.Cell b) = cell_cmp a b
place_cmp (place.Cell a) (place.Side k) = Less
place_cmp (place.Side j) (place.Cell b) = Greater
place_cmp (place.Side j) (place.Side k) = nat_cmp j k

abbrev pub NoPlace : (Place → Type 0) → Type 0
NoPlace P = (p : Place) → ¬ (P p)

pub record IsLeast (P : Place → Type 0) (p : Place) : Type 0 where
  pub holds : P p
  pub least : (other : Place) → P other → place_cmp p other ≢ Greater

-- ---- places that stand in the way
-- a needed place with this
abbrev pub NeedsWith : Asked → CellForm → Place → Type 0
NeedsWith q f p = IsNeeded q p × (form_at q.book q.sides q.decisions p ≡ Some f)

-- a needed place with a refusal of its own
abbrev pub NeedsRefused : Asked → Place → Type 0
NeedsRefused q p = (at : Span) × (cause : Why) × NeedsWith q (Refused at cause) p

-- the objective or a side, where it isn't a number under some numbers of the decision cells
pub record IsNoNumber (q : Asked) (p : Place) : Type 0 where
  pub root : Contains q.roots p
  pub assignment : Assignment
  pub one_each : length assignment ≡ length q.decisions
  pub none : worth_at q.book q.sides q.decisions p assignment ≡ None

-- ---- the first of them: malformed cells, then circular places, then refusals of their own, then what isn't a number; of each the least
abbrev pub NoneMalformed : Asked → Type 0
NoneMalformed q = NoPlace (NeedsWith q Malformed)

abbrev pub NoneCircular : Asked → Type 0
NoneCircular q = NoneMalformed q × NoPlace (NeedsWith q Circular)

abbrev pub NoneRefused : Asked → Type 0
NoneRefused q = NoneCircular q × NoPlace (NeedsRefused q)

abbrev pub AllNumbers : Asked → Type 0
AllNumbers q = NoneRefused q × NoPlace (IsNoNumber q)

abbrev pub FirstRefused : Asked → Place → Span → Why → Type 0
FirstRefused q p at cause = NoneCircular q × IsLeast (NeedsRefused q) p × NeedsWith q (Refused at cause) p

abbrev pub FirstRefusal : Asked → FormRefusal → Type 0
FirstRefusal q (refusal.Malformed c) = IsLeast (NeedsWith q Malformed) (place.Cell c)
FirstRefusal q (refusal.Circular p) = NoneMalformed q × IsLeast (NeedsWith q Circular) p
FirstRefusal q (refusal.NotAffine p at) = FirstRefused q p at why.Break
FirstRefusal q (refusal.Undecided p at) = FirstRefused q p at why.Undecided
FirstRefusal q (refusal.Wide p) = (at : Span) × FirstRefused q p at why.Wide
FirstRefusal q (refusal.NotNumber p) = NoneRefused q × IsLeast (IsNoNumber q) p

-- what is answered of a sheet: the first refusal, or none where there is none
abbrev pub IsRefusal : Asked → Option FormRefusal → Type 0
IsRefusal q (Some r) = FirstRefusal q r
IsRefusal q None = AllNumbers q
