-- A sheet has one first refusal or none, and where nothing is refused, each side and the objective have the form of a number.
use Rattle.std.specs.Prelude.{◌≡◌, Contains, Option}
use Rattle.affine_forms.specs.Forms.{AffineForm}
use Rattle.cell_refs.specs.declared.place.Place.{Place}
use Rattle.sheet_problems.specs.Forms.{HasForm}
use Rattle.form_needs.specs.FirstRefusal.{AllNumbers, IsRefusal}
use Rattle.form_needs.specs.Needed.{Asked}
use Rattle.form_needs.specs.declared.refusal.FormRefusal.{FormRefusal}

abbrev pub OneRefusal : Type 0
OneRefusal = (q : Asked) (r s : Option FormRefusal) → IsRefusal q r → IsRefusal q s → r ≡ s

abbrev pub FormsWhereNoneIsRefused : Type 0
FormsWhereNoneIsRefused = (q : Asked) → AllNumbers q → (p : Place) → Contains q.roots p → (f : AffineForm) × HasForm q.book q.sides q.decisions p f
