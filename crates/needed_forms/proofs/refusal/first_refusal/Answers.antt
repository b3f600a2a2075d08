use Rattle.std.proofs.Common.{subst, sym}
use Rattle.form_needs.specs.FirstRefusal.{IsRefusal}
use Rattle.form_needs.specs.Needed.{Asked, IsNeeded}
use Rattle.std.specs.Prelude.{Contains, ◌↔◌}
use Rattle.workbook.specs.Kinds.{book_of}
use Rattle.cell_refs.specs.declared.place.Place.{Place}
use Rattle.needed_forms.specs.Told.{told_refusal}
use Rattle.needed_forms.proofs.First.{first_is_refusal}
use Rattle.needed_forms.proofs.Telling.{refusal_is}
use Rattle.needed_forms.proofs.refusal.first_refusal.Goals as goal

pub returns : goal.returns
returns c =
    let q : Asked = record { book = book_of c.args.book.now; sides = c.args.sides.now; decisions = c.args.adj.now; roots = c.args.roots.now } in
    let told = told_refusal (book_of c.args.book.now) c.args.adj.now c.args.forms.now in
    subst (IsRefusal q) (sym c.first_told.ensures)
    (first_is_refusal q told (record { same = refusal_is (book_of c.args.book.now) c.args.sides.now c.args.adj.now c.args.forms.now c.requires.settled }) _
    (record { each = subst (λ xs. (p : Place) → Contains xs p ↔ IsNeeded q p) (sym c.deref.ensures.value) c.in_ok-needed.ensures }) c.requires.roots)
