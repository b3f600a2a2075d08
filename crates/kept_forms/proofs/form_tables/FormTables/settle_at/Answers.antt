use Rattle.std.proofs.Common.{◌≡◌, ◌<◌, ◌≤◌, ◌+◌, List, length, Some, sym, ◌∙◌, subst}
use Rattle.workbook.specs.Kinds.{book_of}
use Rattle.extract_incr.specs.Keeping.{AllAreKept, count_to_make}
use Rattle.kept_forms.specs.Tables.{SheetKept}
use Rattle.kept_forms.proofs.Placed.{at_put}
use Rattle.kept_forms.proofs.Renewed.{goes_at, put_tables, read_is}
use Rattle.kept_forms.proofs.form_tables.FormTables.settle_at.Goals as goal

pub invariant_of-self : goal.invariant_of-self
invariant_of-self g c =
    put_tables c.self.inside.tables.items c.args.place c.index_mut-table.result.now c.settle.new.self c.self.invariant (subst (λ (xs : List SheetKept). c.args.place < length xs) (sym c.self.view_is) c.requires.there)
    c.index_mut-table.ensures.value c.settle.ensures.sheet

pub invariant_of-self-2 : goal.invariant_of-self-2
invariant_of-self-2 g c =
    put_tables c.self.inside.tables.items c.args.place c.index_mut-table.result.now c.settle.new.self c.self.invariant (subst (λ (xs : List SheetKept). c.args.place < length xs) (sym c.self.view_is) c.requires.there)
    c.index_mut-table.ensures.value c.settle.ensures.sheet

pub returns-in_err-count-clause-goes : goal.returns-in_err-count-clause-goes
returns-in_err-count-clause-goes g c =
    goes_at c.self.inside.tables.items c.args.self.now c.args.place c.index_mut-table.result.now (book_of c.args.linked.now.book.now) c.settle.new.self c.self.view_is c.requires.there c.index_mut-table.ensures.value
    c.settle.ensures.sheet c.settle.ensures.kept c.settle.ensures.grown

pub returns-in_err-count-clause-tables : goal.returns-in_err-count-clause-tables
returns-in_err-count-clause-tables g c =
    put_tables c.self.inside.tables.items c.args.place c.index_mut-table.result.now c.settle.new.self c.self.invariant (subst (λ (xs : List SheetKept). c.args.place < length xs) (sym c.self.view_is) c.requires.there)
    c.index_mut-table.ensures.value c.settle.ensures.sheet

pub returns-in_err-count-clause-bound : goal.returns-in_err-count-clause-bound
returns-in_err-count-clause-bound g c = λ t at.
    subst (λ (t : SheetKept). c.settle.new.steps ≤ c.args.steps.now + count_to_make (book_of c.args.linked.now.book.now) t.kept)
    (read_is c.self.inside.tables.items c.args.self.now c.args.place c.index_mut-table.result.now t c.self.view_is c.requires.there c.index_mut-table.ensures.value at) c.settle.ensures.bound

pub returns-clause-goes : goal.returns-clause-goes
returns-clause-goes g c =
    goes_at c.self.inside.tables.items c.args.self.now c.args.place c.index_mut-table.result.now (book_of c.args.linked.now.book.now) c.settle.new.self c.self.view_is c.requires.there c.index_mut-table.ensures.value
    c.settle.ensures.sheet c.settle.ensures.kept c.settle.ensures.grown

pub returns-clause-tables : goal.returns-clause-tables
returns-clause-tables g c =
    put_tables c.self.inside.tables.items c.args.place c.index_mut-table.result.now c.settle.new.self c.self.invariant (subst (λ (xs : List SheetKept). c.args.place < length xs) (sym c.self.view_is) c.requires.there)
    c.index_mut-table.ensures.value c.settle.ensures.sheet

pub returns-clause-settled : goal.returns-clause-settled
returns-clause-settled g c = λ t at.
    let within : c.args.place < length c.self.inside.tables.items = subst (λ (xs : List SheetKept). c.args.place < length xs) (sym c.self.view_is) c.requires.there in
    let e : Some c.settle.new.self ≡ Some t = sym (at_put c.self.inside.tables.items c.args.place c.settle.new.self within) ∙ at in
    let q : c.settle.new.self ≡ t = cc in
    subst (λ (t : SheetKept). AllAreKept (book_of c.args.linked.now.book.now) t.kept) q c.in_ok-count.ensures.settled

pub returns-clause-bound : goal.returns-clause-bound
returns-clause-bound g c = λ t at.
    subst (λ (t : SheetKept). c.settle.new.steps ≤ c.args.steps.now + count_to_make (book_of c.args.linked.now.book.now) t.kept)
    (read_is c.self.inside.tables.items c.args.self.now c.args.place c.index_mut-table.result.now t c.self.view_is c.requires.there c.index_mut-table.ensures.value at) c.settle.ensures.bound
