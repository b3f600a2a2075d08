use Rattle.std.proofs.Common.{Some, ap, sym, ◌∙◌}
use Rattle.recalculation.specs.Entries.{entry}
use Rattle.sheet_model.specs.declared.value.Value.TheVariants.{Text}
use Rattle.form_values.specs.declared.abs.Abs.TheVariants.{Known}
use Rattle.workbook.specs.Kinds.{book_of}
use Rattle.cell_refs.specs.declared.place.Place.TheVariants as place
use Rattle.extract.specs.Tables.{form_at}
use Rattle.extract.proofs.Saying.{said_empty, said_formula, said_logical, said_malformed, said_number, said_plain}
use Rattle.extract.proofs.known.form_said.Goals as goal

pub returns-in-Empty : goal.returns-in-Empty
returns-in-Empty c = sym (said_empty (entry (book_of c.args.book.now) c.args.cell) (form_at c.args.table.now (place.Cell c.args.cell)) (sym c.in-Empty.ensures))

pub returns-in-Number : goal.returns-in-Number
returns-in-Number c = sym (said_number (entry (book_of c.args.book.now) c.args.cell) (form_at c.args.table.now (place.Cell c.args.cell)) c.in-Number.number (sym c.in-Number.ensures))

pub returns-in-Logical : goal.returns-in-Logical
returns-in-Logical c = sym (said_logical (entry (book_of c.args.book.now) c.args.cell) (form_at c.args.table.now (place.Cell c.args.cell)) c.in-Logical.holds (sym c.in-Logical.ensures))

pub returns-in_ok-text-in-Plain : goal.returns-in_ok-text-in-Plain
returns-in_ok-text-in-Plain c =
    ap (λ t. Some (Known (Text t))) (c.new.ensures ∙ c.in_ok-text-in-Plain.ensures.ok ∙ c.content.ensures)
    ∙ sym (said_plain c.args.book.now c.args.cell (form_at c.args.table.now (place.Cell c.args.cell)) (sym c.in-Plain.ensures))

pub returns-in-Formula : goal.returns-in-Formula
returns-in-Formula c =
    rw (sym (said_formula (entry (book_of c.args.book.now) c.args.cell) (form_at c.args.table.now (place.Cell c.args.cell)) (sym c.in-Formula.ensures))) at c.form_kept.ensures

pub returns-in-Malformed : goal.returns-in-Malformed
returns-in-Malformed c = sym (said_malformed (entry (book_of c.args.book.now) c.args.cell) (form_at c.args.table.now (place.Cell c.args.cell)) (sym c.in-Malformed.ensures))
