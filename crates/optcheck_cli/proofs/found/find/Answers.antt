use Rattle.std.proofs.lemmas.Result.{err_from_is_err_and}
use Rattle.optcheck_cli.specs.Read.{asked_read}
use Rattle.optcheck_cli.proofs.Finding.{both_found, ends_in_book, ends_in_certificate, read_there}
use Rattle.optcheck_cli.proofs.found.find.Goals as goal

pub returns-clause-finds : goal.returns-clause-finds
returns-clause-finds g c =
    let reads = rw (c.in_ok-book.ensures.same, c.as_str.ensures.value) at c.in_ok-cert.ensures.reads in
    both_found (g.F.Folder.content c.args.folder.now) (asked_read c.args.asked.now) c.in_ok-book.book c.in_ok-cert.cert c.in_ok-book.ensures.opens reads

pub returns-in_err-book-clause-finds : goal.returns-in_err-book-clause-finds
returns-in_err-book-clause-finds g c =
    let p = err_from_is_err_and c.from_residual.result c.from_residual.ensures.1 in
    rw (p.1, p.2) (ends_in_book (g.F.Folder.content c.args.folder.now) (asked_read c.args.asked.now) c.in_err-book.field-0.0 c.in_err-book.ensures.opens)

pub returns-in_err-cert-clause-finds : goal.returns-in_err-cert-clause-finds
returns-in_err-cert-clause-finds g c =
    let p = err_from_is_err_and c.from_residual-in_err-cert.result c.from_residual-in_err-cert.ensures.1 in
    let reads = read_there _ (g.F.Folder.content c.args.folder.now) _ _ c.in_err-cert.field-0.0 c.in_ok-book.ensures.same c.as_str.ensures.value c.in_err-cert.ensures.reads in
    rw (p.1, p.2) (ends_in_certificate (g.F.Folder.content c.args.folder.now) (asked_read c.args.asked.now) c.in_ok-book.book c.in_err-cert.field-0.0 c.in_ok-book.ensures.opens reads)
