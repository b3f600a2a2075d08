use Rattle.std.proofs.lemmas.Result.{err_from_is_err_and}
use Rattle.optcheck_cli.proofs.Finding.{certificate_ends, certificate_read}
use Rattle.optcheck_cli.proofs.certificate.read_certificate.Goals as goal

pub returns-clause-reads : goal.returns-clause-reads
returns-clause-reads g c =
    certificate_read (g.F.Folder.content c.args.folder.now) c.args.word.now c.in_ok-bytes.bytes c.deref.result.now c.certificate_of.result c.in_ok-bytes.ensures.fits c.deref.ensures.value c.in_ok-bytes.ensures.reads c.certificate_of.ensures

pub returns-in_err-bytes-clause-reads : goal.returns-in_err-bytes-clause-reads
returns-in_err-bytes-clause-reads g c =
    let p = err_from_is_err_and c.from_residual.result c.from_residual.ensures.1 in
    rw (p.1, p.2) (certificate_ends (g.F.Folder.content c.args.folder.now) c.args.word.now c.in_err-bytes.field-0.0 c.in_err-bytes.ensures.reads)
