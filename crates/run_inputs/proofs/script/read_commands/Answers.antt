use Rattle.std.proofs.lemmas.Result.{err_from_is_err_and}
use Rattle.run_inputs.proofs.FoundLaws.{script_end, script_read}
use Rattle.run_inputs.proofs.script.read_commands.Goals as goal

pub returns-clause-finds : goal.returns-clause-finds
returns-clause-finds g c = script_read (g.S.Source.left c.args.script.now) (g.S.Source.left c.read_script.new.script) c.in_ok-bytes.bytes _ c.in_ok-bytes.ensures.reads (rw c.deref.ensures.value at c.records.ensures)

pub returns-in_err-bytes-clause-finds : goal.returns-in_err-bytes-clause-finds
returns-in_err-bytes-clause-finds g c =
    let p = err_from_is_err_and c.from_residual.result c.from_residual.ensures.1 in
    rw (p.1, p.2) (script_end (g.S.Source.left c.args.script.now) (g.S.Source.left c.read_script.new.script) c.in_err-bytes.field-0.0 c.in_err-bytes.ensures.reads)
