use Rattle.std.proofs.Common.{ap, refl, ◌∙◌}
use Rattle.std.proofs.lemmas.Result.{err_from_is_err_and}
use Rattle.commands.specs.Commands.{command_of}
use Rattle.commands.specs.Lines.{answer_text}
use Rattle.opensolver_cli.specs.Outside.{Written, put_in}
use Rattle.command_line.specs.Read.{named_of}
use Rattle.opensolver_cli.proofs.RecordLaws.{not_saved, not_taken, said_whole}
use Rattle.opensolver_cli.proofs.answer.tell_answer.Goals as goal

pub returns-in_err-save-clause-answers : goal.returns-in_err-save-clause-answers
returns-in_err-save-clause-answers g c = λ rule before fields step same.
    let p = err_from_is_err_and c.from_residual.result c.from_residual.ensures.1 in
    rw (p.1, p.2)
    (not_saved rule (named_of c.args.job.now.named) before c.args.session.now.state c.save.new.session.state fields (command_of fields) c.args.answer.now (g.F.Folder.content c.args.folder.now)
    (g.F.Folder.content c.save.new.folder) (g.F.Folder.write_faults c.args.folder.now) (g.F.Folder.write_wants c.args.folder.now) (g.F.Folder.write_faults c.save.new.folder) (g.F.Folder.write_wants c.save.new.folder) (g.K.Sink.pieces c.args.out.now) (g.K.Sink.faults c.args.out.now) c.in_err-save.field-0.0 refl step c.in_err-save.ensures.files
    c.in_err-save.ensures.cause c.in_err-save.ensures.want)

pub returns-in_err-write-clause-answers : goal.returns-in_err-write-clause-answers
returns-in_err-write-clause-answers g c = λ rule before fields step same.
    let v : Written = put_in (g.F.Folder.content c.args.folder.now) (g.F.Folder.write_faults c.args.folder.now) (g.F.Folder.write_wants c.args.folder.now) (g.K.Sink.pieces c.args.out.now) (g.K.Sink.faults c.args.out.now) in
    let w : Written = put_in (g.F.Folder.content c.save.new.folder) (g.F.Folder.write_faults c.save.new.folder) (g.F.Folder.write_wants c.save.new.folder) (g.K.Sink.pieces c.write.new.self) (g.K.Sink.faults c.write.new.self) in
    let p = err_from_is_err_and c.from_residual-in_err-write.result c.from_residual-in_err-write.ensures.1 in
    let sheets = c.sheets.ensures ∙ same in
    let text = c.as_bytes.ensures.value ∙ c.in-Ok.ensures.text ∙ ap (λ z. answer_text z c.args.answer.now) sheets in
    rw (p.1, p.2)
    (not_taken rule (named_of c.args.job.now.named) before c.args.session.now.state c.save.new.session.state fields (command_of fields) c.args.answer.now c.as_bytes.result.now v w
    c.in_err-write.field-0.0 refl step c.in_ok-save.ensures.session c.in_ok-save.ensures.files text c.in_err-write.ensures.takes c.in_ok-save.ensures.cause c.in_ok-save.ensures.want c.in_err-write.ensures.cause)

pub returns-clause-answers : goal.returns-clause-answers
returns-clause-answers g c = λ rule before fields step same.
    let v : Written = put_in (g.F.Folder.content c.args.folder.now) (g.F.Folder.write_faults c.args.folder.now) (g.F.Folder.write_wants c.args.folder.now) (g.K.Sink.pieces c.args.out.now) (g.K.Sink.faults c.args.out.now) in
    let w : Written = put_in (g.F.Folder.content c.save.new.folder) (g.F.Folder.write_faults c.save.new.folder) (g.F.Folder.write_wants c.save.new.folder) (g.K.Sink.pieces c.write.new.self) (g.K.Sink.faults c.write.new.self) in
    let sheets = c.sheets.ensures ∙ same in
    let text = c.as_bytes.ensures.value ∙ c.in-Ok.ensures.text ∙ ap (λ z. answer_text z c.args.answer.now) sheets in
    said_whole rule (named_of c.args.job.now.named) before c.args.session.now.state c.save.new.session.state fields (command_of fields) c.args.answer.now c.as_bytes.result.now v w c.is_refusal.result refl
    step c.in_ok-save.ensures.session c.in_ok-save.ensures.files text c.in_ok-write.ensures.takes (c.is_refusal.ensures before.book.sheets) c.in_ok-save.ensures.cause c.in_ok-save.ensures.want c.in_ok-write.ensures.cause
