use Rattle.std.proofs.Common.{◌≡◌, ◌<◌, ◌+◌, ◌∷◌, ◌++◌, [], List, Some, IfSome, length, arith, rules, subst, sym}
use Rattle.std.specs.Prelude.{slice_get}
use Rattle.std.proofs.lemmas.Grind.{common_steps}
use Rattle.std.proofs.lemmas.Result.{err_from_is_err_and}
use Rattle.workbook.specs.Files.{SheetFile}
use Rattle.command_line.specs.Words.{texts_of}
use Rattle.run_inputs.proofs.FileLaws.{AreRead, sheets_more, sheets_read, sheets_stop, word_at}
use Rattle.run_inputs.proofs.files.read_sheets.Goals as goal

pub returns-in_err-file-clause-reads : goal.returns-in_err-file-clause-reads
returns-in_err-file-clause-reads g c =
    let within : c.loop-place.place < length c.args.words.now = omega arith in
    let there : slice_get (texts_of c.args.words.now) c.loop-place.place ≡ Some c.as_str.result.now = word_at c.args.words.now c.loop-place.place c.index-words-place.result c.as_str.result.now within c.index-words-place.is c.as_str.ensures.value in
    let reads = rw c.loop-place.invariant.same at c.in_err-file.ensures.reads in
    let p = err_from_is_err_and c.from_residual.result c.from_residual.ensures.1 in
    rw (p.1, p.2) (sheets_stop (g.F.Folder.content c.args.folder.now) c.args.words.now c.loop-place.place c.loop-place.files.items c.as_str.result.now c.in_err-file.field-0.0 there c.loop-place.invariant.read reads)

pub loop-place-preserved : goal.loop-place-preserved
loop-place-preserved g c =
    let within : c.loop-place.place < length c.args.words.now = omega arith in
    let there : slice_get (texts_of c.args.words.now) c.loop-place.place ≡ Some c.as_str.result.now = word_at c.args.words.now c.loop-place.place c.index-words-place.result c.as_str.result.now within c.index-words-place.is c.as_str.ensures.value in
    let reads = rw c.loop-place.invariant.same at c.in_ok-file.ensures.reads in
    let items : c.push.new.self.items ≡ c.loop-place.files.items ++ c.in_ok-file.file ∷ [] = search rules in
    record {
      read =
          subst (λ (z : List SheetFile). IfSome (g.F.Folder.content c.args.folder.now) (λ files. AreRead files (texts_of c.args.words.now) (c.loop-place.place + 1) z)) (sym items)
          (sheets_more (g.F.Folder.content c.args.folder.now) c.args.words.now c.loop-place.place c.loop-place.files.items c.as_str.result.now c.in_ok-file.file there c.loop-place.invariant.read reads);
      count = grind (arith, common_steps);
      open_all = grind (arith, common_steps);
      same = search rules;
      reads = search rules;
      writes = search rules;
      wants = search rules;
    }

pub returns-clause-reads : goal.returns-clause-reads
returns-clause-reads g c = sheets_read (g.F.Folder.content c.args.folder.now) c.args.words.now c.loop-place.place c.loop-place.files (omega arith) c.loop-place.invariant.read
