use Rattle.std.proofs.Common.{◌∙◌, Some, ap, sym}
use Rattle.std.proofs.lemmas.Option.{get_or_from_slice_get}
use Rattle.solver_io.specs.Held.{File}
use Rattle.solver_io.proofs.Places.{first_held-at, get-files_of}
use Rattle.solver_io.proofs.files.content_of.Goals as goal

pub returns-in-Some : goal.returns-in-Some
returns-in-Some c =
    let place = c.in-Some.ensures.found in
    let (file, there, same) = place.there in
    let item = get_or_from_slice_get c.args.files.now c.in-Some.i file c.index-files-i.result there in
    ap Some (c.deref.ensures.value ∙ ap (λ (f : File). f.1.items) item)
    ∙ sym (get-files_of c.args.name.now c.args.files.now ∙ first_held-at c.args.name.now c.args.files.now c.in-Some.i file place.before there same)

pub returns-in-None : goal.returns-in-None
returns-in-None c = sym (get-files_of c.args.name.now c.args.files.now ∙ c.in-None.ensures.none)
