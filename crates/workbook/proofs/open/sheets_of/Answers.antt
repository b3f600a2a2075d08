use Rattle.std.proofs.Common.{◌≡◌, ◌++◌, ◌∷◌, ◌∙◌, [], false, ap, arith, length, refl, sym}
use Rattle.std.specs.List.{list_any}
use Rattle.std.proofs.lemmas.List.{length_push}
use Rattle.cell_refs.specs.Names.{same_letters}
use Rattle.workbook.proofs.Listing.{from_index, named_nowhere, named_there, sheet_listed, twin_here, twin_later}
use Rattle.workbook.proofs.open.sheets_of.Goals as goal

pub returns-in-Err-Taken : goal.returns-in-Err-Taken
returns-in-Err-Taken c =
    let file = c.index-files-place.result in
    let stem : c.as_str.result.now ≡ file.stem = c.as_str.ensures.value ∙ ap (λ f. f.stem) c.file.view_is in
    let told = rw c.in-Err-Taken.field-0-is at c.in-Err-Taken.ensures.taken in
    let there = told.0 refl in
    twin_here c.loop-place.place c.args.files.now file c.loop-place.sheets (from_index c.args.files.now c.loop-place.place file c.loop-place-test.true c.index-files-place.is)
    c.loop-place.invariant.twins
    (ap (λ s. list_any (λ b. same_letters b s) c.loop-place.sheets) (sym stem) ∙ named_there c.loop-place.sheets c.as_str.result.now there.0 there.1)

pub loop-place-preserved : goal.loop-place-preserved
loop-place-preserved c =
    let file = c.index-files-place.result in
    let stem : c.as_str.result.now ≡ file.stem = c.as_str.ensures.value ∙ ap (λ f. f.stem) c.file.view_is in
    let at = from_index c.args.files.now c.loop-place.place file c.loop-place-test.true c.index-files-place.is in
    let is : c.add.new.self ≡ c.loop-place.sheets ++ file.stem ∷ [] = c.in-Ok.ensures.ok.1 ∙ ap (λ s. c.loop-place.sheets ++ s ∷ []) stem in
    let none : list_any (λ b. same_letters b file.stem) c.loop-place.sheets ≡ false =
    ap (λ s. list_any (λ b. same_letters b s) c.loop-place.sheets) (sym stem)
    ∙ named_nowhere c.loop-place.sheets c.as_str.result.now (λ id h. let k = c.in-Ok.ensures.taken.1 (id, h) in cc) in
    record {
      twins = twin_later c.loop-place.place c.args.files.now file c.loop-place.sheets at c.loop-place.invariant.twins c.add.new.self is none;
      listed = sheet_listed c.loop-place.place c.args.files.now file c.loop-place.sheets at c.loop-place.invariant.twins c.add.new.self is c.loop-place.invariant.listed;
      count = let a = ap length is ∙ length_push c.loop-place.sheets file.stem in let b = c.loop-place.invariant.count in omega arith;
    }
