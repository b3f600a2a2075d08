use Rattle.std.proofs.Common.{◌≡◌, ◌+◌, ◌-◌, ◌*◌, ◌++◌, ◌∙◌, ap, sym, subst, map, IfOk, None, List}
use Rattle.std.specs.Prelude.{flat_map}
use Rattle.sheet_funcs.specs.Picks.{from_to}
use Rattle.form_values.specs.declared.abs.Abs.{Abs}
use Rattle.form_extraction.specs.Calls.{raster}
use Rattle.form_extraction.specs.Sources.{taken}
use Rattle.form_extraction.specs.declared.forms.Outcome.TheVariants.{Gives}
use Rattle.form_calls.specs.Sources.{cells_in, columns_of, source_of}
use Rattle.form_calls.proofs.Sourced.{part_cells}
use Rattle.form_calls.proofs.picks.part_of.Goals as goal

pub returns : goal.returns
returns g c =
    let s = c.args.source.now in
    let forms = g.C.FormsOfCells.forms c.args.forms.now in
    let f : List Abs → _ = λ items. Gives (raster (c.args.bottom + 1 - c.args.top) (c.args.right + 1 - c.args.left) items) in
    let places = c.deref.ensures.value ∙ c.in_ok-places.ensures.places
    ∙ ap (λ n. flat_map (λ row. map (λ column. row * n + column) (from_to c.args.left c.args.right)) (from_to c.args.top c.args.bottom)) c.cols-cols.ensures.count in
    let picked = sym (part_cells s c.args.top c.args.left c.args.bottom c.args.right) in
    subst (λ v. IfOk c.taken_part.result (λ part. part ≡ v))
    ((λ i. record { span = c.args.whole; looks = c.args.looks.items ++ cells_in s (places i); outcome = taken (source_of forms s) (places i) f; reference = None })
    ∙ (λ i. record {
      span = c.args.whole;
      looks = c.args.looks.items ++ (picked i);
      outcome = taken (source_of forms s) (flat_map (λ row. map (λ column. row * columns_of s + column) (from_to c.args.left c.args.right)) (from_to c.args.top c.args.bottom)) f;
      reference = None;
    }))
    c.taken_part.ensures
