use Rattle.std.proofs.Common.{◌≡◌, ◌+◌, ◌-◌, ◌∙◌, ap, arith, subst, sym}
use Rattle.std.specs.FinMap.{insert}
use Rattle.workbook.specs.Contents.{content_of}
use Rattle.workbook.specs.Held.{contents_of}
use Rattle.cell_refs.specs.Listed.{IsListed}
use Rattle.workbook.specs.Room.{HasRoom}
use Rattle.workbook.specs.State.{is_formula_text}
use Rattle.workbook.specs.Users.{IsIndexed}
use Rattle.workbook.proofs.Counting.{one}
use Rattle.workbook.proofs.Covered.{all_grown, covered_put}
use Rattle.workbook.proofs.Keeping.{had_fits, kept_put, text_put, the_state}
use Rattle.workbook.proofs.workbook.Workbook.put.Goals as goal

pub hold-requires-clause-listed : goal.hold-requires-clause-listed
hold-requires-clause-listed c = subst (λ s. IsListed s.sheets c.args.cell) (sym c.self.view_is) c.requires.listed

pub overflow_sub-self : goal.overflow_sub-self
overflow_sub-self c =
    let es = c.self.inside.cells.entries in
    let was : c.one-2.result ≡ one (is_formula_text (content_of (contents_of es) c.args.cell)) =
    c.one-2.ensures ∙ ap one (c.has_formula-was_one.ensures ∙ ap (λ s. is_formula_text (content_of s.contents c.args.cell)) (sym c.self.view_is)) in
    omega (arith, was, had_fits c.self.inside.sheets c.self.inside.names es c.args.cell c.self.inside.formulas c.self.invariant.kept)

pub invariant_of-self : goal.invariant_of-self
invariant_of-self c = record {
  kept = c.self.invariant.kept;
  covered = all_grown c.self.inside.users c.add_names.new.self c.self.inside.cells.entries c.add_names.ensures.grows c.self.invariant.covered;
}

pub invariant_of-self-in_err-put_in : goal.invariant_of-self-in_err-put_in
invariant_of-self-in_err-put_in c =
    subst (λ es. IsIndexed c.self.inside.sheets c.self.inside.names c.add_names.new.self es c.self.inside.formulas) (sym c.in_err-put_in.ensures.err) (record {
      kept = c.self.invariant.kept;
      covered = all_grown c.self.inside.users c.add_names.new.self c.self.inside.cells.entries c.add_names.ensures.grows c.self.invariant.covered;
    })

pub invariant_of-self-2 : goal.invariant_of-self-2
invariant_of-self-2 c =
    let sheets = c.self.inside.sheets in
    let names = c.self.inside.names in
    let es = c.self.inside.cells.entries in
    let held = c.in_ok-held.held in
    let was : c.one-2.result ≡ one (is_formula_text (content_of (contents_of es) c.args.cell)) =
    c.one-2.ensures ∙ ap one (c.has_formula-was_one.ensures ∙ ap (λ s. is_formula_text (content_of s.contents c.args.cell)) (sym c.self.view_is)) in
    let is : c.one.result ≡ one (is_formula_text held.text) =
    c.one.ensures ∙ ap one (c.is_formula-is_one.ensures ∙ ap is_formula_text (c.as_str.ensures ∙ sym c.in_ok-held.ensures.text)) in
    let room : HasRoom (contents_of es) c.args.cell held.text =
    subst (HasRoom (contents_of es) c.args.cell) (sym c.in_ok-held.ensures.text) (subst (λ s. HasRoom s.contents c.args.cell c.args.text) (sym c.self.view_is) c.requires.room) in
    record {
      kept =
          kept_put sheets names es c.put_in.new.cells.entries c.args.cell c.self.inside.formulas (c.self.inside.formulas + c.one.result - c.one-2.result) c.self.invariant.kept
          held c.in_ok-held.ensures.held room c.in_ok-put_in.ensures.put c.in_ok-put_in.ensures.len
          (omega (arith, was, is, had_fits sheets names es c.args.cell c.self.inside.formulas c.self.invariant.kept));
      covered =
          covered_put c.self.inside.users c.add_names.new.self es c.add_names.ensures.grows c.self.invariant.covered c.put_in.new.cells.entries c.args.cell held
          c.in_ok-put_in.ensures.put c.in_ok-add_names.ensures.covered;
    }

pub returns-clause-ok : goal.returns-clause-ok
returns-clause-ok c =
    ap (λ m. the_state c.self.inside.sheets m c.self.inside.names)
    (text_put c.self.inside.cells.entries c.put_in.new.cells.entries c.args.cell c.in_ok-held.held c.in_ok-put_in.ensures.put
    ∙ ap (insert (contents_of c.self.inside.cells.entries) c.args.cell) c.in_ok-held.ensures.text)
    ∙ ap (λ s. the_state s.sheets (insert s.contents c.args.cell c.args.text) s.names) c.self.view_is
