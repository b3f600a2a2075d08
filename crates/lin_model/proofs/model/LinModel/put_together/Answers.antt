use Rattle.std.specs.Prelude.{flat_map}
use Rattle.std.proofs.Common.{◌≡◌, sym, ap, ap₂, ◌∙◌, subst, ◌++◌, [], length, map}
use Rattle.std.proofs.lemmas.List.{length-map}
use Rattle.affine_forms.specs.Forms.{AffineForm, coefficient}
use Rattle.affine_forms.specs.Assigned.{ReachTo}
use Rattle.linear_programs.specs.StandardFields.{IsSmall}
use Rattle.linear_models.specs.Standard.{columns_from, is_split, limits_of_bounds, limits_of_row, program_row, spread, wanted}
use Rattle.linear_models.proofs.Regular.{regular, wanted_reach}
use Rattle.lin_model.proofs.Assembled.{assembled}
use Rattle.lin_model.proofs.model.LinModel.put_together.Goals as goal

pub columns_of-requires-clause-below : goal.columns_of-requires-clause-below
columns_of-requires-clause-below c =
    let splits = c.deref-3.ensures.value ∙ c.in_ok-splits.ensures ∙ ap (map is_split) c.least.ensures in
    let n : length c.deref-3.result.now ≡ length c.args.self.now.whole = ap length splits ∙ length-map c.args.within.now.least is_split ∙ c.requires.fits.least in
    subst (λ ts. ReachTo ts (length c.deref-3.result.now)) (sym (c.terms.ensures.terms ∙ ap (λ (f : AffineForm). f.terms) c.in_ok-wanted.ensures.form))
    (subst (λ k. ReachTo (wanted c.args.self.now c.args.plain).terms k) (sym n) (wanted_reach c.args.self.now c.args.plain c.whole-whole.ensures.valid))

-- the program that is put together is the standard program, and so it is regular
program_is : (c : goal.After-base) → IsSmall (record { columns = c.in_ok-columns.columns.items; objective = c.in_ok-objective.objective.items; constant = c.base.result; rows = c.push_bounds.new.rows.items })
program_is c =
    let e = assembled c.args.self.now c.args.within.now c.args.plain c.in_ok-columns.columns.items c.in_ok-objective.objective.items c.base.result c.push_bounds.new.rows.items record {
      splits = c.in_ok-splits.splits.items;
      form = c.in_ok-wanted.wanted;
      before = c.push_rows.new.rows.items;
      splits_are = c.in_ok-splits.ensures ∙ ap (map is_split) c.least.ensures;
      form_is = c.in_ok-wanted.ensures.form;
      columns_are = c.in_ok-columns.ensures ∙ ap (columns_from 0) c.deref-4.ensures.value;
      objective_is = c.in_ok-objective.ensures ∙ ap₂ (λ s t. spread s (coefficient t)) c.deref-3.ensures.value c.terms.ensures.terms;
      constant_is = c.base.ensures;
      before_are = c.in_ok-push_rows.ensures ∙ ap (λ xs. xs ++ map (program_row c.deref.result.now) (flat_map limits_of_row c.rows.result.now)) c.new-rows.ensures.items ∙ ap₂ (λ s rs. [] ++ map (program_row s) (flat_map limits_of_row rs)) c.deref.ensures.value c.rows.ensures;
      rows_are = c.in_ok-push_bounds.ensures ∙ ap (λ s. c.push_rows.new.rows.items ++ map (program_row s) (limits_of_bounds 0 c.least-2.result.now c.greatest.result.now)) c.deref-2.ensures.value
          ∙ ap₂ (λ ls gs. c.push_rows.new.rows.items ++ map (program_row c.in_ok-splits.splits.items) (limits_of_bounds 0 ls gs)) c.least-2.ensures c.greatest.ensures;
    } in
    subst IsSmall (sym e) (regular c.args.self.now c.args.within.now c.args.plain c.whole-whole.ensures.valid c.requires.fits)

pub new-requires-clause-regular : goal.new-requires-clause-regular
new-requires-clause-regular c = (program_is c).regular

pub new-requires-clause-cells : goal.new-requires-clause-cells
new-requires-clause-cells c = (program_is c).cells

pub new-requires-clause-width : goal.new-requires-clause-width
new-requires-clause-width c = (program_is c).width

pub new-requires-clause-height : goal.new-requires-clause-height
new-requires-clause-height c = (program_is c).height
