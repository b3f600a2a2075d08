-- Where the parameters hold their values, recalculation over the decisions is recalculation over both.
use Rattle.std.proofs.Common.{◌≡◌, ℕ, ◌++◌, List, length, Option, Some, None, refl, sym, ap, subst, ◌∙◌, if◌then◌else◌}
use Rattle.std.specs.Prelude.{is_some, option_map}
use Rattle.fractions.specs.Rational.{ℚ}
use Rattle.calculations.specs.Calculation.{exact}
use Rattle.cell_refs.specs.declared.cell.Cell.{Cell}
use Rattle.cell_refs.specs.declared.error_kind.ErrorKind.TheVariants as kind
use Rattle.formula_ast.specs.Tree.{Tree}
use Rattle.sheet_model.specs.declared.value.Value.TheVariants.{Error}
use Rattle.recalculation.specs.Entries.{Book, Formula, Overriding, entry}
use Rattle.recalculation.specs.Evaluation.{evaluated, cell_value}
use Rattle.recalculation.specs.Recalculation.{val}
use Rattle.affine_forms.specs.Forms.{Assignment}
use Rattle.cell_refs.specs.declared.place.Place.{Place}
use Rattle.cell_refs.specs.declared.place.Place.TheVariants as place
use Rattle.form_extraction.specs.Looked.{refers_to_circle, side_value}
use Rattle.form_extraction.specs.Places.{numbered_in, overriding}
use Rattle.written_cells.specs.Written.{Says}
use Rattle.partly_written.specs.Partly.{IsPartlyWritten}
use Rattle.partly_written.proofs.Partly.{partly_written_is_overridden, same_circles}
use Rattle.sheet_problems.specs.Places.{Sides, tree_of, value_at}
use Rattle.parameter_laws.specs.Putting.{joined}
use Rattle.parameter_problems.specs.Laws.{HeldIsOverridden}
use Rattle.parameter_problems.specs.Opened.{HoldsValues}
use Rattle.parameter_problems.proofs.Numbering.{given, over_both}

-- ---- what is overridden, by the numbers of a cell
still : (x y : Assignment) (o q : Option ℕ) (v : ℚ) → option_map x o ≡ Some v → given x y o q ≡ Some v
still x y (Some j) q v e = e
still x y None q v e = absurd cc

no_number : (x : Assignment) (o : Option ℕ) → option_map x o ≡ None → o ≡ None
no_number x None e = refl
no_number x (Some j) e = absurd cc

free : (x y : Assignment) (o q : Option ℕ) → given x y o q ≡ None → (o ≡ None) × (q ≡ None)
free x y (Some j) q e = absurd cc
free x y None None e = (refl, refl)
free x y None (Some k) e = absurd cc

-- the value of a parameter
valued : (x y : Assignment) (o q : Option ℕ) (v : ℚ) → o ≡ None → given x y o q ≡ Some v → (k : ℕ) × (q ≡ Some k) × (y k ≡ v)
valued x y (Some j) q v h e = absurd cc
valued x y None None v h e = absurd cc
valued x y None (Some k) v h e = let same : y k ≡ v = cc in (k, refl, same)

module _ (before after : Book) (decisions parameters : List Cell) (y : Assignment) (holds : HoldsValues before decisions parameters y after) (x : Assignment) where
  under : Overriding
  under = overriding (numbered_in decisions) x

  over : Overriding
  over = overriding (numbered_in (decisions ++ parameters)) (joined (length decisions) x y)

  is_written : IsPartlyWritten before over after under
  unfolding over under
  is_written = record {
    still = λ c v e. over_both decisions parameters x y c ∙ still x y (numbered_in decisions c) (numbered_in parameters c) v e;
    written = λ c v e u.
        let none = no_number x (numbered_in decisions c) u in
        let value = valued x y (numbered_in decisions c) (numbered_in parameters c) v none (sym (over_both decisions parameters x y c) ∙ e) in
        subst (Says (entry after c)) value.2 (holds.values c value.0 none value.1);
    others = λ c e.
        let none = free x y (numbered_in decisions c) (numbered_in parameters c) (sym (over_both decisions parameters x y c) ∙ e) in
        holds.others c none.0 none.1;
  }

  same_side : (t : Tree) → side_value after under t ≡ side_value before over t
  same_side t =
      ap (λ b. if b then Error kind.Circular else cell_value (exact (evaluated (val after under) t)))
      (same_circles before over after under is_written (Some (Formula t)))
      ∙ ap (λ f. if refers_to_circle before (λ b. is_some (over b)) t then Error kind.Circular else cell_value (exact (evaluated f t)))
      (λ i c. partly_written_is_overridden before over after under is_written c i)

  same_place : (sides : Sides) (p : Place) → value_at after sides under p ≡ value_at before sides over p
  same_place sides (place.Cell c) = ap Some (partly_written_is_overridden before over after under is_written c)
  same_place sides (place.Side k) = ap (λ f. option_map f (tree_of sides k)) (λ i t. same_side t i)

  same_value : (sides : Sides) (p : Place)
      → value_at after sides (overriding (numbered_in decisions) x) p ≡ value_at before sides (overriding (numbered_in (decisions ++ parameters)) (joined (length decisions) x y)) p
  unfolding over under
  same_value sides p = same_place sides p

pub held_is_overridden : HeldIsOverridden
held_is_overridden before after sides decisions parameters y holds x p = same_value before after decisions parameters y holds x sides p
