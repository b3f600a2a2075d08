-- The strips of sorted formulas are those that their references make.
use Rattle.std.proofs.Common.{◌≡◌, ℕ, Bool, true, false, ◌&&◌, cond, List, [], ◌∷◌, map, refl, sym, ap, ◌∙◌}
use Rattle.std.specs.Prelude.{◌||◌, Option, Some}
use Rattle.std.specs.FinMap.{find, get}
use Rattle.std.specs.List.{list_any}
use Rattle.std.proofs.lemmas.Bool.{and_parts}
use Rattle.cell_refs.specs.Areas.{Area}
use Rattle.cell_refs.specs.Cells.{cell_cmp}
use Rattle.column_strips.specs.declared.formulas.Formula.{Formula}
use Rattle.column_strips.specs.declared.strip.Strip.{Strip}
use Rattle.column_strips.specs.Formulas.{AreSorted, pair_of, references_in}
use Rattle.column_strips.specs.Kept.{makes}
use Rattle.column_strips.specs.Strips.{is_part, is_part_of_any}
use Rattle.column_strips.proofs.Finding.{is_at, not_at_both, said_in, sorted_head, sorted_tail}
use Rattle.column_strips.proofs.Rising.{one_passes}
use Rattle.column_strips.proofs.Tests.{refused}

module _ (sheet column : ℕ) (s : Strip) where
  -- the first formula's, or those of the others
  first_or_others : (b any others : Bool) (x r : Option (List Area)) → is_part_of_any x sheet column s ≡ any → (b ≡ true → others ≡ false) → others ≡ is_part_of_any r sheet column s
      → ((b && any) || others) ≡ is_part_of_any (cond b x r) sheet column s
  first_or_others true true others x r own alone same = sym own
  first_or_others true false others x r own alone same = alone refl ∙ sym own
  first_or_others false any others x r own alone same = same

  pub made_is : (formulas : List Formula) → AreSorted formulas → list_any (makes sheet column s) formulas ≡ is_part_of_any (find cell_cmp s.cell (map pair_of formulas)) sheet column s
  made_is [] sorted = refl
  made_is (f ∷ formulas) sorted =
      first_or_others (is_at s.cell f) (list_any (λ area. is_part area sheet column s) f.areas.items) (list_any (makes sheet column s) formulas)
      (Some f.areas.items) (find cell_cmp s.cell (map pair_of formulas)) refl
      (λ at. refused _ (λ any.
      let r = one_passes (makes sheet column s) formulas any in
      not_at_both s.cell f r.1 (sorted_head f formulas sorted r.0 r.1 r.2) at (and_parts _ _ r.3).0))
      (made_is formulas (sorted_tail f formulas sorted))

  pub made : (formulas : List Formula) → AreSorted formulas → list_any (makes sheet column s) formulas ≡ is_part_of_any (get (references_in formulas) s.cell) sheet column s
  made formulas sorted = made_is formulas sorted ∙ ap (λ o. is_part_of_any o sheet column s) (sym (said_in formulas s.cell))
