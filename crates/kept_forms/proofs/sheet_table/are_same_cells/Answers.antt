use Rattle.std.specs.Cmp.Lexicographic.{pointwise}
use Rattle.std.proofs.Common.{◌≡◌, ◌↔◌, Bool, Decides, IsTrue, List, rules}
use Rattle.std.proofs.lemmas.Slice.Eq.{slice_eq-Decides}
use Rattle.cell_refs.specs.declared.cell.Cell.{Cell}
use Rattle.kept_forms.proofs.sheet_table.are_same_cells.Goals as goal

by_elements : {E : Cell → Cell → Bool} (r : Bool) (xs ys : List Cell) → r ≡ pointwise E xs ys → ((a b : Cell) → Decides (E a b) (a ≡ b)) → IsTrue r ↔ (xs ≡ ys)
by_elements r xs ys h d = slice_eq-Decides d xs ys r h

pub returns : goal.returns
returns c = by_elements c.eq.result c.args.one.now c.args.other.now c.eq.ensures (λ a b. search rules)
