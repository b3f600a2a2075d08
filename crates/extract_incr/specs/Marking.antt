-- The cells to which sides refer.
use Rattle.std.specs.Prelude.{◌≡◌, ◌==◌, ◌&&◌, ℕ, Bool, List, map}
use Rattle.std.specs.List.{list_any}
use Rattle.cell_refs.specs.Areas.{Area, within}
use Rattle.cell_refs.specs.declared.cell.Cell.{Cell}
use Rattle.formula_ast.specs.Measures.{references_of}
use Rattle.formula_ast.specs.Tree.{Tree}
use Rattle.needed_forms.specs.FromSheetProblems.{Sides}
use Rattle.extract_incr.specs.declared.marking.SideAreas.{SideAreas}

-- whether one of some areas has one of some cells
abbrev pub have_one : List Area → List Cell → Bool
have_one areas cells = list_any (λ b. list_any (λ area. within area b) areas) cells

-- whether a side of this number refers to one of them
abbrev pub is_side_to : List SideAreas → List Cell → ℕ → Bool
is_side_to sides cells k = list_any (λ (s : SideAreas). (k == s.number) && have_one s.areas.items cells) sides

-- the areas are those to which the expressions of sides refer
abbrev pub AreAreasOf : List SideAreas → Sides → Type 0
AreAreasOf areas sides = map {B = ℕ × List Area} (λ (s : SideAreas). (s.number, s.areas.items)) areas ≡ map (λ (side : ℕ × Tree). (side.0, references_of side.1)) sides
