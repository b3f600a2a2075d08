-- The least of some cells without a form, from the last one on.
use Rattle.std.proofs.Common.{◌≡◌, ◌<◌, ◌≤◌, ◌+◌, ◌-◌, ℕ, List, [], ◌∷◌, drop, get_or, length, Option, None, refl, sym, ap, ◌∙◌, arith}
use Rattle.std.proofs.lemmas.List.{at_drop_more}
use Rattle.cell_refs.specs.declared.cell.Cell.{Cell}
use Rattle.form_values.specs.declared.abs.Abs.{Abs}
use Rattle.form_extraction.specs.Places.{least_without, with_least}

-- nothing stands behind all cells
pub behind_all : (forms : Cell → Option Abs) (cells : List Cell) → least_without forms (drop (length cells) cells) ≡ None
behind_all forms [] = refl
behind_all forms (c ∷ cells) = behind_all forms cells

-- one cell more in front
pub one_more : (forms : Cell → Option Abs) (cells : List Cell) (place : ℕ) (d : Cell) (least now : Option Cell) → 0 < place → place ≤ length cells
    → least ≡ least_without forms (drop place cells) → now ≡ with_least forms (get_or cells (place - 1) d) (forms (get_or cells (place - 1) d)) least → now ≡ least_without forms (drop (place - 1) cells)
one_more forms cells place d least now some within before after =
    let next : place - 1 + 1 ≡ place = omega (arith, some) in
    after ∙ ap (with_least forms (get_or cells (place - 1) d) (forms (get_or cells (place - 1) d))) (before ∙ ap (λ n. least_without forms (drop n cells)) (sym next))
    ∙ sym (at_drop_more (least_without forms) cells (place - 1) d (omega (arith, some, within)))

-- all cells stand behind the place 0
pub from_start : (forms : Cell → Option Abs) (cells : List Cell) (place : ℕ) (least : Option Cell) → place ≤ 0 → least ≡ least_without forms (drop place cells) → least ≡ least_without forms cells
from_start forms cells place least none before = let start : place ≡ 0 = omega (arith, none) in before ∙ ap (λ n. least_without forms (drop n cells)) start
