-- The first of the cells that have a text.
use Rattle.std.proofs.Common.{◌≡◌, ◌≢◌, ◌<◌, [], ◌∷◌, length, arith, true, false, Option, Some, None, refl, sym, ap, ◌∙◌, rules}
use Rattle.std.specs.Prelude.{IsSome, is_some}
use Rattle.std.specs.Ordering.{is_gt, ordering_reverse}
use Rattle.std.specs.declared.cmp.Ordering.TheVariants.{Less, Greater}
use Rattle.cell_refs.specs.declared.cell.Cell.{Cell}
use Rattle.cell_refs.specs.Cells.{cell_cmp}
use Rattle.cell_refs.proofs.Order.{cells_total}
use Rattle.workbook.specs.declared.held.Held.{Held}
use Rattle.workbook.specs.Contents.{IsLast, IsNext, IsPast}
use Rattle.workbook.specs.Held.{contents_of, held_at}
use Rattle.workbook.proofs.Keeping.{HeldCells, has_text}

some_of : (o : Option Held) → is_some o ≡ true → IsSome o
some_of None e = absurd cc
some_of (Some h) e = search rules

not_less : (a b : Cell) → is_gt (cell_cmp a b) ≡ false → cell_cmp b a ≢ Less
not_less a b h less = let e : cell_cmp a b ≡ Greater = cells_total.antisymm a b ∙ ap ordering_reverse less in cc (h, ap is_gt e)

pub is_next : (es : HeldCells) (after : Option Cell) (cell : Cell) (h : Held) → held_at es cell ≡ Some h → IsPast after cell
    → ((q : Cell) → IsPast after q → IsSome (held_at es q) → is_gt (cell_cmp cell q) ≡ false) → IsNext (contents_of es) after cell
is_next es after cell h at past first = record {
  text = has_text es cell ∙ ap is_some at;
  past = past;
  least = λ other there behind. not_less cell other (first other behind (some_of (held_at es other) (sym (has_text es other) ∙ there)));
}

pub is_last : (es : HeldCells) (after : Option Cell) → ((q : Cell) → IsPast after q → held_at es q ≡ None) → IsLast (contents_of es) after
is_last es after none = λ other there past. let e : true ≡ false = sym there ∙ has_text es other ∙ ap is_some (none other past) in cc

pub nothing_held : (es : HeldCells) (q : Cell) → (0 < length es → ⊥) → held_at es q ≡ None
nothing_held [] q none = refl
nothing_held (e ∷ es) q none = absurd (none (omega arith))
