-- Cells that are put at their first places alone.
use Rattle.std.proofs.Common.{◌≡◌, ◌⊎◌, inl, inr, ℕ, zero, suc, Bool, true, false, cond, List, [], ◌∷◌, ◌++◌, length, Some, refl, sym, ap, ◌∙◌}
use Rattle.std.specs.Prelude.{◌||◌, fold, slice_get}
use Rattle.std.specs.List.{AllByRecursion, list_any}
use Rattle.cell_refs.specs.Cells.{is_same_cell}
use Rattle.cell_refs.specs.declared.cell.Cell.{Cell}
use Rattle.cell_refs.proofs.SameCells.{same_itself}
use Rattle.recalculation.proofs.Lists.{each_append}
use Rattle.solver_names.specs.Texts.{distinct, with_cell}
use Rattle.statement_laws.specs.Laws.{AreDistinct}

-- ---- a cell that isn't there
first_false : (p q : Bool) → (p || q) ≡ false → p ≡ false
first_false true q h = absurd cc
first_false false q h = refl

second_false : (p q : Bool) → (p || q) ≡ false → q ≡ false
second_false true q h = absurd cc
second_false false q h = h

not_there : (cells : List Cell) (c : Cell) (k : ℕ) → list_any (is_same_cell c) cells ≡ false → slice_get cells k ≡ Some c → ⊥
not_there [] c k h e = cc
not_there (d ∷ cells) c zero h e =
    let there : d ≡ c = cc in
    let same : is_same_cell c d ≡ true = ap (is_same_cell c) there ∙ same_itself c in
    let other : is_same_cell c d ≡ false = first_false (is_same_cell c d) (list_any (is_same_cell c) cells) h in
    let both : true ≡ false = sym same ∙ other in
    cc
not_there (d ∷ cells) c (suc k) h e = not_there cells c k (second_false (is_same_cell c d) (list_any (is_same_cell c) cells) h) e

-- ---- a cell that is put
at_end : (cells : List Cell) (c : Cell) (i : ℕ) (d : Cell) → slice_get (cells ++ c ∷ []) i ≡ Some d → (slice_get cells i ≡ Some d) ⊎ ((i ≡ length cells) × (d ≡ c))
at_end [] c zero d e = let same : d ≡ c = cc in inr (refl, same)
at_end [] c (suc i) d e = absurd cc
at_end (x ∷ cells) c zero d e = inl e
at_end (x ∷ cells) c (suc i) d e = by (at_end cells c i d e)
  where
    by : (slice_get cells i ≡ Some d) ⊎ ((i ≡ length cells) × (d ≡ c)) → (slice_get cells i ≡ Some d) ⊎ ((suc i ≡ suc (length cells)) × (d ≡ c))
    by (inl h) = inl h
    by (inr h) = inr (ap suc h.0, h.1)

one_more : (cells : List Cell) (c : Cell) → AreDistinct cells → ((k : ℕ) → slice_get cells k ≡ Some c → ⊥) → AreDistinct (cells ++ c ∷ [])
one_more cells c own new i j d e f = by (at_end cells c i d e) (at_end cells c j d f)
  where
    by : (slice_get cells i ≡ Some d) ⊎ ((i ≡ length cells) × (d ≡ c)) → (slice_get cells j ≡ Some d) ⊎ ((j ≡ length cells) × (d ≡ c)) → i ≡ j
    by (inl a) (inl b) = own i j d a b
    by (inl a) (inr b) = absurd (new i (a ∙ ap Some b.1))
    by (inr a) (inl b) = absurd (new j (b ∙ ap Some a.1))
    by (inr a) (inr b) = a.0 ∙ sym b.0

one_put : (cells : List Cell) (c : Cell) → AreDistinct cells → AreDistinct (with_cell cells c)
one_put cells c own = by (list_any (is_same_cell c) cells) refl
  where
    by : (b : Bool) → list_any (is_same_cell c) cells ≡ b → AreDistinct (cond b cells (cells ++ c ∷ []))
    by true e = own
    by false e = one_more cells c own (λ k h. not_there cells c k e h)

all_put : (more cells : List Cell) → AreDistinct cells → AreDistinct (fold with_cell cells more)
all_put [] cells own = own
all_put (c ∷ more) cells own = all_put more (with_cell cells c) (one_put cells c own)

pub once_each : (cells : List Cell) → AreDistinct (distinct cells)
once_each cells = all_put cells [] (λ i j c e f. absurd cc)

-- ---- what holds of each cell that is put
module _ (P : Cell → Type 0) where
  one_held : (cells : List Cell) (c : Cell) → AllByRecursion P cells → P c → AllByRecursion P (with_cell cells c)
  one_held cells c all one = by (list_any (is_same_cell c) cells)
    where
      by : (b : Bool) → AllByRecursion P (cond b cells (cells ++ c ∷ []))
      by true = all
      by false = each_append P cells (c ∷ []) all (one, tt)

  all_held : (more cells : List Cell) → AllByRecursion P cells → AllByRecursion P more → AllByRecursion P (fold with_cell cells more)
  all_held [] cells all others = all
  all_held (c ∷ more) cells all others = all_held more (with_cell cells c) (one_held cells c all others.0) others.1

  pub distinct_held : (cells : List Cell) → AllByRecursion P cells → AllByRecursion P (distinct cells)
  distinct_held cells all = all_held cells [] tt all
