-- Parameters that are put behind the decision cells, one after the other.
use Rattle.std.proofs.Common.{◌≡◌, ◌≤◌, ◌<◌, ◌+◌, ◌++◌, ℕ, zero, suc, List, [], ◌∷◌, length, take, get_or, Option, Some, None, refl, sym, ap, ◌∙◌, arith, append_assoc, length-append, length-take-le}
use Rattle.std.specs.Prelude.{position, slice_get}
use Rattle.std.proofs.lemmas.List.{take_more}
use Rattle.std.proofs.lemmas.List.Elements.{All-get_or}
use Rattle.cell_refs.specs.Cells.{is_same_cell}
use Rattle.cell_refs.specs.declared.cell.Cell.{Cell}
use Rattle.form_extraction.specs.Places.{numbered_in}
use Rattle.named_cells.specs.FromStatementLaws.{AreDistinct}
use Rattle.cell_refs.specs.declared.adj.TheConstants.{DECISIONS}
use Rattle.parameter_problems.proofs.Numbering.{first_or, position_both}
use Rattle.sheet_quick.specs.Inner.{StandApart}
use Rattle.sheet_quick.proofs.Cells.{at_place, own_number}

-- what stands among the first ones stands there in the list
taken : (xs : List Cell) (i j : ℕ) (c : Cell) → slice_get (take i xs) j ≡ Some c → (slice_get xs j ≡ Some c) × (j < i)
taken [] zero j c h = absurd cc
taken [] (suc i) j c h = absurd cc
taken (x ∷ xs) zero j c h = absurd cc
taken (x ∷ xs) (suc i) zero c h = (h, omega arith)
taken (x ∷ xs) (suc i) (suc j) c h = let r = taken xs i j c h in let l : j < i = r.1 in (r.0, omega (arith, l))

-- a cell is none of those before it
not_before : (cells : List Cell) (i : ℕ) (c : Cell) → AreDistinct cells → slice_get cells i ≡ Some c → numbered_in (take i cells) c ≡ None
not_before cells i c distinct e = by (numbered_in (take i cells) c) refl
  where
    by : (o : Option ℕ) → numbered_in (take i cells) c ≡ o → o ≡ None
    by None h = refl
    by (Some j) h =
        let t = taken cells i j c (own_number (take i cells) c j h).1 in
        let l : j < i = t.1 in
        let same : j ≡ i = distinct j i c t.0 e in
        absurd (omega (arith, l, same))

-- what an index past the end would read
abbrev pub no_cell : Cell
no_cell = record { sheet = record { 0 = 0 }; row = 0; col = 0 }

module _ (decisions cells all : List Cell) (i : ℕ) (few : length decisions + length cells ≤ DECISIONS) (apart : StandApart decisions cells) (so_far : all ≡ decisions ++ take i cells) (below : i < length cells) where
  abbrev c : Cell
  c = get_or cells i no_cell

  -- it is new
  pub is_new : position (is_same_cell (get_or cells i no_cell)) all ≡ None
  is_new =
      ap (position (is_same_cell c)) so_far ∙ position_both (is_same_cell c) decisions (take i cells)
      ∙ ap (λ o. first_or (length decisions) o (position (is_same_cell c) (take i cells))) (All-get_or (λ c. numbered_in decisions c ≡ None) cells i no_cell below apart.1)
      ∙ ap (first_or (length decisions) None) (not_before cells i c apart.0 (at_place cells i no_cell below))

  -- there is room for it
  pub has_room : length all < DECISIONS
  has_room =
      let long : length all ≡ length decisions + length (take i cells) = ap length so_far ∙ length-append decisions (take i cells) in
      let some : length (take i cells) ≡ i = length-take-le i cells (omega (arith, below)) in
      omega (arith, long, some, below, few)

  pub with_it : (more : List Cell) → more ≡ all ++ get_or cells i no_cell ∷ [] → more ≡ decisions ++ take (i + 1) cells
  with_it more e =
      e ∙ ap (λ l. l ++ c ∷ []) so_far ∙ append_assoc decisions (take i cells) (c ∷ []) ∙ ap (λ l. decisions ++ l) (sym (take_more cells i no_cell below))
