-- Cells in places that meet a criterion.
use Rattle.std.proofs.Common.{◌≡◌, ℕ, ◌+◌, ◌<◌, true, false, cond, List, ◌∷◌, ◌++◌, [], length, get_or, drop, map, sym, ap, ◌∙◌, append_assoc, arith}
use Rattle.std.specs.Prelude.{filter, zip}
use Rattle.std.proofs.lemmas.List.{get_or_default}
use Rattle.cell_refs.specs.declared.cell.Cell.{Cell}
use Rattle.sheet_model.specs.declared.value.Value.{Value}
use Rattle.sheet_model.proofs.Spreading.{pairs_from}
use Rattle.sheet_funcs.specs.Criteria.{meets}

-- the cells of some pairs whose values meet a criterion
abbrev pub of_pairs : Value → List (Value × Cell) → List Cell
of_pairs criterion pairs = map (λ (p : Value × Cell). p.1) (filter (λ (p : Value × Cell). meets criterion p.0) pairs)

-- the cells in the places where a value meets a criterion
abbrev pub met_among : Value → List Value → List Cell → List Cell
met_among criterion values cells = of_pairs criterion (zip values cells)

-- a cell that stands where there is none
corner : Cell
corner = record { sheet = record { 0 = 0 }; row = 0; col = 0 }

module _ (criterion : Value) (values : List Value) (cells : List Cell) (i : ℕ) (whole now : List Cell) (h : i < length values) (same : length values ≡ length cells)
    (all : whole ≡ now ++ met_among criterion (drop i values) (drop i cells)) (v : Value) (e : v ≡ get_or values i v) where
  -- the pair in a place and those behind it
  pairs : (b : Cell) → b ≡ get_or cells i b → whole ≡ now ++ of_pairs criterion ((v, b) ∷ zip (drop (i + 1) values) (drop (i + 1) cells))
  pairs b f = all ∙ ap (λ ps. now ++ of_pairs criterion ps) (pairs_from values cells i v b h (omega (arith, same)) e f)

  -- where the value meets the criterion
  pub taken : (b : Cell) (new : List Cell) → b ≡ get_or cells i b → meets criterion v ≡ true → new ≡ now ++ b ∷ [] → whole ≡ new ++ met_among criterion (drop (i + 1) values) (drop (i + 1) cells)
  taken b new f met more =
      let others = zip (drop (i + 1) values) (drop (i + 1) cells) in
      pairs b f
      ∙ ap (λ t. now ++ map (λ (p : Value × Cell). p.1) (cond t ((v, b) ∷ filter (λ (p : Value × Cell). meets criterion p.0) others) (filter (λ (p : Value × Cell). meets criterion p.0) others))) met
      ∙ sym (append_assoc now (b ∷ []) (of_pairs criterion others)) ∙ ap (λ bs. bs ++ of_pairs criterion others) (sym more)

  -- where it doesn't
  pub skipped : meets criterion v ≡ false → whole ≡ now ++ met_among criterion (drop (i + 1) values) (drop (i + 1) cells)
  skipped unmet =
      let others = zip (drop (i + 1) values) (drop (i + 1) cells) in
      let b = get_or cells i corner in
      pairs b (get_or_default cells i corner b (omega (arith, same)))
      ∙ ap (λ t. now ++ map (λ (p : Value × Cell). p.1) (cond t ((v, b) ∷ filter (λ (p : Value × Cell). meets criterion p.0) others) (filter (λ (p : Value × Cell). meets criterion p.0) others))) unmet
