-- A workbook into which texts are put and whose names get texts, one after the other.
use Rattle.std.specs.Prelude.{ℕ, ◌≤◌, length, ◌+◌, ◌-◌, ◌*◌, List, [], ◌∷◌, map, flat_map, slice_index, codes, decimal, Some}
use Rattle.workbook.specs.Naming.{after_name}
use Rattle.workbook.specs.Several.{with_texts}
use Rattle.cell_refs.specs.declared.limits.TheConstants.{FORMULAS, NAMES}
use Rattle.workbook.specs.State.{State, text_count}
use Rattle.made_up_books.specs.MadeUp.{TextInCell, absolute_address_text, absolute_area_text, area_text, at, below, sum_of}

-- the workbook with these texts in cells, put there in their order
unfoldable pub with_cells : State → List TextInCell → State
with_cells state cells = record state { contents = with_texts state.contents cells }

-- the workbook after names of the first sheet got these texts, in their order
unfoldable pub with_named : State → List (List ℕ × List ℕ) → State
with_named state [] = state
with_named state (e ∷ es) = with_named (after_name state (Some 0) e.0 e.1) es

-- there is room for so many texts more, also where each is a formula
abbrev pub HasRoomFor : ℕ → State → Type 0
HasRoomFor count state = text_count state.contents + count ≤ FORMULAS

-- there is room for so many names more
abbrev pub HasRoomForNames : ℕ → State → Type 0
HasRoomForNames count state = length state.names + count ≤ NAMES

-- ---- cells
-- the numbers of a row, of those that stand in a list row by row
abbrev pub number_row : ℕ → List ℕ → ℕ → List TextInCell
number_row n numbers i = map (λ j. at i j (decimal (slice_index numbers (i * n + j)))) (below n)

unfoldable pub number_cells : ℕ → List ℕ → List TextInCell
number_cells n numbers = flat_map (number_row n numbers) (below n)

-- what a supplier sends to each place
abbrev pub sent_row : ℕ → ℕ → List TextInCell
sent_row n i = map (λ j. at (n + i) j (codes "0")) (below n)

-- behind a row of what is sent: its sum, and the supply
abbrev pub supply_pair : ℕ → ℕ → List TextInCell
supply_pair n row = at row n (sum_of (area_text row 0 row (n - 1))) ∷ at row (n + 1) (codes "20") ∷ []

-- below a column of what is sent: its sum, and the demand
abbrev pub demand_pair : ℕ → ℕ → ℕ → List TextInCell
demand_pair n j demand = at (2 * n) j (sum_of (area_text n j (2 * n - 1) j)) ∷ at (2 * n + 1) j (decimal demand) ∷ []

unfoldable pub demand_pairs : ℕ → List ℕ → List TextInCell
demand_pairs n demands = flat_map (λ j. demand_pair n j (slice_index demands j)) (below n)

-- ---- names, with their texts
abbrev pub objective_names : ℕ → List (List ℕ × List ℕ)
objective_names n =
    (codes "solver_adj", absolute_area_text n 0 (2 * n - 1) (n - 1))
    ∷ (codes "solver_opt", absolute_address_text (2 * n + 2) 0)
    ∷ (codes "solver_typ", codes "2")
    ∷ (codes "solver_num", codes "2")
    ∷ []

abbrev pub supply_names : ℕ → List (List ℕ × List ℕ)
supply_names n =
    (codes "solver_lhs1", absolute_area_text n n (2 * n - 1) n)
    ∷ (codes "solver_rel1", codes "1")
    ∷ (codes "solver_rhs1", absolute_area_text n (n + 1) (2 * n - 1) (n + 1))
    ∷ []

abbrev pub demand_names : ℕ → List (List ℕ × List ℕ)
demand_names n =
    (codes "solver_lhs2", absolute_area_text (2 * n) 0 (2 * n) (n - 1))
    ∷ (codes "solver_rel2", codes "3")
    ∷ (codes "solver_rhs2", absolute_area_text (2 * n + 1) 0 (2 * n + 1) (n - 1))
    ∷ []
