-- A workbook that is made up: so many suppliers send goods to as many places, at costs that are drawn.
use Rattle.std.specs.Prelude.{ℕ, zero, suc, ◌+◌, ◌-◌, ◌*◌, ◌/◌, ◌%◌, ◌^◌, ◌==◌, ◌&&◌, if◌then◌else◌, List, [], ◌∷◌, ◌++◌, map, flat_map, drop, slice_index, codes, decimal, Some, None}
use Rattle.std.specs.FinMap.{empty}
use Rattle.std.specs.List.{range_with_len}
use Rattle.cell_refs.specs.declared.cell.Cell.{Cell}
use Rattle.cell_refs.specs.Address.{address_text, column_text}
use Rattle.workbook.specs.Several.{with_texts}
use Rattle.workbook.specs.State.{Name, State}

-- ---- draws
abbrev pub next_seed : ℕ → ℕ
next_seed x = (1103515245 * x + 12345) % (2 ^ 31)

-- so many draws, from a seed on
abbrev pub draws : ℕ → ℕ → List ℕ
draws zero x = []
draws (suc n) x = next_seed x / 65536 ∷ draws n (next_seed x)

-- the costs by rows, and behind them the demands
abbrev pub costs : ℕ → List ℕ
costs n = map (λ d. 1 + d % 20) (draws (n * n) 1)

abbrev pub demands : ℕ → List ℕ
demands n = map (λ d. 10 + d % 10) (drop (n * n) (draws (n * n + n) 1))

-- ---- texts, at rows and columns from 0
abbrev pub below : ℕ → List ℕ
below n = range_with_len 0 n

abbrev pub TextInCell : Type 0
TextInCell = Cell × List ℕ

abbrev pub at : ℕ → ℕ → List ℕ → TextInCell
at row column text = (record { sheet = record { 0 = 0 }; row = row; col = column }, text)

abbrev pub area_text : ℕ → ℕ → ℕ → ℕ → List ℕ
area_text top left bottom right = address_text top left ++ (codes ":" ++ address_text bottom right)

abbrev pub sum_of : List ℕ → List ℕ
sum_of area = codes "=SUM(" ++ (area ++ codes ")")

-- the cost of sending from a supplier to a place, and what is sent
abbrev pub cost_cells : ℕ → List TextInCell
cost_cells n = flat_map (λ i. map (λ j. at i j (decimal (slice_index (costs n) (i * n + j)))) (below n)) (below n)

abbrev pub sent_cells : ℕ → List TextInCell
sent_cells n = flat_map (λ i. map (λ j. at (n + i) j (codes "0")) (below n)) (below n)

-- what each supplier sends, and its supply
abbrev pub supply_cells : ℕ → List TextInCell
supply_cells n = flat_map (λ i. at (n + i) n (sum_of (area_text (n + i) 0 (n + i) (n - 1))) ∷ at (n + i) (n + 1) (codes "20") ∷ []) (below n)

-- what each place gets, and its demand
abbrev pub demand_cells : ℕ → List TextInCell
demand_cells n =
    flat_map (λ j. at (2 * n) j (sum_of (area_text n j (2 * n - 1) j)) ∷ at (2 * n + 1) j (decimal (slice_index (demands n) j)) ∷ []) (below n)

-- the costs of all
abbrev pub total_cell : ℕ → TextInCell
total_cell n =
    at (2 * n + 2) 0 (codes "=SUMPRODUCT(" ++ (area_text 0 0 (n - 1) (n - 1) ++ (codes ";" ++ (area_text n 0 (2 * n - 1) (n - 1) ++ codes ")"))))

abbrev pub all_cells : ℕ → List TextInCell
all_cells n = cost_cells n ++ (sent_cells n ++ (supply_cells n ++ (demand_cells n ++ total_cell n ∷ [])))

-- ---- the workbook
abbrev pub sheet_name : List ℕ
sheet_name = codes "gen"

abbrev pub named_as : List ℕ → List ℕ → Name
named_as name text = record { sheet = Some 0; sheet_text = sheet_name; name = name; text = text; comment = None }

-- an absolute address, with a dollar sign before the column and one before the row
abbrev pub absolute_address_text : ℕ → ℕ → List ℕ
absolute_address_text row column = codes "$" ++ (column_text column ++ (codes "$" ++ decimal (row + 1)))

-- an area by absolute addresses: one alone where it is a single cell
abbrev pub absolute_area_text : ℕ → ℕ → ℕ → ℕ → List ℕ
absolute_area_text top left bottom right =
    if (top == bottom) && (left == right) then absolute_address_text top left
    else absolute_address_text top left ++ (codes ":" ++ absolute_address_text bottom right)

-- the least cost, with no more sent than the supplies and no less got than the demands
abbrev pub made_up_names : ℕ → List Name
made_up_names n =
    named_as (codes "solver_adj") (absolute_area_text n 0 (2 * n - 1) (n - 1))
    ∷ named_as (codes "solver_opt") (absolute_address_text (2 * n + 2) 0)
    ∷ named_as (codes "solver_typ") (codes "2")
    ∷ named_as (codes "solver_num") (codes "2")
    ∷ named_as (codes "solver_lhs1") (absolute_area_text n n (2 * n - 1) n)
    ∷ named_as (codes "solver_rel1") (codes "1")
    ∷ named_as (codes "solver_rhs1") (absolute_area_text n (n + 1) (2 * n - 1) (n + 1))
    ∷ named_as (codes "solver_lhs2") (absolute_area_text (2 * n) 0 (2 * n) (n - 1))
    ∷ named_as (codes "solver_rel2") (codes "3")
    ∷ named_as (codes "solver_rhs2") (absolute_area_text (2 * n + 1) 0 (2 * n + 1) (n - 1))
    ∷ []

abbrev pub made_up : ℕ → State
made_up n = record { sheets = sheet_name ∷ []; contents = with_texts empty (all_cells n); names = made_up_names n }
