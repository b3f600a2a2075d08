-- The whole workbook.
use Rattle.std.proofs.Common.{◌≡◌, ◌++◌, ℕ, List, [], ◌∷◌, refl, ap, ◌∙◌}
use Rattle.std.specs.Prelude.{codes}
use Rattle.std.specs.FinMap.{empty}
use Rattle.csv.specs.Machine.{next_record}
use Rattle.csv.specs.Reading.{records_from, strip_bom}
use Rattle.workbook.specs.Files.{SheetFile, state_in}
use Rattle.workbook.specs.State.{State}
use Rattle.made_up_books.specs.MadeUp.{TextInCell, all_cells, cost_cells, costs, demand_cells, demands, made_up, named_as, sent_cells, sheet_name, supply_cells, total_cell}
use Rattle.made_up_books.specs.Putting.{demand_names, demand_pairs, number_cells, objective_names, supply_names, with_cells, with_named}
use Rattle.made_up_books.proofs.InTurn.{Contents, cells_in_turn}
use Rattle.made_up_books.proofs.Opening.{one_empty, one_file_is}

-- ---- cells
costs_are : (n : ℕ) → number_cells n (costs n) ≡ cost_cells n
unfolding number_cells
costs_are n = refl

demands_are : (n : ℕ) → demand_pairs n (demands n) ≡ demand_cells n
unfolding demand_pairs
demands_are n = refl

five : (s : State) (a b c d e : List TextInCell) → with_cells (with_cells (with_cells (with_cells (with_cells s a) b) c) d) e ≡ with_cells s (a ++ (b ++ (c ++ (d ++ e))))
five s a b c d e =
    cells_in_turn (with_cells (with_cells (with_cells s a) b) c) d e ∙ cells_in_turn (with_cells (with_cells s a) b) c (d ++ e)
    ∙ cells_in_turn (with_cells s a) b (c ++ (d ++ e)) ∙ cells_in_turn s a (b ++ (c ++ (d ++ e)))

pub all_cells_are : (n : ℕ) (numbers wanted : List ℕ) (s0 s1 s2 s3 s4 s5 : State) → numbers ≡ costs n → wanted ≡ demands n
    → s1 ≡ with_cells s0 (number_cells n numbers) → s2 ≡ with_cells s1 (sent_cells n) → s3 ≡ with_cells s2 (supply_cells n)
    → s4 ≡ with_cells s3 (demand_pairs n wanted) → s5 ≡ with_cells s4 (total_cell n ∷ []) → s5 ≡ with_cells s0 (all_cells n)
all_cells_are n numbers wanted s0 s1 s2 s3 s4 s5 c d e1 e2 e3 e4 e5 =
    let f1 : s1 ≡ with_cells s0 (cost_cells n) = e1 ∙ ap (with_cells s0) (ap (number_cells n) c ∙ costs_are n) in
    let f2 : s2 ≡ with_cells (with_cells s0 (cost_cells n)) (sent_cells n) = e2 ∙ ap (λ s. with_cells s (sent_cells n)) f1 in
    let f3 : s3 ≡ with_cells (with_cells (with_cells s0 (cost_cells n)) (sent_cells n)) (supply_cells n) = e3 ∙ ap (λ s. with_cells s (supply_cells n)) f2 in
    let f4 : s4 ≡ with_cells (with_cells (with_cells (with_cells s0 (cost_cells n)) (sent_cells n)) (supply_cells n)) (demand_cells n) =
    e4 ∙ ap (with_cells s3) (ap (demand_pairs n) d ∙ demands_are n) ∙ ap (λ s. with_cells s (demand_cells n)) f3 in
    e5 ∙ ap (λ s. with_cells s (total_cell n ∷ [])) f4 ∙ five s0 (cost_cells n) (sent_cells n) (supply_cells n) (demand_cells n) (total_cell n ∷ [])

-- ---- without texts and names
abbrev pub blank : State
blank = record { sheets = sheet_name ∷ []; contents = empty; names = [] }

read_of_nothing : state_in one_empty [] ≡ blank
unfolding strip_bom records_from next_record
read_of_nothing = refl

pub blank_is : (files before : List SheetFile) (file : SheetFile) (stem bytes : List ℕ) (book : State) → files ≡ before ++ file ∷ [] → before ≡ []
    → file ≡ record { stem = stem; bytes = bytes } → stem ≡ sheet_name → bytes ≡ [] → book ≡ state_in files [] → book ≡ blank
blank_is files before file stem bytes book all first is named none opened =
    opened ∙ ap (λ fs. state_in fs []) (one_file_is files before file stem bytes all first is named none) ∙ read_of_nothing

-- ---- names
names_are : (contents : Contents) (sent total spent supplies got wanted : List ℕ) →
    with_named
    (with_named
    (with_named (record { sheets = sheet_name ∷ []; contents = contents; names = [] })
    ((codes "solver_adj", sent) ∷ (codes "solver_opt", total) ∷ (codes "solver_typ", codes "2") ∷ (codes "solver_num", codes "2") ∷ []))
    ((codes "solver_lhs1", spent) ∷ (codes "solver_rel1", codes "1") ∷ (codes "solver_rhs1", supplies) ∷ []))
    ((codes "solver_lhs2", got) ∷ (codes "solver_rel2", codes "3") ∷ (codes "solver_rhs2", wanted) ∷ [])
    ≡ record {
      sheets = sheet_name ∷ [];
      contents = contents;
      names =
          named_as (codes "solver_adj") sent ∷ named_as (codes "solver_opt") total ∷ named_as (codes "solver_typ") (codes "2")
          ∷ named_as (codes "solver_num") (codes "2") ∷ named_as (codes "solver_lhs1") spent ∷ named_as (codes "solver_rel1") (codes "1")
          ∷ named_as (codes "solver_rhs1") supplies ∷ named_as (codes "solver_lhs2") got ∷ named_as (codes "solver_rel2") (codes "3")
          ∷ named_as (codes "solver_rhs2") wanted ∷ [];
    }
unfolding with_named
names_are contents sent total spent supplies got wanted = refl

all_is : (n : ℕ) → with_named (with_named (with_named (with_cells blank (all_cells n)) (objective_names n)) (supply_names n)) (demand_names n) ≡ made_up n
unfolding with_cells
all_is n = names_are _ _ _ _ _ _ _

pub whole_is : (n size : ℕ) (s0 s1 s2 s3 s4 : State) → n ≡ size → s0 ≡ blank → s1 ≡ with_cells s0 (all_cells n) → s2 ≡ with_named s1 (objective_names n)
    → s3 ≡ with_named s2 (supply_names n) → s4 ≡ with_named s3 (demand_names n) → s4 ≡ made_up size
whole_is n size s0 s1 s2 s3 s4 same e0 e1 e2 e3 e4 =
    let f1 : s1 ≡ with_cells blank (all_cells n) = e1 ∙ ap (λ s. with_cells s (all_cells n)) e0 in
    let f2 : s2 ≡ with_named (with_cells blank (all_cells n)) (objective_names n) = e2 ∙ ap (λ s. with_named s (objective_names n)) f1 in
    let f3 : s3 ≡ with_named (with_named (with_cells blank (all_cells n)) (objective_names n)) (supply_names n) = e3 ∙ ap (λ s. with_named s (supply_names n)) f2 in
    e4 ∙ ap (λ s. with_named s (demand_names n)) f3 ∙ all_is n ∙ ap made_up same
