-- Where all that a formula looks at is known, its narrow value is the same over the values and over what is known of them.
use Rattle.std.proofs.Common.{◌≡◌, ℕ, zero, suc, if◌then◌else◌, List, [], ◌∷◌, ◌++◌, refl, sym, ap, subst, ◌∙◌, Option, Some, None}
use Rattle.std.specs.Prelude.{map, is_some, ⊤}
use Rattle.std.specs.List.{AllByRecursion}
use Rattle.std.specs.Option.{option_and_then}
use Rattle.calculations.specs.Calculation.{Calculation, done, narrow, followed_by, for_each}
use Rattle.calculations.proofs.CalculationLaws.{narrow-followed_by}
use Rattle.cell_refs.specs.declared.cell.Cell.{Cell}
use Rattle.formula_ast.specs.Tree.{Tree, Trees, none, more}
use Rattle.formula_ast.specs.Tree as tree
use Rattle.formula_ast.specs.Measures.{listed}
use Rattle.formula_ast.specs.declared.func.Func.{Func}
use Rattle.formula_ast.specs.declared.func.Func.TheVariants as func
use Rattle.sheet_model.specs.Grids.{Rectangle}
use Rattle.sheet_model.specs.Operators.{infix_of, minus_of, percent_of, single}
use Rattle.sheet_model.specs.declared.value.Value.{Value}
use Rattle.sheet_model.specs.declared.grid.Arg.{Arg}
use Rattle.sheet_model.specs.declared.grid.Arg.TheVariants.{Area as Elements}
use Rattle.sheet_funcs.specs.Arguments.{value_of, no_error, grid_of, column_of, of_one}
use Rattle.sheet_funcs.specs.Picks.{pick_of, taken_from, index_of}
use Rattle.sheet_funcs.specs.Lookups.{record_pick, vlookup_of, hlookup_of}
use Rattle.sheet_funcs.specs.Criteria.{sumif_of}
use Rattle.sheet_funcs.specs.Information.{rows_of, columns_of}
use Rattle.sheet_funcs.specs.Table.{called}
use Rattle.recalculation.specs.Evaluation.{CellGrid, grid_of_areas, values_in, chosen_place, without_choice, at_chosen, chosen_or, choosing, call_of, evaluated, all_evaluated}
use Rattle.recalculation.specs.Looks.{Argument, all_looks, both, outcomes, elements, then_cells, decided, looks_of, chosen_looks, choosing_looks, picked_cells, index_of_looks, index_looks, column_cells, exchanged, table_looks, lookup_looks, summed_looks, sum_looks, sumif_looks, size_looks, call_looks}
use Rattle.recalculation.specs.Looking.{by_value, known_or_empty, outcome_of, reference_in, looked_at, arguments}
use Rattle.recalculation.proofs.Lists.{each_append, each_left, each_right, each_weaker}
use Rattle.recalculation.proofs.Reading.{values_alike}
use Rattle.recalculation.proofs.Deciding.{decided_is}
use Rattle.recalculation.proofs.Calculating.{behind, behind_same, turned_same, in_order, first_differs, second_differs, third_differs}
use Rattle.recalculation.proofs.GridCells.{IsWhole, areas_whole, exchanged_values, exchanged_whole}
use Rattle.recalculation.proofs.SeenGrids.{Seen, seen_value, seen_known, seen_elements, picked_same, lookup_same, summed_same}

module _ (known : Cell → Option Value) (value : Cell → Value) where
  -- the value of a cell is known
  abbrev IsSeen : Cell → Type 0
  IsSeen b = Seen known value b

  -- what stands in its place where values are made of what is known
  abbrev filled_in : Cell → Value
  filled_in = known_or_empty known

  -- an argument, calculated over the values and over what is known of them
  record Reading : Type 0 where
    pub argument : Argument Arg
    pub here : Calculation Arg
    pub there : Calculation Arg

  -- a reference is the grid of its cells
  abbrev IsGrid : (here there : Calculation Arg) → Option CellGrid → Type 0
  IsGrid here there None = ⊤
  IsGrid here there (Some g) = (here ≡ done (Elements (values_in value g))) × (there ≡ done (Elements (values_in filled_in g))) × IsWhole g

  -- where all at which it looks is known, the two have one narrow answer, which is its narrow value
  record IsLinked (r : Reading) : Type 0 where
    pub same : AllByRecursion IsSeen r.argument.looks → narrow r.here ≡ narrow r.there
    pub told : AllByRecursion IsSeen r.argument.looks → r.argument.outcome ≡ narrow r.there
    pub grid : IsGrid r.here r.there r.argument.reference

  -- the arguments, and what each is over the values and over what is known of them
  abbrev args_of : List Reading → List (Argument Arg)
  args_of rs = map (λ (r : Reading). r.argument) rs

  abbrev heres : List Reading → List (Calculation Arg)
  heres rs = map (λ (r : Reading). r.here) rs

  abbrev theres : List Reading → List (Calculation Arg)
  theres rs = map (λ (r : Reading). r.there) rs

  -- each argument is linked
  abbrev Linked : List Reading → Type 0
  Linked rs = AllByRecursion IsLinked rs

  -- the values of some cells are known
  abbrev AllSeen : List Cell → Type 0
  AllSeen cells = AllByRecursion IsSeen cells

  -- all arguments
  all_same : (rs : List Reading) → Linked rs → AllSeen (all_looks (args_of rs)) → narrow (for_each (λ c. c) (heres rs)) ≡ narrow (for_each (λ c. c) (theres rs))
  all_same [] l h = refl
  all_same (r ∷ rs) l h =
      let one = l.0.same (each_left IsSeen r.argument.looks (all_looks (args_of rs)) h) in
      let others = all_same rs l.1 (each_right IsSeen r.argument.looks (all_looks (args_of rs)) h) in
      in_order r.here (heres rs) ∙ (λ i. both (one i) (others i)) ∙ sym (in_order r.there (theres rs))

  -- their narrow values, where all have one
  all_told : (rs : List Reading) → Linked rs → AllSeen (all_looks (args_of rs)) → outcomes (args_of rs) ≡ narrow (for_each (λ c. c) (theres rs))
  all_told [] l h = refl
  all_told (r ∷ rs) l h =
      let one = l.0.told (each_left IsSeen r.argument.looks (all_looks (args_of rs)) h) in
      let others = all_told rs l.1 (each_right IsSeen r.argument.looks (all_looks (args_of rs)) h) in
      (λ i. both (one i) (others i)) ∙ sym (in_order r.there (theres rs))

  -- a function of arguments all of which are looked at
  applied_same : (f : List Arg → Calculation Arg) (rs : List Reading) → Linked rs → AllSeen (all_looks (args_of rs))
      → narrow (followed_by (for_each (λ c. c) (heres rs)) f) ≡ narrow (followed_by (for_each (λ c. c) (theres rs)) f)
  applied_same f rs l h = behind_same (for_each (λ c. c) (heres rs)) (for_each (λ c. c) (theres rs)) f (all_same rs l h)

  -- the answers of two calculations in front of others
  two_in_front : (c d : Calculation Arg) (cs : List (Calculation Arg)) → narrow (for_each (λ c. c) (c ∷ d ∷ cs)) ≡ both (narrow c) (both (narrow d) (narrow (for_each (λ c. c) cs)))
  two_in_front c d cs = in_order c (d ∷ cs) ∙ ap (both (narrow c)) (in_order d cs)

  -- what is looked at behind a value that there is
  then_seen : {A : Type 0} (o p : Option A) (x : A) (f : A → List Cell) → o ≡ p → p ≡ Some x → AllSeen (then_cells o f) → AllSeen (f x)
  then_seen o p x f e k h = subst (λ q. AllSeen (then_cells q f)) (e ∙ k) h

  -- ---- functions that choose
  -- the argument that is chosen, or what stands where none is
  chosen_same : (rs : List Reading) (o : Option ℕ) (a : Arg) → Linked rs → AllSeen (looks_of (at_chosen (args_of rs) o))
      → narrow (chosen_or a (at_chosen (heres rs) o)) ≡ narrow (chosen_or a (at_chosen (theres rs) o))
  chosen_same rs None a l h = refl
  chosen_same [] (Some n) a l h = refl
  chosen_same (r ∷ rs) (Some zero) a l h = turned_same single r.here r.there (l.0.same h)
  chosen_same (r ∷ rs) (Some (suc n)) a l h = chosen_same rs (Some n) a l.1 h

  -- IF, IFERROR and CHOOSE
  choosing_same : (f : Func) (rs : List Reading) → Linked rs → AllSeen (choosing_looks by_value f (args_of rs)) → narrow (choosing f (heres rs)) ≡ narrow (choosing f (theres rs))
  choosing_same f [] l h = refl
  choosing_same f (r ∷ others) l h =
      let asked = each_left IsSeen r.argument.looks _ h in
      behind r.here r.there _ _ (l.0.same asked)
      (λ v e. chosen_same others (chosen_place f v) (without_choice f v) l.1
      (subst (λ o. AllSeen (chosen_looks f (args_of others) o)) (decided_is f v)
      (then_seen r.argument.outcome (narrow r.there) v (λ v. chosen_looks f (args_of others) (decided by_value f v)) (l.0.told asked) e (each_right IsSeen r.argument.looks _ h))))

  -- ---- functions that pick from a reference
  index_same : (rs : List Reading) → Linked rs → AllSeen (index_looks by_value (args_of rs))
      → narrow (followed_by (for_each (λ c. c) (heres rs)) index_of) ≡ narrow (followed_by (for_each (λ c. c) (theres rs)) index_of)
  index_same [] l h = refl
  index_same (r ∷ places) l h = by r.argument.reference l.0.grid h
    where
      by : (o : Option CellGrid) → IsGrid r.here r.there o → AllSeen (index_of_looks by_value r.argument (args_of places) o)
          → narrow (followed_by (for_each (λ c. c) (heres (r ∷ places))) index_of) ≡ narrow (followed_by (for_each (λ c. c) (theres (r ∷ places))) index_of)
      by None grid h = applied_same index_of (r ∷ places) l h
      by (Some g) grid h =
          let asked = each_left IsSeen (all_looks (args_of places)) _ h in
          let others = all_same places l.1 asked in
          let answer : List Arg → Option Arg = λ xs. narrow (index_of xs) in
          narrow-followed_by (for_each (λ c. c) (heres (r ∷ places))) index_of ∙ ap (option_and_then answer) (in_order r.here (heres places))
          ∙ (λ i. option_and_then answer (both (narrow (grid.0 i)) (others i)))
          ∙ first_differs answer (Elements (values_in value g)) (Elements (values_in filled_in g)) (narrow (for_each (λ c. c) (theres places)))
          (λ vs e. ap (λ a. Some a) (picked_same known value g (pick_of g.rows g.columns vs)
          (then_seen (outcomes (args_of places)) (narrow (for_each (λ c. c) (theres places))) vs (λ vs. picked_cells g (pick_of g.rows g.columns vs)) (all_told places l.1 asked) e
          (each_right IsSeen (all_looks (args_of places)) _ h))))
          ∙ (λ i. option_and_then answer (both (narrow (sym grid.1 i)) (narrow (for_each (λ c. c) (theres places)))))
          ∙ sym (narrow-followed_by (for_each (λ c. c) (theres (r ∷ places))) index_of ∙ ap (option_and_then answer) (in_order r.there (theres places)))

  -- a table's two grids give one answer where the keys are seen, and what is found by them
  abbrev IsAgreed : (CellGrid → CellGrid) → (List Arg → Calculation Arg) → Type 0
  IsAgreed turned f =
      (g : CellGrid) (key : Arg) (xs : List Arg) → IsWhole g → AllSeen (column_cells (turned g) 0)
      → AllSeen (picked_cells (turned g) (record_pick (turned g).columns (map value (column_cells (turned g) 0)) (key ∷ xs)))
      → narrow (f (key ∷ Elements (values_in value g) ∷ xs)) ≡ narrow (f (key ∷ Elements (values_in filled_in g) ∷ xs))

  -- VLOOKUP, of the table itself
  vlookup_agreed : IsAgreed (λ g. g) vlookup_of
  vlookup_agreed g key xs whole seen h = ap (λ a. Some a) (lookup_same known value g whole seen (key ∷ xs) h)

  -- HLOOKUP, of the table with rows and columns exchanged
  hlookup_agreed : IsAgreed exchanged hlookup_of
  hlookup_agreed g key xs whole seen h =
      let taken : Rectangle → Option Arg = λ v. Some (taken_from v (record_pick v.columns (column_of v 0) (key ∷ xs))) in
      ap taken (sym (exchanged_values g whole value))
      ∙ ap (λ a. Some a) (lookup_same known value (exchanged g) (exchanged_whole g whole) seen (key ∷ xs) h)
      ∙ ap taken (exchanged_values g whole filled_in)

  -- the second argument in front of the first
  other_order : (one two others : List Cell) → AllSeen (two ++ (one ++ others)) → AllSeen (one ++ (two ++ others))
  other_order one two others h =
      let behind_two = each_right IsSeen two (one ++ others) h in
      each_append IsSeen one (two ++ others) (each_left IsSeen one others behind_two) (each_append IsSeen two others (each_left IsSeen two (one ++ others) h) (each_right IsSeen one others behind_two))

  -- a lookup in a table
  table_same : (turned : CellGrid → CellGrid) (f : List Arg → Calculation Arg) → IsAgreed turned f → (rs : List Reading) → Linked rs → AllSeen (lookup_looks by_value known turned (args_of rs))
      → narrow (followed_by (for_each (λ c. c) (heres rs)) f) ≡ narrow (followed_by (for_each (λ c. c) (theres rs)) f)
  table_same turned f agreed [] l h = refl
  table_same turned f agreed (key ∷ []) l h = applied_same f (key ∷ []) l h
  table_same turned f agreed (key ∷ table ∷ rest) l h = by table.argument.reference l.1.0.grid h
    where
      by : (o : Option CellGrid) → IsGrid table.here table.there o → AllSeen (table_looks by_value known turned (args_of (key ∷ rest)) table.argument o)
          → narrow (followed_by (for_each (λ c. c) (heres (key ∷ table ∷ rest))) f) ≡ narrow (followed_by (for_each (λ c. c) (theres (key ∷ table ∷ rest))) f)
      by None grid h = applied_same f (key ∷ table ∷ rest) l (other_order key.argument.looks table.argument.looks (all_looks (args_of rest)) h)
      by (Some g) grid h =
          let cells = column_cells (turned g) 0 in
          let before = each_left IsSeen (all_looks (args_of (key ∷ rest)) ++ cells) _ h in
          let asked = each_left IsSeen (all_looks (args_of (key ∷ rest))) cells before in
          let seen = each_right IsSeen (all_looks (args_of (key ∷ rest))) cells before in
          let found : List Arg → List Cell = λ vs. picked_cells (turned g) (record_pick (turned g).columns (map value cells) vs) in
          let after_keys = then_seen (elements known cells) (Some (map value cells)) (map value cells)
          (λ keys. then_cells (outcomes (args_of (key ∷ rest))) (λ vs. picked_cells (turned g) (record_pick (turned g).columns keys vs))) (seen_elements known value cells seen) refl
          (each_right IsSeen (all_looks (args_of (key ∷ rest)) ++ cells) _ h) in
          let one = l.0.same (each_left IsSeen key.argument.looks (all_looks (args_of rest)) asked) in
          let others = all_same rest l.1.1 (each_right IsSeen key.argument.looks (all_looks (args_of rest)) asked) in
          let others_there = narrow (for_each (λ c. c) (theres rest)) in
          let told = all_told (key ∷ rest) (l.0, l.1.1) asked ∙ in_order key.there (theres rest) in
          let answer : List Arg → Option Arg = λ xs. narrow (f xs) in
          narrow-followed_by (for_each (λ c. c) (heres (key ∷ table ∷ rest))) f ∙ ap (option_and_then answer) (in_order key.here (heres (table ∷ rest)))
          ∙ ap (λ o. option_and_then answer (both (narrow key.here) o)) (in_order table.here (heres rest))
          ∙ (λ i. option_and_then answer (both (one i) (both (narrow (grid.0 i)) (others i))))
          ∙ second_differs answer (Elements (values_in value g)) (Elements (values_in filled_in g)) (narrow key.there) others_there
          (λ k xs e. agreed g k xs grid.2 seen
          (then_seen (outcomes (args_of (key ∷ rest))) (both (narrow key.there) others_there) (k ∷ xs) found told e after_keys))
          ∙ (λ i. option_and_then answer (both (narrow key.there) (both (narrow (sym grid.1 i)) others_there)))
          ∙ sym (ap (λ o. option_and_then answer (both (narrow key.there) o)) (in_order table.there (theres rest)))
          ∙ sym (narrow-followed_by (for_each (λ c. c) (theres (key ∷ table ∷ rest))) f ∙ ap (option_and_then answer) (in_order key.there (theres (table ∷ rest))))

  -- ---- sums by a criterion
  sumif_same : (rs : List Reading) → Linked rs → AllSeen (sumif_looks by_value (args_of rs))
      → narrow (followed_by (for_each (λ c. c) (heres rs)) sumif_of) ≡ narrow (followed_by (for_each (λ c. c) (theres rs)) sumif_of)
  sumif_same [] l h = refl
  sumif_same (a ∷ []) l h = applied_same sumif_of (a ∷ []) l h
  sumif_same (a ∷ b ∷ []) l h = applied_same sumif_of (a ∷ b ∷ []) l h
  sumif_same (a ∷ b ∷ c ∷ d ∷ rs) l h = applied_same sumif_of (a ∷ b ∷ c ∷ d ∷ rs) l h
  sumif_same (tested ∷ criterion ∷ summed ∷ []) l h = by summed.argument.reference l.1.1.0.grid h
    where
      by : (o : Option CellGrid) → IsGrid summed.here summed.there o → AllSeen (sum_looks by_value (args_of (tested ∷ criterion ∷ [])) summed.argument o)
          → narrow (followed_by (for_each (λ c. c) (heres (tested ∷ criterion ∷ summed ∷ []))) sumif_of) ≡ narrow (followed_by (for_each (λ c. c) (theres (tested ∷ criterion ∷ summed ∷ []))) sumif_of)
      by None grid h =
          let looks = each_left IsSeen (all_looks (args_of (tested ∷ criterion ∷ []))) summed.argument.looks h in
          let second = each_right IsSeen tested.argument.looks (criterion.argument.looks ++ []) looks in
          applied_same sumif_of (tested ∷ criterion ∷ summed ∷ []) l
          (each_append IsSeen tested.argument.looks _ (each_left IsSeen tested.argument.looks (criterion.argument.looks ++ []) looks)
          (each_append IsSeen criterion.argument.looks _ (each_left IsSeen criterion.argument.looks [] second)
          (each_append IsSeen summed.argument.looks [] (each_right IsSeen (all_looks (args_of (tested ∷ criterion ∷ []))) summed.argument.looks h) tt)))
      by (Some g) grid h =
          let asked = each_left IsSeen (all_looks (args_of (tested ∷ criterion ∷ []))) _ h in
          let second = each_right IsSeen tested.argument.looks (criterion.argument.looks ++ []) asked in
          let one = l.0.same (each_left IsSeen tested.argument.looks (criterion.argument.looks ++ []) asked) in
          let two = l.1.0.same (each_left IsSeen criterion.argument.looks [] second) in
          let told = all_told (tested ∷ criterion ∷ []) (l.0, (l.1.0, tt)) asked ∙ two_in_front tested.there criterion.there [] in
          let answer : List Arg → Option Arg = λ xs. narrow (sumif_of xs) in
          narrow-followed_by (for_each (λ c. c) (heres (tested ∷ criterion ∷ summed ∷ []))) sumif_of
          ∙ ap (option_and_then answer) (two_in_front tested.here criterion.here (summed.here ∷ []))
          ∙ ap (λ o. option_and_then answer (both (narrow tested.here) (both (narrow criterion.here) o))) (in_order summed.here [])
          ∙ (λ i. option_and_then answer (both (one i) (both (two i) (both (narrow (grid.0 i)) (Some [])))))
          ∙ third_differs answer (Elements (values_in value g)) (Elements (values_in filled_in g)) (narrow tested.there) (narrow criterion.there)
          (λ a b e. ap narrow (summed_same known value g (grid_of a) (no_error (value_of b))
          (then_seen (outcomes (args_of (tested ∷ criterion ∷ []))) (both (narrow tested.there) (both (narrow criterion.there) (Some []))) (a ∷ b ∷ []) (summed_looks by_value g) told e
          (each_right IsSeen (all_looks (args_of (tested ∷ criterion ∷ []))) _ h))))
          ∙ (λ i. option_and_then answer (both (narrow tested.there) (both (narrow criterion.there) (both (narrow (sym grid.1 i)) (Some [])))))
          ∙ sym (ap (λ o. option_and_then answer (both (narrow tested.there) (both (narrow criterion.there) o))) (in_order summed.there []))
          ∙ sym (narrow-followed_by (for_each (λ c. c) (theres (tested ∷ criterion ∷ summed ∷ []))) sumif_of
          ∙ ap (option_and_then answer) (two_in_front tested.there criterion.there (summed.there ∷ [])))

  -- ---- sizes
  size_same : (f : Arg → Calculation Arg) → ((g : CellGrid) → f (Elements (values_in value g)) ≡ f (Elements (values_in filled_in g))) → (rs : List Reading) → Linked rs → AllSeen (size_looks (args_of rs))
      → narrow (followed_by (for_each (λ c. c) (heres rs)) (of_one f)) ≡ narrow (followed_by (for_each (λ c. c) (theres rs)) (of_one f))
  size_same f alike [] l h = refl
  size_same f alike (a ∷ b ∷ rs) l h = applied_same (of_one f) (a ∷ b ∷ rs) l h
  size_same f alike (r ∷ []) l h = by r.argument.reference l.0.grid h
    where
      one_alike : (g : CellGrid) (xs : List Arg) → narrow (of_one f (Elements (values_in value g) ∷ xs)) ≡ narrow (of_one f (Elements (values_in filled_in g) ∷ xs))
      one_alike g [] = ap narrow (alike g)
      one_alike g (x ∷ xs) = refl

      by : (o : Option CellGrid) → IsGrid r.here r.there o → AllSeen (if is_some o then [] else r.argument.looks)
          → narrow (followed_by (for_each (λ c. c) (heres (r ∷ []))) (of_one f)) ≡ narrow (followed_by (for_each (λ c. c) (theres (r ∷ []))) (of_one f))
      by None grid h = applied_same (of_one f) (r ∷ []) l (each_append IsSeen r.argument.looks [] h tt)
      by (Some g) grid h =
          let answer : List Arg → Option Arg = λ xs. narrow (of_one f xs) in
          narrow-followed_by (for_each (λ c. c) (heres (r ∷ []))) (of_one f) ∙ ap (option_and_then answer) (in_order r.here [])
          ∙ (λ i. option_and_then answer (both (narrow (grid.0 i)) (Some [])))
          ∙ one_alike g []
          ∙ (λ i. option_and_then answer (both (narrow (sym grid.1 i)) (Some [])))
          ∙ sym (narrow-followed_by (for_each (λ c. c) (theres (r ∷ []))) (of_one f) ∙ ap (option_and_then answer) (in_order r.there []))

  -- ---- formulas
  call_same : (name : Func) (rs : List Reading) → Linked rs → AllSeen (call_looks by_value known name (args_of rs)) → narrow (call_of name (heres rs)) ≡ narrow (call_of name (theres rs))
  call_same func.If rs l h = choosing_same func.If rs l h
  call_same func.IfError rs l h = choosing_same func.IfError rs l h
  call_same func.Choose rs l h = choosing_same func.Choose rs l h
  call_same func.Index rs l h = index_same rs l h
  call_same func.VLookup rs l h = table_same (λ g. g) vlookup_of vlookup_agreed rs l h
  call_same func.HLookup rs l h = table_same exchanged hlookup_of hlookup_agreed rs l h
  call_same func.SumIf rs l h = sumif_same rs l h
  call_same func.Rows rs l h = size_same rows_of (λ g. refl) rs l h
  call_same func.Columns rs l h = size_same columns_of (λ g. refl) rs l h
  call_same name rs l h = applied_same (called name) rs l h

  -- a call's arguments, over the values and over what is known of them
  abbrev readings : Trees → List Reading
  readings none = []
  readings (more t ts) =
      record {
        argument = record { looks = looked_at known t; outcome = outcome_of known t (looked_at known t); reference = reference_in t };
        here = evaluated value t;
        there = evaluated filled_in t;
      } ∷ readings ts

  -- these are its arguments, and their calculations
  args_are : (ts : Trees) → args_of (readings ts) ≡ arguments known ts
  args_are none = refl
  args_are (more t ts) = ap (λ args. record { looks = looked_at known t; outcome = outcome_of known t (looked_at known t); reference = reference_in t } ∷ args) (args_are ts)

  heres_are : (ts : Trees) → heres (readings ts) ≡ all_evaluated value ts
  heres_are none = refl
  heres_are (more t ts) = ap (λ cs. evaluated value t ∷ cs) (heres_are ts)

  theres_are : (ts : Trees) → theres (readings ts) ≡ all_evaluated filled_in ts
  theres_are none = refl
  theres_are (more t ts) = ap (λ cs. evaluated filled_in t ∷ cs) (theres_are ts)

  -- the outcome of what looks at known cells alone
  pub outcome_there : (t : Tree) (cells : List Cell) → AllSeen cells → outcome_of known t cells ≡ narrow (evaluated filled_in t)
  outcome_there t cells h = ap (λ b. if b then narrow (evaluated filled_in t) else None) (seen_known known value cells h)

  -- a reference is the grid of its cells
  grid_there : (t : Tree) → IsGrid (evaluated value t) (evaluated filled_in t) (reference_in t)
  grid_there (tree.Reference s areas) = (refl, refl, areas_whole (listed areas))
  grid_there (tree.Plus s x) = grid_there x
  grid_there (tree.Number s x) = tt
  grid_there (tree.Text s t) = tt
  grid_there (tree.Logical s b) = tt
  grid_there (tree.Fault s k) = tt
  grid_there (tree.Missing s) = tt
  grid_there (tree.Array s rows columns items) = tt
  grid_there (tree.Call s name args) = tt
  grid_there (tree.Minus s x) = tt
  grid_there (tree.Percent s x) = tt
  grid_there (tree.Infix s o x y) = tt
  grid_there (tree.WideNumber s x) = tt
  grid_there (tree.Name s name) = tt
  grid_there (tree.Unknown s name args) = tt

  mutual
    -- where all that a formula looks at is known, it has one narrow value
    pub evaluated_same : (t : Tree) → AllSeen (looked_at known t) → narrow (evaluated value t) ≡ narrow (evaluated filled_in t)
    evaluated_same (tree.Reference s areas) h = ap (λ v. Some (Elements v)) (values_alike value filled_in (grid_of_areas (listed areas)) (each_weaker IsSeen (λ b. value b ≡ filled_in b) (seen_value known value) (grid_of_areas (listed areas)).cells h))
    evaluated_same (tree.Call s name args) h =
        ap (λ cs. narrow (call_of name cs)) (sym (heres_are args))
        ∙ call_same name (readings args) (all_linked args) (subst (λ all. AllSeen (call_looks by_value known name all)) (sym (args_are args)) h)
        ∙ ap (λ cs. narrow (call_of name cs)) (theres_are args)
    evaluated_same (tree.Plus s x) h = evaluated_same x h
    evaluated_same (tree.Minus s x) h = behind_same (evaluated value x) (evaluated filled_in x) minus_of (evaluated_same x h)
    evaluated_same (tree.Percent s x) h = behind_same (evaluated value x) (evaluated filled_in x) percent_of (evaluated_same x h)
    evaluated_same (tree.Infix s o x y) h =
        behind (evaluated value x) (evaluated filled_in x) (λ a. followed_by (evaluated value y) (infix_of o a)) (λ a. followed_by (evaluated filled_in y) (infix_of o a))
        (evaluated_same x (each_left IsSeen (looked_at known x) (looked_at known y) h))
        (λ a e. behind_same (evaluated value y) (evaluated filled_in y) (infix_of o a) (evaluated_same y (each_right IsSeen (looked_at known x) (looked_at known y) h)))
    evaluated_same (tree.Number s x) h = refl
    evaluated_same (tree.Text s t) h = refl
    evaluated_same (tree.Logical s b) h = refl
    evaluated_same (tree.Fault s k) h = refl
    evaluated_same (tree.Missing s) h = refl
    evaluated_same (tree.Array s rows columns items) h = refl
    evaluated_same (tree.WideNumber s x) h = refl
    evaluated_same (tree.Name s name) h = refl
    evaluated_same (tree.Unknown s name args) h = refl

    -- so each of the arguments is linked
    all_linked : (ts : Trees) → Linked (readings ts)
    all_linked none = tt
    all_linked (more t ts) = (record { same = evaluated_same t; told = outcome_there t (looked_at known t); grid = grid_there t }, all_linked ts)
