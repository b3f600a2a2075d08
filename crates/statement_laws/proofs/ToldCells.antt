-- The cells that faults tell lie on the sheets.
use Rattle.std.proofs.Common.{◌≡◌, ◌<◌, ℕ, Bool, true, false, cond, List, [], ◌∷◌, ◌++◌, flat_map, map, length, Option, Some, None, ap, subst}
use Rattle.std.specs.Prelude.{◌&&◌, find, nat_lt, not, option_to_list, Err}
use Rattle.std.specs.List.{AllByRecursion, range_with_len}
use Rattle.cell_refs.specs.declared.cell.Cell.{Cell}
use Rattle.formula_grammar.proofs.Turns.{some_is}
use Rattle.recalculation.proofs.Lists.{each_append}
use Rattle.solver_names.specs.Answers.{IsTold}
use Rattle.solver_names.specs.Constraints.{code_said, constraint, is_among, left_cells, left_said, right_said}
use Rattle.solver_names.specs.Faults.{bad_code, bad_options, cells_unformed, decisions_of, faults, first, is_reached, mismatch, mismatch_of, missing, most_decisions, no_decision, no_decisions, of_constraints, sides_unformed, too_many, too_many_rows, where_so}
use Rattle.solver_names.specs.Read.{read_in}
use Rattle.solver_names.specs.Statement.{Statement}
use Rattle.solver_names.specs.Stated.{stated, unless_fault}
use Rattle.solver_names.specs.Texts.{by_form, is_absent, is_unformed}
use Rattle.solver_names.specs.declared.fault.NamesFault.TheVariants as told
use Rattle.cell_refs.specs.Listed.{IsListed}
use Rattle.workbook.specs.State.{State}
use Rattle.statement_laws.specs.Laws.{FaultsAreListed}
use Rattle.statement_laws.proofs.ReadAreas.{cells_listed}
use Rattle.statement_laws.proofs.ReadNames.{count_in}
use Rattle.statement_laws.proofs.SaidKinds.{Constraint, Fault, by_left, by_right}

module _ (book : State) (sheet : ℕ) (there : sheet < length book.sheets) where
  -- the cell that a fault tells lies on the sheets
  abbrev Told : Fault → Type 0
  Told f = (k : ℕ) (c : Cell) → IsTold book sheet f (told.NotDecision k c) → IsListed book.sheets c

  where_told : (b : Bool) (f : Fault) → Told f → AllByRecursion Told (where_so b f)
  where_told true f h = (h, tt)
  where_told false f h = tt

  join : (a b : List Fault) → AllByRecursion Told a → AllByRecursion Told b → AllByRecursion Told (a ++ b)
  join a b h k = each_append Told a b h k

  next_told : (b : Bool) (f : Fault) (others : List Fault) → Told f → AllByRecursion Told others → AllByRecursion Told (where_so b f ++ others)
  next_told b f others h k = join (where_so b f) others (where_told b f h) k

  -- ---- cells that aren't to be decided
  found_told : (f : Cell → Fault) → ((c : Cell) → IsListed book.sheets c → Told (f c)) → (test : Cell → Bool) (cells : List Cell) → AllByRecursion (IsListed book.sheets) cells
      → AllByRecursion Told (map f (option_to_list (find test cells)))
  found_told f own test [] h = tt
  found_told f own test (c ∷ cells) h = by (test c) (found_told f own test cells h.1)
    where
      by : (b : Bool) → AllByRecursion Told (map f (option_to_list (find test cells))) → AllByRecursion Told (map f (option_to_list (cond b (Some c) (find test cells))))
      by true more = (own c h.0, tt)
      by false more = more

  left_listed : (k : ℕ) → AllByRecursion (IsListed book.sheets) (left_cells (left_said book sheet k))
  left_listed k = by_left book sheet there (λ left. AllByRecursion (IsListed book.sheets) (left_cells left)) tt tt (λ a lies. cells_listed book.sheets a lies) k

  where_found : (b : Bool) (f : Cell → Fault) → ((c : Cell) → IsListed book.sheets c → Told (f c)) → (test : Cell → Bool) (cells : List Cell) → AllByRecursion (IsListed book.sheets) cells
      → AllByRecursion Told (cond b (map f (option_to_list (find test cells))) [])
  where_found true f own test cells h = found_told f own test cells h
  where_found false f own test cells h = tt

  decision_told : (ds : List Cell) (k : ℕ) → AllByRecursion Told (no_decision ds (constraint book sheet k))
  decision_told ds k =
      where_found _ _ (λ c listed j d e. let same : c ≡ d = cc in subst (IsListed book.sheets) same listed) (λ cell. not (is_among ds cell)) (left_cells (left_said book sheet k)) (left_listed k)

  -- ---- the other checks
  sides_told : (k : ℕ) → AllByRecursion Told (sides_unformed (constraint book sheet k))
  sides_told k = next_told (is_unformed (left_said book sheet k)) _ _ (λ j c e. absurd cc) (where_told _ _ (λ j c e. absurd cc))

  parts_told : (k : ℕ) → AllByRecursion Told (missing (constraint book sheet k))
  parts_told k = where_told _ _ (λ j c e. absurd cc)

  code_told : (k : ℕ) → AllByRecursion Told (bad_code (constraint book sheet k))
  code_told k = where_told _ _ (λ j c e. absurd cc)

  size_told : (k : ℕ) → AllByRecursion Told (mismatch (constraint book sheet k))
  size_told k =
      by_left book sheet there (λ left. AllByRecursion Told (mismatch_of k left (right_said book sheet k (code_said book sheet k)))) tt tt
      (λ a lies. by_right book sheet there (λ right. AllByRecursion Told (mismatch_of k (by_form (Some a)) right)) tt tt (λ b lies. where_told _ _ (λ j c e. absurd cc)) (λ t. tt) k (code_said book sheet k)) k

  -- ---- those of all constraints
  each_told : (g : Constraint → List Fault) → ((k : ℕ) → AllByRecursion Told (g (constraint book sheet k))) → (ks : List ℕ) → AllByRecursion Told (flat_map g (map (constraint book sheet) ks))
  each_told g h [] = tt
  each_told g h (k ∷ ks) = join (g (constraint book sheet k)) (flat_map g (map (constraint book sheet) ks)) (h k) (each_told g h ks)

  constraints_told : (ds : List Cell) (ks : List ℕ) → AllByRecursion Told (of_constraints ds (map (constraint book sheet) ks))
  constraints_told ds ks =
      let cs = map (constraint book sheet) ks in
      let sizes = flat_map mismatch cs ++ flat_map (no_decision ds) cs in
      let codes = flat_map bad_code cs ++ sizes in
      let parts = flat_map missing cs ++ codes in
      join (flat_map sides_unformed cs) parts (each_told sides_unformed sides_told ks)
      (join (flat_map missing cs) codes (each_told missing parts_told ks)
      (join (flat_map bad_code cs) sizes (each_told bad_code code_told ks)
      (join (flat_map mismatch cs) (flat_map (no_decision ds) cs) (each_told mismatch size_told ks) (each_told (no_decision ds) (decision_told ds) ks))))

  -- ---- all faults
  none_told : AllByRecursion Told (no_decisions (read_in book sheet))
  none_told = where_told _ _ (λ j c e. absurd cc)

  cells_told : AllByRecursion Told (cells_unformed (read_in book sheet))
  cells_told = next_told (is_unformed (read_in book sheet).decisions) _ _ (λ j c e. absurd cc) (where_told _ _ (λ j c e. absurd cc))

  options_told : AllByRecursion Told (bad_options (read_in book sheet))
  options_told =
      let r = read_in book sheet in
      let wanted = not (is_absent r.objective) in
      next_told (wanted && is_unformed r.goal) _ _ (λ j c e. absurd cc)
      (next_told (wanted && (is_reached r.goal && is_unformed r.value)) _ _ (λ j c e. absurd cc) (next_told (is_unformed r.negative) _ _ (λ j c e. absurd cc) (where_told _ _ (λ j c e. absurd cc))))

  counts_told : (ds : List Cell) (cs : List Constraint) → AllByRecursion Told (too_many ds cs)
  counts_told ds cs = next_told (nat_lt most_decisions (length ds)) _ (too_many_rows cs) (λ j c e. absurd cc) (where_told _ _ (λ j c e. absurd cc))

  faults_told : AllByRecursion Told (faults (read_in book sheet))
  faults_told =
      let r = read_in book sheet in
      let ds = decisions_of r in
      let options = bad_options r ++ too_many ds r.constraints in
      let others = of_constraints ds r.constraints ++ options in
      join (no_decisions r) (cells_unformed r ++ others) none_told
      (join (cells_unformed r) others cells_told
      (join (of_constraints ds r.constraints) options (constraints_told ds (range_with_len 1 (count_in book sheet))) (join (bad_options r) (too_many ds r.constraints) options_told (counts_told ds r.constraints))))

  first_told : (fs : List Fault) (f : Fault) → first fs ≡ Some f → AllByRecursion Told fs → Told f
  first_told [] f e h = absurd cc
  first_told (g ∷ fs) f e h = subst Told (some_is g f e) h.0

told_first : (s : Statement) (o : Option Fault) (f : Fault) → unless_fault s o ≡ Err f → o ≡ Some f
told_first s None f e = absurd cc
told_first s (Some g) f e = let same : g ≡ f = cc in ap Some same

pub faults_are_listed : FaultsAreListed
faults_are_listed book sheet k c there e =
    let r = read_in book sheet in
    first_told book sheet there (faults r) e.0 (told_first (stated sheet r) (first (faults r)) e.0 e.1.0) (faults_told book sheet there) k c e.1.1
