-- The rows of constraints without a fault are there.
use Rattle.std.proofs.Common.{◌≡◌, ◌<◌, ℕ, suc, Bool, true, false, List, [], ◌∷◌, ◌++◌, map, flat_map, length, Some, None, refl, sym, ap, ◌∙◌, arith}
use Rattle.std.specs.Prelude.{◌==◌, ◌&&◌, ◌||◌, not, if◌then◌else◌}
use Rattle.std.specs.List.{AllByRecursion, range_with_len}
use Rattle.std.proofs.lemmas.Bool.{eqb-true}
use Rattle.cell_refs.specs.Areas.{Area, area_len, cell_at}
use Rattle.cell_refs.specs.declared.cell.Cell.{Cell}
use Rattle.optimality.specs.declared.kinds.Relation.{Relation}
use Rattle.optimality.specs.declared.kinds.Relation.TheVariants.{AtLeast, AtMost, Equal}
use Rattle.recalculation.proofs.GridCells.{each_below, each_map}
use Rattle.recalculation.proofs.Lists.{each_append, each_weaker}
use Rattle.sheet_problems.specs.Places.{Sides}
use Rattle.solver_names.specs.Constraints.{code_said, constraint, is_related, left_said, right_place, right_said}
use Rattle.solver_names.specs.Faults.{all_rows, bad_code, bad_options, cells_unformed, decisions_of, faults, first, mismatch, mismatch_of, missing, no_decision, no_decisions, of_constraints, rows_by, rows_of, sides_unformed, too_many, where_so}
use Rattle.solver_names.specs.Read.{Read, read_in}
use Rattle.solver_names.specs.Stated.{numbered}
use Rattle.solver_names.specs.Texts.{by_form, is_absent, is_unformed}
use Rattle.solver_names.proofs.Firsts.{none_empty, none_first, none_later}
use Rattle.cell_refs.specs.Listed.{IsListed}
use Rattle.workbook.specs.State.{State}
use Rattle.cell_refs.specs.declared.place.Place.{Place}
use Rattle.statement_laws.specs.Laws.{IsThere, RowIsThere}
use Rattle.statement_laws.proofs.ReadAreas.{Lies, cell_listed}
use Rattle.statement_laws.proofs.SaidKinds.{Code, Constraint, Fault, Said, Side, by_code, by_left, by_right}
use Rattle.statement_laws.proofs.SideNumbers.{HasSide}

-- ---- faults
where_none : (b : Bool) (f : Fault) → where_so b f ≡ [] → b ≡ false
where_none true f e = absurd cc
where_none false f e = refl

second_none : (a b : Bool) (f g : Fault) → where_so a f ++ where_so b g ≡ [] → b ≡ false
second_none true b f g e = absurd cc
second_none false b f g e = where_none b g e

module _ (book : State) (sheet : ℕ) where
  abbrev left_of : ℕ → Said Area
  left_of k = left_said book sheet k

  abbrev code_at : ℕ → Said Code
  code_at k = code_said book sheet k

  abbrev right_of : ℕ → Said Side
  right_of k = right_said book sheet k (code_said book sheet k)

  -- a part is missing
  abbrev lacks : Said Area → Said Code → Said Side → Bool
  lacks left code right = is_absent left || is_absent code || (is_related code && is_absent right)

  -- each part of a constraint is there, and the sizes of its areas fit
  record IsFit (k : ℕ) : Type 0 where
    pub formed : is_unformed (right_of k) ≡ false
    pub whole : lacks (left_of k) (code_at k) (right_of k) ≡ false
    pub sizes : mismatch_of k (left_of k) (right_of k) ≡ []

  none_each : (g : Constraint → List Fault) (ks : List ℕ) → first (flat_map g (map (constraint book sheet) ks)) ≡ None → AllByRecursion (λ k. g (constraint book sheet k) ≡ []) ks
  none_each g [] e = tt
  none_each g (k ∷ ks) e =
      let others = flat_map g (map (constraint book sheet) ks) in
      (none_empty (g (constraint book sheet k)) (none_first (g (constraint book sheet k)) others e), none_each g ks (none_later (g (constraint book sheet k)) others e))

  fit_each : (ks : List ℕ) → AllByRecursion (λ k. sides_unformed (constraint book sheet k) ≡ []) ks → AllByRecursion (λ k. missing (constraint book sheet k) ≡ []) ks
      → AllByRecursion (λ k. mismatch (constraint book sheet k) ≡ []) ks → AllByRecursion IsFit ks
  fit_each [] a b d = tt
  fit_each (k ∷ ks) a b d = (
    record {
      formed = second_none (is_unformed (left_of k)) (is_unformed (right_of k)) _ _ a.0;
      whole = where_none (lacks (left_of k) (code_at k) (right_of k)) _ b.0;
      sizes = d.0;
    },
    fit_each ks a.1 b.1 d.1,
  )

  all_fit : (ds : List Cell) (ks : List ℕ) → first (of_constraints ds (map (constraint book sheet) ks)) ≡ None → AllByRecursion IsFit ks
  all_fit ds ks none =
      let cs = map (constraint book sheet) ks in
      let sizes = flat_map mismatch cs ++ flat_map (no_decision ds) cs in
      let codes = flat_map bad_code cs ++ sizes in
      let parts = flat_map missing cs ++ codes in
      let behind_sides : first parts ≡ None = none_later (flat_map sides_unformed cs) parts none in
      let behind_parts : first codes ≡ None = none_later (flat_map missing cs) codes behind_sides in
      let behind_codes : first sizes ≡ None = none_later (flat_map bad_code cs) sizes behind_parts in
      fit_each ks (none_each sides_unformed ks (none_first (flat_map sides_unformed cs) parts none)) (none_each missing ks (none_first (flat_map missing cs) codes behind_sides))
      (none_each mismatch ks (none_first (flat_map mismatch cs) (flat_map (no_decision ds) cs) behind_codes))

no_more : (r : Read) → first (faults r) ≡ None → first (of_constraints (decisions_of r) r.constraints) ≡ None
no_more r none =
    let options = bad_options r ++ too_many (decisions_of r) r.constraints in
    let others = of_constraints (decisions_of r) r.constraints ++ options in
    none_first (of_constraints (decisions_of r) r.constraints) options (none_later (cells_unformed r) others (none_later (no_decisions r) (cells_unformed r ++ others) none))

-- ---- rows
-- both places of a row are there
record IsRow (sheets : List (List ℕ)) (sides : Sides) (row : Relation × Cell × Place) : Type 0 where
  pub left : IsListed sheets row.1
  pub right : IsThere sheets sides row.2

numbered_there : (sheets : List (List ℕ)) (sides : Sides) (n : ℕ) (rows : List (Relation × Cell × Place)) → AllByRecursion (IsRow sheets sides) rows
    → AllByRecursion (RowIsThere sheets sides) (numbered n rows)
numbered_there sheets sides n [] h = tt
numbered_there sheets sides n (row ∷ rows) h = (record { left = h.0.left; right = h.0.right }, numbered_there sheets sides (suc n) rows h.1)

-- an area with one cell, or with as many as the left one
own_cell : (sheets : List (List ℕ)) (size : ℕ) (b : Area) (f : Fault) → Lies sheets b → where_so (not ((area_len b == 1) || (area_len b == size))) f ≡ [] → (i : ℕ) → i < size
    → IsListed sheets (cell_at b (if area_len b == 1 then 0 else i))
own_cell sheets size b f lies fits i below = by (area_len b == 1) (area_len b == size) refl refl fits
  where
    by : (one same : Bool) → (area_len b == 1) ≡ one → (area_len b == size) ≡ same → where_so (not (one || same)) f ≡ [] → IsListed sheets (cell_at b (if one then 0 else i))
    by true same d e h = let count : area_len b ≡ 1 = eqb-true (area_len b) 1 d in cell_listed sheets b lies 0 (omega (arith, count))
    by false true d e h = let count : area_len b ≡ size = eqb-true (area_len b) size e in cell_listed sheets b lies i (omega (arith, count, below))
    by false false d e h = absurd cc

module _ (book : State) (sheet : ℕ) (there : sheet < length book.sheets) (sides : Sides) where
  right_there : (k : ℕ) → HasSide book sheet sides k → IsFit book sheet k → (a : Area) → mismatch_of k (by_form (Some a)) (right_of book sheet k) ≡ [] → is_absent (right_of book sheet k) ≡ false
      → (i : ℕ) → i < area_len a → IsThere book.sheets sides (right_place k (right_of book sheet k) i)
  right_there k has fit a fits some i below =
      by_right book sheet there
      (λ right. right_of book sheet k ≡ right → is_absent right ≡ false → is_unformed right ≡ false → mismatch_of k (by_form (Some a)) right ≡ [] → IsThere book.sheets sides (right_place k right i))
      (λ is some formed fits. absurd cc) (λ is some formed fits. absurd cc) (λ b lies is some formed fits. own_cell book.sheets (area_len a) b _ lies fits i below) (λ t is some formed fits. has t is) k (code_said book sheet k)
      refl some fit.formed fits

  rows_related : (k : ℕ) → HasSide book sheet sides k → IsFit book sheet k → (a : Area) → Lies book.sheets a → mismatch_of k (by_form (Some a)) (right_of book sheet k) ≡ []
      → is_absent (right_of book sheet k) ≡ false → (r : Relation) → AllByRecursion (IsRow book.sheets sides) (map (λ i. (r, cell_at a i, right_place k (right_of book sheet k) i)) (range_with_len 0 (area_len a)))
  rows_related k has fit a lies fits some r =
      let row : ℕ → Relation × Cell × Place = λ i. (r, cell_at a i, right_place k (right_of book sheet k) i) in
      each_map (IsRow book.sheets sides) row (range_with_len 0 (area_len a))
      (each_weaker (λ i. i < area_len a) (λ i. IsRow book.sheets sides (row i)) (λ i below. record { left = cell_listed book.sheets a lies i below; right = right_there k has fit a fits some i below })
      (range_with_len 0 (area_len a)) (each_below (area_len a)))

  abbrev Rows : ℕ → Said Code → Said Area → Type 0
  Rows k code left = AllByRecursion (IsRow book.sheets sides) (rows_by (constraint book sheet k) code left)

  rows_there : (k : ℕ) → HasSide book sheet sides k → IsFit book sheet k → AllByRecursion (IsRow book.sheets sides) (rows_of (constraint book sheet k))
  rows_there k has fit =
      by_left book sheet there (λ left. lacks book sheet left (code_said book sheet k) (right_of book sheet k) ≡ false → mismatch_of k left (right_of book sheet k) ≡ []
      → Rows k (code_said book sheet k) left) (λ whole fits. absurd cc) (λ whole fits. unformed_left) (λ a lies whole fits. by_a a lies fits whole) k
      fit.whole fit.sizes
    where
      unformed_left : Rows k (code_said book sheet k) (by_form None)
      unformed_left = by_code book sheet (λ code. Rows k code (by_form None)) tt tt tt tt tt tt tt tt k

      by_a : (a : Area) → Lies book.sheets a → mismatch_of k (by_form (Some a)) (right_of book sheet k) ≡ [] → lacks book sheet (by_form (Some a)) (code_said book sheet k) (right_of book sheet k) ≡ false
          → Rows k (code_said book sheet k) (by_form (Some a))
      by_a a lies fits =
          by_code book sheet (λ code. lacks book sheet (by_form (Some a)) code (right_of book sheet k) ≡ false → Rows k code (by_form (Some a))) (λ whole. absurd cc) (λ whole. tt)
          (λ some. rows_related k has fit a lies fits some AtMost) (λ some. rows_related k has fit a lies fits some Equal) (λ some. rows_related k has fit a lies fits some AtLeast) (λ whole. tt) (λ whole. tt) (λ whole. tt) k

  all_there : (ks : List ℕ) → AllByRecursion (HasSide book sheet sides) ks → AllByRecursion (IsFit book sheet) ks → AllByRecursion (IsRow book.sheets sides) (all_rows (map (constraint book sheet) ks))
  all_there [] has fit = tt
  all_there (k ∷ ks) has fit =
      each_append (IsRow book.sheets sides) (rows_of (constraint book sheet k)) (all_rows (map (constraint book sheet) ks)) (rows_there k has.0 fit.0) (all_there ks has.1 fit.1)

  -- so the rows of names without a fault are there
  pub rows_are_there : (ks : List ℕ) → (read_in book sheet).constraints ≡ map (constraint book sheet) ks → first (faults (read_in book sheet)) ≡ None → AllByRecursion (HasSide book sheet sides) ks
      → AllByRecursion (RowIsThere book.sheets sides) (numbered 1 (all_rows (map (constraint book sheet) ks)))
  rows_are_there ks are none has =
      let r = read_in book sheet in
      let free : first (of_constraints (decisions_of r) (map (constraint book sheet) ks)) ≡ None = ap (λ cs. first (of_constraints (decisions_of r) cs)) (sym are) ∙ no_more r none in
      numbered_there book.sheets sides 1 (all_rows (map (constraint book sheet) ks)) (all_there ks has (all_fit book sheet (decisions_of r) ks free))
