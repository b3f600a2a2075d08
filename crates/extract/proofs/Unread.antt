-- The forms of tables don't matter but where they are picked.
use Rattle.std.proofs.Common.{◌≡◌, ◌∙◌, ℕ, zero, suc, false, if◌then◌else◌, List, [], ◌∷◌, ◌++◌, length, map, refl, sym, ap, Option, Some, None, Result, Ok, Err, arith}
use Rattle.std.specs.Prelude.{is_some, pos, slice_index_or, ◌==◌}
use Rattle.std.proofs.lemmas.Bool.Decides.{nat_tests}
use Rattle.calculations.specs.Calculation.{narrow}
use Rattle.cell_refs.specs.declared.cell.Cell.{Cell}
use Rattle.cell_refs.specs.declared.span.Span.{Span}
use Rattle.formula_ast.specs.declared.func.Func.{Func}
use Rattle.formula_ast.specs.declared.func.Func.TheVariants as func
use Rattle.recalculation.specs.Evaluation.{CellGrid}
use Rattle.recalculation.specs.Looks.{index_of_looks, table_looks, exchanged as exchanged_cells, call_looks}
use Rattle.form_values.specs.Trials.{Refusal, Breaks, Undecided}
use Rattle.form_values.specs.declared.abs.Abs.{Abs}
use Rattle.form_values.specs.declared.abs.Abs.TheVariants.{Known}
use Rattle.form_values.specs.declared.abs.AbsArg.{AbsArg}
use Rattle.form_values.specs.declared.abs.AbsArg.TheVariants.{One}
use Rattle.fractions.specs.Whole.{whole_ℚ}
use Rattle.sheet_model.specs.declared.value.Value.TheVariants.{Number}
use Rattle.form_table.specs.Certain.{index_error}
use Rattle.form_table.specs.CertainRecords.{record_error}
use Rattle.form_table.specs.Picks.{pick_form}
use Rattle.form_table.specs.Wanted.{value_of, number_of}
use Rattle.form_table.specs.Lookups.{record_form, kinds_in}
use Rattle.form_extraction.specs.Deciding.{by_form}
use Rattle.form_extraction.specs.declared.forms.Outcome.{Outcome}
use Rattle.form_extraction.specs.declared.forms.Outcome.TheVariants.{Gives, Refused, Without}
use Rattle.form_extraction.specs.Parts.{Part, argument, tried, on_part, on_parts}
use Rattle.form_extraction.specs.declared.forms.Why.TheVariants as why
use Rattle.form_extraction.specs.Sources.{Source, items_seen, in_source, in_turned, taken, key_places, exchanged}
use Rattle.form_extraction.specs.Calls.{unless_error, seen_before, picked_from, record_from, lookup_by, size_of, call_outcome}
use Rattle.form_extraction.specs.Formulas.{call_part}
use Rattle.form_calls.specs.FromFormParts.{unread}
use Rattle.extract.specs.Unread.{table_place, unread_from, unread_at, is_place, read_at}

-- what is no reference keeps its value
unread_none : (p : Part) → p.reference ≡ None → unread p ≡ p
unread_none p e = ap (λ o. record { span = p.span; looks = p.looks; outcome = if is_some o then Without else p.outcome; reference = p.reference }) e

-- what doesn't depend on the forms of a reference
same_unread : {X : Type 0} (G : Part → Option CellGrid → X) (p : Part) → ((g : CellGrid) → G (unread p) (Some g) ≡ G p (Some g)) → G (unread p) p.reference ≡ G p p.reference
same_unread {X} G p h = by p.reference refl
  where
    by : (o : Option CellGrid) → p.reference ≡ o → G (unread p) o ≡ G p o
    by None e = ap (λ q. G q None) (unread_none p e)
    by (Some g) e = h g

-- of parts a refusal takes the places alone
tried_alike : {A : Type 0} (whole : Span) (ps qs : List Part) (f : A → Outcome) (c : Option (Result A Refusal)) → map (λ (p : Part). p.span) ps ≡ map (λ (p : Part). p.span) qs
    → tried whole ps f c ≡ tried whole qs f c
tried_alike whole ps qs f None e = refl
tried_alike whole ps qs f (Some (Ok a)) e = refl
tried_alike whole ps qs f (Some (Err Breaks)) e = refl
tried_alike whole ps qs f (Some (Err (Undecided i))) e = ap (λ spans. Refused (slice_index_or spans i whole) why.Undecided) e

lookup_alike : (whole : Span) (ps qs : List Part) (s : Source) (keys : List Abs) (args : List AbsArg) → map (λ (p : Part). p.span) ps ≡ map (λ (p : Part). p.span) qs
    → lookup_by whole ps s keys args ≡ lookup_by whole qs s keys args
lookup_alike whole ps qs s keys [] e = refl
lookup_alike whole ps qs s keys (key ∷ []) e = refl
lookup_alike whole ps qs s keys (key ∷ field ∷ rest) e =
    ap (unless_error (record_error s.columns (items_seen s) keys (value_of key) (number_of field) (kinds_in rest)))
    (tried_alike whole ps qs (record_from s) (narrow (record_form s.columns keys (value_of key) (number_of field) (kinds_in rest))) e)

module _ (forms : Cell → Option Abs) (at : Span) where
  -- a call, by what it looks at and what it comes to
  called_alike : (f : Func) (ps qs : List Part) → call_looks by_form forms f (map argument ps) ≡ call_looks by_form forms f (map argument qs) → call_outcome forms at f ps ≡ call_outcome forms at f qs
      → call_part forms at f ps ≡ call_part forms at f qs
  called_alike f ps qs looks outcome = λ i. record { span = at; looks = looks i; outcome = outcome i; reference = None }

  -- INDEX
  index_unread : (ps : List Part) → call_part forms at func.Index (unread_from 0 ps) ≡ call_part forms at func.Index ps
  index_unread [] = refl
  index_unread (p ∷ places) =
      called_alike func.Index (unread p ∷ places) (p ∷ places)
      (same_unread (λ q o. index_of_looks by_form (argument q) (map argument places) o) p (λ g. refl))
      (same_unread (λ q o. in_source o forms q (λ s. on_parts places (λ args. unless_error (index_error s.rows s.columns (seen_before o q.outcome) args) (tried at (q ∷ places) (picked_from s) (narrow (pick_form s.rows s.columns args)))))) p
      (λ g i. in_source (Some g) forms p (λ s. on_parts places (λ args. unless_error (index_error s.rows s.columns [] args) (tried_alike at (unread p ∷ places) (p ∷ places) (picked_from s) (narrow (pick_form s.rows s.columns args)) refl i)))))

  -- VLOOKUP and HLOOKUP
  module _ (cells : CellGrid → CellGrid) (turned : Source → Source) where
    looked_outcome : Part → List Part → Part → Option CellGrid → Outcome
    looked_outcome key rest table o =
        on_part key (λ k. in_turned o forms cells turned table (λ s. taken s (key_places s) (λ keys. on_parts rest (λ args. lookup_by at (key ∷ table ∷ rest) s keys (k ∷ args)))))

    outcome_unread : (key table : Part) (rest : List Part) → looked_outcome key rest (unread table) table.reference ≡ looked_outcome key rest table table.reference
    unfolding looked_outcome
    outcome_unread key table rest =
        same_unread (λ q o. looked_outcome key rest q o) table
        (λ g i. on_part key (λ k. in_turned (Some g) forms cells turned table (λ s. taken s (key_places s) (λ keys. on_parts rest (λ args. lookup_alike at (key ∷ unread table ∷ rest) (key ∷ table ∷ rest) s keys (k ∷ args) refl i)))))

  vlookup_unread : (ps : List Part) → call_part forms at func.VLookup (unread_from 1 ps) ≡ call_part forms at func.VLookup ps
  unfolding looked_outcome
  vlookup_unread [] = refl
  vlookup_unread (key ∷ []) = refl
  vlookup_unread (key ∷ table ∷ rest) =
      called_alike func.VLookup (key ∷ unread table ∷ rest) (key ∷ table ∷ rest)
      (same_unread (λ q o. table_looks by_form forms (λ g. g) (map argument (key ∷ rest)) (argument q) o) table (λ g. refl))
      (outcome_unread (λ g. g) (λ s. s) key table rest)

  hlookup_unread : (ps : List Part) → call_part forms at func.HLookup (unread_from 1 ps) ≡ call_part forms at func.HLookup ps
  unfolding looked_outcome
  hlookup_unread [] = refl
  hlookup_unread (key ∷ []) = refl
  hlookup_unread (key ∷ table ∷ rest) =
      called_alike func.HLookup (key ∷ unread table ∷ rest) (key ∷ table ∷ rest)
      (same_unread (λ q o. table_looks by_form forms exchanged_cells (map argument (key ∷ rest)) (argument q) o) table (λ g. refl))
      (outcome_unread exchanged_cells exchanged key table rest)

  -- ROWS and COLUMNS
  size_unread : (count : Source → ℕ) (ps : List Part) → size_of count forms (unread_from 0 ps) ≡ size_of count forms ps
  size_unread count [] = refl
  size_unread count (p ∷ []) = same_unread (λ q o. in_source o forms q (λ s. size s)) p (λ g. refl)
    where
      size : Source → Outcome
      size s = Gives (One (Known (Number (whole_ℚ (pos (count s))))))
  size_unread count (p ∷ q ∷ ps) = refl

  rows_unread : (ps : List Part) → call_part forms at func.Rows (unread_from 0 ps) ≡ call_part forms at func.Rows ps
  rows_unread [] = refl
  rows_unread (p ∷ []) = called_alike func.Rows (unread p ∷ []) (p ∷ []) refl (size_unread (λ s. s.rows) (p ∷ []))
  rows_unread (p ∷ q ∷ ps) = refl

  columns_unread : (ps : List Part) → call_part forms at func.Columns (unread_from 0 ps) ≡ call_part forms at func.Columns ps
  columns_unread [] = refl
  columns_unread (p ∷ []) = called_alike func.Columns (unread p ∷ []) (p ∷ []) refl (size_unread (λ s. s.columns) (p ∷ []))
  columns_unread (p ∷ q ∷ ps) = refl

  -- so a call doesn't depend on the forms of its table
  pub call_unread : (f : Func) (ps : List Part) → call_part forms at f (unread_at (table_place f) ps) ≡ call_part forms at f ps
  call_unread func.Index ps = index_unread ps
  call_unread func.VLookup ps = vlookup_unread ps
  call_unread func.HLookup ps = hlookup_unread ps
  call_unread func.Rows ps = rows_unread ps
  call_unread func.Columns ps = columns_unread ps
  call_unread _ ps = refl

-- ---- one argument more
zero_first : (m : ℕ) → (0 == suc m) ≡ false
zero_first m = grind (arith, nat_tests)

suc_first : (n : ℕ) → (suc n == 0) ≡ false
suc_first n = grind (arith, nat_tests)

both_later : (n m : ℕ) → (suc n == suc m) ≡ (n == m)
both_later n m = grind (arith, nat_tests)

from_push : (n : ℕ) (ps : List Part) (p : Part) → unread_from n (ps ++ p ∷ []) ≡ unread_from n ps ++ read_at (n == length ps) p ∷ []
from_push zero [] p = refl
from_push (suc n) [] p = ap (λ b. read_at b p ∷ []) (sym (suc_first n))
from_push zero (q ∷ ps) p = ap (λ t. unread q ∷ ps ++ read_at t p ∷ []) (sym (zero_first (length ps)))
from_push (suc n) (q ∷ ps) p = ap (λ rest. q ∷ rest) (from_push n ps p) ∙ ap (λ t. q ∷ unread_from n ps ++ read_at t p ∷ []) (sym (both_later n (length ps)))

pub unread_push : (place : Option ℕ) (ps : List Part) (p : Part) → unread_at place (ps ++ p ∷ []) ≡ unread_at place ps ++ read_at (is_place place (length ps)) p ∷ []
unread_push None ps p = refl
unread_push (Some n) ps p = from_push n ps p

-- as many as before
from_length : (n : ℕ) (ps : List Part) → length (unread_from n ps) ≡ length ps
from_length n [] = refl
from_length zero (p ∷ ps) = refl
from_length (suc n) (p ∷ ps) = ap suc (from_length n ps)

pub unread_length : (place : Option ℕ) (ps : List Part) → length (unread_at place ps) ≡ length ps
unread_length None ps = refl
unread_length (Some n) ps = from_length n ps
