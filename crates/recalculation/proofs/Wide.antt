-- Where a cell has no narrow value, it looks at a wide cell; and it looks at cells to which it refers.
use Rattle.std.proofs.Common.{◌≡◌, ℕ, zero, suc, Bool, true, false, ◌&&◌, if◌then◌else◌, List, [], ◌∷◌, length, refl, sym, ap, ◌∙◌, arith}
use Rattle.std.specs.Prelude.{not, Option, Some, None, is_some, is_none, option_map, ◌⊎◌}
use Rattle.std.specs.List.{Contains}
use Rattle.std.specs.FinMap.{keys, contains_key}
use Rattle.std.proofs.Common.{inl, inr}
use Rattle.std.proofs.lemmas.List.Elements.{All-contains, All-from_recursion}
use Rattle.fractions.specs.Rational.{ℚ}
use Rattle.cell_refs.specs.declared.cell.Cell.{Cell}
use Rattle.cell_refs.specs.declared.error_kind.ErrorKind.TheVariants as kind
use Rattle.formula_ast.specs.Tree.{Tree}
use Rattle.sheet_model.specs.declared.value.Value.{Value}
use Rattle.sheet_model.specs.declared.value.Value.TheVariants.{Error}
use Rattle.sheet_model.specs.declared.grid.Arg.{Arg}
use Rattle.recalculation.specs.Entries.{Book, Entry, Constant, Formula, Malformed, Overriding, entry}
use Rattle.recalculation.specs.Walks.{has_walk, is_formula, refers, steps_to, is_circular}
use Rattle.recalculation.specs.Evaluation.{cell_value}
use Rattle.recalculation.specs.Looking.{are_known, outcome_of, looked_at}
use Rattle.recalculation.specs.Narrow.{entry_known, number_or, known, entry_is_wide, is_wide, Among, LooksFrom, LooksAt, Looked, itself, further}
use Rattle.recalculation.proofs.Lists.{both}
use Rattle.recalculation.proofs.Circles.{walks_get_shorter, entry_there}
use Rattle.recalculation.proofs.Reading.{looked_among}
use Rattle.recalculation.proofs.Knowns.{known_is}
use Rattle.recalculation.proofs.WithinAreas.{each_referred}

-- ---- what is looked at is referred to
among_referred : (f : Cell → Option Value) (e : Option Entry) (b : Cell) → Among f e b → refers e b ≡ true
among_referred f None b h = absurd h
among_referred f (Some (Constant v)) b h = absurd h
among_referred f (Some (Formula t)) b h =
    All-contains (λ b. refers (Some (Formula t)) b ≡ true) (looked_at f t) b
    (All-from_recursion (λ b. refers (Some (Formula t)) b ≡ true) (looked_at f t) (looked_among (λ b. refers (Some (Formula t)) b ≡ true) f t (each_referred t))) h
among_referred f (Some Malformed) b h = absurd h

-- what a cell looks at, circular or not
looks_referred : (circular : Bool) (f : Cell → Option Value) (e : Option Entry) (b : Cell) → LooksFrom circular f e b → refers e b ≡ true
looks_referred true f e b h = h
looks_referred false f e b h = among_referred f e b h

-- a cell refers to what it looks at
pub looked_referred : (book : Book) (over : Overriding) (a b : Cell) → LooksAt book over a b → refers (entry book a) b ≡ true
looked_referred book over a b h = looks_referred (is_circular book (λ c. is_some (over c)) a) (known book over) (entry book a) b h.2

-- ---- wide cells
-- one look, and then others
in_front : (book : Book) (over : Overriding) (a b c : Cell) → LooksAt book over a b → Looked book over b c → Looked book over a c
in_front book over a b _ look itself = further a b itself look
in_front book over a b _ look (further m c before last) = further m c (in_front book over a b m look before) last

-- where not all cells are known, one isn't
first_unknown : (f : Cell → Option Value) (cells : List Cell) → are_known f cells ≡ false → (b : Cell) × Contains cells b × (f b ≡ None)
first_unknown f [] h = cc
first_unknown f (b ∷ cells) h =
    elim (f b) as (λ o. f b ≡ o → (is_some o && are_known f cells) ≡ false → (c : Cell) × Contains (b ∷ cells) c × (f c ≡ None)) [
      | None ↦ λ e h. (b, (0, omega arith, refl), e)
      | Some v ↦ λ e h. let more = first_unknown f cells h in (more.0, (suc more.1.0, omega (arith, more.1.1), more.1.2), more.2)
    ] refl h

module _ (book : Book) (over : Overriding) where
  abbrev is_leaf : Cell → Bool
  is_leaf b = is_some (over b)

  -- what is found at a cell without a narrow value: it is wide, or it looks at another one without
  abbrev Finds : Option ℚ → Bool → Option Entry → Type 0
  Finds o circular e =
      ((not (is_some o) && (not circular && entry_is_wide (known book over) e)) ≡ true)
      ⊎ ((b : Cell) × (o ≡ None) × LooksFrom circular (known book over) e b × (known book over b ≡ None))

  -- a formula without a narrow value
  formula_finds : (t : Tree) → option_map cell_value (outcome_of (known book over) t (looked_at (known book over) t)) ≡ None → Finds None false (Some (Formula t))
  formula_finds t h = by (are_known (known book over) (looked_at (known book over) t)) refl
    where
      none : (o : Option Arg) → option_map cell_value o ≡ None → is_none o ≡ true
      none None h = refl
      none (Some x) h = cc h

      by : (b : Bool) → are_known (known book over) (looked_at (known book over) t) ≡ b → Finds None false (Some (Formula t))
      by true e = inl (both _ _ e (none (outcome_of (known book over) t (looked_at (known book over) t)) h))
      by false e = let one = first_unknown (known book over) (looked_at (known book over) t) e in inr (one.0, refl, one.1, one.2)

  -- a cell without one
  layer_finds : (o : Option ℚ) (circular : Bool) (e : Option Entry) → number_or o (if circular then Some (Error kind.Circular) else entry_known (known book over) e) ≡ None → Finds o circular e
  layer_finds (Some x) circular e h = cc h
  layer_finds None true e h = cc h
  layer_finds None false None h = cc h
  layer_finds None false (Some (Constant v)) h = cc h
  layer_finds None false (Some (Formula t)) h = formula_finds t h
  layer_finds None false (Some Malformed) h = cc h

  -- a cell without a narrow value has a text
  layer_text : (o : Option ℚ) (circular : Bool) (e : Option Entry) → number_or o (if circular then Some (Error kind.Circular) else entry_known (known book over) e) ≡ None → is_some e ≡ true
  layer_text (Some x) circular e h = cc h
  layer_text None true e h = cc h
  layer_text None false None h = cc h
  layer_text None false (Some e) h = refl

  -- a cell without a narrow value, by what makes it
  is_unknown : (a : Cell) → known book over a ≡ None → number_or (over a) (if is_circular book is_leaf a then Some (Error kind.Circular) else entry_known (known book over) (entry book a)) ≡ None
  is_unknown a h = sym (known_is book over a) ∙ h

  -- so it is a cell with a text
  has_text : (a : Cell) → known book over a ≡ None → contains_key book.texts a ≡ true
  has_text a h =
      sym (entry_there book a) ∙ layer_text (over a) (is_circular book is_leaf a) (entry book a) (is_unknown a h)

  -- a wide cell that is looked at
  abbrev Wide : Cell → Type 0
  Wide a = (b : Cell) × Looked book over a b × (is_wide book over b ≡ true)

  -- a wide cell is found within so many steps as no walk has
  within_steps : (k : ℕ) (a : Cell) → has_walk (keys book.texts) (steps_to book is_leaf) k a ≡ false → known book over a ≡ None → Wide a
  within_steps zero a none h = cc none
  within_steps (suc k) a none h =
      elim (layer_finds (over a) (is_circular book is_leaf a) (entry book a) (is_unknown a h)) as (λ _. Wide a) [
        | inl wide ↦ (a, itself, wide)
        | inr next ↦
            let look : LooksAt book over a next.0 = (next.1, has_text next.0 next.3, next.2) in
            let step : steps_to book is_leaf a next.0 ≡ true = both _ _ (ap (λ o. not (is_some o)) next.1) (looked_referred book over a next.0 look) in
            let rest = within_steps k next.0 (walks_get_shorter book is_leaf k a next.0 none step (has_text next.0 next.3)) next.3 in
            (rest.0, in_front book over a next.0 rest.0 look rest.1, rest.2)
      ]

  -- a formula cell that isn't circular starts no walk of as many steps as there are texts
  no_walk : (o : Option ℚ) (e : Option Entry) (walk : Bool) → number_or o (if is_formula e && (not (is_some o) && walk) then Some (Error kind.Circular) else entry_known (known book over) e) ≡ None → walk ≡ false
  no_walk (Some x) e walk h = cc h
  no_walk None None walk h = cc h
  no_walk None (Some (Constant v)) walk h = cc h
  no_walk None (Some (Formula t)) true h = cc h
  no_walk None (Some (Formula t)) false h = refl
  no_walk None (Some Malformed) walk h = cc h

  -- a cell without a narrow value looks, itself or by others, at a wide one
  pub wide_looked_at : (a : Cell) → known book over a ≡ None → Wide a
  wide_looked_at a h =
      within_steps (length (keys book.texts)) a
      (no_walk (over a) (entry book a) (has_walk (keys book.texts) (steps_to book is_leaf) (length (keys book.texts)) a) (is_unknown a h)) h
