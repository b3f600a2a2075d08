-- The first cell that can't be a parameter, and that cells without one can be.
use Rattle.std.proofs.Common.{◌≡◌, ℕ, Bool, true, false, cond, List, [], ◌∷◌, ◌++◌, Option, Some, None, refl, sym, ap, ◌∙◌, append_assoc, append-nil}
use Rattle.std.specs.Prelude.{not, ◌||◌, find, fold, flat_map, is_some}
use Rattle.std.specs.List.{AllByRecursion, list_any}
use Rattle.std.proofs.lemmas.Bool.{and_parts}
use Rattle.cell_refs.specs.Areas.{Area, cells_of}
use Rattle.cell_refs.specs.Cells.{is_same_cell}
use Rattle.cell_refs.specs.declared.cell.Cell.{Cell}
use Rattle.recalculation.specs.Entries.{Book, Constant, Entry, Formula, Malformed, entry}
use Rattle.sheet_model.specs.declared.value.Value.TheVariants as value
use Rattle.workbook.specs.Contents.{kind_of}
use Rattle.form_extraction.specs.Places.{numbered_in}
use Rattle.solver_names.specs.Texts.{with_cell}
use Rattle.sheet_quick.specs.Parameters.{can_be_parameter, is_number, number_said, other_cell}
use Rattle.sheet_quick.proofs.Cells.{one_cell}

-- ---- the first that passes a test
module _ (p : Cell → Bool) where
  -- one that doesn't pass is passed over
  not_found : (cells others : List Cell) (c : Cell) → p c ≡ false → find p (cells ++ c ∷ others) ≡ find p (cells ++ others)
  not_found [] others c e = ap (λ b. cond b (Some c) (find p others)) e
  not_found (a ∷ cells) others c e = ap (λ o. cond (p a) (Some a) o) (not_found cells others c e)

  -- so is one that stands there before
  found_before : (cells others : List Cell) (c : Cell) → list_any (is_same_cell c) cells ≡ true → find p (cells ++ c ∷ others) ≡ find p (cells ++ others)
  found_before [] others c h = cc
  found_before (a ∷ cells) others c h = by (λ h. found_before cells others c h) (p a) refl (is_same_cell c a) refl h
    where
      by : (list_any (is_same_cell c) cells ≡ true → find p (cells ++ c ∷ others) ≡ find p (cells ++ others)) → (t : Bool) → p a ≡ t → (s : Bool) → is_same_cell c a ≡ s
          → (s || list_any (is_same_cell c) cells) ≡ true → cond (p a) (Some a) (find p (cells ++ c ∷ others)) ≡ cond (p a) (Some a) (find p (cells ++ others))
      by later true e s is h = ap (λ b. cond b (Some a) (find p (cells ++ c ∷ others))) e ∙ sym (ap (λ b. cond b (Some a) (find p (cells ++ others))) e)
      by later false e true is h = ap (λ o. cond (p a) (Some a) o) (not_found cells others c (ap p (one_cell c a is) ∙ e))
      by later false e false is h = ap (λ o. cond (p a) (Some a) o) (later h)

  -- cells of which each stands at its first place alone
  first_places : (more cells : List Cell) → find p (fold with_cell cells more) ≡ find p (cells ++ more)
  first_places [] cells = ap (find p) (sym (append-nil cells))
  first_places (c ∷ more) cells = first_places more (with_cell cells c) ∙ by (list_any (is_same_cell c) cells) refl
    where
      by : (b : Bool) → list_any (is_same_cell c) cells ≡ b → find p (cond b cells (cells ++ c ∷ []) ++ more) ≡ find p (cells ++ c ∷ more)
      by true e = sym (found_before cells more c e)
      by false e = ap (find p) (append_assoc cells (c ∷ []) more)

  -- where none is found, none passes
  none_passes : (cells : List Cell) → find p cells ≡ None → AllByRecursion (λ c. p c ≡ false) cells
  none_passes [] e = tt
  none_passes (c ∷ cells) e = by (λ e. none_passes cells e) (p c) refl e
    where
      by : (find p cells ≡ None → AllByRecursion (λ c. p c ≡ false) cells) → (b : Bool) → p c ≡ b → cond b (Some c) (find p cells) ≡ None → (p c ≡ false) × AllByRecursion (λ c. p c ≡ false) cells
      by rest true is h = cc
      by rest false is h = (is, rest h)

pub other_of_areas : (book : Book) (decisions cells : List Cell) (areas : List Area) → cells ≡ fold with_cell [] (flat_map cells_of areas)
    → other_cell book decisions cells ≡ other_cell book decisions (flat_map cells_of areas)
other_of_areas book decisions cells areas e =
    ap (other_cell book decisions) e ∙ first_places (λ c. not (can_be_parameter book decisions c)) (flat_map cells_of areas) []

-- ---- cells that can be parameters
not_false : (b : Bool) → not b ≡ false → b ≡ true
not_false true e = refl
not_false false e = cc

no_number : (o : Option ℕ) → not (is_some o) ≡ true → o ≡ None
no_number None e = refl
no_number (Some j) e = cc

-- the cell isn't to be decided, and its text is a number
abbrev pub CanBe : Book → List Cell → Cell → Type 0
CanBe book decisions c = (numbered_in decisions c ≡ None) × (is_number (kind_of (entry book c)) ≡ true)

can_be : (book : Book) (decisions : List Cell) (c : Cell) → not (can_be_parameter book decisions c) ≡ false → CanBe book decisions c
can_be book decisions c e =
    let b = and_parts (not (is_some (numbered_in decisions c))) (is_number (kind_of (entry book c))) (not_false (can_be_parameter book decisions c) e) in
    (no_number (numbered_in decisions c) b.0, b.1)

each_can : (book : Book) (decisions cells : List Cell) → AllByRecursion (λ c. not (can_be_parameter book decisions c) ≡ false) cells → AllByRecursion (CanBe book decisions) cells
each_can book decisions [] h = tt
each_can book decisions (c ∷ cells) h = (can_be book decisions c h.0, each_can book decisions cells h.1)

pub all_can : (book : Book) (decisions cells : List Cell) → other_cell book decisions cells ≡ None → AllByRecursion (CanBe book decisions) cells
all_can book decisions cells e = each_can book decisions cells (none_passes (λ c. not (can_be_parameter book decisions c)) cells e)

-- what such a cell says
pub number_entry : (e : Option Entry) → is_number (kind_of e) ≡ true → e ≡ Some (Constant (value.Number (number_said (kind_of e))))
number_entry None h = cc
number_entry (Some (Constant (value.Number x))) h = refl
number_entry (Some (Constant (value.Text t))) h = cc
number_entry (Some (Constant (value.Logical b))) h = cc
number_entry (Some (Constant value.Empty)) h = cc
number_entry (Some (Constant (value.Error k))) h = cc
number_entry (Some (Formula t)) h = cc
number_entry (Some Malformed) h = cc
