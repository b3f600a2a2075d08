-- A quick model that has been opened is open.
use Rattle.std.proofs.Common.{◌≡◌, ◌<◌, ℕ, zero, suc, Bool, true, false, List, [], ◌∷◌, length, map, Some, None, refl, sym, ap, subst, ◌∙◌, nat_lt, inl}
use Rattle.std.specs.Prelude.{if◌then◌else◌, slice_get}
use Rattle.std.specs.List.{AllByRecursion}
use Rattle.std.proofs.lemmas.List.{length-map}
use Rattle.std.proofs.lemmas.List.Elements.{All-from_recursion}
use Rattle.fractions.specs.Rational.{ℚ}
use Rattle.cell_refs.specs.declared.cell.Cell.{Cell}
use Rattle.cell_refs.specs.declared.limits.TheConstants.{TEXT_BYTES}
use Rattle.recalculation.specs.Entries.{Book, entry}
use Rattle.affine_forms.specs.Assigned.{assigned}
use Rattle.workbook.specs.Contents.{kind_of}
use Rattle.workbook.specs.Kinds.{book_of}
use Rattle.cell_refs.specs.Listed.{IsListed}
use Rattle.workbook.specs.State.{State}
use Rattle.form_extraction.specs.Places.{numbered_in}
use Rattle.solver_names.specs.Texts.{cells_in}
use Rattle.named_cells.proofs.FromStatementLaws.{AreChosen}
use Rattle.named_cells.proofs.Chosen.{cells_chosen}
use Rattle.written_cells.specs.Written.{Says}
use Rattle.parameter_problems.proofs.Steps.{first_values_are_held}
use Rattle.sheet_quick.specs.Opened.{HasParameters, IsOpen, SheetQuick}
use Rattle.sheet_quick.specs.Opening.{IsOpened}
use Rattle.sheet_quick.specs.Parameters.{cells_named, number_said, values_in}
use Rattle.sheet_quick.proofs.Cells.{own_number}
use Rattle.sheet_quick.proofs.Chosen.{CanBe, all_can, number_entry}

-- cells that a text names stand each once, on the sheets
pub named_chosen : (book : State) (sheet : ℕ) (text : List ℕ) (cells : List Cell) → sheet < length book.sheets → cells_named book sheet text ≡ Some cells → AreChosen book.sheets cells
named_chosen book sheet text cells there e = by (nat_lt TEXT_BYTES (length text)) e
  where
    by : (b : Bool) → (if b then None else cells_in book sheet text) ≡ Some cells → AreChosen book.sheets cells
    by true h = cc
    by false h = cells_chosen book sheet there text cells h

pub none_decided : (book : Book) (decisions cells : List Cell) → AllByRecursion (CanBe book decisions) cells → AllByRecursion (λ c. numbered_in decisions c ≡ None) cells
none_decided book decisions [] h = tt
none_decided book decisions (c ∷ cells) h = (h.0.0, none_decided book decisions cells h.1)

-- the cell at a place, and its number there
cell_there : (P : Cell → Type 0) (cells : List Cell) (k : ℕ) (c : Cell) → AllByRecursion P cells → slice_get cells k ≡ Some c → P c
cell_there P [] k c h e = cc
cell_there P (a ∷ cells) zero c h e = let same : a ≡ c = cc in subst P same h.0
cell_there P (a ∷ cells) (suc k) c h e = cell_there P cells k c h.1 e

number_there : (f : Cell → ℚ) (cells : List Cell) (k : ℕ) (c : Cell) → slice_get cells k ≡ Some c → assigned (map f cells) k ≡ f c
number_there f [] k c e = cc
number_there f (a ∷ cells) zero c e = let same : a ≡ c = cc in ap f same
number_there f (a ∷ cells) (suc k) c e = number_there f cells k c e

-- each parameter says its number
each_says : (book : Book) (decisions cells : List Cell) → AllByRecursion (CanBe book decisions) cells → (c : Cell) (k : ℕ) → numbered_in cells c ≡ Some k
    → Says (entry book c) (assigned (values_in book cells) k)
each_says book decisions cells h c k e =
    let at = (own_number cells c k e).1 in
    let number : assigned (values_in book cells) k ≡ number_said (kind_of (entry book c)) = number_there (λ c. number_said (kind_of (entry book c))) cells k c at in
    subst (Says (entry book c)) (sym number) (inl (number_entry (entry book c) (cell_there (CanBe book decisions) cells k c h at).1))

module _ (book : State) (sheet : ℕ) (text : List ℕ) (q : SheetQuick) (there : sheet < length book.sheets) (h : IsOpened book sheet text q) where
  can : AllByRecursion (CanBe (book_of book) q.statement.decisions) q.parameters
  can = all_can (book_of book) q.statement.decisions q.parameters h.parameters.all

  chosen : AreChosen book.sheets q.parameters
  chosen = named_chosen book sheet text q.parameters there h.parameters.named.cells

  has_parameters : HasParameters book q
  has_parameters = record {
    few = h.parameters.few;
    listed = All-from_recursion (IsListed book.sheets) q.parameters chosen.listed;
    distinct = chosen.distinct;
    others = All-from_recursion (λ c. numbered_in q.statement.decisions c ≡ None) q.parameters (none_decided (book_of book) q.statement.decisions q.parameters can);
    each = ap length h.values ∙ length-map q.parameters (λ c. number_said (kind_of (entry (book_of book) c)));
  }

  pub opened_is_open : IsOpen book q
  opened_is_open = record {
    first = book;
    sheets = refl;
    names = refl;
    forms = h.forms;
    parameters = has_parameters;
    holds = first_values_are_held (book_of book) q.statement.decisions q.parameters (assigned q.values)
        (λ c k e. subst (λ (values : List ℚ). Says (entry (book_of book) c) (assigned values k)) (sym h.values)
        (each_says (book_of book) q.statement.decisions q.parameters can c k e));
  }
