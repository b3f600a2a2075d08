-- What is kept of a workbook once an edit is followed.
use Rattle.std.specs.Prelude.{Contains}
use Rattle.std.proofs.Common.{◌≡◌, List, [], Option, Some, None, arith, refl, subst, sym}
use Rattle.cell_refs.specs.declared.cell.Cell.{Cell}
use Rattle.dep_table.specs.References.{AreReferencesOf, References}
use Rattle.recalculation.specs.Entries.{Book}
use Rattle.touched_places.specs.Alike.{DifferAt}
use Rattle.workbook.specs.Kinds.{book_of}
use Rattle.workbook.specs.State.{State}
use Rattle.sheet_solving.specs.FromKeptTables.{AreRight, SheetForms, all_marked}
use Rattle.sheet_solving.proofs.FromKeptTables.{edits_leave_right}
use Rattle.sheet_solving.specs.FromKeptForms.{SheetKept, all_forms}
use Rattle.kept_book.specs.Kept.{IsKept}
use Rattle.kept_book.specs.References.{AreKept}

-- without a table no form is wrong, and none is to be dropped
none_is_wrong : (book : Book) (tables : List SheetKept) → tables ≡ [] → AreRight book (all_forms tables)
none_is_wrong book tables e = subst (λ (ts : List SheetKept). AreRight book (all_forms ts)) (sym e) (λ t h. absurd (never t h))
  where
    never : (t : SheetForms) → Contains [] t → ⊥
    never t h = omega (arith, h.1)

pub nothing_kept : (references : Option References) (book : State) (tables : List SheetKept) → references ≡ None → tables ≡ [] → IsKept references (record { book = book; tables = tables })
nothing_kept references book tables none empty = record {
  references = subst (λ (o : Option References). AreKept o book) (sym none) tt;
  none = λ e. empty;
  right = none_is_wrong (book_of book) tables empty;
}

-- what isn't some is none
pub is_none : {X : Type 0} (o : Option X) → ((x : X) → o ≡ Some x → ⊥) → o ≡ None
is_none None n = refl
is_none (Some x) n = absurd (n x refl)

pub none_is_marked : (book : Book) (cells : List Cell) (tables : List SheetKept) → tables ≡ [] → all_forms tables ≡ all_marked book cells (all_forms tables)
none_is_marked book cells tables e = subst (λ (ts : List SheetKept). all_forms ts ≡ all_marked book cells (all_forms ts)) (sym e) refl

-- each form that is left is right
some_is_not_none : {X : Type 0} (x : X) → Some x ≡ None → ⊥
some_is_not_none x e = cc

pub kept_after : (references : References) (cells : List Cell) (before after : State) (tables left : List SheetKept) → AreRight (book_of before) (all_forms tables)
    → DifferAt (Contains cells) (book_of before) (book_of after) → AreReferencesOf references (book_of after) → all_forms left ≡ all_marked (book_of after) cells (all_forms tables)
    → IsKept (Some references) (record { book = after; tables = left })
kept_after references cells before after tables left right differ are marked = record {
  references = are;
  none = λ e. absurd (some_is_not_none references e);
  right = subst (AreRight (book_of after)) (sym marked) (edits_leave_right (book_of before) (book_of after) cells (all_forms tables) differ right);
}
