-- What is stated.
use Rattle.std.specs.Prelude.{Ok}
use Rattle.std.proofs.Common.{◌≡◌, ◌<◌, ◌≤◌, sym, ap, subst, ℕ, length}
use Rattle.cell_refs.specs.declared.cell.SheetId.{SheetId}
use Rattle.workbook.specs.State.{State}
use Rattle.solver_names.specs.Answers.{statement_of}
use Rattle.solver_names.specs.Stated.{statement_in}
use Rattle.solver_names.specs.declared.statements.Statement.{Statement as Declared}
use Rattle.statement_laws.specs.Laws.{StatementsAreWhole}
use Rattle.sheet_linear_model.specs.Inner.{IsStatement}

pub is_statement : StatementsAreWhole → (book : State) (sheet : SheetId) (s : Declared) → sheet.0 < length book.sheets → statement_in book sheet.0 ≡ Ok (statement_of s) → s.sheet ≡ sheet
    → length s.adj ≤ 512 → IsStatement book (statement_of s)
is_statement law book sheet s lt h same few =
    let e : sheet.0 ≡ s.sheet.0 = sym (ap (λ (x : SheetId). x.0) same) in
    record {
      listed = subst (λ (n : ℕ). n < length book.sheets) e lt;
      stated = subst (λ (n : ℕ). statement_in book n ≡ Ok (statement_of s)) e h;
      few = few;
      whole = law book sheet.0 (statement_of s) lt h;
    }
