-- What is kept where an optimum may be written.
use Rattle.std.specs.Prelude.{◌-◌, Contains, Err, IfOk, Ok, Result, IsSome, is_some, option_map}
use Rattle.std.proofs.Common.{◌≡◌, ◌∙◌, ℕ, true, List, [], Option, Some, None, ap, refl, subst, sym}
use Rattle.cell_refs.specs.declared.cell.Cell.{Cell}
use Rattle.workbook.specs.Kinds.{book_of}
use Rattle.workbook.specs.State.{State}
use Rattle.linear_models.specs.Model.{Model}
use Rattle.node_pick.specs.Rules.{Rule}
use Rattle.kept_book.specs.FromTouchedPlaces.{DifferAt}
use Rattle.kept_tables.specs.Settled.{Parts, all_marked, decisions_of, with_table}
use Rattle.sheet_linear_model.specs.FromKeptForms.{all_forms}
use Rattle.solver_names.specs.Stated.{statement_in}
use Rattle.solver_names.specs.Statement.{Statement}
use Rattle.commands.specs.declared.answer.Answer.{Answer}
use Rattle.commands.specs.declared.answer.Answer.TheVariants as answer
use Rattle.sheet_linear_model.specs.Answers.{HasNoModel, Prepares, parts_in, parts_or, parts_stated}
use Rattle.sheet_linear_model.specs.Prepared.{IsPrepared, Prepared}
use Rattle.sheet_linear_model.specs.declared.prepared.NoModel.{NoModel}
use Rattle.sheet_linear_model.specs.declared.prepared.NoModel.TheVariants as none
use Rattle.sheet_linear_model.specs.declared.prepared.Prepared.{Prepared as OfSheet}
use Rattle.kept_book.specs.FromSheetSolving.{Task}
use Rattle.kept_book.specs.FromSheetSolving.{Solves}
use Rattle.kept_book.specs.Kept.{written_cells}
use Rattle.kept_book.proofs.MarkLaws.{none_marked}
use Rattle.kept_book.proofs.Stays.{once_solved}
use Rattle.session.specs.Cuts.{Cut, Sliced, Slices}
use Rattle.session.specs.Inner.{AreWritten, Drops, Follows, FollowsModel, FollowsSheet, HasPut, UnlessMemory}
use Rattle.session.specs.Kept.{is_searched, without_fault}
use Rattle.session.specs.Solves.{SearchEnds, with_written}
use Rattle.session.specs.States.{Session, SessionState, with_book}
use Rattle.session.proofs.Keeping.{never, nothing_differs, refused_follows}
use Rattle.session.proofs.Numbered.{numbered}

-- ---- where an optimum may be written
-- cells that an answer writes are among those to be decided
among : (a : Answer) (cells : List Cell) (c : Cell) → Contains (written_cells a cells) c → Contains cells c
among (answer.Optimal value) cells c h = h
among _ cells c h = absurd (never c h)

-- a workbook with numbers in cells has the names that it had
module _ (task : Task) (before after : State) (s : Statement) (m : Model) (sheet : ℕ) where
  gives_solved : (a : Answer) → Solves task before s m a after → parts_in after sheet ≡ parts_in before sheet
  gives_solved (answer.Optimal value) h = ap (λ (b : State). parts_in b sheet) h.4.written
  gives_solved answer.Infeasible h = ap (λ (b : State). parts_in b sheet) h.3
  gives_solved answer.Unbounded h = ap (λ (b : State). parts_in b sheet) h.5
  gives_solved (answer.WidePivot path basis leaves enters) h = ap (λ (b : State). parts_in b sheet) h.2
  gives_solved (answer.Budget n) h = ap (λ (b : State). parts_in b sheet) h.4
  gives_solved (answer.NoRoom cell) h = ap (λ (b : State). parts_in b sheet) h.5
  gives_solved _ h = absurd h

-- the session of a search's end has its workbook
book_of_written : (a : Answer) (cells : List Cell) (s : SessionState) → (with_written a cells s).book ≡ s.book
book_of_written (answer.Optimal value) cells s = refl
book_of_written _ cells s = refl

-- what a search of a sheet's model leaves: it differs in the cells that are written, and its names are as they were
pub record Leaves (sheet : ℕ) (before : State) (a : Answer) (decisions : List Cell) (after : State) : Type 0 where
  pub differ : DifferAt (Contains (written_cells a decisions)) (book_of before) (book_of after)
  pub gives : parts_in after sheet ≡ parts_in before sheet

pub end_leaves : (task : Task) (before : SessionState) (s : Statement) (m : Model) (sheet : ℕ) (a : Answer) (after : SessionState) → SearchEnds task before s m a after → Leaves sheet before.book a s.decisions after.book
end_leaves task before s m sheet a after h =
    let book : after.book ≡ h.0 = ap (λ (x : SessionState). x.book) h.2 ∙ book_of_written a s.decisions (with_book before h.0) in
    record {
      differ = subst (λ (b : State). DifferAt (Contains (written_cells a s.decisions)) (book_of before.book) (book_of b)) (sym book) (once_solved task before.book h.0 s m a h.1);
      gives = ap (λ (b : State). parts_in b sheet) book ∙ gives_solved task before.book h.0 s m sheet a h.1;
    }

none_leaves : (sheet : ℕ) (before : State) (cells : List Cell) (after : State) → after ≡ before → Leaves sheet before answer.Infeasible cells after
none_leaves sheet before cells after e = record { differ = nothing_differs before after e; gives = ap (λ (b : State). parts_in b sheet) e }

slice_leaves_by : (task : Task) (before : SessionState) (p : Prepared) (sheet : ℕ) (a : Answer) (after : SessionState) → Sliced task before sheet p a after → Leaves sheet before.book a p.statement.decisions after.book
slice_leaves_by task before p sheet (answer.More n) after h =
    let none = none_leaves sheet before.book p.statement.decisions after.book (ap (λ (x : SessionState). x.book) h.5) in record { differ = none.differ; gives = none.gives }
slice_leaves_by task before p sheet a after h =
    let ended = end_leaves task before p.statement p.model sheet a h.0 h.1 in
    let book : after.book ≡ h.0.book = ap (λ (x : SessionState). x.book) h.2 in
    record {
      differ = subst (λ (b : State). DifferAt (Contains (written_cells a p.statement.decisions)) (book_of before.book) (book_of b)) (sym book) ended.differ;
      gives = ap (λ (b : State). parts_in b sheet) book ∙ ended.gives;
    }

pub slice_leaves : (rule : Rule) (before : SessionState) (p : Prepared) (c : Cut) (a : Answer) (after : SessionState) → Slices rule before c p a after → Leaves c.sheet before.book a p.statement.decisions after.book
slice_leaves rule before p c a after h = slice_leaves_by h.0 before p c.sheet a after h.2

-- then what is kept follows
written_so : (s : SessionState) (sheet : ℕ) (stated : Statement) (a : Answer) → statement_in s.book sheet ≡ Ok stated → AreWritten s sheet a (written_cells a stated.decisions)
written_so s sheet stated (answer.Optimal value) e = (stated, e, refl)
written_so s sheet stated _ e = refl

module _ (before middle after : Session) (sheet : ℕ) (p : Prepared) (is : IsPrepared before.state.book sheet p) (same : middle.state ≡ before.state) (put : FollowsModel before sheet middle) where
  abbrev parts : Parts
  parts = parts_stated before.state.book sheet p.statement

  given : parts_in before.state.book sheet ≡ Some parts
  given = ap (parts_or before.state.book sheet) is.forms.stated

  needed : without_fault before.state.book sheet ≡ Some sheet
  needed = ap (option_map (λ (p : Parts). sheet)) given

  there : HasPut sheet [] before middle
  there = subst (λ (n : Option ℕ). Follows n [] before middle) needed put

  follows_by : (a : Answer) → Leaves sheet middle.state.book a p.statement.decisions after.state.book → Drops (written_cells a p.statement.decisions) middle after
      → HasPut sheet (written_cells a p.statement.decisions) before after
  follows_by a leaves drops =
      let kept : with_table (is_searched before.state) (all_forms before.tables) there.table ≡ all_forms middle.tables =
      sym (there.followed.marked ∙ none_marked (book_of middle.state.book) (with_table (is_searched before.state) (all_forms before.tables) there.table)) in
      let mine : Some there.table.parts ≡ Some parts = sym there.given ∙ given in
      let parts_are : parts ≡ there.table.parts = cc in
      record {
        table = there.table;
        own = there.own;
        given = there.given;
        still = leaves.gives ∙ there.still;
        full = there.full;
        decisions = λ c h. subst (λ (x : Parts). is_some (decisions_of x c) ≡ true) parts_are (numbered p.statement.decisions c (among a p.statement.decisions c h));
        followed = record {
          differ = subst (λ (s : SessionState). DifferAt (Contains (written_cells a p.statement.decisions)) (book_of s.book) (book_of after.state.book)) same leaves.differ;
          marked = drops ∙ ap (all_marked (book_of after.state.book) (written_cells a p.statement.decisions)) (sym kept);
        };
      }

  pub follows_end : (a : Answer) → Leaves sheet middle.state.book a p.statement.decisions after.state.book → Drops (written_cells a p.statement.decisions) middle after → FollowsSheet before sheet a after
  follows_end a leaves drops = (
    written_cells a p.statement.decisions,
    written_so before.state sheet p.statement a is.forms.stated,
    subst (λ (n : Option ℕ). Follows n (written_cells a p.statement.decisions) before after) (sym needed) (follows_by a leaves drops),
  )

-- a sheet without a model
not_written : (book : State) (s : SessionState) (sheet : ℕ) (a : Answer) → HasNoModel book sheet a → AreWritten s sheet a []
not_written book s sheet (answer.Optimal value) h = absurd h
not_written book s sheet _ h = refl

pub none_follows : {E : Type 0} (before after : Session) (sheet : ℕ) (stop : NoModel) (r : Result Answer E) → Prepares before.state.book sheet (Err stop)
    → IfOk r (λ a. (book : State) (sheet : ℕ) → Prepares book sheet (Err stop) → HasNoModel book sheet a) → IfOk r (λ a. stop ≡ none.Refused a)
    → UnlessMemory {A = OfSheet} (Err stop) (FollowsModel before sheet after) → IfOk r (λ a. FollowsSheet before sheet a after)
none_follows {E = E} before after sheet stop (Ok a) prepares told refused h =
    ([], not_written before.state.book before.state sheet a (told before.state.book sheet prepares), refused_follows {E = E} (FollowsModel before sheet after) stop (Ok a) refused h)
none_follows {E = E} before after sheet stop (Err e) prepares told refused h = told

-- ---- answers of which two things are known
pub both_ok : {A E : Type 0} (r : Result A E) (P Q R : A → Type 0) → ((a : A) → P a → Q a → R a) → IfOk r P → IfOk r Q → IfOk r R
both_ok (Ok a) P Q R f h k = f a h k
both_ok (Err e) P Q R f h k = h

pub some_in : {A : Type 0} (o : Option A) → IsSome o → (x : A) × (o ≡ Some x)
some_in None h = absurd cc
some_in (Some x) h = (x, refl)
