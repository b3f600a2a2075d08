-- What stands of a slice behind want of memory.
use Rattle.std.proofs.Common.{◌≡◌, ◌≢◌, ◌∙◌, ◌⊎◌, inl, inr, ℕ, List, [], Option, Some, None, Result, Ok, Err, ap, refl, subst, sym}
use Rattle.std.specs.Prelude.{IfOk, OnErr}
use Rattle.cell_refs.specs.declared.cell.Cell.{Cell}
use Rattle.linear_models.specs.Model.{Model}
use Rattle.node_pick.specs.Rules.{Rule}
use Rattle.workbook.specs.Edits.{set_fault}
use Rattle.workbook.specs.State.{State}
use Rattle.workbook.specs.declared.fault.EditFault.{EditFault}
use Rattle.solver_names.specs.Statement.{Statement}
use Rattle.sheet_linear_model.specs.Prepared.{IsPrepared, Prepared}
use Rattle.kept_book.specs.FromSheetSolving.{GoesFurther, Opened, Task, begun, task_from, whole_task}
use Rattle.commands.specs.declared.answer.Answer.{Answer}
use Rattle.commands.specs.declared.answer.Answer.TheVariants as answer
use Rattle.commands.specs.Commands.{Name, Set, Spoken, Unname}
use Rattle.commands.specs.Locating.{cell_named, or_unknown, sheet_or_book}
use Rattle.workbook.specs.Files.{sheet_in}
use Rattle.workbook.specs.Naming.{name_fault, unname_fault}
use Rattle.session.specs.Cuts.{IsUnderWay, Sliced, Slices, cut}
use Rattle.session.specs.Inner.{Spends, search_after}
use Rattle.session.specs.Edits.{and_then, cell_to_set, home_to_name, home_to_unname, unless}
use Rattle.session.specs.Interrupted.{IsInterrupted, IsStopped}
use Rattle.session.specs.Solves.{SearchEnds, SolvesSheet, with_written}
use Rattle.session.specs.States.{SessionState, open_search, with_book, with_contents, with_search, without_search}
use Rattle.session.specs.Steps.{Applies, IsDone, with_name, with_text, without_name}
use Rattle.session.proofs.Ends.{ends_solve}
use Rattle.session.proofs.Cuts.{all_begun_anew, all_gone_on, allowed, does, put_twice, same_search, slices_sheet, with_left}

-- ---- what is written beside the searches
beside : (a : Answer) (cells : List Cell) (s : SessionState) (book : State) → with_written a cells (with_book s book) ≡ with_contents s (with_written a cells (with_book s book))
beside (answer.Optimal value) cells s book = refl
beside _ cells s book = refl

spent_beside : (task : Task) (s : SessionState) (st : Statement) (m : Model) (a : Answer) (o : Opened) (after : SessionState) → Spends task s st m a o after → after ≡ with_contents s after
spent_beside task s st m a o after h = h.2 ∙ beside a st.decisions s h.0 ∙ ap (with_contents s) (sym h.2)

-- ---- searches that were begun apart
pub anew_stopped : (rule : Rule) (before : SessionState) (sheet units : ℕ) (s : Statement) (old new : Opened) (middle : SessionState)
    → (middle ≡ before) ⊎ ((a : Answer) × Spends (task_from rule old units before.budget) before s old.model a new middle)
    → (middle ≡ before) ⊎ ((a : Answer) × (answered : SessionState) × ((p : Prepared) → p.statement ≡ s → p.model ≡ old.model
    → Sliced (task_from rule old units before.budget) before sheet p a answered) × (middle ≡ with_contents before answered))
anew_stopped rule before sheet units s old new middle (inl same) = inl same
anew_stopped rule before sheet units s old new middle (inr (a, h)) = inr (
  a,
  with_left middle sheet (search_after a new),
  all_begun_anew rule before sheet units s a old new middle (with_left middle sheet (search_after a new)) h refl,
  spent_beside (task_from rule old units before.budget) before s old.model a new middle h,
)

pub begun_stopped : {E : Type 0} (rule : Rule) (before : SessionState) (sheet units : ℕ) (p : Prepared) (old : Opened) (after : SessionState) (r : Result Answer E) → old ≡ begun p.model
    → OnErr r ((after ≡ before) ⊎ ((a : Answer) × (answered : SessionState) × ((q : Prepared) → q.statement ≡ p.statement → q.model ≡ old.model
    → Sliced (task_from rule old units before.budget) before sheet q a answered) × (after ≡ with_contents before answered)))
    → OnErr r ((after ≡ before) ⊎ ((a : Answer) × (answered : SessionState) × Sliced (task_from rule (begun p.model) units before.budget) before sheet p a answered
    × (after ≡ with_contents before answered)))
begun_stopped rule before sheet units p old after (Ok x) is h = h
begun_stopped rule before sheet units p old after (Err e) is (inl same) = inl same
begun_stopped rule before sheet units p old after (Err e) is (inr (a, answered, h, k)) = inr (
  a,
  answered,
  subst (λ (o : Opened). Sliced (task_from rule o units before.budget) before sheet p a answered) is (h p refl (sym (ap (λ (o : Opened). o.model) is))),
  k,
)

-- ---- slices
-- where nothing was done
pub untouched : (rule : Rule) (before : SessionState) (sheet units : ℕ) (search : Opened) (after : SessionState) → after ≡ before → IsUnderWay rule before (cut sheet units search) after
untouched rule before sheet units search after e = (after, inl e, inl refl)

pub anew_under_way : {E : Type 0} (rule : Rule) (before : SessionState) (sheet units : ℕ) (p : Prepared) (after : SessionState) (r : Result Answer E) → IsPrepared before.book sheet p
    → ((search : Opened) → open_search before sheet ≡ Some search → ¬ (search.model ≡ p.model))
    → OnErr r ((after ≡ before) ⊎ ((a : Answer) × (answered : SessionState) × Sliced (task_from rule (begun p.model) units before.budget) before sheet p a answered
    × (after ≡ with_contents before answered)))
    → OnErr r ((search : Opened) → open_search before sheet ≡ Some search → IsUnderWay rule before (cut sheet units search) after)
anew_under_way rule before sheet units p after (Ok x) prepared other h = h
anew_under_way rule before sheet units p after (Err e) prepared other (inl same) = λ search is. untouched rule before sheet units search after same
anew_under_way rule before sheet units p after (Err e) prepared other (inr (a, answered, h, k)) = λ search is. (
  after,
  inr (a, answered, slices_sheet rule before (cut sheet units search) p a answered prepared (task_from rule (begun p.model) units before.budget, inr (other search is, refl), h), k),
  inl refl,
)

-- a search that was taken out and put back
module _ (rule : Rule) (before : SessionState) (sheet units : ℕ) (p : Prepared) (old new : Opened) (apart middle after : SessionState) (prepared : IsPrepared before.book sheet p)
    (taken : open_search before sheet ≡ Some old) (same : old.model ≡ p.model) (here : apart ≡ without_search before sheet)
    (further : GoesFurther (task_from rule old units apart.budget) old.model new) (e : after ≡ with_left middle sheet (Some new)) where
  gone_further : GoesFurther (task_from rule old units before.budget) p.model new
  gone_further = subst (λ (m : Model). GoesFurther (task_from rule old units before.budget) m new) same (subst (λ (s : SessionState). GoesFurther (task_from rule old units s.budget) old.model new) here further)

  put_again : (s : SessionState) → with_search (without_search s sheet) sheet new ≡ with_search s sheet new
  put_again s = put_twice s sheet new

  of_old : (middle ≡ apart) ⊎ ((a : Answer) × Spends (task_from rule old units apart.budget) apart p.statement old.model a new middle) → IsUnderWay rule before (cut sheet units old) after
  of_old (inl kept) = (
    before,
    inl refl,
    inr (record {
      prepared = p;
      is_prepared = prepared;
      same = same;
      search = new;
      further = gone_further;
      after_is = e ∙ (ap (λ (m : SessionState). with_search m sheet new) (kept ∙ here) ∙ put_again before);
    }),
  )
  of_old (inr (a, h)) =
      let answered : SessionState = with_left middle sheet (search_after a new) in
      let sliced : Sliced (task_from rule old units before.budget) before sheet p a answered = all_gone_on rule before sheet units p a old new apart middle answered taken same here h refl old taken in (
        with_contents before answered,
        inr (a, answered, slices_sheet rule before (cut sheet units old) p a answered prepared (task_from rule old units before.budget, inl (same, refl), sliced), refl),
        inr (record {
          prepared = p;
          is_prepared = prepared;
          same = same;
          search = new;
          further = gone_further;
          after_is =
              e
              ∙ ap (λ (m : SessionState). with_search m sheet new) (spent_beside (task_from rule old units apart.budget) apart p.statement old.model a new middle h)
              ∙ ap (λ (m : SessionState). with_search (with_contents m middle) sheet new) here
              ∙ put_again (with_contents before middle);
        }),
      )

  pub under_way : (middle ≡ apart) ⊎ ((a : Answer) × Spends (task_from rule old units apart.budget) apart p.statement old.model a new middle) → (search : Opened) → open_search before sheet ≡ Some search
      → IsUnderWay rule before (cut sheet units search) after
  under_way h search is = subst (λ (s : Opened). IsUnderWay rule before (cut sheet units s) after) (same_search (open_search before sheet) old search taken is) (of_old h)

-- ---- ends of searches
pub end_stopped : {E : Type 0} (rule : Rule) (before after : SessionState) (sheet : ℕ) (p : Prepared) (r : Result Answer E) → IsPrepared before.book sheet p
    → OnErr r ((after ≡ before) ⊎ ((a : Answer) × SearchEnds (whole_task rule before.budget) before p.statement p.model a after)) → OnErr r ((after ≡ before) ⊎ ((a : Answer) × SolvesSheet rule before sheet a after))
end_stopped rule before after sheet p (Ok x) is h = h
end_stopped rule before after sheet p (Err e) is (inl same) = inl same
end_stopped rule before after sheet p (Err e) is (inr (a, h)) = inr (a, ends_solve rule before sheet p a after is h)

-- ---- edits
set_there : (book : State) (address text : List ℕ) (cell : Cell) → cell_named book.sheets address ≡ Ok cell → set_fault book cell text ≡ None → cell_to_set book address text ≡ Ok cell
set_there book address text cell named none = ap (λ (r : Result Cell Answer). and_then r (λ (c : Cell). unless (set_fault book c text) c)) named ∙ ap (λ (o : Option EditFault). unless o cell) none

pub put_stopped : {E : Type 0} (before after : SessionState) (address text : List ℕ) (cell : Cell) (r : Result Answer E) → cell_named before.book.sheets address ≡ Ok cell
    → OnErr r (set_fault before.book cell text ≡ None) → OnErr r (text ≢ []) → OnErr r ((after ≡ before) ⊎ (after ≡ with_text before cell text))
    → OnErr r ((x : Rule) → IsStopped x before (Set address text) after)
put_stopped before after address text cell (Ok x) named none some h = h
put_stopped before after address text cell (Err e) named none some (inl same) =
    λ rule. ((allowed (cell_to_set before.book address text) cell (set_there before.book address text cell named none), some), inl same)
put_stopped before after address text cell (Err e) named none some (inr put) =
    let there : cell_to_set before.book address text ≡ Ok cell = set_there before.book address text cell named none in
    λ rule. (
      (allowed (cell_to_set before.book address text) cell there, some),
      inr (answer.Done, does (λ (c : Cell). IsDone (with_text before c text)) before (cell_to_set before.book address text) cell answer.Done after there (refl, put)),
    )

pub named_home : (found here : List (List ℕ)) (sheet : List ℕ) (home : Option ℕ) → Some home ≡ sheet_in found sheet → found ≡ here → sheet_or_book here sheet ≡ Ok home
named_home found here sheet home e f = ap (λ (s : List (List ℕ)). sheet_or_book s sheet) (sym f) ∙ ap or_unknown (sym e)

pub name_there : (book : State) (sheet name text : List ℕ) (home : Option ℕ) → sheet_or_book book.sheets sheet ≡ Ok home → name_fault book home name text ≡ None → home_to_name book sheet name text ≡ Ok home
name_there book sheet name text home e none = ap (λ (r : Result (Option ℕ) Answer). and_then r (λ (h : Option ℕ). unless (name_fault book h name text) h)) e ∙ ap (λ (o : Option EditFault). unless o home) none

pub unname_there : (book : State) (sheet name : List ℕ) (home : Option ℕ) → sheet_or_book book.sheets sheet ≡ Ok home → unname_fault name ≡ None → home_to_unname book sheet name ≡ Ok home
unname_there book sheet name home e none = ap (λ (r : Result (Option ℕ) Answer). and_then r (λ (h : Option ℕ). unless (unname_fault name) h)) e ∙ ap (λ (o : Option EditFault). unless o home) none

pub name_stopped_at : (before after : SessionState) (sheet name text : List ℕ) (home : Option ℕ) → home_to_name before.book sheet name text ≡ Ok home → after ≡ with_name before home name text
    → (x : Rule) → IsStopped x before (Name sheet name text) after
name_stopped_at before after sheet name text home there e =
    λ rule. (
      allowed (home_to_name before.book sheet name text) home there,
      inr (answer.Done, does (λ (h : Option ℕ). IsDone (with_name before h name text)) before (home_to_name before.book sheet name text) home answer.Done after there (refl, e)),
    )

pub unname_stopped_at : (before after : SessionState) (sheet name : List ℕ) (home : Option ℕ) → home_to_unname before.book sheet name ≡ Ok home → after ≡ without_name before home name
    → (x : Rule) → IsStopped x before (Unname sheet name) after
unname_stopped_at before after sheet name home there e =
    λ rule. (
      allowed (home_to_unname before.book sheet name) home there,
      inr (answer.Done, does (λ (h : Option ℕ). IsDone (without_name before h name)) before (home_to_unname before.book sheet name) home answer.Done after there (refl, e)),
    )

-- ---- the commands that say so
pub set_stopped : {E : Type 0} (rule : Rule) (before after : SessionState) (command : Spoken) (address text at said : List ℕ) (r : Result Answer E) → command ≡ Set at said → address ≡ at → text ≡ said
    → OnErr r ((x : Rule) → IsStopped x before (Set address text) after) → OnErr r (IsInterrupted rule before command after)
set_stopped rule before after command address text at said (Ok x) is e f h = h
set_stopped rule before after command address text at said (Err x) is e f h =
    subst (λ (c : Spoken). IsInterrupted rule before c after) (ap (λ (n : List ℕ). Set n text) e ∙ (ap (λ (t : List ℕ). Set at t) f ∙ sym is)) (h rule)

pub name_stopped : {E : Type 0} (rule : Rule) (before after : SessionState) (command : Spoken) (sheet name text home called said : List ℕ) (r : Result Answer E) → command ≡ Name home called said
    → sheet ≡ home → name ≡ called → text ≡ said → OnErr r ((x : Rule) → IsStopped x before (Name sheet name text) after) → OnErr r (IsInterrupted rule before command after)
name_stopped rule before after command sheet name text home called said (Ok x) is e f g h = h
name_stopped rule before after command sheet name text home called said (Err x) is e f g h =
    subst (λ (c : Spoken). IsInterrupted rule before c after)
    (ap (λ (n : List ℕ). Name n name text) e ∙ (ap (λ (n : List ℕ). Name home n text) f ∙ (ap (λ (t : List ℕ). Name home called t) g ∙ sym is))) (h rule)

pub unname_stopped : {E : Type 0} (rule : Rule) (before after : SessionState) (command : Spoken) (sheet name home called : List ℕ) (r : Result Answer E) → command ≡ Unname home called
    → sheet ≡ home → name ≡ called → OnErr r ((x : Rule) → IsStopped x before (Unname sheet name) after) → OnErr r (IsInterrupted rule before command after)
unname_stopped rule before after command sheet name home called (Ok x) is e f h = h
unname_stopped rule before after command sheet name home called (Err x) is e f h =
    subst (λ (c : Spoken). IsInterrupted rule before c after) (ap (λ (n : List ℕ). Unname n name) e ∙ (ap (λ (t : List ℕ). Unname home t) f ∙ sym is)) (h rule)

-- ---- the same command as it is spelled
pub set_is : (address text at said : List ℕ) (command : Spoken) → command ≡ Set at said → address ≡ at → text ≡ said → Set address text ≡ command
set_is address text at said command is e f = ap (λ (n : List ℕ). Set n text) e ∙ (ap (λ (t : List ℕ). Set at t) f ∙ sym is)

pub name_is : (sheet name text home called said : List ℕ) (command : Spoken) → command ≡ Name home called said → sheet ≡ home → name ≡ called → text ≡ said → Name sheet name text ≡ command
name_is sheet name text home called said command is e f g =
    ap (λ (n : List ℕ). Name n name text) e ∙ (ap (λ (n : List ℕ). Name home n text) f ∙ (ap (λ (t : List ℕ). Name home called t) g ∙ sym is))

pub unname_is : (sheet name home called : List ℕ) (command : Spoken) → command ≡ Unname home called → sheet ≡ home → name ≡ called → Unname sheet name ≡ command
unname_is sheet name home called command is e f = ap (λ (n : List ℕ). Unname n name) e ∙ (ap (λ (t : List ℕ). Unname home t) f ∙ sym is)

pub applies_as : {E : Type 0} (rule : Rule) (before after : SessionState) (said command : Spoken) (r : Result Answer E) → said ≡ command → IfOk r (λ a. Applies rule before said a after)
    → IfOk r (λ a. Applies rule before command a after)
applies_as rule before after said command r e h = subst (λ (c : Spoken). IfOk r (λ a. Applies rule before c a after)) e h
