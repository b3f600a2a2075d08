-- A solve and a slice by a rule that names a node have one answer, and leave one session.
use Rattle.std.proofs.Common.{◌≡◌, ◌≢◌, ◌<◌, ◌+◌, ◌∙◌, inl, inr, ℕ, List, [], length, refl, sym, ap, subst}
use Rattle.cell_refs.specs.declared.cell.Cell.{Cell}
use Rattle.linear_models.specs.Model.{Model, IsValid}
use Rattle.node_pick.specs.Rules.{Rule, free}
use Rattle.searches.specs.Trails.{SearchUnit, Trail, start, stays}
use Rattle.searches.specs.Trails as trails
use Rattle.branch_bound.specs.Searches.{HasTrail}
use Rattle.workbook.specs.State.{State}
use Rattle.solver_names.specs.Statement.{Statement}
use Rattle.commands.specs.declared.answer.Answer.{Answer}
use Rattle.commands.specs.declared.answer.Answer.TheVariants as answer
use Rattle.session.specs.FromSheetLinearModel.{HasNoModel}
use Rattle.session.specs.FromSheetLinearModel.{IsPrepared, Prepared}
use Rattle.session.specs.FromSheetSolving.{HasOpenLeaf, Opened, Searched, Task, begun, led_to, task_from, total, whole_task}
use Rattle.session.specs.Cuts.{Cut, Resumes, Sliced, Slices}
use Rattle.session.specs.Solves.{SearchEnds, WithModel, with_written}
use Rattle.session.specs.States.{SessionState, with_book, with_search, without_search}
use Rattle.session_laws.specs.Answers.{SameAnswer}
use Rattle.session_laws.proofs.Ends.{not_more, one_end}
use Rattle.session.proofs.FromSheetLinearModel.{never_both, prepared_is_one}
use Rattle.session_laws.proofs.Models.{one_without_model}
use Rattle.session_laws.proofs.Same.{equal_are_same}
use Rattle.session_laws.proofs.Tasks.{Follows, asked_last, last_is_one}
use Rattle.session_laws.proofs.Valid.{model_is_valid}

-- ---- the session after an end
same_written : (a b : Answer) (cells : List Cell) (s : SessionState) → SameAnswer a b → with_written a cells s ≡ with_written b cells s
same_written (answer.ToSave files) (answer.ToSave others) cells s h = refl
same_written (answer.Prices lines) (answer.Prices others) cells s h = refl
same_written (answer.Cert c) (answer.Cert d) cells s h = refl
same_written (answer.Names fault) (answer.Names other) cells s h = refl
same_written (answer.WidePivot path basis leaves enters) (answer.WidePivot steps given out entered) cells s h = refl
same_written a b cells s h = ap (λ (x : Answer). with_written x cells s) h

pub ends_once : (task : Task) (before m n : SessionState) (s : Statement) (model : Model) (a b : Answer) → Follows model task → SearchEnds task before s model a m → SearchEnds task before s model b n
    → SameAnswer a b × (m ≡ n)
ends_once task before m n s model a b follows h k =
    let one = one_end task model before.book s follows a b h.0 k.0 h.1 k.1 in (
      one.0,
      h.2 ∙ (ap (λ (book : State). with_written a s.decisions (with_book before book)) one.1 ∙ (same_written a b s.decisions (with_book before k.0) one.0 ∙ sym k.2)),
    )

-- ---- slices
-- a slice goes further, and its search stays open; or it is at an end, and closed
data Cutting (task : Task) (before : SessionState) (sheet : ℕ) (p : Prepared) (a : Answer) (after : SessionState) : Type 0 where
  further : (t : Searched task p.model) → a ≡ answer.More (total t) → length t.units ≡ task.units → total t < task.budget → HasOpenLeaf p.model t.state
      → after ≡ with_search before sheet (led_to t) → Cutting task before sheet p a after
  closed : (ended : SessionState) → SearchEnds task before p.statement p.model a ended → after ≡ without_search ended sheet → Cutting task before sheet p a after

cutting : (task : Task) (before : SessionState) (sheet : ℕ) (p : Prepared) (a : Answer) (after : SessionState) → Sliced task before sheet p a after → Cutting task before sheet p a after
cutting task before sheet p (answer.More n) after h = further h.0 (ap answer.More h.1) h.2 h.3 h.4 h.5
cutting task before sheet p a after h = closed h.0 h.1 h.2

same_led : (task : Task) (m : Model) (t u : Searched task m) → t.units ≡ u.units → t.state ≡ u.state → led_to t ≡ led_to u
same_led task m t u e f =
    ap (λ (us : List SearchUnit). let x : Opened = record { model = m; units = task.spent + length us; state = t.state } in x) e
    ∙ ap (λ (s : trails.State). let x : Opened = record { model = m; units = total u; state = s } in x) f

cut_once : (task : Task) (before m n : SessionState) (sheet : ℕ) (p : Prepared) (a b : Answer) → Follows p.model task → Cutting task before sheet p a m → Cutting task before sheet p b n → SameAnswer a b × (m ≡ n)
cut_once task before m n sheet p a b follows (further t is asked within leaf after) (further u so all inside still now) =
    let one = last_is_one p.model task follows t u (asked_last p.model task follows t asked) (asked_last p.model task follows u all) in (
      equal_are_same a b (is ∙ (ap (λ (us : List SearchUnit). answer.More (task.spent + length us)) one.0 ∙ sym so)),
      after ∙ (ap (with_search before sheet) (same_led task p.model t u one.0 one.1) ∙ sym now),
    )
cut_once task before m n sheet p a b follows (further t is asked within leaf after) (closed ended k now) = absurd (not_more task p.model before.book p.statement follows t b k.0 asked within leaf k.1)
cut_once task before m n sheet p a b follows (closed ended h after) (further u so all inside still now) = absurd (not_more task p.model before.book p.statement follows u a h.0 all inside still h.1)
cut_once task before m n sheet p a b follows (closed ended h after) (closed over k now) =
    let one = ends_once task before ended over p.statement p.model a b follows h k in
    (one.0, after ∙ (ap (λ (s : SessionState). without_search s sheet) one.1 ∙ sym now))

sliced_once : (task : Task) (before m n : SessionState) (sheet : ℕ) (p : Prepared) (a b : Answer) → Follows p.model task → Sliced task before sheet p a m → Sliced task before sheet p b n → SameAnswer a b × (m ≡ n)
sliced_once task before m n sheet p a b follows h k = cut_once task before m n sheet p a b follows (cutting task before sheet p a m h) (cutting task before sheet p b n k)

-- what a slice goes on with is one
one_task : (rule : Rule) (before : SessionState) (c : Cut) (p : Prepared) (t u : Task) → Resumes rule before c p t → Resumes rule before c p u → t ≡ u
one_task rule before c p t u (inl h) (inl k) = h.1 ∙ sym k.1
one_task rule before c p t u (inl h) (inr k) = absurd (k.0 h.0)
one_task rule before c p t u (inr h) (inl k) = absurd (h.0 k.0)
one_task rule before c p t u (inr h) (inr k) = h.1 ∙ sym k.1

-- ---- tasks of a session
pub whole_follows : (rule : Rule) (budget : ℕ) (m : Model) → rule ≢ free → IsValid m → Follows m (whole_task rule budget)
whole_follows rule budget m named valid = record { valid = valid; named = named; units = []; trail = stays }

task_follows : (rule : Rule) (search : Opened) (units budget : ℕ) (m : Model) → rule ≢ free → IsValid m → (us : List SearchUnit) → Trail m free us search.state → Follows m (task_from rule search units budget)
task_follows rule search units budget m named valid us trail = record { valid = valid; named = named; units = us; trail = trail }

resumed_follows : (rule : Rule) (before : SessionState) (c : Cut) (p : Prepared) (task : Task) → rule ≢ free → IsValid p.model → HasTrail c.search.model c.search.units c.search.state → Resumes rule before c p task
    → Follows p.model task
resumed_follows rule before c p task named valid has (inl h) =
    subst (λ (t : Task). Follows p.model t) (sym h.1)
    (task_follows rule c.search c.units before.budget p.model named valid has.units (subst (λ (m : Model). Trail m free has.units c.search.state) h.0 has.trail))
resumed_follows rule before c p task named valid has (inr h) =
    subst (λ (t : Task). Follows p.model t) (sym h.1) (task_follows rule (begun p.model) c.units before.budget p.model named valid [] stays)

pub slice_once : (rule : Rule) (before m n : SessionState) (c : Cut) (p : Prepared) (a b : Answer) → rule ≢ free → IsPrepared before.book c.sheet p → HasTrail c.search.model c.search.units c.search.state
    → Slices rule before c p a m → Slices rule before c p b n → SameAnswer a b × (m ≡ n)
slice_once rule before m n c p a b named is has h k =
    let same : h.0 ≡ k.0 = one_task rule before c p h.0 k.0 h.1 k.1 in
    sliced_once k.0 before m n c.sheet p a b (resumed_follows rule before c p k.0 named (model_is_valid before.book c.sheet p is) has k.1)
    (subst (λ (t : Task). Sliced t before c.sheet p a m) same h.2) k.2

-- ---- what is done with the model of a sheet
data Modelled (Act : Prepared → Answer → SessionState → Type 0) (before : SessionState) (sheet : ℕ) (a : Answer) (after : SessionState) : Type 0 where
  without : HasNoModel before.book sheet a → after ≡ before → Modelled Act before sheet a after
  with_one : (p : Prepared) → IsPrepared before.book sheet p → Act p a after → Modelled Act before sheet a after

modelled : (Act : Prepared → Answer → SessionState → Type 0) (before : SessionState) (sheet : ℕ) (a : Answer) (after : SessionState) → WithModel Act before sheet a after → Modelled Act before sheet a after
modelled Act before sheet (answer.Names fault) after h = without h.0 h.1
modelled Act before sheet (answer.Form refusal) after h = without h.0 h.1
modelled Act before sheet (answer.WideRow row) after h = without h.0 h.1
modelled Act before sheet a after h = with_one h.0 h.1 h.2

module _ (Act : Prepared → Answer → SessionState → Type 0) (before m n : SessionState) (sheet : ℕ) (a b : Answer)
    (once : (p : Prepared) → IsPrepared before.book sheet p → Act p a m → Act p b n → SameAnswer a b × (m ≡ n)) where
  act_once : Modelled Act before sheet a m → Modelled Act before sheet b n → SameAnswer a b × (m ≡ n)
  act_once (without h e) (without k f) = (one_without_model before.book sheet a b h k, e ∙ sym f)
  act_once (without h e) (with_one p is k) = absurd (never_both before.book sheet p a is h)
  act_once (with_one p is h) (without k f) = absurd (never_both before.book sheet p b is k)
  act_once (with_one p is h) (with_one q so k) =
      let same : q ≡ p = prepared_is_one before.book sheet q p so is in once p is h (subst (λ (r : Prepared). Act r b n) same k)

  pub with_model_once : WithModel Act before sheet a m → WithModel Act before sheet b n → SameAnswer a b × (m ≡ n)
  with_model_once h k = act_once (modelled Act before sheet a m h) (modelled Act before sheet b n k)
