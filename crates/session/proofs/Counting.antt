-- A slice that goes further counts on where the model is the same, and from 0 where it isn't.
use Rattle.std.proofs.Common.{◌≡◌, ◌≢◌, ◌<◌, ◌+◌, ◌∙◌, inl, inr, ℕ, zero, suc, List, [], ◌∷◌, length, Option, Some, None, Result, Ok, ap, subst, sym, arith, get_or}
use Rattle.std.specs.Prelude.{IfOk}
use Rattle.std.proofs.lemmas.List.{get_or-set_same}
use Rattle.linear_models.specs.Model.{Model}
use Rattle.node_pick.specs.Rules.{Rule}
use Rattle.sheet_linear_model.specs.Prepared.{Prepared}
use Rattle.kept_book.specs.FromSheetSolving.{Opened, Searched, Task, begun, led_to, task_from, total}
use Rattle.commands.specs.declared.answer.Answer.{Answer}
use Rattle.commands.specs.declared.answer.Answer.TheVariants as answer
use Rattle.commands.specs.Commands.{Spoken, Slice}
use Rattle.session.specs.Cuts.{Cut, Resumes, Slices, cut, cut_of}
use Rattle.session.specs.Laws.{Counts, CountsOn, SlicesCountOn}
use Rattle.session.specs.Solves.{WithModel}
use Rattle.session.specs.States.{SessionState, open_search}
use Rattle.session.specs.Steps.{Applies, Does}
use Rattle.session.proofs.Cuts.{cuts_there, same_search}
use Rattle.session.proofs.Said.{if_ok_map}

-- ---- places
there : {A : Type 0} (xs : List (Option A)) (i : ℕ) (x : A) → get_or xs i None ≡ Some x → i < length xs
there [] i x h = absurd cc
there (y ∷ xs) zero x h = omega arith
there (y ∷ xs) (suc i) x h = let l = there xs i x h in omega (arith, l)

-- ---- tasks
resumed : (rule : Rule) (before : SessionState) (c : Cut) (p : Prepared) (task : Task) → Resumes rule before c p task → c.search.model ≡ p.model → task ≡ task_from rule c.search c.units before.budget
resumed rule before c p task (inl r) e = r.1
resumed rule before c p task (inr r) e = absurd (r.0 e)

anew : (rule : Rule) (before : SessionState) (c : Cut) (p : Prepared) (task : Task) → Resumes rule before c p task → c.search.model ≢ p.model → task ≡ task_from rule (begun p.model) c.units before.budget
anew rule before c p task (inl r) e = absurd (e r.0)
anew rule before c p task (inr r) e = r.1

all_units : (task like : Task) (m : Model) (t : Searched task m) (n : ℕ) → n ≡ total t → length t.units ≡ task.units → task ≡ like → n ≡ like.spent + like.units
all_units task like m t n e f g = e ∙ (ap (λ (l : ℕ). task.spent + l) f ∙ ap (λ (k : Task). k.spent + k.units) g)

from_none : (n units : ℕ) → n ≡ 0 + units → n ≡ units
from_none n units e = omega (arith, e)

-- ---- slices
counts : (rule : Rule) (before after : SessionState) (sheet units n : ℕ) (old new : Opened) (p : Prepared) → Slices rule before (cut sheet units old) p (answer.More n) after → open_search before sheet ≡ Some old
    → open_search after sheet ≡ Some new → CountsOn old new units n
counts rule before after sheet units n old new p s was now =
    let t = s.2.0 in
    let here : open_search after sheet ≡ Some (led_to t) =
    ap (λ (k : SessionState). open_search k sheet) s.2.5 ∙ get_or-set_same before.searches sheet (Some (led_to t)) None (there before.searches sheet old was) in
    let is : led_to t ≡ new = same_search (open_search after sheet) (led_to t) new here now in
    let model_is : p.model ≡ new.model = ap (λ (o : Opened). o.model) is in
    record {
      same = λ e. all_units s.0 (task_from rule old units before.budget) p.model t n s.2.1 s.2.2 (resumed rule before (cut sheet units old) p s.0 s.1 (e ∙ sym model_is));
      other = λ e. from_none n units (all_units s.0 (task_from rule (begun p.model) units before.budget) p.model t n s.2.1 s.2.2 (anew rule before (cut sheet units old) p s.0 s.1 (λ f. e (f ∙ model_is))));
      count_is = s.2.1 ∙ ap (λ (o : Opened). o.units) is;
    }

does_ok : {A : Type 0} (Act : A → Answer → SessionState → Type 0) (before : SessionState) (x : Result A Answer) (y : A) (a : Answer) (after : SessionState) → x ≡ Ok y → Does Act before x a after → Act y a after
does_ok Act before x y a after e d = subst (λ (x : Result _ Answer). Does Act before x a after) e d

counted : (rule : Rule) (before after : SessionState) (name text : List ℕ) (n : ℕ) → Applies rule before (Slice name text) (answer.More n) after → Counts before (Slice name text) (answer.More n) after
counted rule before after name text n h sheet units old new place number was now =
    let w = does_ok (λ (c : Cut). WithModel (Slices rule before c) before c.sheet) before (cut_of before name text) (cut sheet units old) (answer.More n) after
    (cuts_there before name text sheet units old place number was) h in
    counts rule before after sheet units n old new w.0 w.2 was now

-- after a command
all_counted : (rule : Rule) (before after : SessionState) (command : Spoken) (a : Answer) → Applies rule before command a after → Counts before command a after
all_counted rule before after (Slice name text) (answer.More n) h = counted rule before after name text n h
all_counted rule before after (Slice name text) _ h = tt
all_counted rule before after _ a h = tt

pub all_count : {E : Type 0} (rule : Rule) (before after : SessionState) (command : Spoken) (r : Result Answer E) → IfOk r (λ a. Applies rule before command a after) → IfOk r (λ a. Counts before command a after)
all_count rule before after command r h = if_ok_map r (λ (a : Answer). Applies rule before command a after) (λ (a : Answer). Counts before command a after) (λ a w. all_counted rule before after command a w) h

pub slices_count_on : SlicesCountOn
slices_count_on rule before after (Slice name text) (answer.More n) step = λ sheet units old new place number was now.
    counted rule before step.0 name text n step.1 sheet units old new place number was (sym (ap (λ (s : SessionState). open_search s sheet) step.2) ∙ now)
slices_count_on rule before after (Slice name text) _ step = tt
slices_count_on rule before after _ a step = tt
