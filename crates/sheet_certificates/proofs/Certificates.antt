-- The certificate of a search that has ended, and what it means of the sheet.
use Rattle.std.proofs.Common.{◌≡◌, ◌≢◌, ◌<◌, ◌∙◌, ℕ, refl, sym, ap, subst, length, Bool, false, List, Option, Some, Result, Ok, Err}
use Rattle.std.specs.Prelude.{IfOk}
use Rattle.std.proofs.lemmas.Result.{IfOk-weaker}
use Rattle.memory.specs.declared.Memory.{Memory}
use Rattle.linear_models.specs.Model.{Model}
use Rattle.opt_certificate.specs.Certificate.{Claim, Tree}
use Rattle.opt_certificate.specs.Checks.{Checked}
use Rattle.opt_certificate.specs.Claims.{claim_of}
use Rattle.opt_certificate.specs.Nodes.{IsListed, Node}
use Rattle.opt_certificate.specs.declared.checking.CheckStop.{CheckStop}
use Rattle.opt_certificate.specs.declared.checking.Claim.{Claim as Claimed}
use Rattle.certificate_texts.specs.declared.cert.Cert.{Cert}
use Rattle.searches.specs.Answers as answers
use Rattle.searches.specs.Trails as trails
use Rattle.search_certificates.specs.Trees.{IsTreeOf, claim_of_answer}
use Rattle.search_certificates.specs.Weights.{weight_of}
use Rattle.search_trees.specs.Trees.{TreeMade, most_weight}
use Rattle.search_trees.specs.declared.stop.TreeStop.TheVariants as stops
use Rattle.branch_bound.specs.Ends.{IsAnswerOf}
use Rattle.branch_bound.specs.Searches.{HasEnded, Held}
use Rattle.branch_bound.specs.declared.progress.Progress.{Progress}
use Rattle.branch_bound.specs.declared.progress.Progress.TheVariants as progress
use Rattle.branch_bound.specs.declared.progress.SearchStop.{SearchStop}
use Rattle.branch_bound.specs.declared.progress.SearchStop.TheVariants as stop
use Rattle.commands.specs.Lines.{CanBeSaid}
use Rattle.commands.specs.declared.answer.Answer.{Answer}
use Rattle.commands.specs.declared.answer.Answer.TheVariants as answer
use Rattle.workbook.specs.State.{State}
use Rattle.solver_names.specs.Statement.{Statement}
use Rattle.sheet_solving.specs.FromSheetProblems.{ModelIsTheSheet}
use Rattle.sheet_solving.specs.FromStatementLaws.{IsWhole}
use Rattle.sheet_solving.specs.Inner.{Answered, ComesTo, Runs, TellsStop, answer_in, opened_of}
use Rattle.sheet_solving.specs.Searches.{Opened, Task}
use Rattle.sheet_solving.proofs.Meaning.{best_of}
use Rattle.sheet_finding.proofs.FoundEnds.{stands_said, stop_slices}
use Rattle.sheet_certificates.specs.Certified.{AnswersCertificate, HasTreeOf, IsSheetCertificate, IsTooHeavy, IsTrueOf}
use Rattle.sheet_certificates.specs.Inner.{IsClaimed, Shows}

-- ---- a search that has ended
pub never_more : (s : Held) (end : Progress) → IsAnswerOf s end → end ≢ progress.More
never_more s end h = λ e. subst (IsAnswerOf s) e h

pub has_ended : (s : Held) (end : Progress) → IsAnswerOf s end → HasEnded s
has_ended s (progress.Optimal point value) h = h.ended
has_ended s progress.Infeasible h = h.ended
has_ended s (progress.Unbounded point direction) h = h.ended
has_ended s progress.More h = absurd h

-- ---- its tree
module _
    (held : Held)
    (nodes : List Node)
    (made : (a : answers.Answer) → answers.Says held.model held.state a → TreeMade held.model held.state a (Ok nodes))
    (accepted : (a : answers.Answer) (tree : Option Tree) (r : Result Bool CheckStop) → answers.Says held.model held.state a → IsListed nodes tree → Checked held.model tree (claim_of_answer a) r → r ≢ Ok false)
    (s : Statement)
    (c : Cert)
    (is : c.tree ≡ nodes) where
  tree_of : (a : answers.Answer) → answers.Says held.model held.state a → claim_of c.claim ≡ claim_of_answer a → HasTreeOf held.model held.state a c
  tree_of a says claims =
      let t = made a says in
      record {
        tree = t.0;
        is_tree = t.1.is_tree;
        listed = subst (λ (ns : List Node). IsListed ns t.0) (sym is) t.2;
        light = t.3;
        claim = claims;
        accepted = λ r checked. accepted a t.0 r says t.2 (subst (λ (k : Claim). Checked held.model t.0 k r) claims checked);
      }

  pub shows_cert : (end : Progress) → IsAnswerOf held end → IsClaimed s end c.claim c.value → Shows s held end (answer.Cert c)
  shows_cert (progress.Optimal point value) h w =
      (answers.optimal point.items value, refl, tree_of (answers.optimal point.items value) h.says (ap claim_of w.0), w)
  shows_cert progress.Infeasible h w = (answers.infeasible, refl, tree_of answers.infeasible h.says (ap claim_of w.0), w)
  shows_cert (progress.Unbounded point direction) h w =
      (answers.unbounded point.items direction.items, refl, tree_of (answers.unbounded point.items direction.items) h.says (ap claim_of w.0), w)
  shows_cert progress.More h w = absurd h

-- a tree of the search weighs so much, and that is too much
abbrev IsHeavy : ℕ → answers.Answer → Model → trails.State → Type 0
IsHeavy weight a m s = (t : Tree) × IsTreeOf m s a (Some t) × (weight ≡ weight_of m m.bounds t) × (most_weight < weight)

module _
    (held : Held)
    (weight : ℕ)
    (made : (a : answers.Answer) → answers.Says held.model held.state a → TreeMade held.model held.state a (Err (stops.TooLong weight)))
    (s : Statement) where
  heavy_tree : (a : answers.Answer) → answers.Says held.model held.state a → IsHeavy weight a held.model held.state
  heavy_tree a says =
      let t = made a says in
      (t.0, t.1.is_tree, t.2, t.3)

  pub shows_limit : (end : Progress) → IsAnswerOf held end → Shows s held end (answer.CertLimit weight)
  shows_limit (progress.Optimal point value) h = (answers.optimal point.items value, refl, heavy_tree (answers.optimal point.items value) h.says)
  shows_limit progress.Infeasible h = (answers.infeasible, refl, heavy_tree answers.infeasible h.says)
  shows_limit (progress.Unbounded point direction) h =
      (answers.unbounded point.items direction.items, refl, heavy_tree (answers.unbounded point.items direction.items) h.says)
  shows_limit progress.More h = absurd h

-- ---- what it means of the sheet
-- what is so of one answer of an end is so of the other
by_end : (P : answers.Answer → Type 0) (a b : answers.Answer) → Some a ≡ Some b → P b → P a
by_end P a b e h =
    let same : b ≡ a = cc in
    subst P same h

module _ (task : Task) (book : State) (s : Statement) (m : Model) (held : Held) where
  -- what is so where the search stands is so where its units have led
  moved : (P : Model → trails.State → Type 0) (a : answers.Answer) (found : Answered task m (opened_of held) a) → P held.model held.state → P m found.search.state
  moved P a found h =
      subst (λ (s : trails.State). P m s) (ap (λ (o : Opened). o.state) found.led) (subst (λ (m : Model). P m held.state) (ap (λ (o : Opened). o.model) found.led) h)

  certified : (a b : answers.Answer) (c : Cert) → Answered task m (opened_of held) a → Some a ≡ Some b → HasTreeOf held.model held.state b c → IsTrueOf book s (claim_of c.claim) c.value → IsSheetCertificate task book s m c
  certified a b c found e tree true_of = record {
    search = found.search;
    answer = a;
    ends = found.ends;
    has_tree = moved (λ (m : Model) (s : trails.State). HasTreeOf m s a c) a found (by_end (λ (a : answers.Answer). HasTreeOf held.model held.state a c) a b e tree);
    is_true = true_of;
  }

  cert_certifies : (end : Progress) (c : Cert) → ModelIsTheSheet book s m → ComesTo task m (opened_of held) (answer_in end) → Shows s held end (answer.Cert c) → IsSheetCertificate task book s m c
  cert_certifies (progress.Optimal point value) c same h w =
      let best = best_of book s m point.items value same h.is_true in
      certified (answers.optimal point.items value) w.0 c h w.1 w.2
      (subst (λ (k : Claimed). IsTrueOf book s (claim_of k) c.value) (sym w.3.0) (best.optimal, best.worth ∙ sym w.3.1))
  cert_certifies progress.Infeasible c same h w =
      certified answers.infeasible w.0 c h w.1 w.2
      (subst (λ (k : Claimed). IsTrueOf book s (claim_of k) c.value) (sym w.3.0) ((same.answers.infeasible).1 h.is_true, w.3.1))
  cert_certifies (progress.Unbounded point direction) c same h w =
      certified (answers.unbounded point.items direction.items) w.0 c h w.1 w.2
      (subst (λ (k : Claimed). IsTrueOf book s (claim_of k) c.value) (sym w.3.0) ((same.answers.unbounded).1 h.is_true.1.1, w.3.1))
  cert_certifies progress.More c same h w = absurd w.3

  too_large : (a b : answers.Answer) (weight : ℕ) → Answered task m (opened_of held) a → Some a ≡ Some b → IsHeavy weight b held.model held.state → IsTooHeavy task m weight
  too_large a b weight found e heavy =
      let t = moved (IsHeavy weight a) a found (by_end (λ (a : answers.Answer). IsHeavy weight a held.model held.state) a b e heavy) in
      record { search = found.search; answer = a; ends = found.ends; tree = t.0; is_tree = t.1; weight_is = t.2; heavy = t.3 }

  limit_certifies : (end : Progress) (weight : ℕ) → ComesTo task m (opened_of held) (answer_in end) → Shows s held end (answer.CertLimit weight) → IsTooHeavy task m weight
  limit_certifies (progress.Optimal point value) weight h w = too_large (answers.optimal point.items value) w.0 weight h w.1 w.2
  limit_certifies progress.Infeasible weight h w = too_large answers.infeasible w.0 weight h w.1 w.2
  limit_certifies (progress.Unbounded point direction) weight h w = too_large (answers.unbounded point.items direction.items) w.0 weight h w.1 w.2
  limit_certifies progress.More weight h w = let e = w.1 in absurd cc

  end_certifies : (end : Progress) (told : Answer) → ModelIsTheSheet book s m → ComesTo task m (opened_of held) (answer_in end) → Shows s held end told → AnswersCertificate task book s m told
  end_certifies end (answer.Cert c) same h w = cert_certifies end c same h w
  end_certifies end (answer.CertLimit weight) same h w = limit_certifies end weight h w
  end_certifies end _ same h w = absurd w

-- no cell is in it
end_said : (sheets : List (List ℕ)) (s : Statement) (held : Held) (end : Progress) (told : Answer) → Shows s held end told → CanBeSaid sheets told
end_said sheets s held end (answer.Cert c) w = tt
end_said sheets s held end (answer.CertLimit weight) w = tt
end_said sheets s held end _ w = absurd w

-- ---- a search that stops
stop_certifies : (task : Task) (book : State) (s : Statement) (m : Model) (o : Opened) (e : SearchStop) (told : Answer) → Runs task m o (Err e) → TellsStop s.decisions e told → AnswersCertificate task book s m told
stop_certifies task book s m o (stop.WidePivot path basis leaves enters) (answer.WidePivot steps now_basis now_leaves now_enters) h w =
    stop_slices task book s m o (stop.WidePivot path basis leaves enters) (answer.WidePivot steps now_basis now_leaves now_enters) h w
stop_certifies task book s m o (stop.WidePivot path basis leaves enters) _ h w = absurd w
stop_certifies task book s m o (stop.Budget n) (answer.Budget units) h w = stop_slices task book s m o (stop.Budget n) (answer.Budget units) h w
stop_certifies task book s m o (stop.Budget n) _ h w = absurd w
stop_certifies task book s m o stop.Memory told h w = absurd w

-- ---- the same where there is memory to tell it
module _ (task : Task) (s : Statement) (m : Model) (r : Result Answer Memory) where
  pub all_certified : (held : Held) (end : Progress) → ComesTo task m (opened_of held) (answer_in end) → IfOk r (Shows s held end)
      → IfOk r (λ told. (book : State) → ModelIsTheSheet book s m → AnswersCertificate task book s m told)
  all_certified held end h w =
      IfOk-weaker r (Shows s held end) (λ (told : Answer). (book : State) → ModelIsTheSheet book s m → AnswersCertificate task book s m told)
      (λ (told : Answer) (w : Shows s held end told). λ book same. end_certifies task book s m held end told same h w) w

  pub all_stops_certified : (o : Opened) (e : SearchStop) → Runs task m o (Err e) → IfOk r (TellsStop s.decisions e)
      → IfOk r (λ told. (book : State) → ModelIsTheSheet book s m → AnswersCertificate task book s m told)
  all_stops_certified o e h w =
      IfOk-weaker r (TellsStop s.decisions e) (λ (told : Answer). (book : State) → ModelIsTheSheet book s m → AnswersCertificate task book s m told)
      (λ (told : Answer) (w : TellsStop s.decisions e told). λ book same. stop_certifies task book s m o e told h w) w

  pub all_stops_said : (o : Opened) (e : SearchStop) → Runs task m o (Err e) → IfOk r (TellsStop s.decisions e)
      → IfOk r (λ told. (book : State) → IsWhole book s → length m.whole ≡ length s.decisions → CanBeSaid book.sheets told)
  all_stops_said o e h w =
      IfOk-weaker r (TellsStop s.decisions e) (λ (told : Answer). (book : State) → IsWhole book s → length m.whole ≡ length s.decisions → CanBeSaid book.sheets told)
      (λ (told : Answer) (w : TellsStop s.decisions e told). λ book whole count. stands_said task book s m o e told count whole h w) w

pub all_said : (s : Statement) (m : Model) (r : Result Answer Memory) (held : Held) (end : Progress) → IfOk r (Shows s held end)
    → IfOk r (λ told. (book : State) → IsWhole book s → length m.whole ≡ length s.decisions → CanBeSaid book.sheets told)
all_said s m r held end w =
    IfOk-weaker r (Shows s held end) (λ (told : Answer). (book : State) → IsWhole book s → length m.whole ≡ length s.decisions → CanBeSaid book.sheets told)
    (λ (told : Answer) (w : Shows s held end told). λ book whole count. end_said book.sheets s held end told w) w
