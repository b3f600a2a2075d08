-- Each status comes exactly where its cause stands.
use Rattle.std.proofs.Common.{◌≡◌, ◌≢◌, ℕ, List, Option, Some, None, IfSome, refl, sym, ap, subst, inl, inr, ◌∙◌}
use Rattle.std.specs.Prelude.{Result, Ok, Err, ◌⊎◌}
use Rattle.solver_io.specs.Files.{Files}
use Rattle.certificate_lines.specs.Cert.{Cert}
use Rattle.certificate_lines.specs.Heads.{StopsAt}
use Rattle.certificate_lines.proofs.Heads.{one_answer}
use Rattle.certificate_texts.specs.declared.cert.Cert.{Cert as Made}
use Rattle.workbook.specs.State.{State}
use Rattle.optcheck_cli.specs.Completeness.{CanBeChecked, EndsExactly, EndsForTold, IsComplete, IsEarly, IsJudged, NothingFailed}
use Rattle.optcheck_cli.specs.Findings.{Finds, texts_in}
use Rattle.optcheck_cli.specs.Headline.{IsCounted}
use Rattle.optcheck_cli.specs.Inner.{EndsJudging, FindsMade, Says}
use Rattle.optcheck_cli.specs.Lines.{status_of, usage_line}
use Rattle.optcheck_cli.specs.Outside.{Outside}
use Rattle.optcheck_cli.specs.Words.{Asked}
use Rattle.optcheck_cli.specs.declared.halt.End.TheVariants as end
use Rattle.optcheck_cli.specs.declared.halt.Halt.{Halt}
use Rattle.optcheck_cli.specs.declared.halt.Halt.TheVariants as halt
use Rattle.optcheck_cli.specs.declared.status.CheckStatus.{CheckStatus}
use Rattle.optcheck_cli.specs.declared.status.CheckStatus.TheVariants as status
use Rattle.optcheck_cli.proofs.Running.{two_halts}

-- ---- one thing is found
-- the files' texts are none for this cause, or the certificate's text is no certificate's
abbrev Halted : Asked → Files → Halt → Type 0
Halted asked files cause =
    (texts_in asked files ≡ Err cause)
    ⊎ ((line : ℕ) × (pair : State × List ℕ) × (texts_in asked files ≡ Ok pair) × (status_of cause ≡ status.BadInput) × StopsAt pair.1 line)

is_halted : (asked : Asked) (files : Files) (cause : Halt) → Finds asked files (Err cause) → Halted asked files cause
is_halted asked files (halt.Files cause) h = inl h
is_halted asked files halt.Missing h = inl h
is_halted asked files (halt.NotUtf8 place) h = inl h
is_halted asked files (halt.Line line) h = inr (line, (h.book, h.text), h.held, refl, h.stops)

second : (a b : State × List ℕ) (x : Result (State × List ℕ) Halt) → x ≡ Ok a → x ≡ Ok b → a.1 ≡ b.1
second a b x e f = let same : Ok a ≡ Ok b = sym e ∙ f in let pair : a ≡ b = cc same in ap (λ (p : State × List ℕ). p.1) pair

never_both : (asked : Asked) (files : Files) (book : State) (cert : Cert) (cause : Halt) → Finds asked files (Ok (book, cert)) → Finds asked files (Err cause) → ⊥
never_both asked files book cert cause h k = elim (is_halted asked files cause k) [
  | inl none ↦ let both : Ok (book, h.text) ≡ Err cause = sym h.held ∙ none in cc both
  | inr (line, pair, held, bad, stops) ↦
      one_answer.either h.text cert line h.read (subst (λ (text : List ℕ). StopsAt text line) (second pair (book, h.text) (texts_in asked files) held h.held) stops)
]

same_status : (asked : Asked) (files : Files) (cause other : Halt) → Finds asked files (Err cause) → Finds asked files (Err other) → status_of cause ≡ status_of other
same_status asked files cause other h k = elim (is_halted asked files cause h) [
  | inl none ↦ elim (is_halted asked files other k) [
    | inl too ↦ let e : Err cause ≡ Err other = sym none ∙ too in let is : cause ≡ other = cc e in ap status_of is
    | inr (line, pair, held, bad, stops) ↦ let both : Ok pair ≡ Err cause = sym held ∙ none in absurd (cc both)
  ]
  | inr (line, pair, held, bad, stops) ↦ elim (is_halted asked files other k) [
    | inl none ↦ let both : Ok pair ≡ Err other = sym held ∙ none in absurd (cc both)
    | inr (n, q, there, worse, ends) ↦ bad ∙ sym worse
  ]
]

-- ---- the status
pub judged_or_early : (r : CheckStatus) → EndsJudging r → (IsJudged r ⊎ IsEarly r) × ((r ≢ status.Usage) × (r ≢ status.ReadFault))
judged_or_early status.Yes h = (inl tt, ((λ e. cc e), λ e. cc e))
judged_or_early status.No h = (inl tt, ((λ e. cc e), λ e. cc e))
judged_or_early status.WriteFault h = (inr tt, ((λ e. cc e), λ e. cc e))
judged_or_early status.Memory h = (inr tt, ((λ e. cc e), λ e. cc e))
judged_or_early status.Usage h = absurd h
judged_or_early status.ReadFault h = absurd h
judged_or_early status.Limit h = absurd h
judged_or_early status.BadInput h = absurd h

-- the line of a verdict was said
pub ends_judging : (said : CheckStatus) (line : List ℕ) (before after : Option (List (List ℕ))) (r : CheckStatus) → IsJudged said → Says line said before after r → EndsJudging r
ends_judging said line before after status.Yes judged says = tt
ends_judging said line before after status.No judged says = tt
ends_judging said line before after status.WriteFault judged says = tt
ends_judging said line before after status.Memory judged says = tt
ends_judging said line before after status.ReadFault judged says = says
ends_judging said line before after status.Usage judged says = subst IsJudged says.0 judged
ends_judging said line before after status.Limit judged says = subst IsJudged says.0 judged
ends_judging said line before after status.BadInput judged says = subst IsJudged says.0 judged

pub judged_exactly : (asked : Asked) (content : Option Files) (book : State) (made : Made) (r : CheckStatus) → IfSome content (λ files. FindsMade asked files (Ok (book, made))) → EndsJudging r → EndsForTold asked content r
judged_exactly asked None book made r found h = (judged_or_early r h).1.0
judged_exactly asked (Some files) book made r (cert, (is, found)) h =
    (record { judged = λ _ _ _. (judged_or_early r h).0; halted = λ cause other. absurd (never_both asked files book cert cause found other) }, (judged_or_early r h).1.0)

-- a line that says why the run ends was said
abbrev HaltedOrEarly : Halt → CheckStatus → Type 0
HaltedOrEarly cause r = ((r ≡ status_of cause) ⊎ IsEarly r) × ((r ≢ status.Usage) × (r ≢ status.ReadFault))

pub halted_or_early : (cause : Halt) (line : List ℕ) (before after : Option (List (List ℕ))) (r : CheckStatus) → Says line (status_of cause) before after r → HaltedOrEarly cause r
halted_or_early cause line before after status.Yes says = (inl (sym says.0), ((λ e. cc e), λ e. cc e))
halted_or_early cause line before after status.No says = (inl (sym says.0), ((λ e. cc e), λ e. cc e))
halted_or_early cause line before after status.Limit says = (inl (sym says.0), ((λ e. cc e), λ e. cc e))
halted_or_early cause line before after status.BadInput says = (inl (sym says.0), ((λ e. cc e), λ e. cc e))
halted_or_early cause line before after status.WriteFault says = (inr tt, ((λ e. cc e), λ e. cc e))
halted_or_early cause line before after status.Memory says = (inr tt, ((λ e. cc e), λ e. cc e))
halted_or_early cause line before after status.ReadFault says = absurd says
halted_or_early cause line before after status.Usage says = elim (two_halts cause) [
  | inl e ↦ absurd (cc (sym e ∙ says.0))
  | inr e ↦ absurd (cc (sym e ∙ says.0))
]

by_halt : (asked : Asked) (content : Option Files) (cause : Halt) (r : CheckStatus) → IfSome content (λ files. FindsMade asked files (Err (end.Halted cause))) → HaltedOrEarly cause r → EndsForTold asked content r
by_halt asked None cause r found h = h.1.0
by_halt asked (Some files) cause r found (inl is, other) = (
  record {
    judged = λ book cert f. absurd (never_both asked files book cert cause f found);
    halted = λ c f. inl (is ∙ same_status asked files cause c found f);
  },
  other.0,
)
by_halt asked (Some files) cause r found (inr early, other) = (record { judged = λ _ _ _. inr early; halted = λ _ _. inr early }, other.0)

pub halted_exactly : (asked : Asked) (content : Option Files) (cause : Halt) (line : List ℕ) (before after : Option (List (List ℕ))) (r : CheckStatus) → IfSome content (λ files. FindsMade asked files (Err (end.Halted cause)))
    → Says line (status_of cause) before after r → EndsForTold asked content r
halted_exactly asked content cause line before after r found says = by_halt asked content cause r found (halted_or_early cause line before after r says)

pub early_exactly : (asked : Asked) (content : Option Files) (r : CheckStatus) → IsEarly r → r ≢ status.Usage → EndsForTold asked content r
early_exactly asked None r early other = other
early_exactly asked (Some files) r early other = (record { judged = λ _ _ _. inr early; halted = λ _ _. inr early }, other)

pub usage_exactly : (before after : Option (List (List ℕ))) (r : CheckStatus) → Says usage_line status.Usage before after r → (r ≡ status.Usage) ⊎ IsEarly r
usage_exactly before after status.Usage says = inl refl
usage_exactly before after status.WriteFault says = inr tt
usage_exactly before after status.Memory says = inr tt
usage_exactly before after status.Yes says = absurd (cc says.0)
usage_exactly before after status.No says = absurd (cc says.0)
usage_exactly before after status.Limit says = absurd (cc says.0)
usage_exactly before after status.BadInput says = absurd (cc says.0)
usage_exactly before after status.ReadFault says = absurd says

pub memory_exactly : (asked : Option Asked) (content : Option Files) → EndsExactly asked content status.Memory
memory_exactly None content = inr tt
memory_exactly (Some asked) content = early_exactly asked content status.Memory tt (λ e. cc e)

-- ---- runs of which no call failed
module _ (before after : Outside) (nothing : NothingFailed before after) where
  early : (ends : CheckStatus) → IsCounted before after ends → IsEarly ends → ends ≡ status.Memory
  early status.ReadFault counts h = absurd (nothing.reads (counts.read_fault refl))
  early status.WriteFault counts h = absurd (nothing.writes (counts.write_fault refl))
  early status.Memory counts h = refl
  early _ counts h = absurd h

  whole : (ends : CheckStatus) → IsCounted before after ends → IsJudged ends ⊎ IsEarly ends → IsJudged ends ⊎ (ends ≡ status.Memory)
  whole ends counts (inl h) = inl h
  whole ends counts (inr h) = inr (early ends counts h)

by_files : (asked : Asked) (before : Outside) (ends : CheckStatus) (can : CanBeChecked asked before) → EndsForTold asked before.files ends → IsJudged ends ⊎ IsEarly ends
by_files asked before ends can h =
    let told : EndsForTold asked (Some can.files) ends = subst (λ (files : Option Files). EndsForTold asked files ends) can.files_are h in
    told.0.judged can.book can.cert can.finds

pub is_complete : (asked : Option Asked) (before after : Outside) (ends : CheckStatus) → EndsExactly asked before.files ends → IsCounted before after ends → IsComplete asked before after ends
is_complete None before after ends exactly counts = tt
is_complete (Some asked) before after ends exactly counts = λ can nothing. whole before after nothing ends counts (by_files asked before ends can exactly)
