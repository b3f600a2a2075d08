-- Where the rule names a node, a command has one answer and one session after it, and so have the same commands.
use Rattle.std.proofs.Common.{◌≡◌, ◌≢◌, ◌∙◌, List, [], ◌∷◌, Result, Ok, Err, refl, sym, ap, subst}
use Rattle.std.specs.List.{AllZip}
use Rattle.cell_refs.specs.Names.{place_in}
use Rattle.node_pick.specs.Rules.{Rule, free}
use Rattle.session.specs.FromSheetLinearModel.{Prepared}
use Rattle.session.specs.FromSheetSolving.{whole_task}
use Rattle.commands.specs.declared.answer.Answer.{Answer}
use Rattle.commands.specs.declared.answer.Answer.TheVariants as answer
use Rattle.commands.specs.Commands.{Spoken, Set, Clear, Name, Unname, Show, Model as ToModel, Solve, Prices, Begin, Slice, Stop, Budget, Cert, Save, Unknown}
use Rattle.commands.specs.Locating.{cell_named, sheet_named, units_named}
use Rattle.session.specs.Cuts.{Begins, Cut, Slices, cut_of, sheet_to_begin, sheet_to_stop}
use Rattle.session.specs.Edits.{cell_to_set, home_to_name, home_to_unname}
use Rattle.session.specs.Certificates.{TellsCertificate}
use Rattle.session.specs.Prices.{TellsPrices}
use Rattle.session.specs.Solves.{SearchEnds}
use Rattle.session.specs.States.{SessionState, open_search, opened}
use Rattle.session.specs.Steps.{Applies, Does, once_written}
use Rattle.session_laws.specs.Answers.{SameAnswer}
use Rattle.session_laws.specs.Laws.{CommandsAreDetermined, SearchesHaveTrails, StepIsDetermined, StepsBy, none, more}
use Rattle.session_laws.proofs.Cuts.{ends_once, slice_once, whole_follows, with_model_once}
use Rattle.session_laws.proofs.Kept.{steps_keep, trails_are_kept}
use Rattle.session_laws.proofs.Named.{is_open}
use Rattle.session_laws.proofs.Certified.{certified_once}
use Rattle.session_laws.proofs.Prices.{prices_once}
use Rattle.session_laws.proofs.Same.{equal_are_same}
use Rattle.session_laws.proofs.Shown.{models_once, saves_once, shows_once}
use Rattle.session_laws.proofs.Valid.{model_is_valid}

module _ (before m n : SessionState) (a b : Answer) where
  -- one answer, and one session
  abbrev AreOne : Type 0
  AreOne = SameAnswer a b × (m ≡ n)

  equal : (r : Answer) (next : SessionState) → (a ≡ r) × (m ≡ next) → (b ≡ r) × (n ≡ next) → AreOne
  equal r next h k = (equal_are_same a b (h.0 ∙ sym k.0), h.1 ∙ sym k.1)

  does_once : {A : Type 0} (Act : A → Answer → SessionState → Type 0) (x : Result A Answer) → ((y : A) → x ≡ Ok y → Act y a m → Act y b n → AreOne) → Does Act before x a m → Does Act before x b n → AreOne
  does_once Act (Ok y) once h k = once y refl h k
  does_once Act (Err r) once h k = equal r before h k

  module _ (rule : Rule) (named : rule ≢ free) (trails : SearchesHaveTrails before) where
    applies_once : (command : Spoken) → Applies rule before command a m → Applies rule before command b n → AreOne
    applies_once (Set address text) h k = does_once _ (cell_to_set before.book address text) (λ c e d f. equal _ _ d f) h k
    applies_once (Clear address) h k = does_once _ (cell_named before.book.sheets address) (λ c e d f. equal _ _ d f) h k
    applies_once (Name home name text) h k = does_once _ (home_to_name before.book home name text) (λ c e d f. equal _ _ d f) h k
    applies_once (Unname home name) h k = does_once _ (home_to_unname before.book home name) (λ c e d f. equal _ _ d f) h k
    applies_once (Show address) h k = does_once _ (cell_named before.book.sheets address) (λ c e d f. shows_once before m n c a b d f) h k
    applies_once (ToModel name) h k = does_once _ (sheet_named before.book.sheets name) (λ i e d f. (models_once before.book i a b d.0 f.0, d.1 ∙ sym f.1)) h k
    applies_once (Solve name) h k =
        does_once _ (sheet_named before.book.sheets name)
        (λ i e d f. with_model_once (λ (p : Prepared). SearchEnds (whole_task rule before.budget) before p.statement p.model) before m n i a b
        (λ p is. ends_once (whole_task rule before.budget) before m n p.statement p.model a b (whole_follows rule before.budget p.model named (model_is_valid before.book i p is))) d f)
        h k
    applies_once (Prices name) h k =
        does_once _ (sheet_named before.book.sheets name)
        (λ i e d f. with_model_once (TellsPrices before) before m n i a b (λ p is x y. (prices_once p before.budget a b x.0 y.0, x.2 ∙ sym y.2)) d f)
        h k
    applies_once (Cert name) h k =
        does_once _ (sheet_named before.book.sheets name)
        (λ i e d f. with_model_once (TellsCertificate rule before) before m n i a b
        (λ p is x y. (
          certified_once (whole_task rule before.budget) p.model before.book p.statement (whole_follows rule before.budget p.model named (model_is_valid before.book i p is)) a b x.0 y.0,
          x.1 ∙ sym y.1,
        ))
        d f)
        h k
    applies_once (Begin name) h k = does_once _ (sheet_to_begin before name) (λ i e d f. with_model_once (Begins before i) before m n i a b (λ p is x y. equal _ _ x y) d f) h k
    applies_once (Slice name units) h k =
        does_once _ (cut_of before name units)
        (λ (c : Cut) e d f. with_model_once (Slices rule before c) before m n c.sheet a b
        (λ p is. slice_once rule before m n c p a b named is (trails c.sheet c.search (is_open (open_search before) (units_named units) (place_in before.book.sheets name) c e))) d f)
        h k
    applies_once (Stop name) h k = does_once _ (sheet_to_stop before name) (λ i e d f. equal _ _ d f) h k
    applies_once (Budget units) h k = does_once _ (units_named units) (λ c e d f. equal _ _ d f) h k
    applies_once Save h k = saves_once before m n a b h k
    applies_once Unknown h k = equal _ _ h k

-- ---- files that are written
same_saved : (a b : Answer) (s : SessionState) → SameAnswer a b → once_written a s ≡ once_written b s
same_saved (answer.ToSave files) (answer.ToSave others) s h = refl
same_saved (answer.Prices lines) (answer.Prices others) s h = refl
same_saved (answer.Cert c) (answer.Cert d) s h = refl
same_saved (answer.Names fault) (answer.Names other) s h = refl
same_saved (answer.WidePivot path basis leaves enters) (answer.WidePivot steps given out entered) s h = refl
same_saved a b s h = ap (λ (x : Answer). once_written x s) h

pub step_is_determined : StepIsDetermined
step_is_determined rule before m n command a b named trails h k =
    let one = applies_once before h.0 k.0 a b rule named trails command h.1 k.1 in
    (one.0, h.2 ∙ (ap (once_written a) one.1 ∙ (same_saved a b k.0 one.0 ∙ sym k.2)))

-- ---- lists of commands
all_once : (rule : Rule) (before m n : SessionState) (commands : List Spoken) (answers others : List Answer) → rule ≢ free → SearchesHaveTrails before
    → StepsBy rule before commands answers m → StepsBy rule before commands others n → AllZip SameAnswer answers others × (m ≡ n)
all_once rule before m n [] [] [] named trails none none = (tt, refl)
all_once rule before m n (command ∷ commands) (a ∷ answers) (b ∷ others) named trails (more {m = x} step later) (more {m = y} other rest) =
    let one = step_is_determined rule before x y command a b named trails step other in
    let all = all_once rule y m n commands answers others named (steps_keep rule before y command b trails other) (subst (λ (s : SessionState). StepsBy rule s commands answers m) one.1 later) rest in
    ((one.0, all.0), all.1)
all_once rule before m n [] [] (b ∷ others) named trails steps again = elim again [ ]
all_once rule before m n [] (a ∷ answers) others named trails steps again = elim steps [ ]
all_once rule before m n (command ∷ commands) [] others named trails steps again = elim steps [ ]
all_once rule before m n (command ∷ commands) (a ∷ answers) [] named trails steps again = elim again [ ]

pub commands_are_determined : CommandsAreDetermined
commands_are_determined rule book budget m n commands answers others named h k = all_once rule (opened book budget) m n commands answers others named (trails_are_kept.opened book budget) h k
