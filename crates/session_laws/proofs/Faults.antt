-- The names of a sheet have one first fault, and it is told in one way.
use Rattle.std.proofs.Common.{◌≡◌, ◌∙◌, ℕ, refl, sym, ap, subst, arith}
use Rattle.std.specs.Prelude.{Result, Ok, Err}
use Rattle.workbook.specs.State.{State}
use Rattle.solver_names.specs.Answers.{IsTold}
use Rattle.solver_names.specs.Statement.{Statement}
use Rattle.solver_names.specs.Stated.{statement_in}
use Rattle.solver_names.specs.Texts.{name_text}
use Rattle.solver_names.specs.declared.fault.NamesFault.{NamesFault}
use Rattle.solver_names.specs.declared.fault.NamesFault.TheVariants as told
use Rattle.session.specs.FromSheetLinearModel.{HasFault}
use Rattle.session_laws.specs.Answers.{SameFault}

same_error : {A E : Type 0} (r : Result A E) (f g : E) → r ≡ Err f → r ≡ Err g → f ≡ g
same_error r f g e k = cc

not_both : {A E : Type 0} (r : Result A E) (x : A) (f : E) → r ≡ Ok x → r ≡ Err f → ⊥
not_both r x f e k = absurd cc

pub one_fault : (book : State) (sheet : ℕ) (d e : NamesFault) → HasFault book sheet d → HasFault book sheet e → SameFault d e
one_fault book sheet told.Memory e h k = absurd h
one_fault book sheet d told.Memory h k = absurd k
one_fault book sheet told.NoNames told.NoNames h k = refl
one_fault book sheet (told.BadReference s) (told.BadReference t) h k =
    let q = same_error (statement_in book sheet) h.0 k.0 h.1.0 k.1.0 in
    let e = sym h.1.1.1.0 ∙ (q ∙ k.1.1.1.0) in
    let same : h.1.1.0 ≡ k.1.1.0 = cc in
    h.1.1.1.1 ∙ (ap name_text same ∙ sym k.1.1.1.1)
one_fault book sheet (told.MissingPart i) (told.MissingPart j) h k =
    let q = same_error (statement_in book sheet) h.0 k.0 h.1.0 k.1.0 in
    let e = sym h.1.1 ∙ (q ∙ k.1.1) in
    cc
one_fault book sheet (told.BadRelation i s) (told.BadRelation j t) h k =
    let q = same_error (statement_in book sheet) h.0 k.0 h.1.0 k.1.0 in
    let e = sym h.1.1.0 ∙ (q ∙ k.1.1.0) in
    let same : i ≡ j = cc in
    (same, (subst (λ (n : ℕ). IsTold book sheet h.0 (told.BadRelation n s)) same h.1.1).1 ∙ sym k.1.1.1)
one_fault book sheet (told.SizeMismatch i l r) (told.SizeMismatch j m s) h k =
    let q = same_error (statement_in book sheet) h.0 k.0 h.1.0 k.1.0 in
    let e = sym h.1.1 ∙ (q ∙ k.1.1) in
    cc
one_fault book sheet (told.NotDecision i c) (told.NotDecision j d) h k =
    let q = same_error (statement_in book sheet) h.0 k.0 h.1.0 k.1.0 in
    let e = sym h.1.1 ∙ (q ∙ k.1.1) in
    cc
one_fault book sheet (told.BadOption s) (told.BadOption t) h k =
    let q = same_error (statement_in book sheet) h.0 k.0 h.1.0 k.1.0 in
    let e = sym h.1.1.1.0 ∙ (q ∙ k.1.1.1.0) in
    let same : h.1.1.0 ≡ k.1.1.0 = cc in
    h.1.1.1.1 ∙ (ap name_text same ∙ sym k.1.1.1.1)
one_fault book sheet (told.TooManyDecisions i) (told.TooManyDecisions j) h k =
    let q = same_error (statement_in book sheet) h.0 k.0 h.1.0 k.1.0 in
    let e = sym h.1.1 ∙ (q ∙ k.1.1) in
    cc
one_fault book sheet (told.TooManyRows i) (told.TooManyRows j) h k =
    let q = same_error (statement_in book sheet) h.0 k.0 h.1.0 k.1.0 in
    let e = sym h.1.1 ∙ (q ∙ k.1.1) in
    cc
one_fault book sheet d e h k = let q = same_error (statement_in book sheet) h.0 k.0 h.1.0 k.1.0 in absurd (grind arith)

-- names that state something have no fault
pub no_fault : (book : State) (sheet : ℕ) (s : Statement) (e : NamesFault) → statement_in book sheet ≡ Ok s → HasFault book sheet e → ⊥
no_fault book sheet s told.Memory h k = absurd k
no_fault book sheet s e h k = not_both (statement_in book sheet) s k.0 h k.1.0
