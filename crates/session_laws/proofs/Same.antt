-- Equal answers tell the same.
use Rattle.std.proofs.Common.{◌≡◌, refl, sym, subst}
use Rattle.solver_names.specs.declared.fault.NamesFault.{NamesFault}
use Rattle.solver_names.specs.declared.fault.NamesFault.TheVariants as told
use Rattle.commands.specs.declared.answer.Answer.{Answer}
use Rattle.commands.specs.declared.answer.Answer.TheVariants as answer
use Rattle.session_laws.specs.Answers.{SameAnswer, SameFault}

same_fault_itself : (f : NamesFault) → SameFault f f
same_fault_itself (told.BadReference text) = refl
same_fault_itself (told.BadRelation k text) = (refl, refl)
same_fault_itself (told.BadOption text) = refl
same_fault_itself f = refl

same_itself : (a : Answer) → SameAnswer a a
same_itself (answer.ToSave files) = refl
same_itself (answer.Prices lines) = (refl, refl)
same_itself (answer.Cert c) = (refl, refl, refl)
same_itself (answer.Names fault) = same_fault_itself fault
same_itself (answer.WidePivot path basis leaves enters) = (refl, refl, refl, refl)
same_itself a = refl

pub equal_are_same : (a b : Answer) → a ≡ b → SameAnswer a b
equal_are_same a b e = subst (λ (c : Answer). SameAnswer a c) e (same_itself a)

-- answers that are equal to two that tell the same
pub same_by : (a b c d : Answer) → a ≡ c → b ≡ d → SameAnswer c d → SameAnswer a b
same_by a b c d e f h = subst (λ (x : Answer). SameAnswer x b) (sym e) (subst (λ (x : Answer). SameAnswer c x) (sym f) h)
