-- An infix operator on what it takes of its two arguments.
use Rattle.std.proofs.Common.{◌≡◌, subst, Result}
use Rattle.std.specs.Prelude.{IfOk}
use Rattle.calculations.specs.Calculation.{exact}
use Rattle.cell_refs.specs.declared.op.Op.{Op}
use Rattle.sheet_model.specs.Answers.{Answers}
use Rattle.sheet_model.specs.Operators.{infix_of, infix_value, on_pairs, single}
use Rattle.sheet_model.specs.declared.grid.Arg.{Arg}
use Rattle.sheet_model.specs.declared.stop.FuncStop.{FuncStop}
use Rattle.sheet_model.proofs.Calculated.{answer-exact}

-- what an infix operator ensures
pub record InfixAnswer (operator : Op) (a b : Arg) (r : Result Arg FuncStop) : Type 0 where
  pub exact : IfOk r (λ answer. answer ≡ exact (infix_of operator a b))
  pub narrow : Answers (infix_of operator a b) r

-- an answer on what is taken of the arguments is one on the arguments
pub infix-answer : (operator : Op) (a b s t : Arg) (r : Result Arg FuncStop) → s ≡ single a → t ≡ single b → Answers (on_pairs (infix_value operator) s t) r → InfixAnswer operator a b r
infix-answer operator a b s t r e f h =
    let narrow : Answers (infix_of operator a b) r =
    subst (λ u. Answers (on_pairs (infix_value operator) u (single b)) r) e (subst (λ v. Answers (on_pairs (infix_value operator) s v) r) f h) in
    record { exact = answer-exact (infix_of operator a b) r narrow; narrow = narrow }
