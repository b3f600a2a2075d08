-- What is seen of a session with a counter: the session's state.
use Rattle.std.specs.Prelude.{refl}
use Rattle.std.specs.Coded.{Coded, code_by}
use Rattle.session.specs.States.{SessionState}

pub record CountedState : Type 0 where
  pub state : SessionState

abbrev pub counted_code : Coded SessionState → Coded CountedState
counted_code code = code_by SessionState code (λ c. c.state) (λ s. record { state = s }) (λ _. refl)
