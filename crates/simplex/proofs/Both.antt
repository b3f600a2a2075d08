-- A fact for either outcome.
use Rattle.std.specs.Prelude.{Result, Ok, Err, IfOk, IfErr, MatchResult}

pub both : {A B : Type 0} (P : A → Type 0) (Q : B → Type 0) (r : Result A B) → IfOk r P → IfErr r Q → MatchResult r P Q
both P Q (Ok a) p q = p
both P Q (Err e) p q = q
