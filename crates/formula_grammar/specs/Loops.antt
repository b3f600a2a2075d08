-- Readers of symbols, and loops of them.
use Rattle.std.specs.Prelude.{ℕ, zero, suc, List, length, Option, Some, None}
use Rattle.std.specs.Option.{option_and_then}
use Rattle.formula_grammar.specs.declared.symbol.Symbol.{Symbol}

infixl 10 ◌>>=◌
abbrev pub ◌>>=◌ : {A B : Type 0} → Option A → (A → Option B) → Option B
o >>= f = option_and_then f o

-- what is read, and the symbols after it
abbrev pub Found : Type 0 → Type 0
Found A = Option (A × List Symbol)

abbrev pub Reader : Type 0 → Type 0
Reader A = List Symbol → Found A

-- ---- a loop

-- One turn of a loop stops, fails, or goes on.
pub data Turn (A : Type 0) : Type 0 where
  Stop : Turn A
  Fail : Turn A
  Go : (x : A) (rest : List Symbol) → Turn A

-- goes on with what is read
abbrev pub go_on : {A B : Type 0} → (A → B) → Found A → Turn B
go_on f None = Fail
go_on f (Some x) = Go (f x.0) x.1

abbrev pub take_turn : {A : Type 0} → Turn A → Found A → (A → List Symbol → Found A) → Found A
take_turn Stop stop go = stop
take_turn Fail stop go = None
take_turn (Go x rest) stop go = go x rest

-- at most n turns
unfoldable pub turns : {A : Type 0} → (A → List Symbol → Turn A) → ℕ → A → List Symbol → Found A
turns turn zero x ss = None
turns turn (suc n) x ss = take_turn (turn x ss) (Some (x, ss)) (turns turn n)

-- each turn takes a symbol
unfoldable pub all_turns : {A : Type 0} → (A → List Symbol → Turn A) → A → List Symbol → Found A
all_turns turn x ss = turns turn (suc (length ss)) x ss
