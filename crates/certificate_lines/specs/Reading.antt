-- Reading a text line by line: how far it is read, and where no line may follow.
use Rattle.std.specs.Prelude.{◌≡◌, ◌≢◌, ◌≤◌, ◌+◌, ℕ, suc, List, [], ◌∷◌, ◌++◌, length, Some, IsSome}
use Rattle.std.specs.List.{AllByRecursion}
use Rattle.certificate_lines.specs.Line.{Line, IsLine, line_text, line_weight, text_of, weight}
use Rattle.certificate_lines.specs.Cert.{Cert, IsCert, cert_lines}
use Rattle.certificate_lines.specs.Machine.{State, at_claim, at_end, step, run}
use Rattle.certificate_lines.specs.Heads.{most_weight, IsReadAs, StopsAt}

-- the text begins with these lines, which lead to the state and are not too heavy, and the rest stands behind them
pub record ReadTo (text : List ℕ) (lines : List Line) (state : State) (rest : List ℕ) : Type 0 where
  pub are : AllByRecursion IsLine lines
  pub state_is : run lines (Some at_claim) ≡ Some state
  pub light : weight lines ≤ most_weight
  pub joined : text ≡ text_of lines ++ rest

-- the line can stand behind lines of the weight w that lead to the state
pub record MayFollow (state : State) (w : ℕ) (l : Line) : Type 0 where
  pub is : IsLine l
  pub next : IsSome (step state l)
  pub light : w + line_weight l ≤ most_weight

-- line n is none that may follow those before it, and the text does not end there as a certificate
pub record IsStuck (text : List ℕ) (n : ℕ) : Type 0 where
  pub lines : List Line
  pub state : State
  pub rest : List ℕ
  pub read : ReadTo text lines state rest
  pub number : n ≡ suc (length lines)
  pub unfinished : state ≡ at_end → rest ≢ []
  pub no_line : (l : Line) (more : List ℕ) → MayFollow state (weight lines) l → rest ≢ line_text l ++ (10 ∷ more)

-- reading line by line stops where the text stops, and what is read to the end is a certificate's text
pub record ReadingIsRight : Type 0 where
  pub stuck : (text : List ℕ) (n : ℕ) → IsStuck text n → StopsAt text n
  pub read : (text : List ℕ) (c : Cert) (lines : List Line) → IsCert c → lines ≡ cert_lines c → ReadTo text lines at_end [] → IsReadAs text c
