-- At which line a text stops to be the beginning of a certificate's text.
use Rattle.std.specs.Prelude.{◌≡◌, ◌≢◌, ◌<◌, ◌≤◌, ℕ, zero, suc, if◌then◌else◌, ◌==◌, List, [], ◌∷◌, ◌++◌, take}
use Rattle.certificate_lines.specs.Line.{weight}
use Rattle.certificate_lines.specs.Cert.{Cert, IsCert, IsCertText, cert_lines, cert_text, cert_weight}

-- how many line feeds there are
abbrev pub feeds : List ℕ → ℕ
feeds [] = 0
feeds (b ∷ text) = if b == 10 then suc (feeds text) else feeds text

-- the text up to the end of line n, with its line feed if it has one; lines are counted from 1
abbrev pub head : ℕ → List ℕ → List ℕ
head zero text = []
head (suc n) [] = []
head (suc n) (b ∷ text) = b ∷ (if b == 10 then head n text else head (suc n) text)

-- the greatest weight of a text that is read
abbrev pub most_weight : ℕ
most_weight = 100000

-- a certificate's text begins so, and what is whole of its lines is not too heavy
pub record IsGoodHead (text : List ℕ) : Type 0 where
  pub cert : Cert
  pub rest : List ℕ
  pub is : IsCert cert
  pub begins : text ++ rest ≡ cert_text cert
  pub light : weight (take (feeds text) (cert_lines cert)) ≤ most_weight

-- line n has its line feed, and so far the text is good
pub record IsGoodLine (text : List ℕ) (n : ℕ) : Type 0 where
  pub whole : n ≤ feeds text
  pub good : IsGoodHead (head n text)

-- the text is that of a certificate that is not too heavy
pub record IsReadAs (text : List ℕ) (c : Cert) : Type 0 where
  pub is : IsCert c
  pub spelled : text ≡ cert_text c
  pub light : cert_weight c ≤ most_weight

-- line n is the first that is not good, or is not there; and the text is not read
pub record StopsAt (text : List ℕ) (n : ℕ) : Type 0 where
  pub counted : 0 < n
  pub before : (k : ℕ) → 0 < k → k < n → IsGoodLine text k
  pub here : ¬ (IsGoodLine text n)
  pub unread : (c : Cert) → ¬ (IsReadAs text c)

-- ---- the same in two cases
-- there is a line n: something stands behind the end of the line before
pub record IsThere (text : List ℕ) (n : ℕ) : Type 0 where
  pub before : ℕ
  pub next : n ≡ suc before
  pub more : head before text ≢ text

-- line n is the first with a head that begins no certificate or is too heavy
pub record IsFirstBad (text : List ℕ) (n : ℕ) : Type 0 where
  pub there : IsThere text n
  pub before : (k : ℕ) → 0 < k → k < n → IsGoodHead (head k text)
  pub bad : ¬ (IsGoodHead (head n text))

-- there is no such line, the text ends before its certificate does, and n is the line after its last whole one
pub record EndsEarly (text : List ℕ) (n : ℕ) : Type 0 where
  pub good : (k : ℕ) → 0 < k → IsThere text k → IsGoodHead (head k text)
  pub unfinished : ¬ (IsCertText text)
  pub next : n ≡ suc (feeds text)
