-- What is true of certificates as texts.
use Rattle.std.specs.Prelude.{◌≡◌, ◌↔◌, ◌⊎◌, ◌≤◌, ℕ, List, ◌++◌, Some, IsSome}
use Rattle.std.specs.List.{AllByRecursion}
use Rattle.certificate_lines.specs.Line.{Line, IsLine, text_of}
use Rattle.certificate_lines.specs.Cert.{Cert, IsCert, cert_lines, cert_text, cert_weight}
use Rattle.certificate_lines.specs.Machine.{at_claim, at_end, run}
use Rattle.certificate_lines.specs.Heads.{feeds, head, most_weight, IsReadAs, StopsAt, IsFirstBad, EndsEarly}

-- no text is that of two certificates
abbrev pub TextsAreOne : Type 0
TextsAreOne = (c d : Cert) → IsCert c → IsCert d → cert_text c ≡ cert_text d → c ≡ d

-- a certificate begins with these lines
pub record Begins (ls : List Line) : Type 0 where
  pub cert : Cert
  pub is : IsCert cert
  pub rest : List Line
  pub lines : ls ++ rest ≡ cert_lines cert

-- lines are read to some state exactly where a certificate begins with them, and to the end exactly where they are one's
pub record LinesAreRead : Type 0 where
  pub begun : (ls : List Line) → AllByRecursion IsLine ls → IsSome (run ls (Some at_claim)) ↔ Begins ls
  pub ended : (ls : List Line) → AllByRecursion IsLine ls → (run ls (Some at_claim) ≡ Some at_end) ↔ ((c : Cert) × (IsCert c × (ls ≡ cert_lines c)))

-- a certificate's text begins so
pub record BeginsText (text : List ℕ) : Type 0 where
  pub cert : Cert
  pub is : IsCert cert
  pub rest : List ℕ
  pub begins : text ++ rest ≡ cert_text cert

-- the text is that of lines that are read to some state
pub record IsRead (text : List ℕ) : Type 0 where
  pub lines : List Line
  pub are : AllByRecursion IsLine lines
  pub read : IsSome (run lines (Some at_claim))
  pub spelled : text ≡ text_of lines

-- the text up to a line feed begins a certificate's exactly where it is that of lines that are read to some state
abbrev pub HeadsAreRead : Type 0
HeadsAreRead = (text : List ℕ) (n : ℕ) → n ≤ feeds text → BeginsText (head n text) ↔ IsRead (head n text)

-- a text is read as one certificate, or stops at one line, and never both
pub record OneAnswer : Type 0 where
  pub cert : (text : List ℕ) (c d : Cert) → IsReadAs text c → IsReadAs text d → c ≡ d
  pub line : (text : List ℕ) (n m : ℕ) → StopsAt text n → StopsAt text m → n ≡ m
  pub either : (text : List ℕ) (c : Cert) (n : ℕ) → IsReadAs text c → ¬ (StopsAt text n)

-- the line at which a text stops is that of the two cases
pub record StopsInTwoCases : Type 0 where
  pub bad : (text : List ℕ) (n : ℕ) → IsFirstBad text n → StopsAt text n
  pub early : (text : List ℕ) (n : ℕ) → EndsEarly text n → StopsAt text n
  pub neither : (text : List ℕ) (n : ℕ) → StopsAt text n → ¬ (¬ (IsFirstBad text n ⊎ EndsEarly text n))

-- the text of a certificate that is not too heavy is read as that certificate, as no other, and stops nowhere
pub record IsReadBack (c : Cert) : Type 0 where
  pub read : IsReadAs (cert_text c) c
  pub alone : (d : Cert) → IsReadAs (cert_text c) d → d ≡ c
  pub whole : (n : ℕ) → ¬ (StopsAt (cert_text c) n)

abbrev pub TextsAreReadBack : Type 0
TextsAreReadBack = (c : Cert) → IsCert c → cert_weight c ≤ most_weight → IsReadBack c
