-- Command lines and what they ask for, and what a yes says.
use Rattle.std.proofs.Common.{◌≡◌, ◌∷◌, ◌++◌, [], ℕ, List, Option, Some, None, ap, codes, refl, sym}
use Rattle.std.proofs.lemmas.List.{append-nil}
use Rattle.clap.proofs.OnLiterals.{clap_on_literals}
use Rattle.fractions.specs.Rational.{ℚ}
use Rattle.frac128.specs.Printed.{printed}
use Rattle.opt_certificate.specs.Certificate.{Claim, infeasible, optimal, unbounded}
use Rattle.certificate_lines.specs.Line.{Said, said_infeasible, said_optimal, said_unbounded, said_words, spaced}
use Rattle.optcheck_cli.specs.Lines.{yes_line}
use Rattle.optcheck_cli.specs.Words.{Asked, asked_of}

the_files : Asked
the_files = record { named = record { names = codes "n.csv"; sheets = codes "a.csv" ∷ codes "b.csv" ∷ [] }; certificate = codes "c.txt" }

in_order : asked_of (codes "--names" ∷ codes "n.csv" ∷ codes "--cert" ∷ codes "c.txt" ∷ codes "a.csv" ∷ codes "b.csv" ∷ []) ≡ Some the_files
unfolding clap_on_literals the_files
in_order = refl

in_another_order : asked_of (codes "a.csv" ∷ codes "--cert=c.txt" ∷ codes "b.csv" ∷ codes "--names=n.csv" ∷ []) ≡ Some the_files
unfolding clap_on_literals the_files
in_another_order = refl

-- ---- words of another form
no_certificate : asked_of (codes "--names" ∷ codes "n.csv" ∷ codes "a.csv" ∷ []) ≡ None
unfolding clap_on_literals
no_certificate = refl

two_certificates : asked_of (codes "--names=n.csv" ∷ codes "--cert=c.txt" ∷ codes "--cert=d.txt" ∷ codes "a.csv" ∷ []) ≡ None
unfolding clap_on_literals
two_certificates = refl

no_sheet : asked_of (codes "--names=n.csv" ∷ codes "--cert=c.txt" ∷ []) ≡ None
unfolding clap_on_literals
no_sheet = refl

a_budget : asked_of (codes "--names=n.csv" ∷ codes "--cert=c.txt" ∷ codes "--budget=7" ∷ codes "a.csv" ∷ []) ≡ None
unfolding clap_on_literals
a_budget = refl

-- ---- a yes
-- what the first line of a certificate says
abbrev said_of : Claim → Option ℚ → Said
said_of (optimal a) value = said_optimal value
said_of infeasible value = said_infeasible
said_of (unbounded a d) value = said_unbounded

-- behind `yes` stands what the first line says behind `cert`
yes_says_the_claim : (claim : Claim) (value : Option ℚ) → yes_line claim value ≡ codes "yes" ++ (spaced (said_words (said_of claim value)) ++ codes "\n")
yes_says_the_claim (optimal a) None = refl
yes_says_the_claim (optimal a) (Some v) = ap (λ (z : List ℕ). codes "yes optimal " ++ (z ++ codes "\n")) (sym (append-nil (printed v)))
yes_says_the_claim infeasible value = refl
yes_says_the_claim (unbounded a d) value = refl
