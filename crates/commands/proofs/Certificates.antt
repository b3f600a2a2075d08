-- What is said of a certificate.
use Rattle.std.proofs.Common.{◌≡◌, ◌∙◌, ℕ, false, List, [], ◌∷◌, ◌++◌, refl, ap, append_assoc}
use Rattle.std.specs.Prelude.{Option, bytes_eq, codes, map, take}
use Rattle.std.specs.List.{join_with_byte}
use Rattle.fractions.specs.Rational.{ℚ}
use Rattle.opt_certificate.specs.Certificate.{Claim, Tree, optimal, infeasible, unbounded}
use Rattle.opt_certificate.specs.Claims.{claim_of}
use Rattle.opt_certificate.specs.Nodes.{IsListed, Node}
use Rattle.certificate_lines.specs.Line.{Line, claim_line, end_line, line_text, point_line, ray_line, said_infeasible, said_optimal, said_unbounded, text_of}
use Rattle.certificate_lines.specs.Cert.{cert_text, claim_lines}
use Rattle.certificate_texts.specs.Nodes.{listed_lines, listed_text}
use Rattle.certificate_texts.specs.declared.cert.Cert.{Cert}
use Rattle.certificate_texts.proofs.Writing.{listed-text}
use Rattle.commands.specs.Certificates.{certificate_text}
use Rattle.commands.specs.Printing.{CertificatesArePrinted}
use Rattle.commands.proofs.Saying.{begun}

-- ---- line ends
-- lines with ends between them and one more behind the last have an end each
between : (l : Line) (lines : List Line) → join_with_byte 10 (map line_text (l ∷ lines)) ++ codes "\n" ≡ text_of (l ∷ lines)
between l [] = refl
between l (m ∷ lines) =
    append_assoc (line_text l) (10 ∷ join_with_byte 10 (map line_text (m ∷ lines))) (codes "\n") ∙ ap (λ t. line_text l ++ (10 ∷ t)) (between m lines)

-- all lines of a claim, a value and nodes
abbrev all_lines : Claim → Option ℚ → List Node → List Line
all_lines claim v nodes = claim_lines claim v ++ (listed_lines claim nodes ++ (end_line ∷ []))

whole : (claim : Claim) (v : Option ℚ) (nodes : List Node) → join_with_byte 10 (map line_text (all_lines claim v nodes)) ++ codes "\n" ≡ listed_text claim v nodes
whole (optimal a) v nodes = between (claim_line (said_optimal v)) (point_line a ∷ (listed_lines (optimal a) nodes ++ (end_line ∷ [])))
whole infeasible v nodes = between (claim_line said_infeasible) (listed_lines infeasible nodes ++ (end_line ∷ []))
whole (unbounded a d) v nodes = between (claim_line said_unbounded) (point_line a ∷ ray_line d ∷ (end_line ∷ []))

-- with its last line end it is the text of the tree's certificate
pub with_end : (c : Cert) (tree : Option Tree) → IsListed c.tree tree
    → certificate_text c ++ codes "\n" ≡ cert_text (record { tree = tree; claim = claim_of c.claim; value = c.value })
with_end c tree listed = whole (claim_of c.claim) c.value c.tree ∙ listed-text c.tree tree (claim_of c.claim) c.value listed

pub printed_whole : CertificatesArePrinted
printed_whole sheets c tree listed = with_end c tree listed

-- ---- refusals
begins_otherwise : (claim : Claim) (v : Option ℚ) (nodes : List Node)
    → bytes_eq (take 8 (join_with_byte 10 (map line_text (all_lines claim v nodes)))) (codes "refused ") ≡ false
begins_otherwise (optimal a) v nodes = refl
begins_otherwise infeasible v nodes =
    let all = begun (line_text (claim_line said_infeasible)) (map line_text (listed_lines infeasible nodes ++ (end_line ∷ []))) in
    ap (λ l. bytes_eq (take 8 l) (codes "refused ")) all.1
begins_otherwise (unbounded a d) v nodes = refl

-- a certificate doesn't begin with the word `refused`
pub not_refused : (c : Cert) → bytes_eq (take 8 (certificate_text c)) (codes "refused ") ≡ false
not_refused c = begins_otherwise (claim_of c.claim) c.value c.tree
