-- The lines that the code reads, as those of certificates. No public clause cites this module.
use Rattle.std.specs.Prelude.{◌≡◌, ◌≤◌, ℕ, suc, pos, List}
use Rattle.certificate_lines.specs.Line.{Line, claim_line, point_line, ray_line, split_line, best_line, empty_line, clash_line, end_line, Said, said_optimal, said_infeasible, said_unbounded, IsLine, line_weight, first_word, other_words, spaced, whole_text}
use Rattle.certificate_texts.specs.declared.line.Said.{Said as Claimed}
use Rattle.certificate_texts.specs.declared.line.Said.TheVariants as claims
use Rattle.certificate_texts.specs.declared.line.Line.{Line as OneLine}
use Rattle.certificate_texts.specs.declared.line.Line.TheVariants as lines

-- what is claimed
abbrev pub said_of : Claimed → Said
said_of (claims.Optimal v) = said_optimal v
said_of claims.Infeasible = said_infeasible
said_of claims.Unbounded = said_unbounded

-- the line, with its list of numbers
abbrev pub line_of : OneLine → Line
line_of (lines.Claim s) = claim_line (said_of s)
line_of (lines.Point xs) = point_line xs.items
line_of (lines.Ray xs) = ray_line xs.items
line_of (lines.Split j f) = split_line j f
line_of (lines.Best ys) = best_line ys.items
line_of (lines.Empty ys) = empty_line ys.items
line_of (lines.Clash i j) = clash_line i j
line_of lines.End = end_line

-- a decision, counted from 1
abbrev pub decision_text : ℕ → List ℕ
decision_text j = whole_text (pos (suc j))

-- it can stand in a certificate, and is no leaf of more rows than these
pub record IsLight (most : ℕ) (l : Line) : Type 0 where
  pub is : IsLine l
  pub light : line_weight l ≤ suc most

-- such a line that begins with this word
pub record BeginsWith (word : List ℕ) (most : ℕ) (l : Line) : Type 0 where
  pub is : IsLight most l
  pub first : first_word l ≡ word

-- what stands behind its first word
abbrev pub behind_first : Line → List ℕ
behind_first l = spaced (other_words l)
