-- The lines that are printed of a certificate.
use Rattle.std.specs.Prelude.{ℕ, List, [], ◌∷◌, ◌++◌, map}
use Rattle.std.specs.List.{join_with_byte}
use Rattle.opt_certificate.specs.Claims.{claim_of}
use Rattle.certificate_lines.specs.Line.{Line, end_line, line_text}
use Rattle.certificate_lines.specs.Cert.{claim_lines}
use Rattle.certificate_texts.specs.Nodes.{listed_lines}
use Rattle.certificate_texts.specs.declared.cert.Cert.{Cert}

-- those of the claim, those of the tree's nodes, and the last one
abbrev pub printed_lines : Cert → List Line
printed_lines c = claim_lines (claim_of c.claim) c.value ++ (listed_lines (claim_of c.claim) c.tree ++ (end_line ∷ []))

-- with line ends between them
abbrev pub certificate_text : Cert → List ℕ
certificate_text c = join_with_byte 10 (map line_text (printed_lines c))
