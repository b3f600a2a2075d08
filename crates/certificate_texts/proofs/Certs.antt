-- The certificate of all lines that are read.
use Rattle.std.proofs.Common.{◌≡◌, ◌∙◌, ℕ, Ok, Err, List, [], ◌∷◌, ◌++◌, Option, Some, None, refl, sym, ap, ap₂, subst, append-nil}
use Rattle.std.specs.List.{AllByRecursion}
use Rattle.std.proofs.lemmas.List.{append_cancel_right}
use Rattle.fractions.specs.Rational.{ℚ}
use Rattle.opt_certificate.specs.Certificate.{Tree, Claim, optimal, infeasible, unbounded}
use Rattle.opt_certificate.specs.Claims.{claim_of}
use Rattle.opt_certificate.specs.Nodes.{IsListed}
use Rattle.certificate_lines.specs.Line.{Line, end_line, IsLine}
use Rattle.certificate_lines.specs.Cert.{Cert, HasParts, IsCert, cert_lines, claim_lines, node_lines, tree_lines}
use Rattle.certificate_lines.specs.Machine.{at_end}
use Rattle.certificate_lines.specs.Reading.{ReadTo}
use Rattle.certificate_lines.proofs.Cuts.{all-back, all-front, heads, tails}
use Rattle.certificate_lines.proofs.Machines.{read_cert}
use Rattle.certificate_lines.proofs.Stops.{reading_is_right}
use Rattle.certificate_texts.specs.Answers.{AnswerOf, CertIsOf, IsWhole, LinesRead, value_in}
use Rattle.certificate_texts.specs.Drafts.{claim_in, head_lines, lines_of, nodes_lines, state_of}
use Rattle.certificate_texts.specs.Forests.{lines_of_trees, trees_in}
use Rattle.certificate_texts.specs.declared.cert.Cert.{Cert as Made}
use Rattle.certificate_texts.specs.declared.cert.CertFault.{CertFault}
use Rattle.certificate_texts.specs.declared.cert.CertFault.TheVariants as faults
use Rattle.certificate_texts.specs.declared.draft.Draft.{Draft}
use Rattle.certificate_texts.specs.declared.draft.Kind.{Kind}
use Rattle.certificate_texts.specs.declared.draft.Kind.TheVariants as kinds
use Rattle.certificate_texts.proofs.Progress.{whole_lines}

-- a value is told of an optimal point alone
abbrev IsTold : Claim → Option ℚ → Type 0
IsTold (optimal a) v = Unit {0}
IsTold infeasible v = v ≡ None
IsTold (unbounded a d) v = v ≡ None

record SameParts (claim : Claim) (v : Option ℚ) (nodes : List Line) (claim' : Claim) (tree : Option Tree) (v' : Option ℚ) : Type 0 where
  claim_is : claim ≡ claim'
  value_is : v ≡ v'
  nodes_are : nodes ≡ lines_of_trees (trees_in tree)

tree_nodes : (t : Tree) (nodes : List Line) → nodes ++ (end_line ∷ []) ≡ tree_lines t ++ (end_line ∷ []) → nodes ≡ lines_of_trees (trees_in (Some t))
tree_nodes t nodes e = append_cancel_right nodes (tree_lines t) (end_line ∷ []) e ∙ sym (append-nil (tree_lines t))

same_parts : (claim : Claim) (v : Option ℚ) (nodes : List Line) (claim' : Claim) (tree : Option Tree) (v' : Option ℚ) → IsTold claim v → HasParts claim' tree v'
    → claim_lines claim v ++ (nodes ++ (end_line ∷ [])) ≡ claim_lines claim' v' ++ (node_lines claim' tree ++ (end_line ∷ [])) → SameParts claim v nodes claim' tree v'
same_parts (optimal a) v nodes (optimal b) None v' t h e = let q = h.1 in absurd (cc q)
same_parts (optimal a) v nodes (optimal b) (Some k) v' t h e =
    let first = heads _ _ _ _ e in
    let second = heads _ _ _ _ (tails _ _ _ _ e) in
    let value : v ≡ v' = cc first in
    let point : a ≡ b = cc second in
    record { claim_is = ap optimal point; value_is = value; nodes_are = tree_nodes k nodes (tails _ _ _ _ (tails _ _ _ _ e)) }
same_parts (optimal a) v nodes infeasible tree v' t h e = let q = heads _ _ _ _ e in absurd (cc q)
same_parts (optimal a) v nodes (unbounded b d) tree v' t h e = let q = heads _ _ _ _ e in absurd (cc q)
same_parts infeasible v nodes (optimal b) tree v' t h e = let q = heads _ _ _ _ e in absurd (cc q)
same_parts infeasible v nodes infeasible None v' t h e = let q = h.0.1 in absurd (cc q)
same_parts infeasible v nodes infeasible (Some k) v' t h e = record { claim_is = refl; value_is = t ∙ sym h.1; nodes_are = tree_nodes k nodes (tails _ _ _ _ e) }
same_parts infeasible v nodes (unbounded b d) tree v' t h e = let q = heads _ _ _ _ e in absurd (cc q)
same_parts (unbounded a d) v nodes (optimal b) tree v' t h e = let q = heads _ _ _ _ e in absurd (cc q)
same_parts (unbounded a d) v nodes infeasible tree v' t h e = let q = heads _ _ _ _ e in absurd (cc q)
same_parts (unbounded a d) v nodes (unbounded b f) tree v' t h e =
    let second = heads _ _ _ _ (tails _ _ _ _ e) in
    let third = heads _ _ _ _ (tails _ _ _ _ (tails _ _ _ _ e)) in
    let point : a ≡ b = cc second in
    let ray : d ≡ f = cc third in
    record {
      claim_is = ap₂ unbounded point ray;
      value_is = t ∙ sym h.1;
      nodes_are = append_cancel_right nodes [] (end_line ∷ []) (tails _ _ _ _ (tails _ _ _ _ (tails _ _ _ _ e))) ∙ ap (λ o. lines_of_trees (trees_in o)) (sym h.0);
    }

told : (k : Kind) (a d : List ℚ) (v : Option ℚ) → IsTold (claim_in k a d) (value_in k v)
told kinds.Optimal a d v = tt
told kinds.Infeasible a d v = refl
told kinds.Unbounded a d v = refl

same_head : (k : Kind) (a d : List ℚ) (v : Option ℚ) → claim_lines (claim_in k a d) v ≡ claim_lines (claim_in k a d) (value_in k v)
same_head kinds.Optimal a d v = refl
same_head kinds.Infeasible a d v = refl
same_head kinds.Unbounded a d v = refl

-- what is read: the certificate, and that its parts are those
pub record WholeCert (d : Draft) : Type 0 where
  pub cert : Cert
  pub is : IsCert cert
  pub lines : lines_of d ≡ cert_lines cert
  pub claim : claim_in d.kind d.point.items d.ray.items ≡ cert.claim
  pub value : value_in d.kind d.value ≡ cert.value
  pub nodes : nodes_lines d ≡ lines_of_trees (trees_in cert.tree)

pub whole_cert : (d : Draft) → IsWhole d → WholeCert d
whole_cert d w =
    let r = read_cert (lines_of d) w.lines w.read in
    let c = r.0 in
    let head = same_head d.kind d.point.items d.ray.items d.value in
    let p = same_parts (claim_in d.kind d.point.items d.ray.items) (value_in d.kind d.value) (nodes_lines d) c.claim c.tree c.value (told d.kind d.point.items d.ray.items d.value) r.1.0.parts
    (ap (λ x. x ++ (nodes_lines d ++ (end_line ∷ []))) (sym head) ∙ sym (whole_lines d w.state) ∙ r.1.1) in
    record { cert = c; is = r.1.0; lines = r.1.1; claim = p.claim_is; value = p.value_is; nodes = p.nodes_are }

-- its nodes are lines
pub nodes_are_lines : (d : Draft) → IsWhole d → AllByRecursion IsLine (nodes_lines d)
nodes_are_lines d w =
    let all : AllByRecursion IsLine (head_lines d ++ (nodes_lines d ++ (end_line ∷ []))) = subst (AllByRecursion IsLine) (whole_lines d w.state) w.lines in
    all-front IsLine (nodes_lines d) (end_line ∷ []) (all-back IsLine (head_lines d) (nodes_lines d ++ (end_line ∷ [])) all)

pub cert_made : (d : Draft) (made : Made) (w : IsWhole d) → IsListed made.tree (whole_cert d w).cert.tree → claim_of made.claim ≡ claim_in d.kind d.point.items d.ray.items → made.value ≡ value_in d.kind d.value → CertIsOf d made
cert_made d made w t c v =
    let r = whole_cert d w in
    record { cert = r.cert; is = r.is; lines = r.lines; made_is = record { tree = t; claim = c ∙ r.claim; value = v ∙ r.value } }

-- ---- what is answered
pub answered : (text : List ℕ) (d : Draft) (made : Made) → ReadTo text (lines_of d) at_end [] × (state_of d.state ≡ at_end) → CertIsOf d made → AnswerOf text (Ok made)
answered text d made r c = (c.cert, (c.made_is, reading_is_right.read text c.cert (lines_of d) c.is c.lines r.0))

pub stopped : (text : List ℕ) (fault : CertFault) (d : Draft) → LinesRead text (Err fault) d → AnswerOf text (Err fault)
stopped text (faults.Line n) d h = reading_is_right.stuck text n h
stopped text faults.Memory d h = tt
