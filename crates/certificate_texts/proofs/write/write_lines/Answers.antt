use Rattle.std.proofs.Common.{◌∙◌, ◌++◌, All, map, sym, ap, subst, None}
use Rattle.std.proofs.lemmas.List.Elements.{All-map}
use Rattle.frac128.specs.Narrow.{IsNarrow}
use Rattle.std.specs.Prelude.{string_bytes}
use Rattle.opt_certificate.specs.Certificate.{optimal, infeasible}
use Rattle.opt_certificate.specs.Claims.{claim_of}
use Rattle.opt_certificate.specs.Trees.{node_of}
use Rattle.certificate_lines.specs.Cert.{claim_lines}
use Rattle.certificate_texts.specs.Fits.{IsFit, NodeFits}
use Rattle.certificate_texts.specs.Nodes.{listed_text, node_line}
use Rattle.certificate_texts.proofs.Writing.{lines_written}
use Rattle.certificate_texts.proofs.write.write_lines.Goals as goal

pub returns-in_ok-push_str-in-Optimal-clause-text : goal.returns-in_ok-push_str-in-Optimal-clause-text
returns-in_ok-push_str-in-Optimal-clause-text c =
    lines_written (claim_lines (optimal c.deref.result.now) c.args.value) (map node_line (map node_of c.args.nodes.now)) (string_bytes c.args.to.now) _ _ _
    c.in_ok-write_optimal-in-Optimal.ensures.text c.in_ok-write_nodes-in-Optimal.ensures.text c.in_ok-push_str-in-Optimal.ensures.bytes
    ∙ ap (λ xs. string_bytes c.args.to.now ++ listed_text (optimal xs) c.args.value (map node_of c.args.nodes.now)) c.deref.ensures.value
    ∙ ap (λ cl. string_bytes c.args.to.now ++ listed_text (claim_of cl) c.args.value (map node_of c.args.nodes.now)) (sym c.in-Optimal.is)

pub returns-in_ok-push_str-in-Infeasible-2-clause-text : goal.returns-in_ok-push_str-in-Infeasible-2-clause-text
returns-in_ok-push_str-in-Infeasible-2-clause-text c =
    lines_written (claim_lines infeasible None) (map node_line (map node_of c.args.nodes.now)) (string_bytes c.args.to.now) _ _ _
    c.in_ok-push_str-in-Infeasible.ensures.bytes c.in_ok-write_nodes-in-Infeasible.ensures.text c.in_ok-push_str-in-Infeasible-2.ensures.bytes
    ∙ ap (λ cl. string_bytes c.args.to.now ++ listed_text (claim_of cl) c.args.value (map node_of c.args.nodes.now)) (sym c.in-Infeasible.is)

pub returns-in_ok-push_str-in-Optimal-clause-fits : goal.returns-in_ok-push_str-in-Optimal-clause-fits
returns-in_ok-push_str-in-Optimal-clause-fits c =
    subst (λ cl. IsFit (claim_of cl) c.args.value (map node_of c.args.nodes.now)) (sym c.in-Optimal.is) (
      subst (All IsNarrow) c.deref.ensures.value c.in_ok-write_optimal-in-Optimal.ensures.point,
      (c.in_ok-write_optimal-in-Optimal.ensures.value, All-map NodeFits node_of c.args.nodes.now c.in_ok-write_nodes-in-Optimal.ensures.fits),
    )

pub returns-in_ok-push_str-in-Infeasible-2-clause-fits : goal.returns-in_ok-push_str-in-Infeasible-2-clause-fits
returns-in_ok-push_str-in-Infeasible-2-clause-fits c =
    subst (λ cl. IsFit (claim_of cl) c.args.value (map node_of c.args.nodes.now)) (sym c.in-Infeasible.is) (All-map NodeFits node_of c.args.nodes.now c.in_ok-write_nodes-in-Infeasible.ensures.fits)
