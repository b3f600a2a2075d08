use Rattle.std.proofs.Common.{◌≡◌, ◌∙◌, ◌∷◌, ◌++◌, ap₂, subst}
use Rattle.std.specs.Prelude.{codes, IfSome}
use Rattle.frac128.specs.Narrow.{IsNarrow}
use Rattle.certificate_lines.specs.Cutting.{ReadAs}
use Rattle.certificate_lines.specs.Line.{said_optimal, spaced, value_words}
use Rattle.certificate_texts.proofs.Lines.{agrees_not, differs, differs_not, is_claim, no_claim}
use Rattle.certificate_texts.proofs.Reading.{behind_start}
use Rattle.certificate_texts.proofs.claim.read_claim.Goals as goal

pub returns-then-ne : goal.returns-then-ne
returns-then-ne c =
    let t = behind_start 32 c.args.text.now c.cut.result.0.now c.cut.result.1.now c.requires c.in-len1-up.len_at_least c.cut.ensures.joined in
    no_claim c.args.most c.args.text.now c.cut.result.0.now c.cut.result.1.now t c.cut.ensures.lacks c.cut.ensures.starts
    (differs c.args.text.now c.as_bytes.result.now (codes " infeasible") c.eq.result c.eq.ensures c.if-eq.false c.as_bytes.ensures.value)
    (differs c.args.text.now c.as_bytes-2.result.now (codes " unbounded") c.eq-2.result c.eq-2.ensures c.if-eq-2.false c.as_bytes-2.ensures.value)
    (λ v h w r. differs_not c.cut.result.0.now c.as_bytes-3.result.now (codes "optimal") c.ne.result c.ne.ensures c.if-ne.true c.as_bytes-3.ensures.value w)

pub returns-in_default-2 : goal.returns-in_default-2
returns-in_default-2 c =
    let t = behind_start 32 c.args.text.now c.cut.result.0.now c.cut.result.1.now c.requires c.in-len1-up.len_at_least c.cut.ensures.joined in
    no_claim c.args.most c.args.text.now c.cut.result.0.now c.cut.result.1.now t c.cut.ensures.lacks c.cut.ensures.starts
    (differs c.args.text.now c.as_bytes.result.now (codes " infeasible") c.eq.result c.eq.ensures c.if-eq.false c.as_bytes.ensures.value)
    (differs c.args.text.now c.as_bytes-2.result.now (codes " unbounded") c.eq-2.result c.eq-2.ensures c.if-eq-2.false c.as_bytes-2.ensures.value)
    (λ v h w r. (subst (λ o. ReadAs (λ v. IfSome v IsNarrow) (λ v. spaced (value_words v)) o c.cut.result.1.now) c.in_default-2.is c.in_ok-value.ensures) v h r)

pub returns : goal.returns
returns c =
    let t = behind_start 32 c.args.text.now c.cut.result.0.now c.cut.result.1.now c.requires c.in-len1-up.len_at_least c.cut.ensures.joined in
    let r = subst (λ o. ReadAs (λ v. IfSome v IsNarrow) (λ v. spaced (value_words v)) o c.cut.result.1.now) c.in-Some.is c.in_ok-value.ensures in
    let word : c.cut.result.0.now ≡ codes "optimal" = agrees_not c.cut.result.0.now c.as_bytes-3.result.now (codes "optimal") c.ne.result c.ne.ensures c.if-ne.false c.as_bytes-3.ensures.value in
    is_claim c.args.most (said_optimal c.in-Some.value) c.args.text.now r.0 (t ∙ ap₂ (λ w x. 32 ∷ (w ++ x)) word r.1)
