use Rattle.std.specs.Prelude.{codes}
use Rattle.certificate_texts.proofs.Lines.{differs, no_line}
use Rattle.certificate_texts.proofs.line.read_line.Goals as goal

pub returns : goal.returns
returns c =
    no_line c.args.most c.args.text.now c.cut.result.0.now c.cut.result.1.now c.cut.ensures.joined c.cut.ensures.lacks c.cut.ensures.starts
    (differs c.cut.result.0.now c.as_bytes.result.now (codes "cert") c.eq.result c.eq.ensures c.if-eq.false c.as_bytes.ensures.value)
    (differs c.cut.result.0.now c.as_bytes-2.result.now (codes "point") c.eq-2.result c.eq-2.ensures c.if-eq-2.false c.as_bytes-2.ensures.value)
    (differs c.cut.result.0.now c.as_bytes-3.result.now (codes "ray") c.eq-3.result c.eq-3.ensures c.if-eq-3.false c.as_bytes-3.ensures.value)
    (differs c.cut.result.0.now c.as_bytes-4.result.now (codes "split") c.eq-4.result c.eq-4.ensures c.if-eq-4.false c.as_bytes-4.ensures.value)
    (differs c.cut.result.0.now c.as_bytes-5.result.now (codes "best") c.eq-5.result c.eq-5.ensures c.if-eq-5.false c.as_bytes-5.ensures.value)
    (differs c.cut.result.0.now c.as_bytes-6.result.now (codes "empty") c.eq-6.result c.eq-6.ensures c.if-eq-6.false c.as_bytes-6.ensures.value)
    (differs c.cut.result.0.now c.as_bytes-7.result.now (codes "clash") c.eq-7.result c.eq-7.ensures c.if-eq-7.false c.as_bytes-7.ensures.value)
    (differs c.cut.result.0.now c.as_bytes-8.result.now (codes "end") c.eq-8.result c.eq-8.ensures c.if-eq-8.false c.as_bytes-8.ensures.value)
