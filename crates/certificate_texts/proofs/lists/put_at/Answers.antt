use Rattle.std.proofs.Common.{◌≡◌, ◌∙◌, ◌-◌, ◌+◌, ◌++◌, ◌∷◌, [], suc, ap, ap₂, arith, sym, length, length-append, append-nil, append_assoc, replicate}
use Rattle.std.proofs.lemmas.List.{length-replicate, length_push, replicate_more}
use Rattle.fractions.specs.Rational.{zero_ℚ}
use Rattle.certificate_texts.proofs.lists.put_at.Goals as goal

pub loop-numbers-init : goal.loop-numbers-init
loop-numbers-init c = (0, (sym (append-nil c.args.numbers.now.items), omega (arith, c.requires)))

pub loop-numbers-smaller : goal.loop-numbers-smaller
loop-numbers-smaller c =
    let grown = ap length c.in_ok-push.ensures.items ∙ length_push c.loop-numbers.numbers.items c.zero.result in
    omega (arith, grown, c.loop-numbers-test.true, c.len.ensures, c.loop-numbers.numbers.ok.0)

pub loop-numbers-preserved : goal.loop-numbers-preserved
loop-numbers-preserved c =
    let n = c.loop-numbers.invariant.0 in
    let old = c.args.numbers.now.items in
    let size : length c.loop-numbers.numbers.items ≡ length old + length (replicate n zero_ℚ) = ap length c.loop-numbers.invariant.1.0 ∙ length-append old (replicate n zero_ℚ) in
    let zeros = length-replicate n zero_ℚ in (
      n + 1,
      (
        c.in_ok-push.ensures.items ∙ ap₂ (λ xs x. xs ++ (x ∷ [])) c.loop-numbers.invariant.1.0 c.zero.ensures
            ∙ append_assoc old (replicate n zero_ℚ) (zero_ℚ ∷ []) ∙ ap (λ xs. old ++ xs) (replicate_more n zero_ℚ),
        omega (arith, size, zeros, c.loop-numbers-test.true, c.len.ensures, c.loop-numbers.numbers.ok.0),
      ),
    )

pub returns : goal.returns
returns c =
    let n = c.loop-numbers.invariant.0 in
    let old = c.args.numbers.now.items in
    let size : length c.loop-numbers.numbers.items ≡ length old + length (replicate n zero_ℚ) = ap length c.loop-numbers.invariant.1.0 ∙ length-append old (replicate n zero_ℚ) in
    let zeros = length-replicate n zero_ℚ in
    let last : n ≡ c.args.row - suc (length old) = omega (arith, size, zeros, c.loop-numbers.invariant.1.1, c.loop-numbers-test.false, c.len.ensures, c.loop-numbers.numbers.ok.0) in
    c.in_ok-push-2.ensures.items ∙ ap (λ xs. xs ++ (c.args.number ∷ [])) (c.loop-numbers.invariant.1.0 ∙ ap (λ k. old ++ replicate k zero_ℚ) last)
    ∙ append_assoc old (replicate (c.args.row - suc (length old)) zero_ℚ) (c.args.number ∷ [])
