use Rattle.std.proofs.Common.{◌≡◌, ℕ, ◌/◌, ◌<◌, ◌^◌, Bool, rules, FitsSigned, arith}
use Rattle.std.specs.Int.{IsGcd, w128}
use Rattle.std.proofs.lemmas.Int.{to_z-of_z}
use Rattle.frac128.specs.Pairs.{IsNarrowPair, IsSame}
use Rattle.frac128.specs.Signed.{signed}
use Rattle.frac128.proofs.Lowest.{divisor_positive, lowest_narrow, lowest_same, lowest_wide}
use Rattle.frac128.proofs.parts.Parts.in_lowest_terms.Goals as goal
use Rattle.frac128.proofs.parts.Parts.in_lowest_terms.Goals.{else-n-lt-LIMIT-via-then-n-lt-LIMIT+else-d-lt-LIMIT, else-n-lt-LIMIT-via-else-n-lt-LIMIT}

-- both numbers divided by what they share
lowest : (negative : Bool) (n d g m e : ℕ) → 0 < d → IsGcd n d g → m ≡ n / g → e ≡ d / g → m < 2 ^ 127 → e < 2 ^ 127
    → IsNarrowPair (record { num = signed negative m; den = e }) × IsSame (record { num = signed negative m; den = e }) (record { num = signed negative n; den = d })
lowest negative n d g m e h p em ed a b = rw (em, ed) (lowest_narrow negative n d g h p (rw em at a) (rw ed at b), lowest_same negative n d g p)

pub quotient-n-requires : goal.quotient-n-requires
quotient-n-requires c = divisor_positive _ _ _ c.requires c.gcd-common.ensures.gcd

pub quotient-d-requires : goal.quotient-d-requires
quotient-d-requires c = divisor_positive _ _ _ c.requires c.gcd-common.ensures.gcd

pub invariant_of-result : goal.invariant_of-result
invariant_of-result c =
    let f : FitsSigned w128 c.with_sign.result = search rules in
    rw (to_z-of_z w128 c.with_sign.result f, c.with_sign.ensures)
    (lowest c.args.negative _ _ _ _ _ c.requires c.gcd-common.ensures.gcd c.quotient-n.ensures c.quotient-d.ensures c.if-n-lt-LIMIT.true c.if-d-lt-LIMIT.true).0

pub returns-then-d-lt-LIMIT : goal.returns-then-d-lt-LIMIT
returns-then-d-lt-LIMIT c =
    let f : FitsSigned w128 c.with_sign.result = search rules in
    rw (to_z-of_z w128 c.with_sign.result f, c.with_sign.ensures)
    (lowest c.args.negative _ _ _ _ _ c.requires c.gcd-common.ensures.gcd c.quotient-n.ensures c.quotient-d.ensures c.if-n-lt-LIMIT.true c.if-d-lt-LIMIT.true)

pub returns-else-n-lt-LIMIT : goal.returns-else-n-lt-LIMIT
returns-else-n-lt-LIMIT c h =
    let small = lowest_wide _ _ _ _ c.requires c.gcd-common.ensures.gcd h in
    elim c.else-n-lt-LIMIT.branch [
      | else-n-lt-LIMIT-via-then-n-lt-LIMIT+else-d-lt-LIMIT w ↦ omega arith
      | else-n-lt-LIMIT-via-else-n-lt-LIMIT w ↦ omega arith
    ]
