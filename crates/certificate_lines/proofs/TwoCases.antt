-- The line at which a text stops is that of the two cases.
use Rattle.std.proofs.Common.{◌≡◌, ◌≢◌, ◌∙◌, ℕ, zero, suc, ◌<◌, ◌≤◌, List, [], ◌∷◌, ◌++◌, length, take, refl, sym, ap, ap₂, subst, append-nil, arith, inl, inr, ⊎_elim}
use Rattle.std.specs.Prelude.{◌⊎◌}
use Rattle.opt_certificate.specs.Certificate.{Claim, optimal, infeasible, unbounded}
use Rattle.certificate_lines.specs.Line.{Line, end_line, weight}
use Rattle.certificate_lines.specs.Cert.{Cert, IsCertText, claim_lines, node_lines, cert_lines, cert_text}
use Rattle.certificate_lines.specs.Heads.{feeds, head, most_weight, IsGoodHead, IsReadAs, StopsAt, IsThere, IsFirstBad, EndsEarly}
use Rattle.certificate_lines.specs.Laws.{StopsInTwoCases}
use Rattle.certificate_lines.proofs.Texts.{goes_on, feeds-lines}
use Rattle.certificate_lines.proofs.Stops.{take-all}
use Rattle.certificate_lines.proofs.Heads.{feeds-head, head-whole, head-front, plus_zero, below_or}

weight-take : (n : ℕ) (ls : List Line) → weight (take n ls) ≤ weight ls
weight-take zero ls = omega arith
weight-take (suc n) [] = omega arith
weight-take (suc n) (l ∷ ls) = omega (arith, weight-take n ls)

-- ---- which lines are there
there_whole : (text : List ℕ) (n : ℕ) → IsThere text n → n ≤ suc (feeds text)
there_whole text n t = ⊎_elim (λ l. absurd (t.more (head-whole t.before text l))) (λ l. omega (arith, l, t.next)) (below_or (feeds text) t.before)

whole_there : (text : List ℕ) (n : ℕ) → 0 < n → n ≤ feeds text → IsThere text n
whole_there text zero p h = absurd (omega arith)
whole_there text (suc n) p h = record { before = n; next = refl; more = λ e. let q = feeds-head n text (omega (arith, h)) in let r = ap feeds e in omega (arith, q, r, h) }

-- a certificate has lines
some_lines : (c : Cert) → length (cert_lines c) ≡ 0 → ⊥
some_lines c e = by_claim c.claim e
  where
    by_claim : (claim : Claim) → length (claim_lines claim c.value ++ (node_lines claim c.tree ++ (end_line ∷ []))) ≡ 0 → ⊥
    by_claim (optimal a) e = omega (arith, e)
    by_claim infeasible e = omega (arith, e)
    by_claim (unbounded a d) e = omega (arith, e)

-- ---- from the cases
bad : (text : List ℕ) (n : ℕ) → IsFirstBad text n → StopsAt text n
bad text n b = record {
  counted = omega (arith, b.there.next);
  before = λ k p l. let t = there_whole text n b.there in record { whole = omega (arith, l, t); good = b.before k p l };
  here = λ g. b.bad g.good;
  unread = λ c r. b.bad (good_front c r);
}
  where
    good_front : (c : Cert) → IsReadAs text c → IsGoodHead (head n text)
    good_front c r =
        let f = head-front n text in
        record { cert = c; rest = f.rest; is = r.is; begins = f.is ∙ r.spelled; light = omega (arith, weight-take (feeds (head n text)) (cert_lines c), r.light) }

early : (text : List ℕ) (n : ℕ) → EndsEarly text n → StopsAt text n
early text n e = record {
  counted = omega (arith, e.next);
  before = λ k p l. let w : k ≤ feeds text = omega (arith, l, e.next) in record { whole = w; good = e.good k p (whole_there text k p w) };
  here = λ g. omega (arith, g.whole, e.next);
  unread = λ c r. e.unfinished (record { cert = c; is = r.is; spelled = r.spelled });
}

-- ---- to the cases
-- a whole certificate that is a good head is read
read_whole : (text : List ℕ) → IsGoodHead text → IsCertText text → (c : Cert) × IsReadAs text c
read_whole text g t =
    let go = goes_on (cert_lines t.cert) (cert_lines g.cert) g.rest t.is.lines g.is.lines (ap (λ x. x ++ g.rest) (sym t.spelled) ∙ g.begins) in
    let count : feeds text ≡ length (cert_lines t.cert) = ap feeds (t.spelled ∙ sym (append-nil (cert_text t.cert))) ∙ feeds-lines (cert_lines t.cert) [] t.is.lines ∙ plus_zero (length (cert_lines t.cert)) in
    let same : take (feeds text) (cert_lines g.cert) ≡ cert_lines t.cert = ap₂ take count (sym go.lines) ∙ take-all (cert_lines t.cert) go.more in
    (t.cert, record { is = t.is; spelled = t.spelled; light = subst (λ x. weight x ≤ most_weight) same g.light })

module _ (text : List ℕ) (n : ℕ) (s : StopsAt text n) (none : ¬ (IsFirstBad text n ⊎ EndsEarly text n)) where
  unfinished : IsGoodHead text → ¬ (IsCertText text)
  unfinished g t = let r = read_whole text g t in s.unread r.0 r.1

  not_whole : n ≤ feeds text → ⊥
  not_whole l = none (inl (record {
    there = whole_there text n s.counted l;
    before = λ k p q. (s.before k p q).good;
    bad = λ g. s.here (record { whole = l; good = g });
  }))

  -- the lines before are whole
  last_line : feeds text < n → n ≡ suc (feeds text)
  last_line l = by_number n refl
    where
      by_number : (m : ℕ) → m ≡ n → n ≡ suc (feeds text)
      by_number zero e = absurd (omega (arith, e, l))
      by_number (suc zero) e = omega (arith, e, l)
      by_number (suc (suc m)) e = let w = (s.before (suc m) (omega arith) (omega (arith, e))).whole in omega (arith, e, l, w)

  -- where something stands behind the last line feed, its head is not good
  past_good : feeds text < n → IsGoodHead text → ⊥
  past_good l g = none (inr (record {
    good = λ k p t. ⊎_elim (λ q. (s.before k p q).good) (λ q. subst IsGoodHead (sym (head-whole k text (omega (arith, q, l)))) g) (below_or k n);
    unfinished = unfinished g;
    next = last_line l;
  }))

  -- something does
  more : feeds text < n → head (feeds text) text ≢ text
  more l e = none (inr (record {
    good = λ k p t. ⊎_elim (λ q. (s.before k p q).good) (λ q. absurd (not_there k q t)) (below_or k n);
    unfinished = finished (feeds text) refl;
    next = last_line l;
  }))
    where
      not_there : (k : ℕ) → n ≤ k → IsThere text k → ⊥
      not_there k q t =
          let w = there_whole text k t in
          let same : t.before ≡ feeds text = omega (arith, q, w, l, t.next) in
          t.more (ap (λ i. head i text) same ∙ e)

      finished : (m : ℕ) → feeds text ≡ m → ¬ (IsCertText text)
      finished zero q t =
          let count = ap feeds (t.spelled ∙ sym (append-nil (cert_text t.cert))) ∙ feeds-lines (cert_lines t.cert) [] t.is.lines in
          some_lines t.cert (omega (arith, q, count))
      finished (suc m) q t =
          unfinished (subst IsGoodHead e (s.before (feeds text) (omega (arith, q)) l).good) t

  neither : ⊥
  neither = ⊎_elim at_last not_whole (below_or (feeds text) n)
    where
      at_last : feeds text < n → ⊥
      at_last l = none (inl (record {
        there = record { before = feeds text; next = last_line l; more = more l };
        before = λ k p q. (s.before k p q).good;
        bad = λ g. past_good l (subst IsGoodHead (head-whole n text l) g);
      }))

pub stops_in_two_cases : StopsInTwoCases
stops_in_two_cases = record { bad = bad; early = early; neither = neither }
