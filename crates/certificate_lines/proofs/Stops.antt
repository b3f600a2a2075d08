-- Where reading line by line has no line that may follow, the text stops.
use Rattle.std.proofs.Common.{◌≡◌, ◌≢◌, ◌∙◌, ℕ, zero, suc, ◌+◌, ◌<◌, ◌≤◌, List, [], ◌∷◌, ◌++◌, length, take, Option, Some, None, refl, sym, ap, ap₂, subst, append_assoc, append-nil, arith}
use Rattle.std.specs.Prelude.{IsSome}
use Rattle.std.specs.List.{AllByRecursion}
use Rattle.certificate_lines.specs.Line.{Line, IsLine, line_text, text_of, weight}
use Rattle.certificate_lines.specs.Cert.{Cert, IsCert, cert_lines, cert_text}
use Rattle.certificate_lines.specs.Machine.{State, at_claim, at_end, step, run}
use Rattle.certificate_lines.specs.Heads.{feeds, head, most_weight, IsGoodHead, IsGoodLine, IsReadAs, StopsAt}
use Rattle.certificate_lines.specs.Laws.{Begins}
use Rattle.certificate_lines.specs.Reading.{ReadTo, IsStuck, ReadingIsRight}
use Rattle.certificate_lines.proofs.Beginnings.{begins}
use Rattle.certificate_lines.proofs.Cuts.{cut, all-front, all-back}
use Rattle.certificate_lines.proofs.Machines.{run-none, run-append, run-cert}
use Rattle.certificate_lines.proofs.Texts.{text-append, goes_on, not_nothing, feeds-lines, feeds-line, head-line, head-past, head-lines, Fed, fed}
use Rattle.certificate_lines.proofs.Words.{line_lacks}

-- ---- weights
pub weight-append : (xs ys : List Line) → weight (xs ++ ys) ≡ weight xs + weight ys
weight-append [] ys = omega arith
weight-append (x ∷ xs) ys = omega (arith, weight-append xs ys)

pub take-all : (xs ys : List Line) → take (length xs) (xs ++ ys) ≡ xs
take-all [] ys = refl
take-all (x ∷ xs) ys = ap (λ r. x ∷ r) (take-all xs ys)

-- ---- lines that are there
-- some lines from the front, and the others
pub record Split (k : ℕ) (ls : List Line) : Type 0 where
  pub front : List Line
  pub back : List Line
  pub is : ls ≡ front ++ back
  pub count : length front ≡ k

pub split_at : (k : ℕ) (ls : List Line) → k ≤ length ls → Split k ls
split_at zero ls h = record { front = []; back = ls; is = refl; count = refl }
split_at (suc k) [] h = absurd (omega arith)
split_at (suc k) (l ∷ ls) h =
    let s = split_at k ls (omega (arith, h)) in
    record { front = l ∷ s.front; back = s.back; is = ap (λ r. l ∷ r) s.is; count = ap suc s.count }

front_good : (front back : List Line) (rest : List ℕ) → AllByRecursion IsLine front → Begins (front ++ back) → weight (front ++ back) ≤ most_weight
    → IsGoodHead (head (length front) (text_of (front ++ back) ++ rest))
front_good front back rest h b light =
    let e = head-lines front back rest h in
    let all : front ++ (back ++ b.rest) ≡ cert_lines b.cert = sym (append_assoc front back b.rest) ∙ b.lines in
    let count : feeds (text_of front) ≡ length front = ap feeds (sym (append-nil (text_of front))) ∙ feeds-lines front [] h ∙ plus_zero (length front) in
    let w = weight-append front back in
    let same : take (feeds (head (length front) (text_of (front ++ back) ++ rest))) (cert_lines b.cert) ≡ front
    = ap₂ take (ap feeds e ∙ count) (sym all) ∙ take-all front (back ++ b.rest) in
    record {
      cert = b.cert;
      rest = text_of (back ++ b.rest);
      is = b.is;
      begins = ap (λ t. t ++ text_of (back ++ b.rest)) e ∙ sym (text-append front (back ++ b.rest)) ∙ ap text_of all;
      light = subst (λ x. weight x ≤ most_weight) (sym same) (omega (arith, w, light));
    }
  where
    plus_zero : (n : ℕ) → n + 0 ≡ n
    plus_zero n = omega arith

-- the whole lines are good
pub good_lines : (text : List ℕ) (ls : List Line) (s : State) (rest : List ℕ) → ReadTo text ls s rest → (k : ℕ) → k ≤ length ls → IsGoodLine text k
good_lines text ls s rest r k l =
    let b = begins ls s r.are r.state_is in
    let p = split_at k ls l in
    let whole : text ≡ text_of (p.front ++ p.back) ++ rest = r.joined ∙ ap (λ x. text_of x ++ rest) p.is in
    let good = front_good p.front p.back rest (all-front IsLine p.front p.back (subst (AllByRecursion IsLine) p.is r.are)) (subst Begins p.is b) (subst (λ x. weight x ≤ most_weight) p.is r.light) in
    let count = ap feeds r.joined ∙ feeds-lines ls rest r.are in
    record {
      whole = omega (arith, l, count);
      good = subst (λ t. IsGoodHead (head k t)) (sym whole) (subst (λ i. IsGoodHead (head i (text_of (p.front ++ p.back) ++ rest))) p.count good);
    }

-- ---- the line that can't follow
-- what stands behind the lines of a certificate's beginning
record Next (s : State) (rest : List ℕ) (c : Cert) (ls : List Line) : Type 0 where
  line : Line
  more : List Line
  is : IsLine line
  next : IsSome (step s line)
  lines : ls ++ (line ∷ more) ≡ cert_lines c
  rest_is : rest ≡ line_text line ++ (10 ∷ text_of more)

goes : (s : State) (l : Line) (more : List Line) → run (l ∷ more) (Some s) ≡ Some at_end → IsSome (step s l)
goes s l more e = by_step (step s l) e
  where
    by_step : (o : Option State) → run more o ≡ Some at_end → IsSome o
    by_step None e = let q = run-none more in absurd (cc (e, q))
    by_step (Some t) e = refl

next_line : (s : State) (rest : List ℕ) (c : Cert) (ls : List Line) → IsCert c → AllByRecursion IsLine ls → run ls (Some at_claim) ≡ Some s
    → (s ≡ at_end → rest ≢ []) → text_of ls ++ rest ≡ cert_text c → Next s rest c ls
next_line s rest c ls i h r u e =
    let g = goes_on ls (cert_lines c) rest h i.lines e in
    by_more g.more g.lines g.rest_is
  where
    after : (more : List Line) → ls ++ more ≡ cert_lines c → run more (Some s) ≡ Some at_end
    after more q = ap (run more) (sym r) ∙ sym (run-append ls more (Some at_claim)) ∙ ap (λ x. run x (Some at_claim)) q ∙ run-cert c i

    by_more : (more : List Line) → ls ++ more ≡ cert_lines c → rest ≡ text_of more → Next s rest c ls
    by_more [] q p = let a : Some s ≡ Some at_end = after [] q in let b : s ≡ at_end = cc in absurd (u b p)
    by_more (l ∷ more) q p = record {
      line = l;
      more = more;
      is = (all-back IsLine ls (l ∷ more) (subst (AllByRecursion IsLine) (sym q) i.lines)).0;
      next = goes s l more (after (l ∷ more) q);
      lines = q;
      rest_is = p;
    }

unread : (text : List ℕ) (n : ℕ) (k : IsStuck text n) (c : Cert) → ¬ (IsReadAs text c)
unread text n k c r =
    let x = next_line k.state k.rest c k.lines r.is k.read.are k.read.state_is k.unfinished (sym k.read.joined ∙ r.spelled) in
    let w = weight-append k.lines (x.line ∷ x.more) in
    let whole : weight (k.lines ++ (x.line ∷ x.more)) ≤ most_weight = subst (λ y. weight y ≤ most_weight) (sym x.lines) r.light in
    k.no_line x.line (text_of x.more) (record { is = x.is; next = x.next; light = omega (arith, w, whole) }) x.rest_is

one_more : (ls : List Line) (l : Line) (more : List Line) → take (suc (length ls)) (ls ++ (l ∷ more)) ≡ ls ++ (l ∷ [])
one_more [] l more = refl
one_more (x ∷ ls) l more = ap (λ r. x ∷ r) (one_more ls l more)

-- the first line of a text with a line feed
first_head : (text : List ℕ) (f : Fed text) → head 1 text ≡ f.line ++ (10 ∷ [])
first_head text f = ap (head 1) f.is ∙ head-line 0 f.line f.rest f.lacks

plus_one : (m : ℕ) → m + 1 ≡ suc m
plus_one m = omega arith

not_here : (text : List ℕ) (n : ℕ) (k : IsStuck text n) → ¬ (IsGoodLine text n)
not_here text n k g = refused (fed k.rest some)
  where
    ls : List Line
    ls = k.lines

    count : feeds text ≡ length ls + feeds k.rest
    count = ap feeds k.read.joined ∙ feeds-lines ls k.rest k.read.are

    some : 0 < feeds k.rest
    some = omega (arith, count, g.whole, k.number)

    number : n ≡ length ls + 1
    number = omega (arith, k.number)

    refused : Fed k.rest → ⊥
    refused f =
        let c = g.good.cert in
        let is : head n text ≡ text_of ls ++ (f.line ++ (10 ∷ [])) = ap₂ head number k.read.joined ∙ head-past ls 1 k.rest k.read.are ∙ ap (λ r. text_of ls ++ r) (first_head k.rest f) in
        let first : List ℕ = (f.line ++ (10 ∷ [])) ++ g.good.rest in
        let whole : text_of ls ++ first ≡ cert_text c = sym (append_assoc (text_of ls) (f.line ++ (10 ∷ [])) g.good.rest) ∙ ap (λ t. t ++ g.good.rest) (sym is) ∙ g.good.begins in
        let again : first ≡ f.line ++ (10 ∷ g.good.rest) = append_assoc f.line (10 ∷ []) g.good.rest in
        let x = next_line k.state first c ls g.good.is k.read.are k.read.state_is (λ e q. not_nothing f.line g.good.rest (sym again ∙ q)) whole in
        let cutting = cut 10 f.line (line_text x.line) g.good.rest (text_of x.more) f.lacks (line_lacks x.line x.is) (sym again ∙ x.rest_is) in
        let fs : feeds (head n text) ≡ suc (length ls) = ap feeds is ∙ feeds-lines ls (f.line ++ (10 ∷ [])) k.read.are ∙ ap (λ m. length ls + m) (feeds-line f.line [] f.lacks) ∙ plus_one (length ls) in
        let taken : take (feeds (head n text)) (cert_lines c) ≡ ls ++ (x.line ∷ []) = ap₂ take fs (sym x.lines) ∙ one_more ls x.line x.more in
        let light : weight (ls ++ (x.line ∷ [])) ≤ most_weight = subst (λ y. weight y ≤ most_weight) taken g.good.light in
        let w = weight-append ls (x.line ∷ []) in
        k.no_line x.line f.rest (record { is = x.is; next = x.next; light = omega (arith, w, light) }) (f.is ∙ ap (λ r. r ++ (10 ∷ f.rest)) cutting.front)

pub stuck : (text : List ℕ) (n : ℕ) → IsStuck text n → StopsAt text n
stuck text n k = record {
  counted = omega (arith, k.number);
  before = λ i p l. good_lines text k.lines k.state k.rest k.read i (omega (arith, l, k.number));
  here = not_here text n k;
  unread = unread text n k;
}

pub reading_is_right : ReadingIsRight
reading_is_right = record {
  stuck = stuck;
  read = λ text c ls i e r. record {
    is = i;
    spelled = r.joined ∙ append-nil (text_of ls) ∙ ap text_of e;
    light = subst (λ x. weight x ≤ most_weight) e r.light;
  };
}
