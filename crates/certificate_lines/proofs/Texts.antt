-- Texts of lines: cut at line feeds, and of one list of lines alone.
use Rattle.std.proofs.Common.{◌≡◌, ◌≢◌, ◌∙◌, ℕ, suc, ◌+◌, ◌<◌, Bool, true, false, cond, eqb, List, [], ◌∷◌, ◌++◌, length, refl, sym, ap, ap₂, append_assoc, append-nil, arith}
use Rattle.std.specs.List.{AllByRecursion}
use Rattle.std.proofs.lemmas.Bool.{ne_eqb, eqb-true, eqb-false}
use Rattle.certificate_lines.specs.Line.{Line, IsLine, line_text, text_of}
use Rattle.certificate_lines.specs.Cert.{cert_lines}
use Rattle.certificate_lines.specs.Heads.{feeds, head}
use Rattle.certificate_lines.specs.Laws.{TextsAreOne}
use Rattle.certificate_lines.proofs.Beginnings.{same_cert}
use Rattle.certificate_lines.specs.Cutting.{Lacks}
use Rattle.certificate_lines.proofs.Cuts.{cut, none_there}
use Rattle.certificate_lines.proofs.Words.{line_lacks, same_line}

-- a line, its line feed, and what follows, regrouped
pub text-next : (l : Line) (ls : List Line) (rest : List ℕ) → text_of (l ∷ ls) ++ rest ≡ line_text l ++ (10 ∷ (text_of ls ++ rest))
text-next l ls rest = append_assoc (line_text l) (10 ∷ text_of ls) rest

pub text-append : (ls ms : List Line) → text_of (ls ++ ms) ≡ text_of ls ++ text_of ms
text-append [] ms = refl
text-append (l ∷ ls) ms = ap (λ r. line_text l ++ (10 ∷ r)) (text-append ls ms) ∙ sym (text-next l ls (text_of ms))

pub not_nothing : (a x : List ℕ) → a ++ (10 ∷ x) ≢ []
not_nothing [] x e = none_there _ _ e
not_nothing (b ∷ a) x e = none_there _ _ e

-- lines with which other lines begin
pub record GoesOn (ls ms : List Line) (rest : List ℕ) : Type 0 where
  pub more : List Line
  pub lines : ls ++ more ≡ ms
  pub rest_is : rest ≡ text_of more

pub goes_on : (ls ms : List Line) (rest : List ℕ) → AllByRecursion IsLine ls → AllByRecursion IsLine ms → text_of ls ++ rest ≡ text_of ms → GoesOn ls ms rest
goes_on [] ms rest h k e = record { more = ms; lines = refl; rest_is = e }
goes_on (l ∷ ls) [] rest h k e = absurd (not_nothing (line_text l) _ (sym (text-next l ls rest) ∙ e))
goes_on (l ∷ ls) (m ∷ ms) rest h k e =
    let c = cut 10 (line_text l) (line_text m) (text_of ls ++ rest) (text_of ms) (line_lacks l h.0) (line_lacks m k.0) (sym (text-next l ls rest) ∙ e) in
    let r = goes_on ls ms rest h.1 k.1 c.back in
    record { more = r.more; lines = ap₂ (λ x y. x ∷ y) (same_line l m h.0 k.0 c.front) r.lines; rest_is = r.rest_is }

no_lines : (ls : List Line) → [] ≡ text_of ls → ls ≡ []
no_lines [] e = refl
no_lines (l ∷ ls) e = absurd (not_nothing (line_text l) _ (sym e))

pub same_lines : (ls ms : List Line) → AllByRecursion IsLine ls → AllByRecursion IsLine ms → text_of ls ≡ text_of ms → ls ≡ ms
same_lines ls ms h k e =
    let g = goes_on ls ms [] h k (append-nil (text_of ls) ∙ e) in
    sym (append-nil ls) ∙ ap (λ r. ls ++ r) (sym (no_lines g.more g.rest_is)) ∙ g.lines

pub texts_are_one : TextsAreOne
texts_are_one c d h k e = same_cert c d h k (same_lines (cert_lines c) (cert_lines d) h.lines k.lines e)

-- ---- line feeds and heads
pub feeds-line : (a x : List ℕ) → Lacks 10 a → feeds (a ++ (10 ∷ x)) ≡ suc (feeds x)
feeds-line [] x h = refl
feeds-line (b ∷ a) x h = ap (λ t. cond t (suc (feeds (a ++ (10 ∷ x)))) (feeds (a ++ (10 ∷ x)))) (ne_eqb b 10 h.0) ∙ feeds-line a x h.1

pub head-line : (n : ℕ) (a x : List ℕ) → Lacks 10 a → head (suc n) (a ++ (10 ∷ x)) ≡ a ++ (10 ∷ head n x)
head-line n [] x h = refl
head-line n (b ∷ a) x h = ap (λ t. b ∷ cond t (head n (a ++ (10 ∷ x))) (head (suc n) (a ++ (10 ∷ x)))) (ne_eqb b 10 h.0) ∙ ap (λ r. b ∷ r) (head-line n a x h.1)

pub feeds-lines : (ls : List Line) (rest : List ℕ) → AllByRecursion IsLine ls → feeds (text_of ls ++ rest) ≡ length ls + feeds rest
feeds-lines [] rest h = omega arith
feeds-lines (l ∷ ls) rest h =
    let r = feeds-lines ls rest h.1 in
    let next : suc (feeds (text_of ls ++ rest)) ≡ suc (length ls) + feeds rest = omega (arith, r) in
    ap feeds (text-next l ls rest) ∙ feeds-line (line_text l) (text_of ls ++ rest) (line_lacks l h.0) ∙ next

-- the head behind some lines
pub head-past : (ls : List Line) (n : ℕ) (rest : List ℕ) → AllByRecursion IsLine ls → head (length ls + n) (text_of ls ++ rest) ≡ text_of ls ++ head n rest
head-past [] n rest h = let same : 0 + n ≡ n = omega arith in ap (λ k. head k rest) same
head-past (l ∷ ls) n rest h =
    let next : suc (length ls) + n ≡ suc (length ls + n) = omega arith in
    ap₂ head next (text-next l ls rest)
    ∙ head-line (length ls + n) (line_text l) (text_of ls ++ rest) (line_lacks l h.0)
    ∙ ap (λ r. line_text l ++ (10 ∷ r)) (head-past ls n rest h.1)
    ∙ sym (text-next l ls (head n rest))

-- the head that ends with some of the lines
pub head-lines : (ls ms : List Line) (rest : List ℕ) → AllByRecursion IsLine ls → head (length ls) ((text_of (ls ++ ms)) ++ rest) ≡ text_of ls
head-lines ls ms rest h =
    let plus : length ls ≡ length ls + 0 = omega arith in
    ap₂ head plus (ap (λ t. t ++ rest) (text-append ls ms) ∙ append_assoc (text_of ls) (text_of ms) rest)
    ∙ head-past ls 0 (text_of ms ++ rest) h
    ∙ append-nil (text_of ls)

-- ---- a text with a line feed
pub record Fed (text : List ℕ) : Type 0 where
  pub line : List ℕ
  pub rest : List ℕ
  pub lacks : Lacks 10 line
  pub is : text ≡ line ++ (10 ∷ rest)

pub fed : (text : List ℕ) → 0 < feeds text → Fed text
fed [] h = absurd (omega arith)
fed (b ∷ text) h = by_test (eqb b 10) (eqb-true b 10) (eqb-false b 10) h (fed text)
  where
    by_test : (t : Bool) → (t ≡ true → b ≡ 10) → (t ≡ false → b ≢ 10) → 0 < cond t (suc (feeds text)) (feeds text) → (0 < feeds text → Fed text) → Fed (b ∷ text)
    by_test true p q l r = record { line = []; rest = text; lacks = tt; is = ap (λ c. c ∷ text) (p refl) }
    by_test false p q l r = let f = r l in record { line = b ∷ f.line; rest = f.rest; lacks = (q refl, f.lacks); is = ap (λ x. b ∷ x) f.is }
