-- Heads of texts: what is read of them, and the two cases in which a text stops.
use Rattle.std.proofs.Common.{◌≡◌, ◌∙◌, ℕ, zero, suc, ◌+◌, ◌<◌, ◌≤◌, Bool, true, false, cond, eqb, List, [], ◌∷◌, ◌++◌, length, refl, sym, ap, subst, append-nil, arith, inl, inr, ⊎_elim}
use Rattle.std.specs.Prelude.{◌⊎◌}
use Rattle.std.specs.List.{AllByRecursion}
use Rattle.certificate_lines.specs.Line.{Line, IsLine, text_of}
use Rattle.certificate_lines.specs.Cert.{cert_lines, cert_text}
use Rattle.certificate_lines.specs.Heads.{feeds, head, IsReadAs, StopsAt}
use Rattle.certificate_lines.specs.Laws.{BeginsText, IsRead, HeadsAreRead, OneAnswer, TextsAreReadBack}
use Rattle.certificate_lines.proofs.Beginnings.{lines_are_read}
use Rattle.certificate_lines.proofs.Cuts.{all-front}
use Rattle.certificate_lines.proofs.Texts.{text-append, feeds-lines, head-lines, texts_are_one}
use Rattle.certificate_lines.proofs.Stops.{Split, split_at}

-- ---- feeds of heads
pub feeds-append : (x y : List ℕ) → feeds (x ++ y) ≡ feeds x + feeds y
feeds-append [] y = omega arith
feeds-append (b ∷ x) y = by_test (eqb b 10) (feeds-append x y)
  where
    by_test : (t : Bool) → feeds (x ++ y) ≡ feeds x + feeds y → cond t (suc (feeds (x ++ y))) (feeds (x ++ y)) ≡ cond t (suc (feeds x)) (feeds x) + feeds y
    by_test true e = omega (arith, e)
    by_test false e = e

head-again : (n : ℕ) (text r : List ℕ) → n ≤ feeds text → head n (head n text ++ r) ≡ head n text
head-again zero text r h = refl
head-again (suc n) [] r h = absurd (omega arith)
head-again (suc n) (b ∷ text) r h = by_test (eqb b 10) h (head-again n text r) (head-again (suc n) text r)
  where
    by_test : (t : Bool) → suc n ≤ cond t (suc (feeds text)) (feeds text) → (n ≤ feeds text → head n (head n text ++ r) ≡ head n text)
        → (suc n ≤ feeds text → head (suc n) (head (suc n) text ++ r) ≡ head (suc n) text)
        → b ∷ cond t (head n (cond t (head n text) (head (suc n) text) ++ r)) (head (suc n) (cond t (head n text) (head (suc n) text) ++ r)) ≡ b ∷ cond t (head n text) (head (suc n) text)
    by_test true l p q = ap (λ x. b ∷ x) (p (omega (arith, l)))
    by_test false l p q = ap (λ x. b ∷ x) (q l)

pub feeds-head : (n : ℕ) (text : List ℕ) → n ≤ feeds text → feeds (head n text) ≡ n
feeds-head zero text h = refl
feeds-head (suc n) [] h = absurd (omega arith)
feeds-head (suc n) (b ∷ text) h = by_test (eqb b 10) h (feeds-head n text) (feeds-head (suc n) text)
  where
    by_test : (t : Bool) → suc n ≤ cond t (suc (feeds text)) (feeds text) → (n ≤ feeds text → feeds (head n text) ≡ n) → (suc n ≤ feeds text → feeds (head (suc n) text) ≡ suc n)
        → cond t (suc (feeds (cond t (head n text) (head (suc n) text)))) (feeds (cond t (head n text) (head (suc n) text))) ≡ suc n
    by_test true l p q = ap suc (p (omega (arith, l)))
    by_test false l p q = q l

-- behind the last line feed there is one head alone
pub head-whole : (n : ℕ) (text : List ℕ) → feeds text < n → head n text ≡ text
head-whole zero text h = absurd (omega arith)
head-whole (suc n) [] h = refl
head-whole (suc n) (b ∷ text) h = by_test (eqb b 10) h (head-whole n text) (head-whole (suc n) text)
  where
    by_test : (t : Bool) → cond t (suc (feeds text)) (feeds text) < suc n → (feeds text < n → head n text ≡ text) → (feeds text < suc n → head (suc n) text ≡ text)
        → b ∷ cond t (head n text) (head (suc n) text) ≡ b ∷ text
    by_test true l p q = ap (λ x. b ∷ x) (p (omega (arith, l)))
    by_test false l p q = ap (λ x. b ∷ x) (q l)

pub record Front (x text : List ℕ) : Type 0 where
  pub rest : List ℕ
  pub is : x ++ rest ≡ text

pub head-front : (n : ℕ) (text : List ℕ) → Front (head n text) text
head-front zero text = record { rest = text; is = refl }
head-front (suc n) [] = record { rest = []; is = refl }
head-front (suc n) (b ∷ text) = by_test (eqb b 10) (head-front n text) (head-front (suc n) text)
  where
    by_test : (t : Bool) → Front (head n text) text → Front (head (suc n) text) text → Front (b ∷ cond t (head n text) (head (suc n) text)) (b ∷ text)
    by_test true f g = record { rest = f.rest; is = ap (λ x. b ∷ x) f.is }
    by_test false f g = record { rest = g.rest; is = ap (λ x. b ∷ x) g.is }

-- ---- heads are read
pub plus_zero : (n : ℕ) → n + 0 ≡ n
plus_zero n = omega arith

read_head : (text : List ℕ) (n : ℕ) → n ≤ feeds text → BeginsText (head n text) → IsRead (head n text)
read_head text n h b = by_split (split_at n ms many)
  where
    ms : List Line
    ms = cert_lines b.cert

    all : feeds (text_of ms) ≡ length ms
    all = ap feeds (sym (append-nil (text_of ms))) ∙ feeds-lines ms [] b.is.lines ∙ plus_zero (length ms)

    many : n ≤ length ms
    many = let p = feeds-append (head n text) b.rest in let q = ap feeds b.begins in let r = feeds-head n text h in omega (arith, all, p, q, r)

    by_split : Split n ms → IsRead (head n text)
    by_split s =
        let front : AllByRecursion IsLine s.front = all-front IsLine s.front s.back (subst (AllByRecursion IsLine) s.is b.is.lines) in
        let same : head n text ≡ text_of s.front = sym (head-again n text b.rest h) ∙ ap (head n) (b.begins ∙ ap text_of s.is ∙ sym (append-nil (text_of (s.front ++ s.back))))
        ∙ ap (λ i. head i (text_of (s.front ++ s.back) ++ [])) (sym s.count) ∙ head-lines s.front s.back [] front in
        record { lines = s.front; are = front; read = (lines_are_read.begun s.front front).1 (record { cert = b.cert; is = b.is; rest = s.back; lines = sym s.is }); spelled = same }

begin_head : (text : List ℕ) → IsRead text → BeginsText text
begin_head text r =
    let b = (lines_are_read.begun r.lines r.are).0 r.read in
    record { cert = b.cert; is = b.is; rest = text_of b.rest; begins = ap (λ t. t ++ text_of b.rest) r.spelled ∙ sym (text-append r.lines b.rest) ∙ ap text_of b.lines }

pub heads_are_read : HeadsAreRead
heads_are_read text n h = (read_head text n h, begin_head (head n text))

-- ---- one answer
pub below_or : (a b : ℕ) → (a < b) ⊎ (b ≤ a)
below_or zero zero = inr (omega arith)
below_or zero (suc b) = inl (omega arith)
below_or (suc a) zero = inr (omega arith)
below_or (suc a) (suc b) = ⊎_elim (λ l. inl (omega (arith, l))) (λ l. inr (omega (arith, l))) (below_or a b)

one_line : (text : List ℕ) (n m : ℕ) → StopsAt text n → StopsAt text m → n ≡ m
one_line text n m h k = ⊎_elim (λ l. absurd (h.here (k.before n h.counted l))) (λ l. ⊎_elim (λ g. absurd (k.here (h.before m k.counted g))) (λ g. omega (arith, l, g)) (below_or m n)) (below_or n m)

pub one_answer : OneAnswer
one_answer = record {
  cert = λ text c d h k. texts_are_one c d h.is k.is (sym h.spelled ∙ k.spelled);
  line = one_line;
  either = λ text c n h k. k.unread c h;
}

pub texts_are_read_back : TextsAreReadBack
texts_are_read_back c h l =
    let r : IsReadAs (cert_text c) c = record { is = h; spelled = refl; light = l } in
    record { read = r; alone = λ d k. one_answer.cert (cert_text c) d c k r; whole = λ n k. one_answer.either (cert_text c) c n r k }
