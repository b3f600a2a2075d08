-- What is read of a line by its first word.
use Rattle.std.proofs.Common.{◌≡◌, ◌≢◌, ◌∙◌, ℕ, suc, ◌-◌, ◌^◌, ◌<◌, ◌≤◌, List, [], ◌∷◌, ◌++◌, length, take, drop, map, Option, Some, None, refl, sym, ap, ap₂, subst, append-nil, arith, ℤ, pos, negsuc, ◌+ℤ◌, ◌-ℤ◌, ◌≤ℤ◌, nat_abs, to_z, of_z, Bool, true, false, not}
use Rattle.std.specs.Prelude.{codes, IfSome, nat_eq}
use Rattle.std.specs.Int.{w128}
use Rattle.std.specs.Cmp.Lexicographic.{pointwise}
use Rattle.std.proofs.lemmas.Int.{ints}
use Rattle.std.proofs.lemmas.Bool.Decides.{Decides-eqb}
use Rattle.std.proofs.lemmas.Slice.Eq.{slice_eq-Decides}
use Rattle.opt_certificate.proofs.Wholes.{read_back}
use Rattle.fractions.specs.Rational.{ℚ}
use Rattle.frac128.specs.Narrow.{IsNarrow, IsNarrowWhole}
use Rattle.frac128.specs.Printed.{printed}
use Rattle.certificate_lines.specs.Cutting.{Lacks, Starts, ReadAs, behind}
use Rattle.certificate_lines.specs.Line.{Line, claim_line, point_line, ray_line, split_line, best_line, empty_line, clash_line, end_line, Said, said_optimal, said_infeasible, said_unbounded, AreNumbers, IsPair, IsSaid, IsSplit, first_word, line_text, pair_words, said_words, spaced, value_words, whole_text}
use Rattle.certificate_lines.proofs.Cuts.{cut_start, none_there, tails}
use Rattle.certificate_lines.proofs.Words.{first-is, lacks-32, next_narrow, others-are, spaced-starts, two_bytes, whole_word}
use Rattle.certificate_texts.specs.Lines.{BeginsWith, IsLight, behind_first, decision_text}
use Rattle.certificate_texts.specs.Lists.{AreRows}
use Rattle.certificate_texts.proofs.Reading.{behind_is, behind_start}

-- ---- lines of a first word
from_point : (most : ℕ) (l : Line) → BeginsWith (codes "point") most l → (xs : List ℚ) × (AreNumbers xs × (behind_first l ≡ spaced (map printed xs)))
from_point most (point_line xs) h = (xs, (h.is.is, refl))
from_point most l h = let q = ap two_bytes h.first in absurd (omega (arith, q))

from_ray : (most : ℕ) (l : Line) → BeginsWith (codes "ray") most l → (xs : List ℚ) × (AreNumbers xs × (behind_first l ≡ spaced (map printed xs)))
from_ray most (ray_line xs) h = (xs, (h.is.is, refl))
from_ray most l h = let q = ap two_bytes h.first in absurd (omega (arith, q))

from_best : (most : ℕ) (l : Line) → BeginsWith (codes "best") most l → (ys : List ℚ) × (AreRows most ys × (behind_first l ≡ spaced (pair_words 1 ys)))
from_best most (best_line ys) h = let w = h.is.light in (ys, (record { are = h.is.is; few = omega arith }, refl))
from_best most l h = let q = ap two_bytes h.first in absurd (omega (arith, q))

from_empty : (most : ℕ) (l : Line) → BeginsWith (codes "empty") most l → (ys : List ℚ) × (AreRows most ys × (behind_first l ≡ spaced (pair_words 1 ys)))
from_empty most (empty_line ys) h = let w = h.is.light in (ys, (record { are = h.is.is; few = omega arith }, refl))
from_empty most l h = let q = ap two_bytes h.first in absurd (omega (arith, q))

from_clash : (most : ℕ) (l : Line) → BeginsWith (codes "clash") most l → (i : ℕ) × (j : ℕ) × IsPair i j × (behind_first l ≡ 32 ∷ (decision_text i ++ (32 ∷ (decision_text j ++ []))))
from_clash most (clash_line i j) h = (i, j, h.is.is, refl)
from_clash most l h = let q = ap two_bytes h.first in absurd (omega (arith, q))

from_end : (most : ℕ) (l : Line) → BeginsWith (codes "end") most l → behind_first l ≡ []
from_end most end_line h = refl
from_end most l h = let q = ap two_bytes h.first in absurd (omega (arith, q))

from_claim : (most : ℕ) (l : Line) → BeginsWith (codes "cert") most l → (s : Said) × (IsSaid s × (behind_first l ≡ spaced (said_words s)))
from_claim most (claim_line s) h = (s, (h.is.is, refl))
from_claim most l h = let q = ap two_bytes h.first in absurd (omega (arith, q))

-- ---- what is no such line
pub no_point : (most : ℕ) (text : List ℕ) → ReadAs AreNumbers (λ xs. spaced (map printed xs)) None text → ReadAs (BeginsWith (codes "point") most) behind_first None text
no_point most text r l h e = let f = from_point most l h in r f.0 f.1.0 (e ∙ f.1.1)

pub no_ray : (most : ℕ) (text : List ℕ) → ReadAs AreNumbers (λ xs. spaced (map printed xs)) None text → ReadAs (BeginsWith (codes "ray") most) behind_first None text
no_ray most text r l h e = let f = from_ray most l h in r f.0 f.1.0 (e ∙ f.1.1)

pub no_best : (most : ℕ) (text : List ℕ) → ReadAs (AreRows most) (λ ys. spaced (pair_words 1 ys)) None text → ReadAs (BeginsWith (codes "best") most) behind_first None text
no_best most text r l h e = let f = from_best most l h in r f.0 f.1.0 (e ∙ f.1.1)

pub no_empty : (most : ℕ) (text : List ℕ) → ReadAs (AreRows most) (λ ys. spaced (pair_words 1 ys)) None text → ReadAs (BeginsWith (codes "empty") most) behind_first None text
no_empty most text r l h e = let f = from_empty most l h in r f.0 f.1.0 (e ∙ f.1.1)

pub no_end : (most : ℕ) (text : List ℕ) → text ≢ [] → ReadAs (BeginsWith (codes "end") most) behind_first None text
no_end most text n l h e = n (e ∙ from_end most l h)

-- ---- what is such a line
pub is_point : (most : ℕ) (xs : List ℚ) (text : List ℕ) → AreNumbers xs × (text ≡ spaced (map printed xs)) → ReadAs (BeginsWith (codes "point") most) behind_first (Some (point_line xs)) text
is_point most xs text r = (record { is = record { is = r.0; light = omega arith }; first = refl }, r.1)

pub is_ray : (most : ℕ) (xs : List ℚ) (text : List ℕ) → AreNumbers xs × (text ≡ spaced (map printed xs)) → ReadAs (BeginsWith (codes "ray") most) behind_first (Some (ray_line xs)) text
is_ray most xs text r = (record { is = record { is = r.0; light = omega arith }; first = refl }, r.1)

pub is_best : (most : ℕ) (ys : List ℚ) (text : List ℕ) → AreRows most ys × (text ≡ spaced (pair_words 1 ys)) → ReadAs (BeginsWith (codes "best") most) behind_first (Some (best_line ys)) text
is_best most ys text r = let few = r.0.few in (record { is = record { is = r.0.are; light = omega arith }; first = refl }, r.1)

pub is_empty : (most : ℕ) (ys : List ℚ) (text : List ℕ) → AreRows most ys × (text ≡ spaced (pair_words 1 ys)) → ReadAs (BeginsWith (codes "empty") most) behind_first (Some (empty_line ys)) text
is_empty most ys text r = let few = r.0.few in (record { is = record { is = r.0.are; light = omega arith }; first = refl }, r.1)

pub is_end : (most : ℕ) (text : List ℕ) → text ≡ [] → ReadAs (BeginsWith (codes "end") most) behind_first (Some end_line) text
is_end most text e = (record { is = record { is = tt; light = omega arith }; first = refl }, e)

pub is_claim : (most : ℕ) (s : Said) (text : List ℕ) → IsSaid s → text ≡ spaced (said_words s) → ReadAs (BeginsWith (codes "cert") most) behind_first (Some (claim_line s)) text
is_claim most s text h e = (record { is = record { is = h; light = omega arith }; first = refl }, e)

-- ---- a split
pub record SplitCut (first rest : List ℕ) : Type 0 where
  pub decision : ℕ
  pub floor : ℤ
  pub split : IsSplit decision floor
  pub first_is : first ≡ whole_text (pos (suc decision))
  pub rest_is : rest ≡ 32 ∷ whole_text floor

pub split_cut : (most : ℕ) (l : Line) (text first rest : List ℕ) → BeginsWith (codes "split") most l → text ≡ behind_first l → text ≡ 32 ∷ (first ++ rest) → Lacks 32 first → Starts 32 rest → SplitCut first rest
split_cut most (split_line j f) text first rest h e t l s =
    let c = cut_start 32 first (whole_text (pos (suc j))) rest (32 ∷ (whole_text f ++ [])) l (lacks-32 _ (whole_word (pos (suc j)) (next_narrow j h.is.is.decision))) s (behind _) (tails _ _ _ _ (sym t ∙ e)) in
    record { decision = j; floor = f; split = h.is.is; first_is = c.front; rest_is = c.back ∙ ap (λ r. 32 ∷ r) (append-nil (whole_text f)) }
split_cut most l text first rest h e t k s = let q = ap two_bytes h.first in absurd (omega (arith, q))

pub split_some : (most : ℕ) (l : Line) (text : List ℕ) → BeginsWith (codes "split") most l → text ≡ behind_first l → text ≢ []
split_some most (split_line j f) text h e n = none_there _ _ (sym e ∙ n)
split_some most l text h e n = let q = ap two_bytes h.first in absurd (omega (arith, q))

pub is_split : (most j : ℕ) (f : ℤ) (text first rest second : List ℕ) → IsSplit j f → text ≡ 32 ∷ (first ++ rest) → rest ≡ 32 ∷ second → first ≡ whole_text (pos (suc j)) → second ≡ whole_text f
    → ReadAs (BeginsWith (codes "split") most) behind_first (Some (split_line j f)) text
is_split most j f text first rest second h t r a b = (
  record { is = record { is = h; light = omega arith }; first = refl },
  t ∙ ap₂ (λ x y. 32 ∷ (x ++ y)) a (r ∙ ap (λ y. 32 ∷ y) (b ∙ sym (append-nil (whole_text f)))),
)

-- ---- two decisions of a group
pub record ClashCut (first rest : List ℕ) : Type 0 where
  pub one : ℕ
  pub other : ℕ
  pub pair : IsPair one other
  pub first_is : first ≡ decision_text one
  pub rest_is : rest ≡ 32 ∷ decision_text other

pub clash_cut : (most : ℕ) (l : Line) (text first rest : List ℕ) → BeginsWith (codes "clash") most l → text ≡ behind_first l → text ≡ 32 ∷ (first ++ rest) → Lacks 32 first → Starts 32 rest → ClashCut first rest
clash_cut most l text first rest h e t k s =
    let f = from_clash most l h in
    let c = cut_start 32 first (decision_text f.0) rest (32 ∷ (decision_text f.1 ++ [])) k (lacks-32 _ (whole_word (pos (suc f.0)) (next_narrow f.0 f.2.one))) s (behind _) (tails _ _ _ _ (sym t ∙ e ∙ f.3)) in
    record { one = f.0; other = f.1; pair = f.2; first_is = c.front; rest_is = c.back ∙ ap (λ r. 32 ∷ r) (append-nil (decision_text f.1)) }

pub clash_some : (most : ℕ) (l : Line) (text : List ℕ) → BeginsWith (codes "clash") most l → text ≡ behind_first l → text ≢ []
clash_some most l text h e n = none_there _ _ (sym (from_clash most l h).3 ∙ sym e ∙ n)

pub is_clash : (most i j : ℕ) (text first rest second : List ℕ) → i < 2 ^ 16 → j < 2 ^ 16 → text ≡ 32 ∷ (first ++ rest) → rest ≡ 32 ∷ second → first ≡ decision_text i → second ≡ decision_text j
    → ReadAs (BeginsWith (codes "clash") most) behind_first (Some (clash_line i j)) text
is_clash most i j text first rest second h k t r a b = (
  record { is = record { is = record { one = h; other = k }; light = omega arith }; first = refl },
  t ∙ ap₂ (λ x y. 32 ∷ (x ++ y)) a (r ∙ ap (λ y. 32 ∷ y) (b ∙ sym (append-nil (decision_text j)))),
)

-- a number less 1, as the code reads it
pub difference_read : (d : ℤ) → IsNarrowWhole d → pos 1 ≤ℤ d → to_z w128 (of_z w128 (to_z w128 (of_z w128 d) -ℤ pos 1)) ≡ d -ℤ pos 1
difference_read (pos k) n l = ap (λ z. to_z w128 (of_z w128 (z -ℤ pos 1))) (read_back (pos k) n) ∙ read_back (pos k -ℤ pos 1) (omega (arith, ints, n, l))
difference_read (negsuc k) n l = absurd (omega (arith, ints, l))

decision_found : (z d : ℤ) → z ≡ d -ℤ pos 1 → pos 1 ≤ℤ d → d ≤ℤ pos 65536 → (pos (suc (nat_abs z)) ≡ d) × (nat_abs z < 2 ^ 16)
decision_found (pos k) d e l m = (omega (arith, ints), omega (arith, ints))
decision_found (negsuc k) d e l m = absurd (omega (arith, ints))

pub split_found : (most : ℕ) (z d f g : ℤ) (text first rest second : List ℕ) → z ≡ d -ℤ pos 1 → g ≡ f → pos 1 ≤ℤ d → d ≤ℤ pos 65536 → IsNarrowWhole f → IsNarrowWhole (f +ℤ pos 1)
    → text ≡ 32 ∷ (first ++ rest) → first ≡ whole_text d → rest ≡ 32 ∷ second → second ≡ whole_text f → ReadAs (BeginsWith (codes "split") most) behind_first (Some (split_line (nat_abs z) g)) text
split_found most z d f g text first rest second e h l m n o t a r b =
    let p = decision_found z d e l m in
    is_split most (nat_abs z) g text first rest second (record { decision = p.1; floor = subst IsNarrowWhole (sym h) n; above = subst (λ x. IsNarrowWhole (x +ℤ pos 1)) (sym h) o })
    t r (a ∙ ap whole_text (sym p.0)) (b ∙ ap whole_text (sym h))

-- the decision that is counted so, from what the code reads of its number
pub decision_read : (z d : ℤ) (text : List ℕ) → z ≡ d -ℤ pos 1 → pos 1 ≤ℤ d → d ≤ℤ pos 65536 → text ≡ whole_text d → ReadAs (λ (j : ℕ). j < 2 ^ 16) decision_text (Some (nat_abs z)) text
decision_read z d text e l m t = let p = decision_found z d e l m in (p.1, t ∙ ap whole_text (sym p.0))

-- ---- a claim
optimal_lacks : Lacks 32 (codes "optimal")
optimal_lacks = lacks-32 (codes "optimal") (others-are (claim_line (said_optimal None)) tt).0

pub no_claim : (most : ℕ) (text word rest : List ℕ) → text ≡ 32 ∷ (word ++ rest) → Lacks 32 word → Starts 32 rest → text ≢ codes " infeasible" → text ≢ codes " unbounded"
    → ((v : Option ℚ) → IfSome v IsNarrow → word ≡ codes "optimal" → rest ≢ spaced (value_words v)) → ReadAs (BeginsWith (codes "cert") most) behind_first None text
no_claim most text word rest t l s a b n k h e = let f = from_claim most k h in by_said f.0 f.1.0 (e ∙ f.1.1)
  where
    by_said : (said : Said) → IsSaid said → text ≡ spaced (said_words said) → ⊥
    by_said (said_optimal v) i q =
        let c = cut_start 32 word (codes "optimal") rest (spaced (value_words v)) l optimal_lacks s (spaced-starts (value_words v)) (tails _ _ _ _ (sym t ∙ q)) in
        n v i c.front c.back
    by_said said_infeasible i q = a q
    by_said said_unbounded i q = b q

pub claim_some : (most : ℕ) (l : Line) (text : List ℕ) → BeginsWith (codes "cert") most l → text ≡ behind_first l → text ≢ []
claim_some most l text h e n = let f = from_claim most l h in by_said f.0 (sym n ∙ e ∙ f.1.1)
  where
    by_said : (said : Said) → [] ≡ spaced (said_words said) → ⊥
    by_said (said_optimal v) q = none_there _ _ (sym q)
    by_said said_infeasible q = none_there _ _ (sym q)
    by_said said_unbounded q = none_there _ _ (sym q)

pub no_value : (text word : List ℕ) → Starts 32 text → 1 ≤ length text → word ≡ take (length text - 1) (drop 1 text) → ReadAs IsNarrow printed None word
    → ReadAs (λ v. IfSome v IsNarrow) (λ v. spaced (value_words v)) None text
no_value text word s l w r None h e = let q = ap length e in omega (arith, q, l)
no_value text word s l w r (Some x) h e = r x h (w ∙ behind_is 32 text (printed x) (e ∙ ap (λ y. 32 ∷ y) (append-nil (printed x))))

pub is_value : (text word : List ℕ) (x : ℚ) → Starts 32 text → 1 ≤ length text → take (length text - 1) (drop 1 text) ≡ printed x → IsNarrow x
    → ReadAs (λ v. IfSome v IsNarrow) (λ v. spaced (value_words v)) (Some (Some x)) text
is_value text word x s l e h = (h, behind_start 32 text (printed x) [] s l (e ∙ sym (append-nil (printed x))))

-- ---- a line by its first word
pub by_word : (most : ℕ) (w text word rest : List ℕ) (o : Option Line) → text ≡ word ++ rest → Lacks 32 word → Starts 32 rest → word ≡ w → ReadAs (BeginsWith w most) behind_first o rest → ReadAs (IsLight most) line_text o text
by_word most w text word rest None t l s q r = λ k h e.
    let c = cut_start 32 word (first_word k) rest (behind_first k) l (lacks-32 _ (first-is k)) s (spaced-starts _) (sym t ∙ e) in
    r k (record { is = h; first = sym c.front ∙ q }) c.back
by_word most w text word rest (Some k) t l s q r = (r.0.is, t ∙ ap₂ (λ x y. x ++ y) (q ∙ sym r.0.first) r.1)

pub no_line : (most : ℕ) (text word rest : List ℕ) → text ≡ word ++ rest → Lacks 32 word → Starts 32 rest → word ≢ codes "cert" → word ≢ codes "point" → word ≢ codes "ray" → word ≢ codes "split"
    → word ≢ codes "best" → word ≢ codes "empty" → word ≢ codes "clash" → word ≢ codes "end" → ReadAs (IsLight most) line_text None text
no_line most text word rest t l s a b d f g i n j k h e =
    let c = cut_start 32 word (first_word k) rest (behind_first k) l (lacks-32 _ (first-is k)) s (spaced-starts _) (sym t ∙ e) in
    by_line k c.front
  where
    by_line : (m : Line) → word ≡ first_word m → ⊥
    by_line (claim_line x) q = a q
    by_line (point_line x) q = b q
    by_line (ray_line x) q = d q
    by_line (split_line x y) q = f q
    by_line (best_line x) q = g q
    by_line (empty_line x) q = i q
    by_line (clash_line x y) q = n q
    by_line end_line q = j q

-- ---- words that differ from one that is written out
pub differs : (xs ys w : List ℕ) (r : Bool) → r ≡ pointwise nat_eq xs ys → r ≡ false → ys ≡ w → xs ≢ w
differs xs ys w r e f v q = let t = (slice_eq-Decides Decides-eqb xs ys r e).1 (q ∙ sym v) in absurd (cc (t, f))

turned : (r p : Bool) → r ≡ not p → p ≡ not r
turned r true e = ap not (sym e)
turned r false e = ap not (sym e)

pub differs_not : (xs ys w : List ℕ) (r : Bool) → r ≡ not (pointwise nat_eq xs ys) → r ≡ true → ys ≡ w → xs ≢ w
differs_not xs ys w r e f v q = let t = (slice_eq-Decides Decides-eqb xs ys (pointwise nat_eq xs ys) refl).1 (q ∙ sym v) in let u = turned r (pointwise nat_eq xs ys) e ∙ ap not f in absurd (cc (t, u))

pub agrees_not : (xs ys w : List ℕ) (r : Bool) → r ≡ not (pointwise nat_eq xs ys) → r ≡ false → ys ≡ w → xs ≡ w
agrees_not xs ys w r e f v = (slice_eq-Decides Decides-eqb xs ys (pointwise nat_eq xs ys) refl).0 (turned r (pointwise nat_eq xs ys) e ∙ ap not f) ∙ v
