-- Where what is read stands.
use Rattle.std.proofs.Common.{◌≡◌, ℕ, zero, suc, ◌-◌, ◌<◌, ◌≤◌, Bool, true, false, cond, List, [], ◌∷◌, ◌++◌, length, take, drop, get_or, Result, Ok, Err, Option, Some, None, refl, sym, ap, subst, ◌∙◌, arith}
use Rattle.std.specs.Prelude.{All, IfOk, IfSome}
use Rattle.std.specs.Option.{option_map_or}
use Rattle.std.proofs.lemmas.Grind.{common_steps}
use Rattle.std.proofs.lemmas.List.Elements.{All-head, All-push, All-tail, All-weaker}
use Rattle.cell_refs.specs.declared.op.Op.{Op}
use Rattle.cell_refs.specs.declared.span.Span.{Span}
use Rattle.formula_ast.specs.Sound.{IsWithin}
use Rattle.formula_ast.specs.Tree.{Tree, span_of}
use Rattle.formula_grammar.specs.declared.symbol.Sign.{Sign}
use Rattle.formula_grammar.specs.declared.symbol.Symbol.{Symbol}
use Rattle.formula_grammar.specs.Symbols.{Setting, from_to}
use Rattle.formula_grammar.specs.Parts.{Prefix, operator_of, prefix_of}
use Rattle.formula_grammar.specs.Reading.{close_at}
use Rattle.formula_grammar.proofs.Sound.{close_is}
use Rattle.formula_grammar.proofs.Turns.{some_is}
use Rattle.formula_parser.specs.declared.branch.Branch.{Branch}
use Rattle.formula_parser.specs.declared.branch.Part.{Part}
use Rattle.formula_parser.specs.declared.stop.Stop.{Stop}
use Rattle.formula_parser.specs.Built.{built, prefixed_by}
use Rattle.formula_parser.specs.Given.{next_operator, next_where}
use Rattle.formula_parser.specs.Placed.{AreBefore, AreSymbols, InOrder, IsBetween, IsInFront, IsInText, IsPlaced}

-- ---- symbols in order

-- what is in order from a byte on is so from an earlier one on
pub from_before : (before from : ℕ) (ss : List Symbol) → before ≤ from → InOrder from ss → InOrder before ss
from_before before from [] le order = tt
from_before before from (s ∷ ss) le order = let first = order.0 in (omega arith, order.1)

-- the symbols behind the first are symbols of the text
pub others_are : (text : List ℕ) (s : Symbol) (rest ss : List Symbol) → ss ≡ s ∷ rest → AreSymbols text ss → AreSymbols text rest
others_are text s rest ss is are =
    let all : AreSymbols text (s ∷ rest) = subst (AreSymbols text) is are in
    (All-tail (IsInText text) s rest all.0, from_before 0 s.span.end rest (omega arith) all.1.1)

-- the first is one
pub first_is : (text : List ℕ) (s : Symbol) (rest ss : List Symbol) → ss ≡ s ∷ rest → AreSymbols text ss → IsInText text s
first_is text s rest ss is are = let all : AreSymbols text (s ∷ rest) = subst (AreSymbols text) is are in All-head (IsInText text) s rest all.0

-- the others stand behind the first
pub first_behind : (s : Symbol) (rest ss : List Symbol) (from : ℕ) → ss ≡ s ∷ rest → InOrder from ss → (from ≤ s.span.start) × InOrder s.span.end rest
first_behind s rest ss from is order = subst (InOrder from) is order

-- the operator or the sign in front
pub operator_first : (ss : List Symbol) (op : Op) (after : List Symbol) → next_operator ss ≡ Some (op, after) → (s : Symbol) × (ss ≡ s ∷ after)
operator_first [] op after e = absurd cc
operator_first (s ∷ ss) op after e = by_case (operator_of s.sign) e
  where
    by_case : (o : Option Op) → option_map_or {U = Option (Op × List Symbol)} (λ op. Some (op, ss)) o None ≡ Some (op, after) → (t : Symbol) × (s ∷ ss ≡ t ∷ after)
    by_case None e = absurd cc
    by_case (Some p) e = (s, ap (λ (f : Op × List Symbol). s ∷ f.1) (some_is (p, ss) (op, after) e))

-- the sign in front
pub sign_first : (test : Sign → Bool) (ss : List Symbol) (s : Symbol) (after : List Symbol) → next_where test ss ≡ Some (s, after) → ss ≡ s ∷ after
sign_first test [] s after e = absurd cc
sign_first test (t ∷ ss) s after e = by_case (test t.sign) e
  where
    by_case : (b : Bool) → cond {A = Option (Symbol × List Symbol)} b (Some (t, ss)) None ≡ Some (s, after) → t ∷ ss ≡ s ∷ after
    by_case true e = ap (λ (f : Symbol × List Symbol). f.0 ∷ f.1) (some_is (t, ss) (s, after) e)
    by_case false e = absurd cc

-- the first symbol, and the others
split_first : (ss : List Symbol) (d : Symbol) → 1 ≤ length ss → ss ≡ get_or ss 0 d ∷ take (length ss - 1) (drop 1 ss)
split_first [] d h = absurd (omega arith)
split_first (s ∷ ss) d h = ap (λ r. s ∷ r) (grind (arith, common_steps))

module _ (text : List ℕ) (ss : List Symbol) (d : Symbol) (some : 1 ≤ length ss) (are : AreSymbols text ss) where
  -- the first symbol is a piece of the text
  pub head_is : IsInText text (get_or ss 0 d)
  head_is = first_is text (get_or ss 0 d) (take (length ss - 1) (drop 1 ss)) ss (split_first ss d some) are

  -- so are the others
  pub tail_are : AreSymbols text (take (length ss - 1) (drop 1 ss))
  tail_are = others_are text (get_or ss 0 d) (take (length ss - 1) (drop 1 ss)) ss (split_first ss d some) are

  -- the others stand behind it
  pub tail_order : InOrder (get_or ss 0 d).span.end (take (length ss - 1) (drop 1 ss))
  tail_order = (first_behind (get_or ss 0 d) (take (length ss - 1) (drop 1 ss)) ss 0 (split_first ss d some) are.1).1

  -- behind another symbol
  pub head_behind : (from : ℕ) → InOrder from ss → from ≤ (get_or ss 0 d).span.end
  head_behind from order =
      let first = (first_behind (get_or ss 0 d) (take (length ss - 1) (drop 1 ss)) ss from (split_first ss d some) order).0 in
      let wide = head_is.some in omega arith

-- ---- parts

-- a tree within a place lies within a wider one
within_wider : (t : Tree) (inner outer : Span) → outer.start ≤ inner.start → inner.end ≤ outer.end → IsWithin (span_of t) inner → IsWithin (span_of t) outer
within_wider t inner outer first last w = let a = w.start in let b = w.end in record { start = omega arith; end = omega arith }

-- the same of a branch
between_wider : (o : Option Tree) (inner outer : Span) → outer.start ≤ inner.start → inner.end ≤ outer.end → IfSome o (λ t. IsWithin (span_of t) inner) → IfSome o (λ t. IsWithin (span_of t) outer)
between_wider None inner outer first last w = tt
between_wider (Some t) inner outer first last w = within_wider t inner outer first last w

-- the same of branches
all_wider : (inner outer : Span) (bs : List Branch) → outer.start ≤ inner.start → inner.end ≤ outer.end → All (IsBetween inner) bs → All (IsBetween outer) bs
all_wider inner outer bs first last w = All-weaker (IsBetween inner) (IsBetween outer) (λ b k. between_wider b.expr inner outer first last k) bs w

-- a part in front of the rest
module _ (text : List ℕ) (ss : List Symbol) (x : Part) (rest : List Symbol) (front : IsInFront ss x rest) (are : AreSymbols text rest) where
  -- ---- an infix operator

  module _ (s : Symbol) (after : List Symbol) (is : rest ≡ s ∷ after) (y : Part) (others : List Symbol) (behind : IsInFront after y others) (sound : InOrder 0 ss) where
    -- the second part stands behind the first
    pub joined_order : x.place.end ≤ y.place.start
    joined_order =
        let order = first_behind s after rest x.place.end is (front.ends 0 sound) in
        let first = order.0 in
        let some = (first_is text s after rest is are).some in
        let last = behind.starts s.span.end order.1 in
        omega arith

    -- both joined stand in front of the others
    pub joined_front : (z : Part) → IsPlaced z → z.place ≡ from_to x.place y.place → IsInFront ss z others
    joined_front z placed place = record {
      placed = placed;
      starts = λ from order. let k = front.starts from order in let e = ap (λ (p : Span). p.start) place in omega arith;
      ends = λ from order. subst (λ n. InOrder n others) (sym (ap (λ (p : Span). p.end) place)) (behind.ends s.span.end (first_behind s after rest x.place.end is (front.ends from order)).1);
    }

  -- ---- a sign behind a part

  module _ (s : Symbol) (after : List Symbol) (is : rest ≡ s ∷ after) where
    -- the sign stands behind the part
    pub closed_order : InOrder 0 ss → x.place.end ≤ s.span.end
    closed_order sound =
        let order = first_behind s after rest x.place.end is (front.ends 0 sound) in
        let first = order.0 in
        let some = (first_is text s after rest is are).some in
        omega arith

    -- the part with the sign stands in front of the others
    pub closed_front : (z : Part) → IsPlaced z → z.place ≡ from_to x.place s.span → IsInFront ss z after
    closed_front z placed place = record {
      placed = placed;
      starts = λ from order. let k = front.starts from order in let e = ap (λ (p : Span). p.start) place in omega arith;
      ends = λ from order. subst (λ n. InOrder n after) (sym (ap (λ (p : Span). p.end) place)) (first_behind s after rest x.place.end is (front.ends from order)).1;
    }

  -- ---- parentheses

  module _ (f : Symbol) (opens : IsInText text f) (order : InOrder f.span.end ss) where
    -- the part in parentheses stands in front of the others
    pub enclosed_front : (s : Symbol) (after : List Symbol) → rest ≡ s ∷ after → (z : Part) → IsPlaced z → z.place ≡ from_to f.span s.span → IsInFront (f ∷ ss) z after
    enclosed_front s after is z placed place = record {
      placed = placed;
      starts = λ from all. let k = all.0 in let e = ap (λ (p : Span). p.start) place in omega arith;
      ends = λ from all. subst (λ n. InOrder n after) (sym (ap (λ (p : Span). p.end) place)) (first_behind s after rest x.place.end is (front.ends f.span.end all.1)).1;
    }

-- what stands behind a part that was closed
pub behind_close : (rest : List Symbol) (s : Symbol) (after : List Symbol) → close_at rest ≡ Some (s, after) → rest ≡ s ∷ after
behind_close rest s after e = (close_is rest (s, after) e).0

-- ---- a sign before a part

-- a part with a sign before it starts no earlier than the sign
prefix_start : (S : Setting) (o : Option Prefix) (s : Symbol) (x : Part) → s.span.start ≤ x.place.start → s.span.start ≤ (prefixed_by (built S) o s x).place.start
prefix_start S None s x h = h
prefix_start S (Some prefix) s x h = omega arith

-- and it ends as it did
prefix_end : (S : Setting) (o : Option Prefix) (s : Symbol) (x : Part) → (prefixed_by (built S) o s x).place.end ≡ x.place.end
prefix_end S None s x = refl
prefix_end S (Some prefix) s x = refl

-- from one symbol earlier on
one_before : (ss : List Symbol) (i : ℕ) (d : Symbol) → 0 < i → i ≤ length ss → drop (i - 1) ss ≡ get_or ss (i - 1) d ∷ drop i ss
one_before ss i d some within = grind (arith, common_steps)

-- the symbols from one on are symbols of the text
pub drops_are : (text : List ℕ) (i : ℕ) (ss : List Symbol) → AreSymbols text ss → AreSymbols text (drop i ss)
drops_are text zero ss are = are
drops_are text (suc i) [] are = are
drops_are text (suc i) (s ∷ ss) are = drops_are text i ss (others_are text s ss (s ∷ ss) refl are)

module _ (S : Setting) (ss : List Symbol) (i : ℕ) (d : Symbol) (some : 0 < i) (within : i ≤ length ss) (are : AreSymbols S.text ss) (x : Part) (rest : List Symbol) (front : IsInFront (drop i ss) x rest) where
  -- the sign stands before the part
  pub prefix_order : (get_or ss (i - 1) d).span.start ≤ x.place.start
  prefix_order =
      let s = get_or ss (i - 1) d in
      let is = one_before ss i d some within in
      let all = drops_are S.text (i - 1) ss are in
      let wide = (first_is S.text s (drop i ss) (drop (i - 1) ss) is all).some in
      let k = front.starts s.span.end (first_behind s (drop i ss) (drop (i - 1) ss) 0 is all.1).1 in
      omega arith

  -- the part with the sign stands in front of the rest
  pub prefix_front : (z : Part) → IsPlaced z → z ≡ prefixed_by (built S) (prefix_of (get_or ss (i - 1) d).sign) (get_or ss (i - 1) d) x → IsInFront (drop (i - 1) ss) z rest
  prefix_front z placed made =
      let s = get_or ss (i - 1) d in
      let is = one_before ss i d some within in record {
        placed = placed;
        starts = λ from order.
            let first = (first_behind (get_or ss (i - 1) d) (drop i ss) (drop (i - 1) ss) from (one_before ss i d some within) order).0 in
            let k = prefix_start S (prefix_of (get_or ss (i - 1) d).sign) (get_or ss (i - 1) d) x prefix_order in
            let e : z.place.start ≡ (prefixed_by (built S) (prefix_of (get_or ss (i - 1) d).sign) (get_or ss (i - 1) d) x).place.start = ap (λ (p : Part). p.place.start) made in
            omega arith;
        ends = λ from order.
            subst (λ n. InOrder n rest) (sym (ap (λ (p : Part). p.place.end) made ∙ prefix_end S (prefix_of s.sign) s x))
            (front.ends s.span.end (first_behind s (drop i ss) (drop (i - 1) ss) from is order).1);
      }

-- ---- arguments

-- one argument more
pub more_before : (text : List ℕ) (before : ℕ) (xs ys : List Branch) (rest : List Symbol) (s : Symbol) (after : List Symbol) (y : Branch) (others : List Symbol)
    → AreSymbols text rest → AreBefore before xs rest → rest ≡ s ∷ after → AreBefore s.span.end (y ∷ []) others → ys ≡ xs ++ y ∷ [] → AreBefore before ys others
more_before text before xs ys rest s after y others are front is next more =
    let place : Span = record { start = before; end = next.last } in
    let k = front.order in
    let first = (first_behind s after rest front.last is front.ends).0 in
    let some = (first_is text s after rest is are).some in
    let j = next.order in record {
      last = next.last;
      order = omega arith;
      within = subst (All (IsBetween place)) (sym more) (
          All-push (IsBetween place) xs y
          (all_wider (record { start = before; end = front.last }) place xs (omega arith) (omega arith) front.within)
          (between_wider y.expr (record { start = s.span.end; end = next.last }) place (omega arith) (omega arith) (All-head (IsBetween (record { start = s.span.end; end = next.last })) y [] next.within))
          );
      ends = next.ends;
    }

-- a call around its arguments
module _ (text : List ℕ) (name : Symbol) (named : IsInText text name) (before : ℕ) (behind : name.span.end ≤ before) (xs : List Branch) (rest : List Symbol) (front : AreBefore before xs rest) (are : AreSymbols text rest)
    (s : Symbol) (after : List Symbol) (is : rest ≡ s ∷ after) where
  -- the name stands before the closing parenthesis
  pub call_forward : name.span.start ≤ s.span.end
  call_forward =
      let k = front.order in
      let first = (first_behind s after rest front.last is front.ends).0 in
      let some = (first_is text s after rest is are).some in
      let wide = named.some in omega arith

  -- the arguments stand between them
  pub call_within : All (IsBetween (from_to name.span s.span)) xs
  call_within =
      let first = (first_behind s after rest front.last is front.ends).0 in
      let some = (first_is text s after rest is are).some in
      let wide = named.some in
      all_wider (record { start = before; end = front.last }) (from_to name.span s.span) xs (omega arith) (omega arith) front.within

  -- the call stands in front of the others
  pub call_front : (ss : List Symbol) (z : Part) → IsPlaced z → z.place ≡ from_to name.span s.span → IsInFront (name ∷ ss) z after
  call_front ss z placed place = record {
    placed = placed;
    starts = λ from all. let k = all.0 in let e = ap (λ (p : Span). p.start) place in omega arith;
    ends = λ from all. subst (λ n. InOrder n after) (sym (ap (λ (p : Span). p.end) place)) (first_behind s after rest front.last is front.ends).1;
  }

-- a part behind a second symbol stands behind it too
second_front : (text : List ℕ) (s t : Symbol) (ss : List Symbol) (x : Part) (rest : List Symbol) → AreSymbols text (s ∷ t ∷ ss) → IsInFront (s ∷ ss) x rest → IsInFront (s ∷ t ∷ ss) x rest
second_front text s t ss x rest are front = record {
  placed = front.placed;
  starts = λ from order. front.starts from (order.0, skipped order.1);
  ends = λ from order. front.ends from (order.0, skipped order.1);
}
  where
    skipped : InOrder s.span.end (t ∷ ss) → InOrder s.span.end ss
    skipped order =
        let some = (first_is text t ss (t ∷ ss) refl (others_are text s (t ∷ ss) (s ∷ t ∷ ss) refl are)).some in
        let first = order.0 in from_before s.span.end t.span.end ss (omega arith) order.1

-- what was read behind a word and the symbol after it
pub word_front : {R : Type 0} (part : R → Part) (others : R → List Symbol) (text : List ℕ) (word : Symbol) (after ss : List Symbol) (d : Symbol) → ss ≡ word ∷ after → AreSymbols text ss → 1 ≤ length after → (r : Result R Stop)
    → IfOk r (λ x. IsInFront (word ∷ take (length after - 1) (drop 1 after)) (part x) (others x)) → IfOk r (λ x. IsInFront ss (part x) (others x))
word_front part others text word after ss d is are some (Err e) front = tt
word_front part others text word after ss d is are some (Ok x) front =
    let whole : ss ≡ word ∷ get_or after 0 d ∷ take (length after - 1) (drop 1 after) = is ∙ ap (λ r. word ∷ r) (split_first after d some) in
    subst (λ s. IsInFront s (part x) (others x)) (sym whole)
    (second_front text word (get_or after 0 d) (take (length after - 1) (drop 1 after)) (part x) (others x) (subst (AreSymbols text) whole are) front)
