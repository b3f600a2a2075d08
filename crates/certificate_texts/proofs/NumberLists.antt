-- Reading numbers, each behind a space, one by one.
use Rattle.std.proofs.Common.{◌≡◌, ◌≢◌, ◌∙◌, ℕ, List, [], ◌∷◌, ◌++◌, map, None, refl, sym, ap, subst, append_assoc, append-nil, arith}
use Rattle.std.specs.List.{AllByRecursion}
use Rattle.fractions.specs.Rational.{ℚ}
use Rattle.frac128.specs.Narrow.{IsNarrow}
use Rattle.frac128.specs.Printed.{printed}
use Rattle.certificate_lines.specs.Cutting.{Lacks}
use Rattle.certificate_lines.specs.Line.{spaced}
use Rattle.certificate_texts.specs.Lists.{OneNumber, NextNumber}
use Rattle.certificate_lines.proofs.Cuts.{all_map, all-append, none_there}
use Rattle.certificate_lines.proofs.Numbers.{NumberByte, number_bytes, printed_one}
use Rattle.certificate_texts.proofs.Reading.{number_cut}

pub spaced-append : (ws vs : List (List ℕ)) → spaced (ws ++ vs) ≡ spaced ws ++ spaced vs
spaced-append [] vs = refl
spaced-append (w ∷ ws) vs = ap (λ r. 32 ∷ (w ++ r)) (spaced-append ws vs) ∙ ap (λ r. 32 ∷ r) (sym (append_assoc w (spaced ws) (spaced vs)))

pub printed-append : (xs ys : List ℚ) → map printed (xs ++ ys) ≡ map printed xs ++ map printed ys
printed-append [] ys = refl
printed-append (x ∷ xs) ys = ap (λ r. printed x ∷ r) (printed-append xs ys)

-- numbers that go on behind those that are read
pub record More (old : List ℚ) (rest : List ℕ) (xs : List ℚ) : Type 0 where
  pub more : List ℚ
  pub is : xs ≡ old ++ more
  pub narrow : AllByRecursion IsNarrow more
  pub rest_is : rest ≡ spaced (map printed more)

-- how far numbers are read
pub record Far (text : List ℕ) (old : List ℚ) (rest : List ℕ) : Type 0 where
  pub narrow : AllByRecursion IsNarrow old
  pub joined : text ≡ spaced (map printed old) ++ rest
  pub only : (xs : List ℚ) → AllByRecursion IsNarrow xs → text ≡ spaced (map printed xs) → More old rest xs

pub far-start : (text : List ℕ) → Far text [] text
far-start text = record { narrow = tt; joined = refl; only = λ xs h e. record { more = xs; is = refl; narrow = h; rest_is = e } }

go_on : (old : List ℚ) (rest : List ℕ) (new : List ℚ) (behind : List ℕ) (xs : List ℚ) → OneNumber old rest new behind → (more : List ℚ) → xs ≡ old ++ more → AllByRecursion IsNarrow more
    → rest ≡ spaced (map printed more) → More new behind xs
go_on old rest new behind xs n [] e h r = none_there _ _ (sym n.joined ∙ r)
go_on old rest new behind xs n (m ∷ more) e h r =
    let lacks : Lacks 32 (printed n.number) = all_map NumberByte (λ b. b ≢ 32) (λ b p. omega (arith, p.0)) (printed n.number) (number_bytes n.number n.narrow) in
    let c = number_cut rest (printed n.number) behind m (map printed more) n.joined lacks n.starts h.0 r in
    let same : n.number ≡ m = printed_one n.number m n.narrow h.0 c.front in
    record {
      more = more;
      is = e ∙ ap (λ x. old ++ (x ∷ more)) (sym same) ∙ sym (append_assoc old (n.number ∷ []) more) ∙ ap (λ x. x ++ more) (sym n.added);
      narrow = h.1;
      rest_is = c.back;
    }

pub far-next : (text : List ℕ) (old : List ℚ) (rest : List ℕ) (new : List ℚ) (behind : List ℕ) → Far text old rest → OneNumber old rest new behind → Far text new behind
far-next text old rest new behind f n =
    let whole : spaced (map printed (old ++ (n.number ∷ []))) ≡ spaced (map printed old) ++ (32 ∷ (printed n.number ++ []))
    = ap spaced (printed-append old (n.number ∷ [])) ∙ spaced-append (map printed old) (printed n.number ∷ []) in
    record {
      narrow = subst (AllByRecursion IsNarrow) (sym n.added) (all-append IsNarrow old (n.number ∷ []) f.narrow (n.narrow, tt));
      joined = f.joined ∙ ap (λ r. spaced (map printed old) ++ r) n.joined
          ∙ sym (append_assoc (spaced (map printed old)) (32 ∷ printed n.number) behind)
          ∙ ap (λ r. r ++ behind) (ap (λ r. spaced (map printed old) ++ (32 ∷ r)) (sym (append-nil (printed n.number))) ∙ sym whole ∙ ap (λ x. spaced (map printed x)) (sym n.added));
      only = λ xs h e. let m = f.only xs h e in go_on old rest new behind xs n m.more m.is m.narrow m.rest_is;
    }

pub far-none : (text : List ℕ) (old : List ℚ) (rest : List ℕ) (new : List ℚ) → Far text old rest → rest ≢ [] → NextNumber old rest new None
    → (xs : List ℚ) → AllByRecursion IsNarrow xs → text ≢ spaced (map printed xs)
far-none text old rest new f some n xs h e = let m = f.only xs h e in by_more m.more m.narrow m.rest_is
  where
    by_more : (more : List ℚ) → AllByRecursion IsNarrow more → rest ≡ spaced (map printed more) → ⊥
    by_more [] k r = some r
    by_more (x ∷ more) k r = n x more k.0 k.1 r

pub far-end : (text : List ℕ) (old : List ℚ) (rest : List ℕ) → Far text old rest → rest ≡ [] → AllByRecursion IsNarrow old × (text ≡ spaced (map printed old))
far-end text old rest f e = (f.narrow, f.joined ∙ ap (λ r. spaced (map printed old) ++ r) e ∙ append-nil (spaced (map printed old)))
