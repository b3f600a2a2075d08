-- Going through a tree of numbers in preorder: of what waits the last one is next, and what was gone through is listed with the latest first.
use Rattle.std.proofs.Common.{◌≡◌, ◌≢◌, ℕ, zero, suc, ◌+◌, ◌<◌, ◌≤◌, refl, sym, ap, ◌∙◌, subst, List, [], ◌∷◌, ◌++◌, length, get_or, reverse, arith, inl, inr, ◌⊎◌, append_assoc, append-nil, length-append}
use Rattle.std.specs.Prelude.{⊤}
use Rattle.std.proofs.Common.{◌-◌}
use Rattle.std.proofs.lemmas.List.{reverse-append, length-reverse}
use Rattle.searches.specs.Laws.{Lacks, AreDistinct}
use Rattle.search_trees.specs.declared.slots.Slot.{Slot}
use Rattle.search_trees.specs.declared.slots.Slot.TheVariants as slots
use Rattle.search_trees.specs.Slots.{slot_at}
use Rattle.search_trees.specs.Orders.{Shape, leaf, parts, numbers, IsShape, IsPreorder, AreLater, AreApart, IsPartOf}
use Rattle.search_trees.proofs.Counting.{Has, has_left, has_right, has_between, not_has, distinct_right, distinct_more, few_distinct}

-- ---- trees of what waits, the next one first
abbrev pub AreShapes : List Slot → List ℕ → List Shape → Type 0
AreShapes ss [] [] = ⊤
AreShapes ss [] (t ∷ ts) = ⊥
AreShapes ss (k ∷ ks) [] = ⊥
AreShapes ss (k ∷ ks) (t ∷ ts) = IsShape ss k t × AreShapes ss ks ts

abbrev pub all_numbers : List Shape → List ℕ
all_numbers [] = []
all_numbers (t ∷ ts) = numbers t ++ all_numbers ts

-- the number is a part of a number in the list
record IsPartIn (ss : List Slot) (done : List ℕ) (n : ℕ) : Type 0 where
  parent : ℕ
  low : ℕ
  there : Has done parent
  slot : slot_at ss parent ≡ slots.Parts low
  is_part : IsPartOf low n

-- whatever trees wait, there is a tree of the root that has what was gone through and then these; and no number comes twice
pub record IsWalked (ss : List Slot) (root : ℕ) (waiting done : List ℕ) : Type 0 where
  shapes : (ts : List Shape) → AreShapes ss (reverse waiting) ts → (t : Shape) × IsShape ss root t × (numbers t ≡ reverse done ++ all_numbers ts)
  distinct : AreDistinct (waiting ++ done)
  from : (n : ℕ) → Has (waiting ++ done) n → (n ≡ root) ⊎ IsPartIn ss done n
  pub range : (n : ℕ) → Has (waiting ++ done) n → (root ≤ n) × (n < length ss)

pub few_walked : (ss : List Slot) (root : ℕ) (waiting done : List ℕ) → IsWalked ss root waiting done → length waiting + length done ≤ length ss
few_walked ss root waiting done h =
    let a = few_distinct (waiting ++ done) (length ss) h.distinct (λ n i. (h.range n i).1) in
    let b = length-append waiting done in
    omega (arith, a, b)

pub start_walk : (ss : List Slot) (root : ℕ) → root < length ss → IsWalked ss root (root ∷ []) []
start_walk ss root l = record {
  shapes = λ ts h. begin ts h;
  distinct = (tt, tt);
  from = λ n i. elim i [ inl e ↦ inl (sym e) | inr j ↦ absurd j ];
  range = λ n i. elim i [ inl e ↦ (omega (arith, e), omega (arith, e, l)) | inr j ↦ absurd j ];
}
  where
    begin : (ts : List Shape) → AreShapes ss (root ∷ []) ts → (t : Shape) × IsShape ss root t × (numbers t ≡ all_numbers ts)
    begin [] h = absurd h
    begin (t ∷ []) h = (t, h.0, sym (append-nil (numbers t)))
    begin (t ∷ u ∷ ts) h = absurd h.1

pub whole_walk : (ss : List Slot) (root : ℕ) (done : List ℕ) → IsWalked ss root [] done → IsPreorder ss root (reverse done)
whole_walk ss root done h = let r = h.shapes [] tt in (r.0, r.1, sym (r.2 ∙ append-nil (reverse done)))

next_first : (rest : List ℕ) (n : ℕ) → reverse (rest ++ n ∷ []) ≡ n ∷ reverse rest
next_first rest n = reverse-append rest (n ∷ [])

latest_last : (n : ℕ) (done : List ℕ) → reverse (n ∷ done) ≡ reverse done ++ n ∷ []
latest_last n done = reverse-append (n ∷ []) done

same_list : (rest done : List ℕ) (n : ℕ) → (rest ++ n ∷ []) ++ done ≡ rest ++ n ∷ done
same_list rest done n = append_assoc rest (n ∷ []) done

more_parts : (ss : List Slot) (done : List ℕ) (k n : ℕ) → IsPartIn ss done n → IsPartIn ss (k ∷ done) n
more_parts ss done k n h = record { parent = h.parent; low = h.low; there = inr h.there; slot = h.slot; is_part = h.is_part }

-- ---- a leaf is next
pub leaf_walk : (ss : List Slot) (root n : ℕ) (rest done : List ℕ) → ((c : ℕ) → slot_at ss n ≢ slots.Parts c) → IsWalked ss root (rest ++ n ∷ []) done → IsWalked ss root rest (n ∷ done)
leaf_walk ss root n rest done apart h = record {
  shapes = λ ts k.
      let r = h.shapes (leaf n ∷ ts) (subst (λ ks. AreShapes ss ks (leaf n ∷ ts)) (sym (next_first rest n)) ((refl, apart), k)) in
      (r.0, r.1, r.2 ∙ sym (append_assoc (reverse done) (n ∷ []) (all_numbers ts)) ∙ ap (λ ks. ks ++ all_numbers ts) (sym (latest_last n done)));
  distinct = subst AreDistinct (same_list rest done n) h.distinct;
  from = λ k i. elim (h.from k (subst (λ ks. Has ks k) (sym (same_list rest done n)) i)) [ inl e ↦ inl e | inr p ↦ inr (more_parts ss done n k p) ];
  range = λ k i. h.range k (subst (λ ks. Has ks k) (sym (same_list rest done n)) i);
}

-- ---- a node with two parts is next
pub parts_walk : (ss : List Slot) (root n c : ℕ) (rest done : List ℕ) → AreLater root ss → AreApart root ss → slot_at ss n ≡ slots.Parts c → IsWalked ss root (rest ++ n ∷ []) done
    → IsWalked ss root ((rest ++ suc c ∷ []) ++ c ∷ []) (n ∷ done)
parts_walk ss root n c rest done later apart e h = record {
  shapes = grow;
  distinct = subst AreDistinct (sym same) (distinct_more rest (c ∷ n ∷ done) (suc c) (distinct_more rest (n ∷ done) c old (fresh c (inl refl))) high_fresh);
  from = λ k i. source k (which k i);
  range = λ k i. within k (which k i);
}
  where
    old : AreDistinct (rest ++ n ∷ done)
    old = subst AreDistinct (same_list rest done n) h.distinct

    was : (k : ℕ) → Has (rest ++ n ∷ done) k → Has ((rest ++ n ∷ []) ++ done) k
    was k i = subst (λ ks. Has ks k) (sym (same_list rest done n)) i

    range : (root ≤ n) × (n < length ss)
    range = h.range n (was n (has_right rest (n ∷ done) n (inl refl)))

    after : (n < c) × (suc c < length ss)
    after = later n c range.0 e

    same : ((rest ++ suc c ∷ []) ++ c ∷ []) ++ (n ∷ done) ≡ rest ++ suc c ∷ c ∷ n ∷ done
    same = append_assoc (rest ++ suc c ∷ []) (c ∷ []) (n ∷ done) ∙ append_assoc rest (suc c ∷ []) (c ∷ n ∷ done)

    -- a part is new: else it would be one of a node that was gone through, so of this one, which still waited
    fresh : (x : ℕ) → IsPartOf c x → Has (rest ++ n ∷ done) x → ⊥
    fresh x p i = by_source (h.from x (was x i))
      where
        bigger : n < x
        bigger = elim p [ inl q ↦ let a = after.0 in omega (arith, a, q) | inr q ↦ let a = after.0 in omega (arith, a, q) ]

        by_source : (x ≡ root) ⊎ IsPartIn ss done x → ⊥
        by_source (inl q) = let a = range.0 in let b = bigger in absurd (omega (arith, a, b, q))
        by_source (inr q) =
            let there : Has (rest ++ n ∷ done) q.parent = has_right rest (n ∷ done) q.parent (inr q.there) in
            let r = h.range q.parent (was q.parent there) in
            let one : n ≡ q.parent = apart n q.parent c q.low x range.0 r.0 e q.slot p q.is_part in
            not_has done q.parent (subst (Lacks done) one (distinct_right rest (n ∷ done) old).0) q.there

    high_fresh : Has (rest ++ c ∷ n ∷ done) (suc c) → ⊥
    high_fresh i = elim (has_between rest (n ∷ done) c (suc c) i) [ inl q ↦ absurd (omega (arith, q)) | inr j ↦ fresh (suc c) (inr refl) j ]

    which : (k : ℕ) → Has (((rest ++ suc c ∷ []) ++ c ∷ []) ++ (n ∷ done)) k → (suc c ≡ k) ⊎ ((c ≡ k) ⊎ Has (rest ++ n ∷ done) k)
    which k i = elim (has_between rest (c ∷ n ∷ done) (suc c) k (subst (λ ks. Has ks k) same i)) [ inl q ↦ inl q | inr j ↦ inr (has_between rest (n ∷ done) c k j) ]

    part : (k : ℕ) → IsPartOf c k → IsPartIn ss (n ∷ done) k
    part k p = record { parent = n; low = c; there = inl refl; slot = e; is_part = p }

    source : (k : ℕ) → (suc c ≡ k) ⊎ ((c ≡ k) ⊎ Has (rest ++ n ∷ done) k) → (k ≡ root) ⊎ IsPartIn ss (n ∷ done) k
    source k (inl q) = inr (part k (inr (sym q)))
    source k (inr (inl q)) = inr (part k (inl (sym q)))
    source k (inr (inr i)) = elim (h.from k (was k i)) [ inl q ↦ inl q | inr p ↦ inr (more_parts ss done n k p) ]

    within : (k : ℕ) → (suc c ≡ k) ⊎ ((c ≡ k) ⊎ Has (rest ++ n ∷ done) k) → (root ≤ k) × (k < length ss)
    within k (inl q) = let a = range.0 in let b = after.0 in let d = after.1 in (omega (arith, a, b, q), omega (arith, d, q))
    within k (inr (inl q)) = let a = range.0 in let b = after.0 in let d = after.1 in (omega (arith, a, b, q), omega (arith, d, q))
    within k (inr (inr i)) = h.range k (was k i)

    turned : reverse ((rest ++ suc c ∷ []) ++ c ∷ []) ≡ c ∷ suc c ∷ reverse rest
    turned = next_first (rest ++ suc c ∷ []) c ∙ ap (λ ks. c ∷ ks) (next_first rest (suc c))

    grow : (ts : List Shape) → AreShapes ss (reverse ((rest ++ suc c ∷ []) ++ c ∷ [])) ts → (t : Shape) × IsShape ss root t × (numbers t ≡ reverse (n ∷ done) ++ all_numbers ts)
    grow ts k = two ts (subst (λ ks. AreShapes ss ks ts) turned k)
      where
        two : (ts : List Shape) → AreShapes ss (c ∷ suc c ∷ reverse rest) ts → (t : Shape) × IsShape ss root t × (numbers t ≡ reverse (n ∷ done) ++ all_numbers ts)
        two [] k = absurd k
        two (a ∷ []) k = absurd k.1
        two (a ∷ b ∷ ts) k =
            let r = h.shapes (parts n a b ∷ ts) (subst (λ ks. AreShapes ss ks (parts n a b ∷ ts)) (sym (next_first rest n)) ((refl, c, e, (k.0, k.1.0)), k.1.1)) in (
              r.0,
              r.1,
              r.2
                  ∙ ap (λ ks. reverse done ++ n ∷ ks) (append_assoc (numbers a) (numbers b) (all_numbers ts))
                  ∙ sym (append_assoc (reverse done) (n ∷ []) (numbers a ++ (numbers b ++ all_numbers ts)))
                  ∙ ap (λ ks. ks ++ (numbers a ++ (numbers b ++ all_numbers ts))) (sym (latest_last n done)),
            )

-- ---- by equal lists
pub walked_at : (ss : List Slot) (root : ℕ) (w x d e : List ℕ) → w ≡ x → d ≡ e → IsWalked ss root x e → IsWalked ss root w d
walked_at ss root w x d e p q h = subst (λ w. IsWalked ss root w d) (sym p) (subst (IsWalked ss root x) (sym q) h)

-- one more is listed
pub listed_more : (order now : List ℕ) (n : ℕ) → now ≡ order ++ n ∷ [] → reverse now ≡ n ∷ reverse order
listed_more order now n e = ap reverse e ∙ reverse-append order (n ∷ [])

-- something waits, so fewer were gone through than there are nodes
pub fewer_walked : (ss : List Slot) (root : ℕ) (waiting rest order now : List ℕ) (n : ℕ) → IsWalked ss root waiting (reverse order) → waiting ≡ rest ++ n ∷ [] → now ≡ order ++ n ∷ []
    → length ss - length now < length ss - length order
fewer_walked ss root waiting rest order now n h w e =
    let a = few_walked ss root waiting (reverse order) h in
    let b = length-reverse order in
    let c = ap length w in
    let d = length-append rest (n ∷ []) in
    let f = ap length e in
    let g = length-append order (n ∷ []) in
    omega (arith, a, b, c, d, f, g)

-- the next one is a node from the root on
pub next_range : (ss : List Slot) (root n : ℕ) (waiting rest done : List ℕ) → IsWalked ss root waiting done → waiting ≡ rest ++ n ∷ [] → (root ≤ n) × (n < length ss)
next_range ss root n waiting rest done h e = h.range n (has_left waiting done n (subst (λ w. Has w n) (sym e) (has_right rest (n ∷ []) n (inl refl))))

pub same_at : (ss : List Slot) (k : ℕ) (d e : Slot) → k < length ss → get_or ss k d ≡ get_or ss k e
same_at [] k d e l = absurd (omega (arith, l))
same_at (s ∷ ss) zero d e l = refl
same_at (s ∷ ss) (suc k) d e l = same_at ss k d e (omega (arith, l))

pub none_left : (ks : List ℕ) → length ks ≡ 0 → ks ≡ []
none_left [] e = refl
none_left (k ∷ ks) e = absurd (omega (arith, e))
