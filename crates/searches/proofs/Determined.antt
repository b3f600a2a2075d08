-- A rule other than the free one leaves one next unit and one state after it, and so one trail of each length.
use Rattle.std.proofs.Common.{◌≡◌, ◌≢◌, ℕ, suc, zero, ◌<◌, refl, sym, ap, ap₂, ◌∙◌, subst, List, [], ◌∷◌, length, map, arith, ◌⊎◌, inl, inr}
use Rattle.std.specs.Prelude.{Option, Some, None, slice_get}
use Rattle.linear_programs.specs.Program.{Program}
use Rattle.dictionaries.specs.Dictionary.{Dictionary, IsOnce, pivoted, first_of_program}
use Rattle.dictionaries.specs.Narrow.{IsNarrowPivot}
use Rattle.dictionaries.specs.Bland.{NextPivot, HasEnded}
use Rattle.dictionaries.specs.Bland as bland
use Rattle.dictionaries.specs.Run.{IsOnTheWay}
use Rattle.dictionaries.proofs.Determined.{one_entering, not_both, next_is_determined}
use Rattle.dictionaries.proofs.Solutions.{dictionary_once}
use Rattle.dictionaries.proofs.Runs.{first_on_the_way, step_on_the_way}
use Rattle.node_pick.specs.Rules.{Rule, depth_first, best_first, oldest_first, free, NamesAmong, IsRising, Follows}
use Rattle.node_pick.specs.declared.info.NodeInfo.{NodeInfo}
use Rattle.linear_models.specs.Model.{Model, IsValid}
use Rattle.searches.specs.Trees.{Node, info, End}
use Rattle.searches.specs.Trails.{Outcome, no_point, best, no_bound, Finishes, without_point, at_best, without_bound, decisions_at, decisions_along, ComesTo, box_of, State, Work, Becomes, goes_on, ends, ended, without_place, node_program, opening, pivot, SearchUnit, Grows, opens, pivots, stays, grows, Trail}
use Rattle.searches.specs.Laws.{OneNextState, OneTrail}
use Rattle.searches.proofs.Numbers.{numbers_rise, list_rises}
use Rattle.searches.proofs.Comings.{one_end}
use Rattle.searches.proofs.Ends.{node_regular}
use Rattle.searches.proofs.Trails.{HoldsWith, trail_stands}

-- ---- one place
named : (rule : Rule) (w : List NodeInfo) (p : ℕ) → rule ≢ free → Follows rule w p → NamesAmong rule w (length w) p
named depth_first w p n f = f
named best_first w p n f = f
named oldest_first w p n f = f
named free w p n f = absurd (n refl)

-- the rule names one place
one_place : (w : List NodeInfo) (rule : Rule) (n p q : ℕ) (a b : NodeInfo) → IsRising w → slice_get w p ≡ Some a → slice_get w q ≡ Some b → NamesAmong rule w n p → NamesAmong rule w n q
    → p ≡ q
one_place w rule n p q a b r e f g h = cases (three p q)
  where
    three : (p q : ℕ) → (p < q) ⊎ ((q < p) ⊎ (p ≡ q))
    three p q = grind arith

    later : (p q : ℕ) (a b : NodeInfo) → slice_get w p ≡ Some a → slice_get w q ≡ Some b → NamesAmong rule w n p → NamesAmong rule w n q → p < q → ⊥
    later p q a b e f g h l = let z = r p q a b l e f in elim (h.ties p a b g.place e f) [ inl k ↦ g.best q b a h.place f e k | inr k ↦ absurd (omega (arith, z, k)) ]

    cases : (p < q) ⊎ ((q < p) ⊎ (p ≡ q)) → p ≡ q
    cases (inl l) = absurd (later p q a b e f g h l)
    cases (inr (inl l)) = absurd (later q p b a f e h g l)
    cases (inr (inr k)) = k

-- ---- one outcome
has_ended : (p : Program) (d : Dictionary) (o : Outcome) → Finishes p d o → HasEnded d
has_ended p d o (without_point e) = bland.infeasible e
has_ended p d o (at_best e) = bland.best e
has_ended p d o (without_bound c e) = bland.unbounded c e

one_outcome : (p : Program) (d : Dictionary) (o o' : Outcome) → IsOnce d → Finishes p d o → Finishes p d o' → o ≡ o'
one_outcome p d o o' u f g = by_both o o' f g
  where
    by_both : (o o' : Outcome) → Finishes p d o → Finishes p d o' → o ≡ o'
    by_both no_point no_point (without_point e) (without_point f) = refl
    by_both no_point (best y k) (without_point e) (at_best f) = absurd (not_both d u e.phase f.phase.0)
    by_both no_point (no_bound y k) (without_point e) (without_bound c f) = absurd (not_both d u e.phase f.phase.0)
    by_both (best y k) no_point (at_best e) (without_point f) = absurd (not_both d u f.phase e.phase.0)
    by_both (best y k) (best z l) (at_best e) (at_best f) = refl
    by_both (best y k) (no_bound z l) (at_best e) (without_bound c f) = absurd (e.optimal c f.enters.improves)
    by_both (no_bound y k) no_point (without_bound c e) (without_point f) = absurd (not_both d u f.phase e.phase.0)
    by_both (no_bound y k) (best z l) (without_bound c e) (at_best f) = absurd (f.optimal c e.enters.improves)
    by_both (no_bound y k) (no_bound z l) (without_bound c e) (without_bound c' f) =
        ap (λ (c : ℕ). no_bound (decisions_at p d) (decisions_along p d c)) (one_entering d d.objective c c' u e.enters f.enters)

-- ---- one next unit
becomes_one : (m : Model) (s : State) (node : Node) (k : ℕ) (d : Dictionary) (t t' : State) → IsOnce d → Becomes m s node k d t → Becomes m s node k d t' → t ≡ t'
becomes_one m s node k d t t' u (goes_on n) (goes_on n') = refl
becomes_one m s node k d t t' u (goes_on n) (ends o e f c) = absurd (n (has_ended _ d o f))
becomes_one m s node k d t t' u (ends o e f c) (goes_on n) = absurd (n (has_ended _ d o f))
becomes_one m s node k d t t' u (ends o e f c) (ends o' e' f' c') =
    let q = one_outcome (node_program m s.way node) d o o' u f f' in
    ap (λ (x : End). ended s node k x) (one_end m (box_of m node) s.found o' e e' (subst (λ (x : Outcome). ComesTo m (box_of m node) s.found x e) q c) c')

-- of a node that is worked on the next pivot is one, and so is the state after it
pivots_one : (m : Model) (s : State) (w : Work) (r c r' c' : ℕ) (t t' : State) → IsOnTheWay (node_program m s.way w.node) w.dictionary
    → NextPivot w.dictionary r c → NextPivot w.dictionary r' c' → IsNarrowPivot w.dictionary r' c'
    → Becomes m s w.node (suc w.pivots) (pivoted w.dictionary r c) t → Becomes m s w.node (suc w.pivots) (pivoted w.dictionary r' c') t' → (pivot r c ≡ pivot r' c') × (t ≡ t')
pivots_one m s w r c r' c' t t' y n n' i b b' =
    let q = next_is_determined (node_program m s.way w.node) w.dictionary r c r' c' y n n' in
    let z = step_on_the_way (node_program m s.way w.node) w.dictionary (pivoted w.dictionary r' c') y record { row = r'; column = c'; is_next = n'; is_narrow = i; after = refl } in (
      ap₂ pivot q.0 q.1,
      becomes_one m s w.node (suc w.pivots) (pivoted w.dictionary r' c') t t' (dictionary_once _ _ z.dictionary)
          (subst (λ (i : ℕ). Becomes m s w.node (suc w.pivots) (pivoted w.dictionary r' i) t) q.1 (subst (λ (i : ℕ). Becomes m s w.node (suc w.pivots) (pivoted w.dictionary i c) t) q.0 b)) b',
    )

some_one : {X : Type 0} {a b : X} → Some a ≡ Some b → a ≡ b
some_one e = cc

mapped : (ns : List Node) (p : ℕ) (n : Node) → slice_get ns p ≡ Some n → slice_get (map info ns) p ≡ Some (info n)
mapped [] p n e = absurd cc
mapped (k ∷ ns) zero n e = ap Some (ap info (some_one e))
mapped (k ∷ ns) (suc p) n e = mapped ns p n e

-- the node that is opened is one, and so is the state after it
opens_one : (m : Model) (rule : Rule) (s : State) (p q : ℕ) (a b : Node) (t t' : State) → IsValid m → IsRising (map info s.waiting) → slice_get s.waiting p ≡ Some a → slice_get s.waiting q ≡ Some b
    → NamesAmong rule (map info s.waiting) (length (map info s.waiting)) p → NamesAmong rule (map info s.waiting) (length (map info s.waiting)) q
    → Becomes m (without_place s p) a 0 (first_of_program (node_program m s.way a)) t → Becomes m (without_place s q) b 0 (first_of_program (node_program m s.way b)) t'
    → (opening a.number ≡ opening b.number) × (t ≡ t')
opens_one m rule s p q a b t t' v r e g h i x y =
    let k : p ≡ q = one_place (map info s.waiting) rule (length (map info s.waiting)) p q (info a) (info b) r (mapped s.waiting p a e) (mapped s.waiting q b g) h i in
    let l : a ≡ b = some_one (sym e ∙ ap (slice_get s.waiting) k ∙ g) in
    let z = first_on_the_way (node_program m s.way b) (node_regular m s.way b v) in (
      ap (λ (u : Node). opening u.number) l,
      becomes_one m (without_place s q) b 0 (first_of_program (node_program m s.way b)) t t' (dictionary_once _ _ z.dictionary)
          (subst (λ (u : Node). Becomes m (without_place s q) u 0 (first_of_program (node_program m s.way u)) t) l
          (subst (λ (j : ℕ). Becomes m (without_place s j) a 0 (first_of_program (node_program m s.way a)) t) k x)) y,
    )

not_work : (s : State) (w : Work) → s.work ≡ None → s.work ≡ Some w → ⊥
not_work s w e f = let q : None ≡ Some w = sym e ∙ f in absurd cc

-- whatever rule was followed before
pub next_one : (m : Model) (any rule : Rule) (us : List SearchUnit) (s t t' : State) (u u' : SearchUnit) → IsValid m → rule ≢ free → Trail m any us s → Grows m rule s u t → Grows m rule s u' t'
    → (u ≡ u') × (t ≡ t')
next_one m any rule us s t t' u u' v nf l (opens p a t1 z o e f b) (opens q c t2 z' o' e' f' b') =
    opens_one m rule s p q a c t t' v (list_rises 0 s.count s.waiting (numbers_rise m any us s l)) e e' (named rule _ p nf f) (named rule _ q nf f') b b'
next_one m any rule us s t t' u u' v nf l (opens p a t1 z o e f b) (pivots w r c t2 z' n y b') = absurd (not_work s w z z')
next_one m any rule us s t t' u u' v nf l (pivots w r c t1 z n y b) (opens p a t2 z' o e f b') = absurd (not_work s w z' z)
next_one m any rule us s t t' u u' v nf l (pivots w r c t1 z n y b) (pivots w' r' c' t2 z' n' y' b') =
    let q : w' ≡ w = some_one (sym z' ∙ z) in
    let k : HoldsWith m s (Some w) = subst (HoldsWith m s) z (trail_stands m any us s v l) in
    pivots_one m s w r c r' c' t t' k.1 n (subst (λ (w : Work). NextPivot w.dictionary r' c') q n') (subst (λ (w : Work). IsNarrowPivot w.dictionary r' c') q y') b
    (subst (λ (w : Work). Becomes m s w.node (suc w.pivots) (pivoted w.dictionary r' c') t') q b')

pub one_next_state : OneNextState
one_next_state m rule us s t t' u u' v nf l g g' = next_one m rule rule us s t t' u u' v nf l g g'

pub one_trail : OneTrail
one_trail m rule us us' s s' v nf stays stays e = (refl, refl)
one_trail m rule us us' s s' v nf stays (grows vs t u t' l g) e = absurd (omega (arith, e))
one_trail m rule us us' s s' v nf (grows vs t u t' l g) stays e = absurd (omega (arith, e))
one_trail m rule us us' s s' v nf (grows vs t u t1 l g) (grows vs' t' u' t2 l' g') e =
    let before = one_trail m rule vs vs' t t' v nf l l' (omega (arith, e)) in
    let one = one_next_state m rule vs t s s' u u' v nf l g (subst (λ (x : State). Grows m rule x u' s') (sym before.1) g') in
    (ap₂ ◌∷◌ one.0 before.0, one.1)
