-- Units of a search from any state that a trail has led to, by a rule that names a node.
use Rattle.std.proofs.Common.{◌≡◌, ◌≢◌, ◌<◌, ◌⊎◌, inl, inr, ◌∙◌, ℕ, suc, List, ◌++◌, length, Some, None, sym, subst, arith}
use Rattle.dictionaries.specs.Bland.{NextPivot}
use Rattle.dictionaries.specs.Narrow.{IsNarrowPivot}
use Rattle.dictionaries.proofs.Determined.{next_is_determined}
use Rattle.linear_models.specs.Model.{Model, IsValid}
use Rattle.node_pick.specs.Rules.{Rule, free}
use Rattle.searches.specs.Trails.{State, Work, SearchUnit, Grows, opens, pivots, Leads, stays, grows, Trail, IsOver, node_program, start}
use Rattle.searches.proofs.Trails.{HoldsWith, trail_stands}
use Rattle.searches.proofs.Slices.{free_leads, slices_agree, slices_join}

-- ---- where no unit can be made
pub over_is_last : (m : Model) (rule : Rule) (s t : State) (u : SearchUnit) → s.work ≡ None → IsOver m s → Grows m rule s u t → ⊥
over_is_last m rule s t u rest over (opens p node t' z o e f b) = o over
over_is_last m rule s t u rest over (pivots w r c t' z n y b) = let q : None ≡ Some w = sym rest ∙ z in absurd cc

-- of a node that is worked on along a trail there is one next pivot
pub one_pivot : (m : Model) (us : List SearchUnit) (s : State) (w : Work) (r c i j : ℕ) → IsValid m → Trail m free us s → s.work ≡ Some w → NextPivot w.dictionary r c → NextPivot w.dictionary i j
    → (r ≡ i) × (c ≡ j)
one_pivot m us s w r c i j valid trail is n k =
    let stands : HoldsWith m s (Some w) = subst (HoldsWith m s) is (trail_stands m free us s valid trail) in
    next_is_determined (node_program m s.way w.node) w.dictionary r c i j stands.1 n k

pub same_work : {v w : Work} → Some v ≡ Some w → v ≡ w
same_work e = cc

pub wide_is_last : (m : Model) (rule : Rule) (us : List SearchUnit) (s t : State) (u : SearchUnit) (w : Work) (r c : ℕ) → IsValid m → Trail m free us s → s.work ≡ Some w → NextPivot w.dictionary r c
    → ¬ (IsNarrowPivot w.dictionary r c) → Grows m rule s u t → ⊥
wide_is_last m rule us s t u w r c valid trail is n wide (opens p node t' z o e f b) = let q : None ≡ Some w = sym z ∙ is in absurd cc
wide_is_last m rule us s t u w r c valid trail is n wide (pivots v i j t' z k y b) =
    let same : v ≡ w = same_work (sym z ∙ is) in
    let one = one_pivot m us s w i j r c valid trail is (subst (λ (x : Work). NextPivot x.dictionary i j) same k) n in
    wide (subst (λ (l : ℕ). IsNarrowPivot w.dictionary r l) one.1 (subst (λ (l : ℕ). IsNarrowPivot w.dictionary l j) one.0 (subst (λ (x : Work). IsNarrowPivot x.dictionary i j) same y)))

-- ---- units one after the other
-- after so many units there is a next one
record HasNext (m : Model) (rule : Rule) (s : State) (n : ℕ) : Type 0 where
  before : List SearchUnit
  here : State
  leads : Leads m rule s before here
  count : length before ≡ n
  unit : SearchUnit
  next : State
  grows_on : Grows m rule here unit next

less_or_same : (n k : ℕ) → n < suc k → (n < k) ⊎ (n ≡ k)
less_or_same n k l = grind arith

next_after : (m : Model) (rule : Rule) (s : State) (n : ℕ) (us : List SearchUnit) (t : State) → Leads m rule s us t → n < length us → HasNext m rule s n
next_after m rule s n us t stays l = absurd (omega (arith, l))
next_after m rule s n us t (grows vs x u y h g) l = elim (less_or_same n (length vs) (omega (arith, l))) [
  | inl k ↦ next_after m rule s n vs x h k
  | inr e ↦ record { before = vs; here = x; leads = h; count = sym e; unit = u; next = t; grows_on = g }
]

module _ (m : Model) (rule : Rule) (valid : IsValid m) (named : rule ≢ free) (us : List SearchUnit) (s : State) (trail : Trail m free us s) where
  -- where one list of units leads, another unit can be made, if another list has more of them
  pub leads_on : (vs ws : List SearchUnit) (t u : State) → Leads m rule s vs t → Leads m rule s ws u → length vs < length ws → (x : SearchUnit) × (y : State) × Grows m rule t x y
  leads_on vs ws t u h k l =
      let next = next_after m rule s (length vs) ws u k l in
      let one = slices_agree m rule us s vs next.before t next.here valid named trail h next.leads (sym next.count) in
      (next.unit, next.next, subst (λ (z : State). Grows m rule z next.unit next.next) (sym one.1) next.grows_on)

  -- and a trail leads there
  pub trail_on : (vs : List SearchUnit) (t : State) → Leads m rule s vs t → Trail m free (vs ++ us) t
  trail_on vs t h = slices_join m free start s us vs t trail (free_leads m rule s vs t h)
