-- Flags that spread along references, one formula at a time.
use Rattle.std.proofs.Common.{◌≡◌, ℕ, ◌+◌, ◌*◌, ◌<◌, ◌≤◌, Bool, true, false, List, [], ◌∷◌, ◌++◌, length, get_or, set, refl, sym, ap, subst, ◌∙◌, arith, ◌⊎◌, inl, inr, length-append, length-set}
use Rattle.std.specs.Prelude.{MatchBool}
use Rattle.std.proofs.lemmas.Bool.{cases_lt}
use Rattle.std.proofs.lemmas.List.{get_or_append_left, get_or_push}
use Rattle.std.proofs.lemmas.List.Sums.{sum_by-set}
use Rattle.dep_table.specs.declared.find.Cursor.{Cursor}
use Rattle.column_strips.specs.declared.formulas.Formula.{Formula}
use Rattle.dep_table.specs.Edges.{edge, number, slot}
use Rattle.dep_table.specs.Spreading.{IsClosed, IsSpreading, left_to_reach, not_yet}
use Rattle.dep_table.proofs.Numbers.{same_place}
use Rattle.dep_table.proofs.Places.{push_cases, same_or_not, set_cases}
use Rattle.dep_table.proofs.SlotLaws.{edge_slot, slot_place}

-- no more are left than before, and the list is no longer than what is left
pub reached_less : (flags : List Bool) (reached : List ℕ) (place : ℕ) → place < length flags → get_or flags place false ≡ false
    → left_to_reach (set flags place true) (reached ++ place ∷ []) ≤ left_to_reach flags reached
unfolding left_to_reach
reached_less flags reached place within new =
    let sums = sum_by-set not_yet flags place true false within in
    let one : not_yet (get_or flags place false) ≡ 1 = ap not_yet new in
    omega (arith, length-append reached (place ∷ []))

pub length_left : (flags : List Bool) (reached : List ℕ) → length reached ≤ left_to_reach flags reached
unfolding left_to_reach
length_left flags reached = omega arith

-- what a formula that is reached leaves as it was
pub record GoesOn (n : ℕ) (edge : ℕ → ℕ → Bool) (next place : ℕ) (flags : List Bool) (reached : List ℕ) (flags' : List Bool) (reached' : List ℕ) : Type 0 where
  pub spreads : IsSpreading n edge flags' reached' next
  pub kept : (k : ℕ) → get_or flags k false ≡ true → get_or flags' k false ≡ true
  pub flagged : get_or flags' place false ≡ true
  pub less : left_to_reach flags' reached' ≤ left_to_reach flags reached
  pub listed : (p : ℕ) → p < length reached → get_or reached' p 0 ≡ get_or reached p 0
  pub longer : length reached ≤ length reached'

abbrev pub IsPut : ℕ → List Bool → List ℕ → List Bool → List ℕ → Type 0
IsPut place flags reached flags' reached' =
    MatchBool (get_or flags place false) ((flags' ≡ flags) × (reached' ≡ reached)) ((flags' ≡ set flags place true) × (reached' ≡ reached ++ place ∷ []))

module _ (n : ℕ) (edge : ℕ → ℕ → Bool) (next : ℕ) (flags : List Bool) (reached : List ℕ) (s : IsSpreading n edge flags reached next) where
  module _ (place : ℕ) (few : next ≤ length reached) (inside : place < n) where
    within : place < length flags
    within = let e = s.same_length in omega arith

    one_reached : IsSpreading n edge (set flags place true) (reached ++ place ∷ []) next
    one_reached = record {
      same_length = length-set flags place true ∙ s.same_length;
      within = λ p h. elim (push_cases reached place 0 p h) as (λ _. get_or (reached ++ place ∷ []) p 0 < n) [
        | inl w ↦ let e = w.1 in let b = s.within p w.0 in omega arith
        | inr w ↦ let e = w.1 in omega arith
      ];
      closed = λ i j h e.
          let longer = length-append reached (place ∷ []) in
          let G : Type 0 = (get_or (set flags place true) j false ≡ true) ⊎ ((p : ℕ) × (next ≤ p) × (p < length (reached ++ place ∷ [])) × (get_or (reached ++ place ∷ []) p 0 ≡ i)) in
          elim (set_cases flags place true false i within) as (λ _. G) [
            | inl w ↦ inr (length reached, few, omega arith, get_or_push reached place 0 (length reached) refl ∙ sym w.0)
            | inr w ↦ elim (s.closed i j (sym w.1 ∙ h) e) as (λ _. G) [
              | inl seen ↦ inl (elim (set_cases flags place true false j within) as (λ _. get_or (set flags place true) j false ≡ true) [ inl v ↦ v.1 | inr v ↦ v.1 ∙ seen ])
              | inr at ↦ inr (at.0, at.1, omega (arith, at.2), get_or_append_left reached (place ∷ []) 0 at.0 at.2 ∙ at.3)
            ]
          ];
    }

    there : get_or flags place false ≡ true → GoesOn n edge next place flags reached flags reached
    there h = record { spreads = s; kept = λ k e. e; flagged = h; less = omega arith; listed = λ p l. refl; longer = omega arith }

    added : get_or flags place false ≡ false → GoesOn n edge next place flags reached (set flags place true) (reached ++ place ∷ [])
    added new = record {
      spreads = one_reached;
      kept = λ k e. elim (set_cases flags place true false k within) as (λ _. get_or (set flags place true) k false ≡ true) [ inl v ↦ v.1 | inr v ↦ v.1 ∙ e ];
      flagged = elim (set_cases flags place true false place within) as (λ _. get_or (set flags place true) place false ≡ true) [ inl v ↦ v.1 | inr v ↦ absurd (v.0 refl) ];
      less = reached_less flags reached place within new;
      listed = λ p l. get_or_append_left reached (place ∷ []) 0 p l;
      longer = let e = length-append reached (place ∷ []) in omega arith;
    }

    pub goes_on : (flags' : List Bool) (reached' : List ℕ) → IsPut place flags reached flags' reached' → GoesOn n edge next place flags reached flags' reached'
    goes_on flags' reached' =
        elim (get_or flags place false) as (λ b. get_or flags place false ≡ b
        → MatchBool b ((flags' ≡ flags) × (reached' ≡ reached)) ((flags' ≡ set flags place true) × (reached' ≡ reached ++ place ∷ []))
        → GoesOn n edge next place flags reached flags' reached') [
          | true ↦ λ e h. subst (λ fs. GoesOn n edge next place flags reached fs reached') (sym h.0) (subst (λ rs. GoesOn n edge next place flags reached flags rs) (sym h.1) (there e))
          | false ↦ λ e h. subst (λ fs. GoesOn n edge next place flags reached fs reached') (sym h.0)
              (subst (λ rs. GoesOn n edge next place flags reached (set flags place true) rs) (sym h.1) (added e))
        ] refl

  -- the next one has been followed
  pub all_followed : ((j : ℕ) → edge (get_or reached next 0) j ≡ true → get_or flags j false ≡ true) → IsSpreading n edge flags reached (next + 1)
  all_followed all = record {
    same_length = s.same_length;
    within = s.within;
    closed = λ i j h e.
        let G : Type 0 = (get_or flags j false ≡ true) ⊎ ((p : ℕ) × (next + 1 ≤ p) × (p < length reached) × (get_or reached p 0 ≡ i)) in
        elim (s.closed i j h e) as (λ _. G) [
          | inl seen ↦ inl seen
          | inr at ↦ elim (same_or_not next at.0) as (λ _. G) [
            | inl same ↦ inl (all j (ap (λ p. edge (get_or reached p 0) j) same ∙ ap (λ x. edge x j) at.3 ∙ e))
            | inr other ↦ inr (at.0, omega (arith, at.1, other), at.2, at.3)
          ]
        ];
  }

  -- at the end of the list all is closed
  pub closed_at_end : length reached ≤ next → IsClosed edge flags
  closed_at_end end i j h e =
      elim (s.closed i j h e) as (λ _. get_or flags j false ≡ true) [
        | inl seen ↦ seen
        | inr at ↦ absurd (omega (arith, at.1, at.2, end))
      ]

-- nothing has a flag at first
pub none_spreads : (n : ℕ) (edge : ℕ → ℕ → Bool) (flags : List Bool) (reached : List ℕ) → length flags ≡ n → ((i : ℕ) → get_or flags i false ≡ false)
    → reached ≡ [] → IsSpreading n edge flags reached 0
none_spreads n edge flags reached same none empty = record {
  same_length = same;
  within = λ p h. let e = ap length empty in absurd (omega arith);
  closed = λ i j h e. let f = none i in cc (f, h);
}

-- ---- the references of one formula
module _ (formulas : List Formula) (leaves : List Bool) (node : ℕ) (from : Cursor) (flags : List Bool)
    (scanned : (a j : ℕ) → a * length formulas + j < number (length formulas) from → slot formulas leaves node a j ≡ true → get_or flags j false ≡ true) where
  -- those up to the next one that is found have flags
  pub scanned_on : (found : Cursor) (flags' : List Bool) → found.place < length formulas
      → ((a j : ℕ) → number (length formulas) from ≤ a * length formulas + j → a * length formulas + j < number (length formulas) found → slot formulas leaves node a j ≡ false)
      → ((k : ℕ) → get_or flags k false ≡ true → get_or flags' k false ≡ true) → get_or flags' found.place false ≡ true
      → (a j : ℕ) → a * length formulas + j < found.area * length formulas + (found.place + 1) → slot formulas leaves node a j ≡ true → get_or flags' j false ≡ true
  scanned_on found flags' inside first kept flagged a j below e =
      elim (cases_lt (a * length formulas + j) (number (length formulas) from)) as (λ _. get_or flags' j false ≡ true) [
        | inl early ↦ kept j (scanned a j early e)
        | inr late ↦ elim (cases_lt (a * length formulas + j) (number (length formulas) found)) as (λ _. get_or flags' j false ≡ true) [
          | inl between ↦ let none = first a j late between in cc (none, e)
          | inr rest ↦
              let same : a * length formulas + j ≡ found.area * length formulas + found.place = omega (arith, below, rest) in
              let q = same_place (length formulas) a j found.area found.place (slot_place formulas leaves node a j e) inside same in
              ap (λ k. get_or flags' k false) q ∙ flagged
        ]
      ]

  -- where none is left, all have flags
  pub all_scanned : ((a j : ℕ) → number (length formulas) from ≤ a * length formulas + j → slot formulas leaves node a j ≡ false)
      → (j : ℕ) → edge formulas leaves node j ≡ true → get_or flags j false ≡ true
  all_scanned none j e =
      let at = edge_slot formulas leaves node j e in
      elim (cases_lt (at.0 * length formulas + j) (number (length formulas) from)) as (λ _. get_or flags j false ≡ true) [
        | inl early ↦ scanned at.0 j early at.1
        | inr late ↦ let left = none at.0 j late in let there = at.1 in cc (left, there)
      ]
