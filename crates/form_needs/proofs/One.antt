-- A sheet has one first refusal, or none.
use Rattle.std.specs.Prelude.{◌≢◌}
use Rattle.std.proofs.Common.{◌≡◌, refl, sym, ap, ◌∙◌, subst, Option, Some, None}
use Rattle.std.specs.Cmp.{IsTotalOrder}
use Rattle.std.specs.Ordering.{nat_cmp, ordering_reverse}
use Rattle.std.specs.declared.cmp.Ordering.{Ordering}
use Rattle.std.specs.declared.cmp.Ordering.TheVariants.{Less, Equal, Greater}
use Rattle.std.proofs.lemmas.Cmp.{nat_cmp_total}
use Rattle.std.proofs.lemmas.Map.Lookups.{CmpEqualImpliesEq, exact_unsigned}
use Rattle.cell_refs.proofs.Order.{cells_total, exact_cells}
use Rattle.cell_refs.specs.Cells.{cell_cmp}
use Rattle.cell_refs.specs.declared.cell.Cell.{Cell}
use Rattle.cell_refs.specs.declared.span.Span.{Span}
use Rattle.cell_refs.specs.declared.place.Place.{Place}
use Rattle.cell_refs.specs.declared.place.Place.TheVariants as place
use Rattle.form_extraction.specs.declared.forms.CellForm.TheVariants.{Refused}
use Rattle.form_extraction.specs.declared.forms.Why.{Why}
use Rattle.form_extraction.specs.declared.forms.Why.TheVariants as why
use Rattle.form_needs.specs.FirstRefusal.{FirstRefused, IsLeast, IsRefusal, NeedsWith, place_cmp}
use Rattle.form_needs.specs.Laws.{OneRefusal}
use Rattle.form_needs.specs.Needed.{Asked}
use Rattle.form_needs.specs.declared.refusal.FormRefusal.{FormRefusal}
use Rattle.form_needs.specs.declared.refusal.FormRefusal.TheVariants as refusal

-- of two that are least, neither is greater, so they are one
one_least : {A : Type 0} (cmp : A → A → Ordering) → IsTotalOrder cmp → CmpEqualImpliesEq cmp → (a b : A) → cmp a b ≢ Greater → cmp b a ≢ Greater → a ≡ b
one_least cmp total exact a b h k = by (cmp a b) refl
  where
    by : (o : Ordering) → cmp a b ≡ o → a ≡ b
    by Less e = absurd (k (total.antisymm b a ∙ ap ordering_reverse e))
    by Equal e = exact a b e
    by Greater e = absurd (h e)

same_place : (p q : Place) → place_cmp p q ≢ Greater → place_cmp q p ≢ Greater → p ≡ q
same_place (place.Cell a) (place.Cell b) h k = ap place.Cell (one_least cell_cmp cells_total exact_cells a b h k)
same_place (place.Cell a) (place.Side n) h k = absurd (k refl)
same_place (place.Side m) (place.Cell b) h k = absurd (h refl)
same_place (place.Side m) (place.Side n) h k = ap place.Side (one_least nat_cmp nat_cmp_total exact_unsigned m n h k)

least_is_one : (P : Place → Type 0) (p q : Place) → IsLeast P p → IsLeast P q → p ≡ q
least_is_one P p q h k = same_place p q (h.least q k.holds) (k.least p h.holds)

abbrev cell_of : Place → Option Cell
cell_of (place.Cell a) = Some a
cell_of (place.Side k) = None

-- ---- refusals of the least place
module _ (q : Asked) where
  -- at one place stands one refusal
  same_refusal : (p : Place) (at other : Span) (cause reason : Why) → NeedsWith q (Refused at cause) p → NeedsWith q (Refused other reason) p → (at ≡ other) × (cause ≡ reason)
  same_refusal p at other cause reason h k =
      let e : Some (Refused at cause) ≡ Some (Refused other reason) = sym h.1 ∙ k.1 in
      let a : at ≡ other = cc in
      let c : cause ≡ reason = cc in
      (a, c)

  refused_once : (p r : Place) (at other : Span) (cause reason : Why) → FirstRefused q p at cause → FirstRefused q r other reason → (p ≡ r) × ((at ≡ other) × (cause ≡ reason))
  refused_once p r at other cause reason h k =
      let e = least_is_one _ p r h.1 k.1 in
      (e, same_refusal r at other cause reason (subst (NeedsWith q (Refused at cause)) e h.2) k.2)

  -- ---- all answers
  malformed : (s : Option FormRefusal) (c : Cell) → IsRefusal q (Some (refusal.Malformed c)) → IsRefusal q s → Some (refusal.Malformed c) ≡ s
  malformed None c h k = absurd (k.0.0.0 (place.Cell c) h.holds)
  malformed (Some (refusal.Malformed d)) c h k =
      let e : Some c ≡ Some d = ap cell_of (least_is_one _ (place.Cell c) (place.Cell d) h k) in
      let m : c ≡ d = cc in
      ap (λ c. Some (refusal.Malformed c)) m
  malformed (Some (refusal.Circular p)) c h k = absurd (k.0 (place.Cell c) h.holds)
  malformed (Some (refusal.NotAffine p at)) c h k = absurd (k.0.0 (place.Cell c) h.holds)
  malformed (Some (refusal.Undecided p at)) c h k = absurd (k.0.0 (place.Cell c) h.holds)
  malformed (Some (refusal.Wide p)) c h k = absurd (k.1.0.0 (place.Cell c) h.holds)
  malformed (Some (refusal.NotNumber p)) c h k = absurd (k.0.0.0 (place.Cell c) h.holds)

  circular : (s : Option FormRefusal) (p : Place) → IsRefusal q (Some (refusal.Circular p)) → IsRefusal q s → Some (refusal.Circular p) ≡ s
  circular None p h k = absurd (k.0.0.1 p h.1.holds)
  circular (Some (refusal.Malformed d)) p h k = sym (malformed (Some (refusal.Circular p)) d k h)
  circular (Some (refusal.Circular r)) p h k = ap (λ p. Some (refusal.Circular p)) (least_is_one _ p r h.1 k.1)
  circular (Some (refusal.NotAffine r at)) p h k = absurd (k.0.1 p h.1.holds)
  circular (Some (refusal.Undecided r at)) p h k = absurd (k.0.1 p h.1.holds)
  circular (Some (refusal.Wide r)) p h k = absurd (k.1.0.1 p h.1.holds)
  circular (Some (refusal.NotNumber r)) p h k = absurd (k.0.0.1 p h.1.holds)

  not_affine : (s : Option FormRefusal) (p : Place) (at : Span) → IsRefusal q (Some (refusal.NotAffine p at)) → IsRefusal q s → Some (refusal.NotAffine p at) ≡ s
  not_affine None p at h k = absurd (k.0.1 p h.1.holds)
  not_affine (Some (refusal.Malformed d)) p at h k = sym (malformed (Some (refusal.NotAffine p at)) d k h)
  not_affine (Some (refusal.Circular r)) p at h k = sym (circular (Some (refusal.NotAffine p at)) r k h)
  not_affine (Some (refusal.NotAffine r other)) p at h k =
      let e = refused_once p r at other why.Break why.Break h k in
      ap (λ p. Some (refusal.NotAffine p at)) e.0 ∙ ap (λ at. Some (refusal.NotAffine r at)) e.1.0
  not_affine (Some (refusal.Undecided r other)) p at h k = let e = (refused_once p r at other why.Break why.Undecided h k).1.1 in cc
  not_affine (Some (refusal.Wide r)) p at h k = let e = (refused_once p r at k.0 why.Break why.Wide h k.1).1.1 in cc
  not_affine (Some (refusal.NotNumber r)) p at h k = absurd (k.0.1 p h.1.holds)

  undecided : (s : Option FormRefusal) (p : Place) (at : Span) → IsRefusal q (Some (refusal.Undecided p at)) → IsRefusal q s → Some (refusal.Undecided p at) ≡ s
  undecided None p at h k = absurd (k.0.1 p h.1.holds)
  undecided (Some (refusal.Malformed d)) p at h k = sym (malformed (Some (refusal.Undecided p at)) d k h)
  undecided (Some (refusal.Circular r)) p at h k = sym (circular (Some (refusal.Undecided p at)) r k h)
  undecided (Some (refusal.NotAffine r other)) p at h k = sym (not_affine (Some (refusal.Undecided p at)) r other k h)
  undecided (Some (refusal.Undecided r other)) p at h k =
      let e = refused_once p r at other why.Undecided why.Undecided h k in
      ap (λ p. Some (refusal.Undecided p at)) e.0 ∙ ap (λ at. Some (refusal.Undecided r at)) e.1.0
  undecided (Some (refusal.Wide r)) p at h k = let e = (refused_once p r at k.0 why.Undecided why.Wide h k.1).1.1 in cc
  undecided (Some (refusal.NotNumber r)) p at h k = absurd (k.0.1 p h.1.holds)

  wide : (s : Option FormRefusal) (p : Place) → IsRefusal q (Some (refusal.Wide p)) → IsRefusal q s → Some (refusal.Wide p) ≡ s
  wide None p h k = absurd (k.0.1 p h.1.1.holds)
  wide (Some (refusal.Malformed d)) p h k = sym (malformed (Some (refusal.Wide p)) d k h)
  wide (Some (refusal.Circular r)) p h k = sym (circular (Some (refusal.Wide p)) r k h)
  wide (Some (refusal.NotAffine r other)) p h k = sym (not_affine (Some (refusal.Wide p)) r other k h)
  wide (Some (refusal.Undecided r other)) p h k = sym (undecided (Some (refusal.Wide p)) r other k h)
  wide (Some (refusal.Wide r)) p h k = ap (λ p. Some (refusal.Wide p)) (refused_once p r h.0 k.0 why.Wide why.Wide h.1 k.1).0
  wide (Some (refusal.NotNumber r)) p h k = absurd (k.0.1 p h.1.1.holds)

  not_number : (s : Option FormRefusal) (p : Place) → IsRefusal q (Some (refusal.NotNumber p)) → IsRefusal q s → Some (refusal.NotNumber p) ≡ s
  not_number None p h k = absurd (k.1 p h.1.holds)
  not_number (Some (refusal.Malformed d)) p h k = sym (malformed (Some (refusal.NotNumber p)) d k h)
  not_number (Some (refusal.Circular r)) p h k = sym (circular (Some (refusal.NotNumber p)) r k h)
  not_number (Some (refusal.NotAffine r at)) p h k = sym (not_affine (Some (refusal.NotNumber p)) r at k h)
  not_number (Some (refusal.Undecided r at)) p h k = sym (undecided (Some (refusal.NotNumber p)) r at k h)
  not_number (Some (refusal.Wide r)) p h k = sym (wide (Some (refusal.NotNumber p)) r k h)
  not_number (Some (refusal.NotNumber r)) p h k = ap (λ p. Some (refusal.NotNumber p)) (least_is_one _ p r h.1 k.1)

  none : (s : Option FormRefusal) → IsRefusal q None → IsRefusal q s → None ≡ s
  none None h k = refl
  none (Some (refusal.Malformed d)) h k = sym (malformed None d k h)
  none (Some (refusal.Circular r)) h k = sym (circular None r k h)
  none (Some (refusal.NotAffine r at)) h k = sym (not_affine None r at k h)
  none (Some (refusal.Undecided r at)) h k = sym (undecided None r at k h)
  none (Some (refusal.Wide r)) h k = sym (wide None r k h)
  none (Some (refusal.NotNumber r)) h k = sym (not_number None r k h)

pub one_refusal : OneRefusal
one_refusal q None s h k = none q s h k
one_refusal q (Some (refusal.Malformed c)) s h k = malformed q s c h k
one_refusal q (Some (refusal.Circular p)) s h k = circular q s p h k
one_refusal q (Some (refusal.NotAffine p at)) s h k = not_affine q s p at h k
one_refusal q (Some (refusal.Undecided p at)) s h k = undecided q s p at h k
one_refusal q (Some (refusal.Wide p)) s h k = wide q s p h k
one_refusal q (Some (refusal.NotNumber p)) s h k = not_number q s p h k
