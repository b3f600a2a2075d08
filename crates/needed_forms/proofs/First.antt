-- The first of the refusals that are told is the first refusal.
use Rattle.std.specs.Prelude.{Contains, All, ◌↔◌}
use Rattle.std.proofs.Common.{◌≡◌, refl, sym, ap, ◌∙◌, subst, true, List, Option, Some, None}
use Rattle.std.specs.Option.{option_and_then, option_or}
use Rattle.std.proofs.lemmas.List.Elements.{All-contains}
use Rattle.cell_refs.specs.declared.cell.Cell.{Cell}
use Rattle.cell_refs.specs.declared.span.Span.{Span}
use Rattle.cell_refs.specs.declared.place.Place.{Place}
use Rattle.cell_refs.specs.declared.place.Place.TheVariants as place
use Rattle.form_extraction.specs.declared.forms.CellForm.{CellForm}
use Rattle.form_extraction.specs.declared.forms.CellForm.TheVariants.{Form, Refused, Circular, Malformed}
use Rattle.form_extraction.specs.declared.forms.Why.{Why}
use Rattle.form_extraction.specs.declared.forms.Why.TheVariants as why
use Rattle.form_needs.specs.FromSheetProblems.{form_at}
use Rattle.form_needs.specs.FirstRefusal.{IsLeast, IsNoNumber, IsRefusal, NeedsRefused, NeedsWith, NoneCircular, NoneMalformed, NoneRefused, NoPlace}
use Rattle.form_needs.specs.Needed.{Asked, IsNeeded}
use Rattle.form_needs.specs.declared.refusal.FormRefusal.{FormRefusal}
use Rattle.form_needs.specs.declared.refusal.FormRefusal.TheVariants as refusal
use Rattle.needed_cells.specs.Settled.{IsRoot}
use Rattle.needed_forms.specs.Firsts.{first_told, is_told, least_in, least_told}
use Rattle.needed_forms.specs.Stages.{is_in}
use Rattle.needed_forms.specs.Told.{refusal_of, refused_as, unless_number}
use Rattle.needed_forms.specs.declared.stage.Stage.{Stage}
use Rattle.needed_forms.specs.declared.stage.Stage.TheVariants as stage
use Rattle.needed_forms.proofs.Blocked.{side_allowed}
use Rattle.needed_forms.proofs.RefusedForms.{circular_form, malformed_form, numberless_form, refused_form, refused_there}
use Rattle.needed_forms.proofs.LeastPlace.{least_passes, none_passes}
use Rattle.needed_forms.proofs.Worths.{is_no_number, no_number_form}

-- what is told of each place is what refuses its form
pub record Tells (q : Asked) (told : Place → Option FormRefusal) : Type 0 where
  pub same : (p : Place) → told p ≡ option_and_then (refusal_of p) (form_at q.book q.sides q.decisions p)

-- some places are those that are needed
pub record Lists (q : Asked) (needed : List Place) : Type 0 where
  pub each : (p : Place) → Contains needed p ↔ IsNeeded q p

module _ (q : Asked) (told : Place → Option FormRefusal) (tells : Tells q told) (needed : List Place) (lists : Lists q needed) (roots : All (IsRoot q.sides) q.roots) where
  abbrev form_here : Place → Option CellForm
  form_here = form_at q.book q.sides q.decisions

  -- ---- what is told
  told_form : (p : Place) (f : CellForm) → form_here p ≡ Some f → told p ≡ refusal_of p f
  told_form p f e = tells.same p ∙ ap (option_and_then (refusal_of p)) e

  kind_of_form : (s : Stage) (p : Place) → is_told told s p ≡ true → is_in s (option_and_then (refusal_of p) (form_here p)) ≡ true
  kind_of_form s p h = ap (is_in s) (sym (tells.same p)) ∙ h

  -- ---- the least place of a kind, where that kind is a property
  pub record IsKind (P : Place → Type 0) (s : Stage) (places : List Place) : Type 0 where
    pub there : (p : Place) → P p → Contains places p
    pub known : (p : Place) → P p → is_told told s p ≡ true
    pub back : (p : Place) → Contains places p → is_told told s p ≡ true → P p

  none_there : (P : Place → Type 0) (s : Stage) (places : List Place) → IsKind P s places → least_in (is_told told s) places ≡ None → NoPlace P
  none_there P s places kind e p h = none_passes (is_told told s) places e p (kind.there p h) (kind.known p h)

  least_there : (P : Place → Type 0) (s : Stage) (places : List Place) → IsKind P s places → (p : Place) → least_in (is_told told s) places ≡ Some p → IsLeast P p
  least_there P s places kind p e =
      let l = least_passes (is_told told s) places p e in
      record { holds = kind.back p l.holds.0 l.holds.1; least = λ r h. l.least r (kind.there r h, kind.known r h) }

  -- ---- the four kinds
  malformed_told : (p : Place) → NeedsWith q Malformed p → (c : Cell) × (p ≡ place.Cell c) × (told p ≡ Some (refusal.Malformed c))
  malformed_told (place.Cell c) h = (c, refl, told_form (place.Cell c) Malformed h.1)
  malformed_told (place.Side k) h = absurd (side_allowed q k h.1)

  malformed_kind : IsKind (NeedsWith q Malformed) stage.Malformed needed
  malformed_kind =
      record {
        there = λ p h. (lists.each p).1 h.0;
        known = λ p h. ap (is_in stage.Malformed) (malformed_told p h).2;
        back = λ p i h. ((lists.each p).0 i, malformed_form p (form_here p) (kind_of_form stage.Malformed p h));
      }

  circular_kind : IsKind (NeedsWith q Circular) stage.Circular needed
  circular_kind =
      record {
        there = λ p h. (lists.each p).1 h.0;
        known = λ p h. ap (is_in stage.Circular) (told_form p Circular h.1);
        back = λ p i h. ((lists.each p).0 i, circular_form p (form_here p) (kind_of_form stage.Circular p h));
      }

  refused_told : (p : Place) (h : NeedsRefused q p) → told p ≡ Some (refused_as p h.0 h.1)
  refused_told p h = told_form p (Refused h.0 h.1) h.2.1

  refused_back : (p : Place) → Contains needed p → is_told told stage.Refused p ≡ true → NeedsRefused q p
  refused_back p i h =
      let r = refused_form p (form_here p) (kind_of_form stage.Refused p h) in
      (r.0, r.1, ((lists.each p).0 i, r.2))

  refused_kind : IsKind (NeedsRefused q) stage.Refused needed
  refused_kind =
      record {
        there = λ p h. (lists.each p).1 h.2.0;
        known = λ p h. ap (is_in stage.Refused) (refused_told p h) ∙ refused_there p h.0 h.1;
        back = refused_back;
      }

  number_told : NoneRefused q → (p : Place) → IsNoNumber q p → told p ≡ Some (refusal.NotNumber p)
  number_told none p h =
      let r = no_number_form q none p (All-contains (IsRoot q.sides) q.roots p roots h.root) h in
      told_form p (Form r.0) r.1 ∙ ap (unless_number p) r.2

  number_back : (p : Place) → Contains q.roots p → is_told told stage.NotNumber p ≡ true → IsNoNumber q p
  number_back p i h =
      let r = numberless_form p (form_here p) (kind_of_form stage.NotNumber p h) in
      is_no_number q p r.0 i r.1 r.2

  number_kind : NoneRefused q → IsKind (IsNoNumber q) stage.NotNumber q.roots
  number_kind none = record { there = λ p h. h.root; known = λ p h. ap (is_in stage.NotNumber) (number_told none p h); back = number_back }

  -- ---- the answer
  -- a refusal that is told comes before all others
  given : (p : Place) (r : FormRefusal) (others : Option FormRefusal) → told p ≡ Some r → IsRefusal q (Some r) → IsRefusal q (option_or (told p) others)
  given p r others e h = subst (λ o. IsRefusal q (option_or o others)) (sym e) h

  -- roots that are no number, where nothing else is refused
  of_numbers : NoneRefused q → IsRefusal q (least_told told stage.NotNumber q.roots)
  of_numbers none = by (least_in (is_told told stage.NotNumber) q.roots) refl
    where
      by : (o : Option Place) → least_in (is_told told stage.NotNumber) q.roots ≡ o → IsRefusal q (option_and_then told o)
      by None e = (none, none_there (IsNoNumber q) stage.NotNumber q.roots (number_kind none) e)
      by (Some p) e =
          let l = least_there (IsNoNumber q) stage.NotNumber q.roots (number_kind none) p e in
          subst (IsRefusal q) (sym (number_told none p l.holds)) (none, l)

  -- formulas with a refusal of their own, where none is malformed or circular
  abbrev last : Option FormRefusal
  last = least_told told stage.NotNumber q.roots

  first_refused : NoneCircular q → (p : Place) → IsLeast (NeedsRefused q) p → (at : Span) (cause : Why) → NeedsWith q (Refused at cause) p → IsRefusal q (Some (refused_as p at cause))
  first_refused none p l at why.Break n = (none, l, n)
  first_refused none p l at why.Undecided n = (none, l, n)
  first_refused none p l at why.Wide n = (at, (none, l, n))

  of_refused : NoneCircular q → IsRefusal q (option_or (least_told told stage.Refused needed) last)
  of_refused none = by (least_in (is_told told stage.Refused) needed) refl
    where
      by : (o : Option Place) → least_in (is_told told stage.Refused) needed ≡ o → IsRefusal q (option_or (option_and_then told o) last)
      by None e = of_numbers (none, none_there (NeedsRefused q) stage.Refused needed refused_kind e)
      by (Some p) e =
          let l = least_there (NeedsRefused q) stage.Refused needed refused_kind p e in
          given p (refused_as p l.holds.0 l.holds.1) last (refused_told p l.holds) (first_refused none p l l.holds.0 l.holds.1 l.holds.2)

  -- circular places, where none is malformed
  of_circular : NoneMalformed q → IsRefusal q (option_or (least_told told stage.Circular needed) (option_or (least_told told stage.Refused needed) last))
  of_circular none = by (least_in (is_told told stage.Circular) needed) refl
    where
      later : Option FormRefusal
      later = option_or (least_told told stage.Refused needed) last

      by : (o : Option Place) → least_in (is_told told stage.Circular) needed ≡ o → IsRefusal q (option_or (option_and_then told o) later)
      by None e = of_refused (none, none_there (NeedsWith q Circular) stage.Circular needed circular_kind e)
      by (Some p) e =
          let l = least_there (NeedsWith q Circular) stage.Circular needed circular_kind p e in
          given p (refusal.Circular p) later (told_form p Circular l.holds.1) (none, l)

  pub first_is_refusal : IsRefusal q (first_told told needed q.roots)
  first_is_refusal = by (least_in (is_told told stage.Malformed) needed) refl
    where
      later : Option FormRefusal
      later = option_or (least_told told stage.Circular needed) (option_or (least_told told stage.Refused needed) last)

      by : (o : Option Place) → least_in (is_told told stage.Malformed) needed ≡ o → IsRefusal q (option_or (option_and_then told o) later)
      by None e = of_circular (none_there (NeedsWith q Malformed) stage.Malformed needed malformed_kind e)
      by (Some p) e =
          let l = least_there (NeedsWith q Malformed) stage.Malformed needed malformed_kind p e in
          let m = malformed_told p l.holds in
          given p (refusal.Malformed m.0) later m.2 (subst (IsLeast (NeedsWith q Malformed)) m.1 l)
