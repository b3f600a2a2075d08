-- What places look at, by their kept forms.
use Rattle.std.specs.Prelude.{◌↔◌, ◌&&◌, ◌||◌, not, is_some, option_map, IfOk, IsSome, Result, Ok, Err, Vec}
use Rattle.std.specs.declared.alloc.Global.{Global}
use Rattle.std.proofs.Common.{◌≡◌, ℕ, suc, Bool, true, false, if◌then◌else◌, List, [], ◌∷◌, length, Option, Some, None, Contains, refl, sym, ap, subst, ◌∙◌, arith}
use Rattle.std.specs.FinMap.{contains_key, keys}
use Rattle.std.specs.List.{list_any}
use Rattle.std.proofs.lemmas.List.Folds.{list_any_at}
use Rattle.std.proofs.lemmas.Option.{same_Some}
use Rattle.cell_refs.specs.declared.cell.Cell.{Cell}
use Rattle.formula_ast.specs.Tree.{Tree}
use Rattle.recalculation.specs.Entries.{Book, Entry, Constant, Formula, Malformed, entry}
use Rattle.recalculation.specs.Walks.{has_walk, is_circular, is_formula, refers, steps_to}
use Rattle.recalculation.proofs.Circles.{entry_there, found_text}
use Rattle.recalculation.proofs.Lists.{both, first_true, second_true}
use Rattle.workbook.specs.Contents.{tree_of as tree_said}
use Rattle.cell_refs.specs.declared.place.Place.{Place}
use Rattle.cell_refs.specs.declared.place.Place.TheVariants as place
use Rattle.form_extraction.specs.declared.forms.CellForm.{CellForm}
use Rattle.form_extraction.specs.declared.forms.CellForm.TheVariants.{Form, Refused, Blocked, Circular}
use Rattle.form_extraction.specs.declared.forms.CellForm.TheVariants as result
use Rattle.form_extraction.specs.Looked.{Among, LooksFrom, forms_of, refers_to_circle, side_form}
use Rattle.form_extraction.specs.Places.{Decisions, form_of, formula_form, numbered_in}
use Rattle.form_extraction.proofs.Never.{circular_where_circle}
use Rattle.form_extraction.proofs.States.{circle_is_circular}
use Rattle.extract.specs.Knowing.{is_open_text}
use Rattle.extract.specs.Places.{HasForms, IsTreeOf, is_in_circle}
use Rattle.extract.specs.Places as extracted
use Rattle.extract.specs.Tables.{Table, form_at as kept_at}
use Rattle.form_needs.specs.Needed.{Asked, PlaceLooksAt}
use Rattle.plain_formulas.specs.Plain.{is_plain}
use Rattle.plain_formulas.proofs.Looks.{plain_looks_at_all}
use Rattle.form_needs.specs.FromSheetProblems.{form_at}
use Rattle.form_needs.specs.FromSheetProblems.{Sides, tree_of}
use Rattle.needed_cells.specs.Finding.{has_circle, is_circular_form, is_kept_circular, place_tree, unless_decided}
use Rattle.needed_cells.specs.Settled.{HasEntry, IsSettled}

-- ---- what is said
formula_said : (e : Option Entry) (t : Tree) → tree_said e ≡ Some t → e ≡ Some (Formula t)
formula_said None t h = cc
formula_said (Some (Constant v)) t h = cc
formula_said (Some (Formula u)) t h = let e : u ≡ t = cc in ap (λ t. Some (Formula t)) e
formula_said (Some Malformed) t h = cc

undecided : (d : Option ℕ) (o : Option Tree) (t : Tree) → unless_decided d o ≡ Some t → (d ≡ None) × (o ≡ Some t)
undecided None o t h = (refl, h)
undecided (Some j) o t h = cc

there_said : (e : Option Entry) → is_formula e ≡ true → is_some e ≡ true
there_said None h = cc
there_said (Some e) h = refl

none_decided : (d : Option ℕ) → not (is_some d) ≡ true → d ≡ None
none_decided None h = refl
none_decided (Some j) h = cc

-- the test of a circular form
circular_by_test : (o : Option CellForm) → is_circular_form o ≡ true → o ≡ Some Circular
circular_by_test None h = cc
circular_by_test (Some Circular) h = refl
circular_by_test (Some (Form a)) h = cc
circular_by_test (Some (Refused at cause)) h = cc
circular_by_test (Some (Blocked p)) h = cc
circular_by_test (Some result.Malformed) h = cc

-- ---- tests of lists
one_passes : (p : Cell → Bool) (cells : List Cell) → list_any p cells ≡ true → (b : Cell) × Contains cells b × (p b ≡ true)
one_passes p [] h = cc
one_passes p (x ∷ cells) h = by (one_passes p cells) (p x) refl h
  where
    by : (list_any p cells ≡ true → (b : Cell) × Contains cells b × (p b ≡ true)) → (t : Bool) → p x ≡ t → (t || list_any p cells) ≡ true → (b : Cell) × Contains (x ∷ cells) b × (p b ≡ true)
    by more true e h = (x, (0, omega arith, refl), e)
    by more false e h = let w = more h in (w.0, (suc w.1.0, omega (arith, w.1.1), w.1.2), w.2)

passes : (p : Cell → Bool) (cells : List Cell) (b : Cell) → Contains cells b → p b ≡ true → list_any p cells ≡ true
passes p cells b h t = list_any_at p cells h.0 b h.1 (ap p h.2 ∙ t)

none_passes : (p : Cell → Bool) → ((b : Cell) → p b ≡ true → ⊥) → (cells : List Cell) → list_any p cells ≡ false
none_passes p none cells = by (list_any p cells) refl
  where
    by : (t : Bool) → list_any p cells ≡ t → list_any p cells ≡ false
    by true e = let w = one_passes p cells e in absurd (none w.0 w.2)
    by false e = e

refuted : (b : Bool) → (b ≡ true → ⊥) → b ≡ false
refuted true n = absurd (n refl)
refuted false n = refl

module _ (book : Book) (sides : Sides) (decisions : List Cell) (table : Table) (settled : IsSettled book sides decisions table) where
  abbrev decided : Decisions
  decided = numbered_in decisions

  abbrev leaf : Cell → Bool
  leaf b = is_some (decided b)

  abbrev asked : List Place → Asked
  asked roots = record { book = book; sides = sides; decisions = decisions; roots = roots }

  -- ---- kept forms
  kept : (p : Place) → HasEntry book sides decisions p → kept_at table p ≡ form_at book sides decisions p
  kept p h = by (kept_at table p) refl (settled.all p h)
    where
      by : (o : Option CellForm) → kept_at table p ≡ o → IsSome o → kept_at table p ≡ form_at book sides decisions p
      by None e i = cc
      by (Some f) e i = e ∙ sym (settled.forms p f e).1

  pub has_forms : (t : Tree) → HasForms book decided table t
  has_forms t b i d f = kept (place.Cell b) (f, d)

  -- a circular cell that isn't to be decided is kept as such
  circular_kept : (b : Cell) → is_circular book leaf b ≡ true → is_kept_circular table (place.Cell b) ≡ true
  circular_kept b h =
      let f = first_true (is_formula (entry book b)) _ h in
      let d = first_true (not (leaf b)) _ (second_true (is_formula (entry book b)) (not (leaf b) && has_walk (keys book.texts) (steps_to book leaf) (length (keys book.texts)) b) h) in
      ap is_circular_form (kept (place.Cell b) (f, none_decided (decided b) d) ∙ ap Some (circle_is_circular book decided b h))

  -- and what is kept as such is
  kept_circular : (b : Cell) → is_kept_circular table (place.Cell b) ≡ true → is_circular book leaf b ≡ true
  kept_circular b h =
      let e = circular_by_test (kept_at table (place.Cell b)) h in
      let f = (settled.forms (place.Cell b) Circular e).1 in
      circular_where_circle book decided b (same_Some (form_of book decided b) Circular f)

  -- ---- a place with a tree
  module _ (roots : List Place) (t : Tree) where
    pub tree_there : (p : Place) → place_tree (asked roots) p ≡ Some t → IsTreeOf book p t
    tree_there (place.Cell a) h = formula_said (entry book a) t (undecided (decided a) (tree_said (entry book a)) t h).1
    tree_there (place.Side k) h = tt

    cell_undecided : (a : Cell) → place_tree (asked roots) (place.Cell a) ≡ Some t → decided a ≡ None
    cell_undecided a h = (undecided (decided a) (tree_said (entry book a)) t h).0

    -- a side in a circle has a circular form
    side_circular : (w : Bool) → w ≡ true → (if w then Circular else formula_form (forms_of book decided) t) ≡ Circular
    side_circular true h = refl
    side_circular false h = cc

    side_kept : (k : ℕ) → tree_of sides k ≡ Some t → refers_to_circle book leaf t ≡ true → is_kept_circular table (place.Side k) ≡ true
    side_kept k e w =
        ap is_circular_form (kept (place.Side k) (ap is_some e) ∙ ap (option_map (side_form book decided)) e ∙ ap Some (side_circular (refers_to_circle book leaf t) w))

    -- what isn't kept as circular isn't in a circle
    pub free : (p : Place) → place_tree (asked roots) p ≡ Some t → is_kept_circular table p ≡ false → is_in_circle book decided p t ≡ false
    free (place.Cell a) h n = refuted (is_circular book leaf a) (λ w. let k = circular_kept a w in cc)
    free (place.Side k) h n = refuted (refers_to_circle book leaf t) (λ w. let k = side_kept k h w in cc)

    -- ---- what is referred to
    module _ (referred : List Cell) (each : (b : Cell) → Contains referred b ↔ ((is_open_text book decisions b ≡ true) × (refers (Some (Formula t)) b ≡ true))) where
      -- a circular cell that is referred to is among them
      among : (b : Cell) → refers (Some (Formula t)) b ≡ true → is_circular book leaf b ≡ true → Contains referred b
      among b r w =
          let f = first_true (is_formula (entry book b)) _ w in
          let d = first_true (not (leaf b)) _ (second_true (is_formula (entry book b)) (not (leaf b) && has_walk (keys book.texts) (steps_to book leaf) (length (keys book.texts)) b) w) in
          (each b).1 (both (not (leaf b)) (contains_key book.texts b) d (sym (entry_there book b) ∙ there_said (entry book b) f), r)

      pub free_side : (p : Place) → has_circle table p referred ≡ false → is_in_circle book decided p t ≡ false
      free_side (place.Cell a) n = cc
      free_side (place.Side k) n = none_passes (λ b. refers (Some (Formula t)) b && is_circular book leaf b) none (keys book.texts)
        where
          none : (b : Cell) → (refers (Some (Formula t)) b && is_circular book leaf b) ≡ true → ⊥
          none b h =
              let r = first_true (refers (Some (Formula t)) b) _ h in
              let w = second_true (refers (Some (Formula t)) b) (is_circular book leaf b) h in
              let k = passes (λ b. is_kept_circular table (place.Cell b)) referred b (among b r w) (circular_kept b w) in
              cc

      -- a side with a circular cell among them is in a circle
      side_in_circle : list_any (λ b. is_kept_circular table (place.Cell b)) referred ≡ true → refers_to_circle book leaf t ≡ true
      side_in_circle h =
          let w = one_passes (λ b. is_kept_circular table (place.Cell b)) referred h in
          let r = (each w.0).0 w.1 in
          let there = second_true (not (leaf w.0)) (contains_key book.texts w.0) r.0 in
          found_text book w.0 (λ b. refers (Some (Formula t)) b && is_circular book leaf b) there
          (both (refers (Some (Formula t)) w.0) (is_circular book leaf w.0) r.1 (kept_circular w.0 w.2))

      refers_by : (w : Bool) (e : Option Entry) (b : Cell) → w ≡ true → e ≡ Some (Formula t) → LooksFrom w (forms_of book decided) e b ↔ (refers (Some (Formula t)) b ≡ true)
      refers_by true e b h f = ((λ l. ap (λ e. refers e b) (sym f) ∙ l), (λ l. ap (λ e. refers e b) f ∙ l))
      refers_by false e b h f = cc

      -- so does a plain tree, in a circle or not
      refers_plain : (w : Bool) (e : Option Entry) (b : Cell) → is_plain t ≡ true → e ≡ Some (Formula t) → LooksFrom w (forms_of book decided) e b ↔ (refers (Some (Formula t)) b ≡ true)
      refers_plain true e b h f = ((λ l. ap (λ e. refers e b) (sym f) ∙ l), (λ l. ap (λ e. refers e b) f ∙ l))
      refers_plain false e b h f =
          let all = plain_looks_at_all (forms_of book decided) t b h in
          ((λ l. all.0 (subst (λ e. Among (forms_of book decided) e b) f l)), (λ r. subst (λ e. Among (forms_of book decided) e b) (sym f) (all.1 r)))

      -- where it refers to all at which it looks, these are they
      all_referred : (p : Place) → place_tree (asked roots) p ≡ Some t → (b : Cell)
          → ((e : Option Entry) → e ≡ Some (Formula t) → LooksFrom (is_in_circle book decided p t) (forms_of book decided) e b ↔ (refers (Some (Formula t)) b ≡ true))
          → Contains referred b ↔ PlaceLooksAt (asked roots) p b
      all_referred (place.Cell a) h b same =
          let by = same (entry book a) (tree_there (place.Cell a) h) in (
            (λ k. let r = (each b).0 k in (
              cell_undecided a h,
              none_decided (decided b) (first_true (not (leaf b)) (contains_key book.texts b) r.0),
              second_true (not (leaf b)) (contains_key book.texts b) r.0,
              by.1 r.1,
            )),
            (λ l. (each b).1 (both (not (leaf b)) (contains_key book.texts b) (ap (λ d. not (is_some d)) l.1) l.2, by.0 l.3)),
          )
      all_referred (place.Side k) h b same =
          let by = same (Some (Formula t)) refl in (
            (λ k. let r = (each b).0 k in (
              t,
              h,
              (
                none_decided (decided b) (first_true (not (leaf b)) (contains_key book.texts b) r.0),
                second_true (not (leaf b)) (contains_key book.texts b) r.0,
                by.1 r.1,
              ),
            )),
            (λ l. let e : l.0 ≡ t = same_Some l.0 t (sym l.1 ∙ h) in
                let m = subst (λ (u : Tree). (decided b ≡ None) × (contains_key book.texts b ≡ true) × LooksFrom (refers_to_circle book leaf u) (forms_of book decided) (Some (Formula u)) b) e l.2 in
                (each b).1 (both (not (leaf b)) (contains_key book.texts b) (ap (λ d. not (is_some d)) m.0) m.1, by.0 m.2)),
          )

      -- in a circle a place looks at all of them
      pub in_circle : (p : Place) → place_tree (asked roots) p ≡ Some t → is_kept_circular table p ≡ true → has_circle table p referred ≡ true
          → (b : Cell) → Contains referred b ↔ PlaceLooksAt (asked roots) p b
      in_circle (place.Cell a) h c i b = all_referred (place.Cell a) h b (λ e f. refers_by (is_circular book leaf a) e b (kept_circular a c) f)
      in_circle (place.Side k) h c i b = all_referred (place.Side k) h b (λ e f. refers_by (refers_to_circle book leaf t) e b (side_in_circle i) f)

      -- and one with a plain tree everywhere
      pub plain_there : (p : Place) → place_tree (asked roots) p ≡ Some t → is_plain t ≡ true → (b : Cell) → Contains referred b ↔ PlaceLooksAt (asked roots) p b
      plain_there p h n b = all_referred p h b (λ e f. refers_plain (is_in_circle book decided p t) e b n f)

    -- so where what it refers to is found, that is what it looks at
    pub all_plain : {E : Type 0} (p : Place) → place_tree (asked roots) p ≡ Some t → is_plain t ≡ true → (found : Result (Vec Cell Global) E)
        → IfOk found (λ cells. (b : Cell) → Contains cells.items b ↔ ((is_open_text book decisions b ≡ true) × (refers (Some (Formula t)) b ≡ true)))
        → IfOk found (λ cells. (b : Cell) → Contains cells.items b ↔ PlaceLooksAt (asked roots) p b)
    all_plain p h n (Ok cells) each = λ b. plain_there cells.items each p h n b
    all_plain p h n (Err e) each = each

    -- ---- out of circles
    not_by : (w : Bool) (b : Cell) → w ≡ false → LooksFrom w (forms_of book decided) (Some (Formula t)) b ↔ LooksFrom false (forms_of book decided) (Some (Formula t)) b
    not_by true b h = cc
    not_by false b h = ((λ l. l), (λ l. l))

    pub out_of_circles : (p : Place) → place_tree (asked roots) p ≡ Some t → is_in_circle book decided p t ≡ false
        → (b : Cell) → extracted.PlaceLooksAt book decided p t b ↔ PlaceLooksAt (asked roots) p b
    out_of_circles (place.Cell a) h n b = ((λ l. l), (λ l. l))
    out_of_circles (place.Side k) h n b =
        let by = not_by (refers_to_circle book leaf t) b n in (
          (λ l. (t, h, (l.0, l.1, by.1 l.2))),
          (λ l. let e : l.0 ≡ t = same_Some l.0 t (sym l.1 ∙ h) in
              let m = subst (λ (u : Tree). (decided b ≡ None) × (contains_key book.texts b ≡ true) × LooksFrom (refers_to_circle book leaf u) (forms_of book decided) (Some (Formula u)) b) e l.2 in
              (m.0, m.1, by.0 m.2)),
        )

-- a place without a tree looks at nothing
nothing_from : (w : Bool) (book : Book) (decisions : List Cell) (e : Option Entry) (b : Cell) → tree_said e ≡ None → LooksFrom w (forms_of book (numbered_in decisions)) e b → ⊥
nothing_from true book decisions None b h l = cc
nothing_from true book decisions (Some (Constant v)) b h l = cc
nothing_from true book decisions (Some (Formula t)) b h l = cc
nothing_from true book decisions (Some Malformed) b h l = cc
nothing_from false book decisions None b h l = l
nothing_from false book decisions (Some (Constant v)) b h l = l
nothing_from false book decisions (Some (Formula t)) b h l = cc
nothing_from false book decisions (Some Malformed) b h l = l

pub looks_at_none : (q : Asked) (p : Place) → place_tree q p ≡ None → (b : Cell) → PlaceLooksAt q p b → ⊥
looks_at_none q (place.Cell a) h b l =
    nothing_from (is_circular q.book (λ c. is_some (numbered_in q.decisions c)) a) q.book q.decisions (entry q.book a) b
    (ap (λ d. unless_decided d (tree_said (entry q.book a))) (sym l.0) ∙ h) l.3
looks_at_none q (place.Side k) h b l = let e = l.1 in cc
