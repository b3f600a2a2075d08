-- What cells look at, the least without a form, and sides.
use Rattle.std.specs.Prelude.{◌≢◌, is_some, not, ◌&&◌, ◌||◌, Contains}
use Rattle.std.proofs.Common.{◌≡◌, refl, sym, ap, ap₂, ◌∙◌, subst, Bool, true, false, if◌then◌else◌, List, [], ◌∷◌, Option, Some, None, ℕ, zero, suc, arith, length}
use Rattle.std.specs.List.{list_any}
use Rattle.std.specs.FinMap.{keys, contains_key}
use Rattle.std.specs.Ordering.{is_lt, ordering_reverse}
use Rattle.std.specs.declared.cmp.Ordering.{Ordering}
use Rattle.std.specs.declared.cmp.Ordering.TheVariants.{Less, Equal, Greater}
use Rattle.std.proofs.lemmas.List.Elements.{All-contains, All-from_recursion}
use Rattle.std.proofs.lemmas.Cmp.{tied_itself}
use Rattle.calculations.specs.Calculation.{exact}
use Rattle.cell_refs.specs.Cells.{cell_cmp}
use Rattle.cell_refs.proofs.Order.{cells_total}
use Rattle.cell_refs.specs.declared.cell.Cell.{Cell}
use Rattle.cell_refs.specs.declared.error_kind.ErrorKind.TheVariants as kind
use Rattle.cell_refs.specs.declared.span.Span.{Span}
use Rattle.formula_ast.specs.Tree.{Tree}
use Rattle.sheet_model.specs.declared.value.Value.TheVariants.{Error}
use Rattle.recalculation.specs.Entries.{Book, Entry, Constant, Formula, Malformed, entry}
use Rattle.recalculation.specs.Evaluation.{evaluated, cell_value}
use Rattle.recalculation.specs.Recalculation.{val}
use Rattle.recalculation.specs.Walks.{has_walk, is_formula, steps_to, is_circular, refers}
use Rattle.recalculation.proofs.Circles.{entry_there, found_text}
use Rattle.recalculation.proofs.Lists.{both}
use Rattle.recalculation.proofs.WithinAreas.{each_referred}
use Rattle.affine_forms.specs.Forms.{Assignment}
use Rattle.form_values.specs.Meaning.{abs_at}
use Rattle.form_values.specs.declared.abs.Abs.{Abs}
use Rattle.cell_refs.specs.declared.place.Place.{Place}
use Rattle.cell_refs.specs.declared.place.Place.TheVariants as place
use Rattle.form_extraction.specs.declared.forms.CellForm.TheVariants.{Form, Blocked, Circular}
use Rattle.form_extraction.specs.declared.forms.CellForm.TheVariants as result
use Rattle.form_extraction.specs.declared.forms.Why.{Why}
use Rattle.form_extraction.specs.declared.forms.Outcome.{Outcome}
use Rattle.form_extraction.specs.declared.forms.Outcome.TheVariants.{Gives, Refused, Without}
use Rattle.form_extraction.specs.Formulas.{part_of}
use Rattle.form_extraction.specs.Places.{form_in, Decisions, overriding, lesser, with_least, least_without, by_outcome, by_looks, formula_form, entry_form, decision_or, form_over, form_of}
use Rattle.form_extraction.specs.Looked.{forms_of, LooksFrom, LooksAt, LookedIsReferred, IsLeastWithout, refers_to_circle, side_form, side_value, SideOfCircle, SideOfNoCircle}
use Rattle.form_extraction.specs.Refuted.{IsRefuted}
use Rattle.form_extraction.proofs.Agreeing.{form_is}
use Rattle.form_extraction.proofs.Books.{looks_worth, same_leaves}
use Rattle.form_extraction.proofs.Reading.{part_among}
use Rattle.form_extraction.proofs.Refuted.{part_refuted, agreed, looks_refused}
use Rattle.form_extraction.proofs.Trees.{part_true}

-- ---- what is looked at is referred to
pub looked_is_referred : LookedIsReferred
looked_is_referred book decisions a b h = by (is_circular book (λ c. is_some (decisions c)) a) (entry book a) h.3
  where
    by : (w : Bool) (e : Option Entry) → LooksFrom w (forms_of book decisions) e b → refers e b ≡ true
    by true e h = h
    by false None h = absurd h
    by false (Some (Constant v)) h = absurd h
    by false (Some Malformed) h = absurd h
    by false (Some (Formula t)) h =
        All-contains (λ b. refers (Some (Formula t)) b ≡ true) (part_of (forms_of book decisions) t).looks b
        (All-from_recursion (λ b. refers (Some (Formula t)) b ≡ true) (part_of (forms_of book decisions) t).looks
        (part_among (λ b. refers (Some (Formula t)) b ≡ true) (forms_of book decisions) t (each_referred t)).0) h

-- ---- the least of some cells
-- the order of cells
less_first : (a b c : Cell) → cell_cmp a b ≡ Less → cell_cmp b c ≢ Greater → cell_cmp a c ≢ Greater
less_first a b c l n = by (cell_cmp b c) refl n
  where
    by : (o : Ordering) → cell_cmp b c ≡ o → o ≢ Greater → cell_cmp a c ≢ Greater
    by Less e n = λ q. let m : Less ≡ Greater = sym (cells_total.trans a b c l e) ∙ q in cc
    by Equal e n = λ q.
        let m : cell_cmp a c ≡ cell_cmp a b = cells_total.antisymm a c ∙ ap ordering_reverse (sym (cells_total.congr b c a e)) ∙ sym (cells_total.antisymm a b) in
        let r : Less ≡ Greater = sym l ∙ sym m ∙ q in
        cc
    by Greater e n = λ q. n refl

not_less : (a b : Cell) → is_lt (cell_cmp a b) ≡ false → cell_cmp b a ≢ Greater
not_less a b h q =
    let m : cell_cmp a b ≡ Less = cells_total.antisymm a b ∙ ap ordering_reverse q in
    let r : true ≡ false = sym (ap is_lt m) ∙ h in
    cc

is_less : (o : Ordering) → is_lt o ≡ true → o ≡ Less
is_less Less h = refl
is_less Equal h = cc
is_less Greater h = cc

itself_fits : (a : Cell) → cell_cmp a a ≢ Greater
itself_fits a q = let m : Equal ≡ Greater = sym (tied_itself cells_total a) ∙ q in cc

module _ (forms : Cell → Option Abs) where
  -- the least of some cells that have no form
  pub record IsLeast (cells : List Cell) (b : Cell) : Type 0 where
    pub there : Contains cells b
    pub without : forms b ≡ None
    pub least : (c : Cell) → Contains cells c → forms c ≡ None → cell_cmp b c ≢ Greater

  first_or_later : (P : Cell → Type 0) (a : Cell) (cells : List Cell) → P a → ((c : Cell) → Contains cells c → P c) → (c : Cell) → Contains (a ∷ cells) c → P c
  first_or_later P a cells h k c (zero, i, e) = subst P e h
  first_or_later P a cells h k c (suc n, i, e) = k c (n, omega (arith, i), e)

  later : (a : Cell) (cells : List Cell) (b : Cell) → Contains cells b → Contains (a ∷ cells) b
  later a cells b h = (suc h.0, omega (arith, h.1), h.2)

  pub none_without : (cells : List Cell) → least_without forms cells ≡ None → (c : Cell) → Contains cells c → forms c ≡ None → ⊥
  none_without [] h c i n = absurd (omega (arith, i.1))
  none_without (a ∷ cells) h c i n =
      first_or_later (λ c. forms c ≡ None → ⊥) a cells (λ m. none_here (forms a) (least_without forms cells) h m)
      (λ c j. none_without cells (rest (forms a) (least_without forms cells) h) c j) c i n
    where
      none_here : (o : Option Abs) (l : Option Cell) → with_least forms a o l ≡ None → o ≡ None → ⊥
      none_here None l h m = cc
      none_here (Some f) l h m = cc

      rest : (o : Option Abs) (l : Option Cell) → with_least forms a o l ≡ None → l ≡ None
      rest None l h = cc
      rest (Some f) l h = h

  pub least_is : (cells : List Cell) (b : Cell) → least_without forms cells ≡ Some b → IsLeast cells b
  least_is [] b h = cc
  least_is (a ∷ cells) b h = by (forms a) refl (least_without forms cells) refl (λ c e. least_is cells c e) h
    where
      by : (o : Option Abs) → forms a ≡ o → (l : Option Cell) → least_without forms cells ≡ l → ((c : Cell) → least_without forms cells ≡ Some c → IsLeast cells c) → with_least forms a o l ≡ Some b → IsLeast (a ∷ cells) b
      by (Some f) d l q ih h =
          let r = ih b (q ∙ h) in
          record {
            there = later a cells b r.there;
            without = r.without;
            least = first_or_later (λ c. forms c ≡ None → cell_cmp b c ≢ Greater) a cells (λ n. let m : Some f ≡ None = sym d ∙ n in cc) r.least;
          }
      by None d None q ih h =
          let e : a ≡ b = cc in
          subst (IsLeast (a ∷ cells)) e
          (record {
            there = (0, omega arith, refl);
            without = d;
            least = first_or_later (λ c. forms c ≡ None → cell_cmp a c ≢ Greater) a cells (λ n. itself_fits a) (λ c i n. absurd (none_without cells q c i n));
          })
      by None d (Some c) q ih h =
          let r = ih c q in
          let e : (if is_lt (cell_cmp a c) then a else c) ≡ b = cc in
          by_order (is_lt (cell_cmp a c)) refl e
        where
          by_order : (w : Bool) → is_lt (cell_cmp a c) ≡ w → (if w then a else c) ≡ b → IsLeast (a ∷ cells) b
          by_order true l e =
              subst (IsLeast (a ∷ cells)) e
              (record {
                there = (0, omega arith, refl);
                without = d;
                least = first_or_later (λ c. forms c ≡ None → cell_cmp a c ≢ Greater) a cells (λ n. itself_fits a)
                    (λ k i n. less_first a c k (is_less (cell_cmp a c) l) ((ih c q).least k i n));
              })
          by_order false l e =
              subst (IsLeast (a ∷ cells)) e
              (record {
                there = later a cells c (ih c q).there;
                without = (ih c q).without;
                least = first_or_later (λ k. forms k ≡ None → cell_cmp c k ≢ Greater) a cells (λ n. not_less a c l) (ih c q).least;
              })

-- ---- blocked cells
module _ (book : Book) (decisions : Decisions) where
  abbrev leaf : Cell → Bool
  leaf c = is_some (decisions c)

  -- a cell without a text isn't circular
  not_circle : (b : Cell) → entry book b ≡ None → is_circular book leaf b ≡ false
  not_circle b q = ap (λ e. is_formula e && (not (leaf b) && has_walk (keys book.texts) (steps_to book leaf) (length (keys book.texts)) b)) q

  -- a cell without a form isn't to be decided, and has a text
  pub no_form : (b : Cell) → forms_of book decisions b ≡ None → (decisions b ≡ None) × (contains_key book.texts b ≡ true)
  no_form b h = by (decisions b) (is_circular book leaf b) (entry book b) refl (λ q. not_circle b q) (sym (ap form_in (form_is book decisions b)) ∙ h)
    where
      there : (e : Entry) → entry book b ≡ Some e → contains_key book.texts b ≡ true
      there e q = sym (entry_there book b) ∙ ap is_some q

      by : (d : Option ℕ) (w : Bool) (e : Option Entry) → entry book b ≡ e → (e ≡ None → w ≡ false) → form_in (decision_or d (if w then Circular else entry_form (forms_of book decisions) e)) ≡ None
          → (d ≡ None) × (contains_key book.texts b ≡ true)
      by (Some j) w e q c h = cc
      by None true None q c h = let m : true ≡ false = c refl in cc
      by None false None q c h = cc
      by None w (Some e) q c h = (refl, there e q)

  -- where a cell is blocked it has a formula and isn't circular
  formula_blocked : (a : Cell) (t : Tree) (p : Place) → decisions a ≡ None → is_circular book leaf a ≡ false → entry book a ≡ Some (Formula t) → formula_form (forms_of book decisions) t ≡ Blocked p
      → (b : Cell) × (p ≡ place.Cell b) × IsLeastWithout book decisions a b
  formula_blocked a t p d w q h = by (least_without (forms_of book decisions) (part_of (forms_of book decisions) t).looks) refl (part_of (forms_of book decisions) t).outcome h
    where
      looks : (b : Cell) → Contains (part_of (forms_of book decisions) t).looks b → LooksFrom (is_circular book leaf a) (forms_of book decisions) (entry book a) b
      looks b i = subst (λ w. LooksFrom w (forms_of book decisions) (entry book a) b) (sym w) (subst (λ e. LooksFrom false (forms_of book decisions) e b) (sym q) i)

      looked : (b : Cell) → LooksAt book decisions a b → Contains (part_of (forms_of book decisions) t).looks b
      looked b l = subst (λ e. LooksFrom false (forms_of book decisions) e b) q (subst (λ w. LooksFrom w (forms_of book decisions) (entry book a) b) w l.3)

      never : (o : Outcome) → by_outcome o ≡ Blocked p → ⊥
      never (Gives v) e = absurd (no_value v e)
        where
          no_value : (v : _) → Form (Rattle.form_extraction.specs.Places.filled (Rattle.form_extraction.specs.Places.left_by v)) ≡ Blocked p → ⊥
          no_value v e = cc
      never (Refused at cause) e = cc
      never Without e = cc

      by : (l : Option Cell) → least_without (forms_of book decisions) (part_of (forms_of book decisions) t).looks ≡ l → (o : Outcome) → by_looks l o ≡ Blocked p → (b : Cell) × (p ≡ place.Cell b) × IsLeastWithout book decisions a b
      by None e o h = absurd (never o h)
      by (Some b) e o h =
          let r = least_is (forms_of book decisions) (part_of (forms_of book decisions) t).looks b e in
          let n = no_form b r.without in
          let s : place.Cell b ≡ p = cc in
          (b, sym s, record { looked = (d, n.0, n.1, looks b r.there); without = r.without; least = λ c l m. r.least c (looked c l) m })

  pub blocked_by_least : (a : Cell) (p : Place) → form_of book decisions a ≡ Blocked p → (b : Cell) × (p ≡ place.Cell b) × IsLeastWithout book decisions a b
  blocked_by_least a p h = by (decisions a) refl (is_circular book leaf a) refl (entry book a) refl (sym (form_is book decisions a) ∙ h)
    where
      by : (d : Option ℕ) → decisions a ≡ d → (w : Bool) → is_circular book leaf a ≡ w → (e : Option Entry) → entry book a ≡ e
          → decision_or d (if w then Circular else entry_form (forms_of book decisions) e) ≡ Blocked p → (b : Cell) × (p ≡ place.Cell b) × IsLeastWithout book decisions a b
      by (Some j) d w v e q h = cc
      by None d true v e q h = cc
      by None d false v None q h = cc
      by None d false v (Some (Constant c)) q h = cc
      by None d false v (Some Malformed) q h = cc
      by None d false v (Some (Formula t)) q h = formula_blocked a t p d v q h

  -- ---- sides
  side_at : (x : Assignment) (w : Bool) (t : Tree) (f : Abs) → (if w then Circular else formula_form (forms_of book decisions) t) ≡ Form f
      → (if w then Error kind.Circular else cell_value (exact (evaluated (val book (overriding decisions x)) t))) ≡ abs_at x f
  side_at x true t f h = cc
  side_at x false t f h =
      (looks_worth x (exact (evaluated (val book (overriding decisions x)) t)) (least_without (forms_of book decisions) (part_of (forms_of book decisions) t).looks) (part_of (forms_of book decisions) t).outcome f
      (λ a e. part_true x (forms_of book decisions) (val book (overriding decisions x)) (agreed book decisions x) t a e) h).1

  pub side_is_the_value : (t : Tree) (f : Abs) → side_form book decisions t ≡ Form f → (x : Assignment) → side_value book (overriding decisions x) t ≡ abs_at x f
  side_is_the_value t f h x =
      let leaves : (λ b. is_some (overriding decisions x b)) ≡ leaf = (λ i b. same_leaves x decisions b i) in
      ap (λ (is_leaf : Cell → Bool). if refers_to_circle book is_leaf t then Error kind.Circular else cell_value (exact (evaluated (val book (overriding decisions x)) t))) leaves
      ∙ side_at x (refers_to_circle book leaf t) t f h

  pub side_refusal : (t : Tree) (at : Span) (cause : Why) → side_form book decisions t ≡ result.Refused at cause → IsRefuted (λ x. val book (overriding decisions x)) t at cause
  side_refusal t at cause h = by (refers_to_circle book leaf t) h
    where
      by : (w : Bool) → (if w then Circular else formula_form (forms_of book decisions) t) ≡ result.Refused at cause → IsRefuted (λ x. val book (overriding decisions x)) t at cause
      by true h = cc
      by false h =
          part_refuted (forms_of book decisions) (λ x. val book (overriding decisions x)) (agreed book decisions) t at cause
          (looks_refused book decisions (least_without (forms_of book decisions) (part_of (forms_of book decisions) t).looks) (part_of (forms_of book decisions) t).outcome at cause h)

-- ---- sides and circles
pub side_of_circle : SideOfCircle
side_of_circle book decisions t b there h k =
    ap (λ w. if w then Circular else formula_form (forms_of book decisions) t)
    (found_text book b (λ b. refers (Some (Formula t)) b && is_circular book (λ c. is_some (decisions c)) b) there (both (refers (Some (Formula t)) b) (is_circular book (λ c. is_some (decisions c)) b) h k))

none_any : (p : Cell → Bool) → ((b : Cell) → p b ≡ false) → (cells : List Cell) → list_any p cells ≡ false
none_any p h [] = refl
none_any p h (b ∷ cells) = ap₂ ◌||◌ (h b) (none_any p h cells)

pub side_of_no_circle : SideOfNoCircle
side_of_no_circle book decisions t h =
    ap (λ w. if w then Circular else formula_form (forms_of book decisions) t)
    (none_any (λ b. refers (Some (Formula t)) b && is_circular book (λ c. is_some (decisions c)) b) (λ b. by (refers (Some (Formula t)) b) (is_circular book (λ c. is_some (decisions c)) b) (h b)) (keys book.texts))
  where
    by : (p q : Bool) → (p ≡ true → q ≡ false) → (p && q) ≡ false
    by true q k = k refl
    by false q k = refl
