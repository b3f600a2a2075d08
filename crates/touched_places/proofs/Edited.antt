-- Places that no edit touches.
use Rattle.std.specs.Prelude.{◌↔◌, Contains, option_map}
use Rattle.std.proofs.Common.{◌≡◌, ◌⊎◌, inl, inr, refl, sym, ap, subst, ◌∙◌, true, false, cond, List, [], ◌∷◌, Option, Some, None, ℕ, suc, arith}
use Rattle.std.specs.Cmp.{tied_itself}
use Rattle.std.specs.FinMap.{get, get-insert, get-remove}
use Rattle.std.specs.Ordering.{eq_by_cmp, is_eq}
use Rattle.std.specs.declared.cmp.Ordering.{Ordering}
use Rattle.std.specs.declared.cmp.Ordering.TheVariants.{Less, Equal, Greater}
use Rattle.cell_refs.specs.Cells.{cell_cmp}
use Rattle.cell_refs.specs.declared.cell.Cell.{Cell}
use Rattle.cell_refs.proofs.Order.{cells_total, exact_cells}
use Rattle.formula_ast.specs.Tree.{Tree}
use Rattle.column_strips.specs.Affected.{by_one, by_more}
use Rattle.recalculation.specs.Entries.{Book, Formula, entry}
use Rattle.recalculation.specs.Walks.{refers}
use Rattle.cell_refs.specs.declared.place.Place.{Place}
use Rattle.cell_refs.specs.declared.place.Place.TheVariants as place
use Rattle.form_extraction.specs.Places.{Decisions}
use Rattle.form_extraction.specs.Looked.{side_form}
use Rattle.touched_places.specs.Touched.{Expressions, Reaches, IsAtOrReaches, RefersToTouched, IsTouched}
use Rattle.touched_places.specs.Alike.{AreAlikeIn, ComesBy, DifferAt, DifferAtOne, HasTree, IsUntouched, OfOthers, PlaceLooks, form_at}
use Rattle.touched_places.specs.Laws.{TextsDifferAtOne, UntouchedKeepTheirForms, DecisionsSayNothing, TouchedBeforeAndBehind, EditsInARow}
use Rattle.touched_places.proofs.Reached.{cell_looks, reached_over, side_looks, side_over, turned}

-- two cells are one or they aren't
same_or_not : (a b : Cell) → (a ≡ b) ⊎ (¬ (a ≡ b))
same_or_not a b =
    elim (cell_cmp a b) as (λ o. cell_cmp a b ≡ o → (a ≡ b) ⊎ (¬ (a ≡ b))) [
      | Less ↦ λ e. inr (λ q. let m : cell_cmp a b ≡ Equal = ap (cell_cmp a) (sym q) ∙ tied_itself cells_total a in cc)
      | Equal ↦ λ e. inl (exact_cells a b e)
      | Greater ↦ λ e. inr (λ q. let m : cell_cmp a b ≡ Equal = ap (cell_cmp a) (sym q) ∙ tied_itself cells_total a in cc)
    ] refl

-- a cell that refers to a touched one is touched
pub one_more : (book : Book) (to a b : Cell) → refers (entry book a) b ≡ true → IsAtOrReaches book to b → IsAtOrReaches book to a
one_more book to a b r (inl e) = inr (by_one a (ap (λ c. refers (entry book a) c) (sym e) ∙ r))
one_more book to a b r (inr w) = inr (by_more a b r w)

-- ---- texts
is_equal : (r : Ordering) → is_eq r ≡ true → r ≡ Equal
is_equal Less h = cc
is_equal Equal h = refl
is_equal Greater h = cc

-- two cells that aren't one compare unlike
pub apart : (a b : Cell) → ¬ (a ≡ b) → eq_by_cmp cell_cmp a b ≡ false
apart a b n = elim (eq_by_cmp cell_cmp a b) as (λ w. eq_by_cmp cell_cmp a b ≡ w → w ≡ false) [ true ↦ λ e. absurd (n (exact_cells a b (is_equal _ e))) | false ↦ λ _. refl ] refl

pub texts_differ_at_one : TextsDifferAtOne
texts_differ_at_one book to None c n =
    ap (option_map (book.says c)) (sym (get-remove cells_total book.texts to c ∙ ap (λ b. cond b None (get book.texts c)) (apart c to n)))
texts_differ_at_one book to (Some text) c n =
    ap (option_map (book.says c)) (sym (get-insert cells_total book.texts to text c ∙ ap (λ b. cond b (Some text) (get book.texts c)) (apart c to n)))

-- ---- forms
module _ (book other : Book) (decisions : Decisions) (Edited : Cell → Type 0) (differ : DifferAt Edited book other) where
  abbrev Untouched : Cell → Type 0
  Untouched a = (to : Cell) → OfOthers decisions Edited to → ¬ (IsAtOrReaches book to a)

  -- both workbooks say the same of the cells that none of the edits touches
  alike : AreAlikeIn Untouched book other decisions
  alike = record {
    leads = λ a b h d r. λ to e w. h to e (one_more book to a b r w);
    entries = λ a h d. differ a (λ e. h a (e, d) (inl refl));
  }

  side_same : (o : Option Tree) → ((to : Cell) → OfOthers decisions Edited to → ¬ (RefersToTouched book to o)) → option_map (side_form book decisions) o ≡ option_map (side_form other decisions) o
  side_same None h = refl
  side_same (Some t) h = ap Some (side_over Untouched book other decisions alike t (λ b r. λ to e w. h to e (b, r, w)))

  pub several_edits : (sides : Expressions) (p : Place) → IsUntouched book sides (OfOthers decisions Edited) p → form_at book decisions sides p ≡ form_at other decisions sides p
  several_edits sides (place.Cell a) h = ap Some (reached_over Untouched book other decisions alike a h)
  several_edits sides (place.Side k) h = side_same (sides k) h

  -- and it looks at the same cells
  untouched_refers : (sides : Expressions) (k : ℕ) (t : Tree) → sides k ≡ Some t → IsUntouched book sides (OfOthers decisions Edited) (place.Side k)
      → (c : Cell) → refers (Some (Formula t)) c ≡ true → Untouched c
  untouched_refers sides k t is h c r to e w = h to e (subst (RefersToTouched book to) (sym is) (c, r, w))

  pub look_the_same : (sides : Expressions) (p : Place) (t : Tree) → HasTree book decisions sides p t → IsUntouched book sides (OfOthers decisions Edited) p
      → (b : Cell) → PlaceLooks book decisions p t b ↔ PlaceLooks other decisions p t b
  look_the_same sides (place.Cell a) t tree h b = (
    cell_looks Untouched book other decisions alike a t h tree.0 tree.1 b,
    cell_looks Untouched other book decisions (turned Untouched book other decisions alike) a t h tree.0 (sym (alike.entries a h tree.0) ∙ tree.1) b,
  )
  look_the_same sides (place.Side k) t tree h b = (
    side_looks Untouched book other decisions alike t (untouched_refers sides k t tree h) b,
    side_looks Untouched other book decisions (turned Untouched book other decisions alike) t (untouched_refers sides k t tree h) b,
  )

-- ---- one edit
moved_touch : (book : Book) (sides : Expressions) (one other : Cell) (p : Place) → one ≡ other → IsTouched book sides one p → IsTouched book sides other p
moved_touch book sides one other p e w = subst (λ c. IsTouched book sides c p) e w

pub untouched_keep : UntouchedKeepTheirForms
untouched_keep book other decisions sides to differ p h =
    several_edits book other decisions (λ c. c ≡ to) differ sides p (λ c e w. h (moved_touch book sides c to p e.0 w))

pub decisions_say_nothing : DecisionsSayNothing
decisions_say_nothing book other decisions sides to j d differ p =
    several_edits book other decisions (λ c. c ≡ to) differ sides p (λ c e w. let n : Some j ≡ None = sym d ∙ ap decisions (sym e.0) ∙ e.1 in cc)

-- ---- touched places before and behind an edit
module _ (book other : Book) (to : Cell) (differ : DifferAtOne to book other) where
  -- a formula of a cell that isn't edited refers to the same cells
  still_refers : (a b : Cell) → ¬ (a ≡ to) → refers (entry book a) b ≡ true → refers (entry other a) b ≡ true
  still_refers a b n r = ap (λ e. refers e b) (sym (differ a n)) ∙ r

  still_reaches : (a : Cell) → Reaches book to a → IsAtOrReaches other to a
  still_reaches _ (by_one a r) =
      elim (same_or_not a to) as (λ _. IsAtOrReaches other to a) [
        | inl e ↦ inl e
        | inr n ↦ inr (by_one a (still_refers a to n r))
      ]
  still_reaches _ (by_more a b r w) =
      elim (same_or_not a to) as (λ _. IsAtOrReaches other to a) [
        | inl e ↦ inl e
        | inr n ↦ one_more other to a b (still_refers a b n r) (still_reaches b w)
      ]

  still_at : (a : Cell) → IsAtOrReaches book to a → IsAtOrReaches other to a
  still_at a (inl e) = inl e
  still_at a (inr w) = still_reaches a w

  still_side : (o : Option Tree) → RefersToTouched book to o → RefersToTouched other to o
  still_side None w = w
  still_side (Some t) w = (w.0, w.1, still_at w.0 w.2)

  still_touched : (sides : Expressions) (p : Place) → IsTouched book sides to p → IsTouched other sides to p
  still_touched sides (place.Cell a) w = still_at a w
  still_touched sides (place.Side k) w = still_side (sides k) w

pub touched_before_and_behind : TouchedBeforeAndBehind
touched_before_and_behind book other sides to differ p =
    (still_touched book other to differ sides p, still_touched other book to (λ c n. sym (differ c n)) sides p)

-- ---- edits of several cells
module _ (book other : Book) (Edited : Cell → Type 0) (differ : DifferAt Edited book other) where
  abbrev IsFree : Cell → Type 0
  IsFree a = (to : Cell) → Edited to → ¬ (IsAtOrReaches book to a)

  -- what an untouched cell refers to behind the edits it refers to before them
  free_refers : (a b : Cell) → IsFree a → refers (entry other a) b ≡ true → refers (entry book a) b ≡ true
  free_refers a b h r = ap (λ e. refers e b) (differ a (λ e. h a e (inl refl))) ∙ r

  free_leads : (a b : Cell) → IsFree a → refers (entry other a) b ≡ true → IsFree b
  free_leads a b h r to e w = h to e (one_more book to a b (free_refers a b h r) w)

  reaches_none : (to : Cell) → Edited to → (a : Cell) → Reaches other to a → ¬ (IsFree a)
  reaches_none to e _ (by_one a r) h = free_leads a to h r to e (inl refl)
  reaches_none to e _ (by_more a b r w) h = reaches_none to e b w (free_leads a b h r)

  stays_free : (a : Cell) → IsFree a → (to : Cell) → Edited to → ¬ (IsAtOrReaches other to a)
  stays_free a h to e (inl q) = h to e (inl q)
  stays_free a h to e (inr w) = reaches_none to e a w h

  side_stays : (o : Option Tree) → ((to : Cell) → Edited to → ¬ (RefersToTouched book to o)) → (to : Cell) → Edited to → ¬ (RefersToTouched other to o)
  side_stays None h to e w = w
  side_stays (Some t) h to e w = stays_free w.0 (λ c k v. h c k (w.0, w.1, v)) to e w.2

  pub untouched_behind : (sides : Expressions) (p : Place) → IsUntouched book sides Edited p → IsUntouched other sides Edited p
  untouched_behind sides (place.Cell a) h = stays_free a h
  untouched_behind sides (place.Side k) h = side_stays (sides k) h

-- ---- edits one behind the other
differ_in_a_row : (cells : List Cell) (book other : Book) → ComesBy cells book other → DifferAt (Contains cells) book other
differ_in_a_row [] book other h c n = h c
differ_in_a_row (to ∷ cells) book other h c n =
    h.1 c (λ e. n (0, omega arith, sym e)) ∙ differ_in_a_row cells h.0 other h.2 c (λ m. n (suc m.0, omega (arith, m.1), m.2))

pub edits_in_a_row : EditsInARow
edits_in_a_row book other decisions sides cells h p k = several_edits book other decisions (Contains cells) (differ_in_a_row cells book other h) sides p k
