-- What is said of the cells, one after the other.
use Rattle.std.proofs.Common.{◌≡◌, ◌≢◌, ◌<◌, ℕ, zero, suc, Bool, true, false, cond, List, [], ◌∷◌, ◌++◌, length, get_or, Option, Some, None, refl, sym, ap, subst, ◌∙◌, append-nil, append_assoc, arith}
use Rattle.std.specs.Prelude.{◌||◌, All, Contains, ◌↔◌, if◌then◌else◌, is_some, option_map, unwrap_or}
use Rattle.std.specs.List.{AllByRecursion, list_any}
use Rattle.std.specs.List.Sorted.{IsStrictlySortedBy}
use Rattle.std.specs.Map.{keys_of}
use Rattle.std.specs.BTreeMap.{is_at}
use Rattle.std.specs.Cmp.{eq_by_cmp_equiv}
use Rattle.std.specs.FinMap.{get, same_map}
use Rattle.std.specs.Ordering.{is_eq}
use Rattle.std.specs.declared.cmp.Ordering.{Ordering}
use Rattle.std.specs.declared.cmp.Ordering.TheVariants.{Less, Equal, Greater}
use Rattle.std.proofs.lemmas.List.Elements.{Contains-append_right}
use Rattle.cell_refs.specs.declared.cell.Cell.{Cell}
use Rattle.cell_refs.specs.Cells.{cell_cmp}
use Rattle.cell_refs.proofs.Order.{cells_total, exact_cells}
use Rattle.formula_ast.specs.Tree.{Tree}
use Rattle.recalculation.specs.Entries.{Entry, entry}
use Rattle.workbook.specs.declared.held.Held.{Held}
use Rattle.workbook.specs.declared.held.Said.{Said}
use Rattle.workbook.specs.declared.users.Users.{Users}
use Rattle.workbook.specs.Held.{AllAreHeld, IsHeld, IsKept, contents_of, held_at, spelled_tree}
use Rattle.workbook.specs.Kinds.{book_of, says}
use Rattle.workbook.specs.Naming.{SayOtherwise}
use Rattle.workbook.specs.Renamed.{AreResaid, OthersStay, Resaid, ResaidAt, of_cell, resaid, said_at}
use Rattle.workbook.specs.Scoped.{IsShort}
use Rattle.workbook.specs.State.{Name, formula_count, text_count}
use Rattle.workbook.specs.Users.{AllAreCovered, IsCovered, KnowsUses, knows}
use Rattle.workbook.specs.Uses.{is_wanted, some_use}
use Rattle.workbook.proofs.Keeping.{HeldCells, get_text, text_held, the_state}
use Rattle.workbook.proofs.NewMeanings.{says_alike, unused_alike}

abbrev pub Resayings : Type 0
Resayings = List (Cell × Said)

-- a cell with what is said of it, before others, where something else is said
abbrev pub added : Cell → Option Said → Resayings → Resayings
added cell None said = said
added cell (Some s) said = (cell, s) ∷ said

-- each cell's answer, in the order of the cells
abbrev pub Chain : (Cell → Option Said → Type 0) → List Cell → Resayings → Type 0
Chain P [] said = said ≡ []
Chain P (k ∷ ks) said = (o : Option Said) × (rest : Resayings) × P k o × (said ≡ added k o rest) × Chain P ks rest

-- ---- the loop over the cells: what has been said goes before what is still to be said
abbrev pub GoesBefore : (Cell → Option Said → Type 0) → List Cell → List Cell → Resayings → Type 0
GoesBefore P all left said = (rest : Resayings) → Chain P left rest → Chain P all (said ++ rest)

pub goes_on : (P : Cell → Option Said → Type 0) (all left : List Cell) (k : Cell) (said more : Resayings) (o : Option Said) → GoesBefore P all (k ∷ left) said → P k o
    → more ≡ said ++ of_cell k o → GoesBefore P all left more
goes_on P all left k said more None so_far p pushed rest chain =
    subst (Chain P all) (ap (λ l. l ++ rest) (sym (append-nil said) ∙ sym pushed)) (so_far rest (None, rest, p, refl, chain))
goes_on P all left k said more (Some s) so_far p pushed rest chain =
    subst (Chain P all) (sym (append_assoc said ((k, s) ∷ []) rest) ∙ ap (λ l. l ++ rest) (sym pushed))
    (so_far ((k, s) ∷ rest) (Some s, rest, p, refl, chain))

pub gone_through : (P : Cell → Option Said → Type 0) (all : List Cell) (said : Resayings) → GoesBefore P all [] said → Chain P all said
gone_through P all said so_far = subst (Chain P all) (append-nil said) (so_far [] refl)

-- ---- each cell is said something else of at most once
abbrev Above : Cell → List Cell → Type 0
Above k cells = AllByRecursion (λ (y : Cell). cell_cmp k y ≡ Less) cells

passed : (q k : Cell) (o p : Option Said) → cell_cmp q k ≡ Less → cond (is_eq (cell_cmp q k)) o p ≡ p
passed q k o p less = ap (λ r. cond (is_eq r) o p) less

none_above : (q : Cell) (said : Resayings) → Above q (keys_of said) → said_at said q ≡ None
none_above q [] a = refl
none_above q (e ∷ said) a = passed q e.0 (Some e.1) (said_at said q) a.0 ∙ none_above q said a.1

equal_of : (r : Ordering) → is_eq r ≡ true → r ≡ Equal
equal_of Less e = absurd cc
equal_of Equal e = refl
equal_of Greater e = absurd cc

one_held : (a b : Held) → Some a ≡ Some b → a ≡ b
one_held a b e = ap (λ o. unwrap_or o a) e

head_of : (k : Cell) (cells : List Cell) → IsStrictlySortedBy cell_cmp (k ∷ cells) → Above k cells
unfolding IsStrictlySortedBy
head_of k cells h = h.0

tail_of : (k : Cell) (cells : List Cell) → IsStrictlySortedBy cell_cmp (k ∷ cells) → IsStrictlySortedBy cell_cmp cells
unfolding IsStrictlySortedBy
tail_of k cells h = h.1

sorted_nil : IsStrictlySortedBy cell_cmp []
unfolding IsStrictlySortedBy
sorted_nil = tt

sorted_cons : (k : Cell) (cells : List Cell) → Above k cells → IsStrictlySortedBy cell_cmp cells → IsStrictlySortedBy cell_cmp (k ∷ cells)
unfolding IsStrictlySortedBy
sorted_cons k cells a h = (a, h)

module _ (P : Cell → Option Said → Type 0) where
  above : (k : Cell) (ks : List Cell) (said : Resayings) → Above k ks → Chain P ks said → Above k (keys_of said)
  above k [] said a chain = subst (λ l. Above k (keys_of l)) (sym chain) tt
  above k (x ∷ ks) said a chain = subst (λ l. Above k (keys_of l)) (sym chain.3) (by chain.0 (above k ks chain.1 a.1 chain.4))
    where
      by : (o : Option Said) → Above k (keys_of chain.1) → Above k (keys_of (added x o chain.1))
      by None ih = ih
      by (Some s) ih = (a.0, ih)

  in_order : (ks : List Cell) (said : Resayings) → IsStrictlySortedBy cell_cmp ks → Chain P ks said → IsStrictlySortedBy cell_cmp (keys_of said)
  in_order [] said h chain = subst (λ l. IsStrictlySortedBy cell_cmp (keys_of l)) (sym chain) sorted_nil
  in_order (x ∷ ks) said h chain =
      subst (λ l. IsStrictlySortedBy cell_cmp (keys_of l)) (sym chain.3) (by chain.0 (in_order ks chain.1 (tail_of x ks h) chain.4))
    where
      by : (o : Option Said) → IsStrictlySortedBy cell_cmp (keys_of chain.1) → IsStrictlySortedBy cell_cmp (keys_of (added x o chain.1))
      by None rest = rest
      by (Some s) rest = sorted_cons x (keys_of chain.1) (above x ks chain.1 (head_of x ks h) chain.4) rest

  beside : (q k : Cell) (o : Option Said) (said : Resayings) → is_at (cell_cmp q) k ≡ false → said_at (added k o said) q ≡ said_at said q
  beside q k None said e = refl
  beside q k (Some s) said e = ap (λ b. cond b (Some s) (said_at said q)) e

  here : (k : Cell) (o : Option Said) (said : Resayings) → said_at said k ≡ None → said_at (added k o said) k ≡ o
  here k None said e = e
  here k (Some s) said e = ap (λ b. cond b (Some s) (said_at said k)) ((eq_by_cmp_equiv cells_total).refl k)

  not_among : (ks : List Cell) (said : Resayings) (q : Cell) → Chain P ks said → list_any (is_at (cell_cmp q)) ks ≡ false → said_at said q ≡ None
  not_among [] said q chain none = ap (λ l. said_at l q) chain
  not_among (x ∷ ks) said q chain none = by (is_at (cell_cmp q) x) refl none (not_among ks chain.1 q chain.4)
    where
      by : (b : Bool) → is_at (cell_cmp q) x ≡ b → (b || list_any (is_at (cell_cmp q)) ks) ≡ false → (list_any (is_at (cell_cmp q)) ks ≡ false → said_at chain.1 q ≡ None) → said_at said q ≡ None
      by true t n ih = absurd cc
      by false t n ih = ap (λ l. said_at l q) chain.3 ∙ beside q x chain.0 chain.1 t ∙ ih n

  its_own : (ks : List Cell) (said : Resayings) (q : Cell) → IsStrictlySortedBy cell_cmp ks → Chain P ks said → list_any (is_at (cell_cmp q)) ks ≡ true → P q (said_at said q)
  its_own [] said q sorted chain any = absurd cc
  its_own (x ∷ ks) said q sorted chain any = by (is_at (cell_cmp q) x) refl any (its_own ks chain.1 q (tail_of x ks sorted) chain.4)
    where
      by : (b : Bool) → is_at (cell_cmp q) x ≡ b → (b || list_any (is_at (cell_cmp q)) ks) ≡ true → (list_any (is_at (cell_cmp q)) ks ≡ true → P q (said_at chain.1 q)) → P q (said_at said q)
      by true t n ih =
          let same : q ≡ x = exact_cells q x (equal_of (cell_cmp q x) t) in
          let none : said_at chain.1 x ≡ None = none_above x chain.1 (above x ks chain.1 (head_of x ks sorted) chain.4) in
          let is : said_at said x ≡ chain.0 = ap (λ l. said_at l x) chain.3 ∙ here x chain.0 chain.1 none in
          subst (λ k. P k (said_at said k)) (sym same) (subst (P x) (sym is) chain.2)
      by false t n ih = subst (P q) (sym (ap (λ l. said_at l q) chain.3 ∙ beside q x chain.0 chain.1 t)) (ih n)

-- ---- the cells of a name are all that say something else
abbrev pub AnswersAt : List (List ℕ) → List Name → List Name → HeldCells → Cell → Option Said → Type 0
AnswersAt sheets before after es q o = ResaidAt sheets before after q (held_at es q) o

module _ (sheets : List (List ℕ)) (before after : List Name) (name : List ℕ) (others : OthersStay name before after) (es : HeldCells) (held : AllAreHeld sheets before es)
    (users : Users) (covered : AllAreCovered users es) where
  -- a text says the same whose cell isn't among those of the name
  unaffected : (q : Cell) (h : Held) → held_at es q ≡ Some h → knows users name q ≡ false → says sheets after q h.text ≡ says sheets before q h.text
  unaffected q h some unknown = by (spelled_tree h) refl (covered q h some)
    where
      used : (t : Tree) (b : Bool) → some_use (is_wanted (Some name)) t ≡ b → KnowsUses users q t → spelled_tree h ≡ Some t → says sheets after q h.text ≡ says sheets before q h.text
      used t true u known e = absurd (let k : true ≡ false = sym (known name u) ∙ unknown in cc)
      used t false u known e = unused_alike sheets before after name others q h (held q h some) t e u

      by : (o : Option Tree) → spelled_tree h ≡ o → IsCovered users q (spelled_tree h) → says sheets after q h.text ≡ says sheets before q h.text
      by None e is = says_alike sheets before after name others q h (held q h some) e
      by (Some t) e is = used t (some_use (is_wanted (Some name)) t) refl (subst (IsCovered users q) e is) e

  -- so exactly the cells that say something else are told
  pub all_resaid : (ks : List Cell) (said : Resayings) → ((q : Cell) → knows users name q ≡ list_any (is_at (cell_cmp q)) ks) → IsStrictlySortedBy cell_cmp ks
      → Chain (AnswersAt sheets before after es) ks said → AreResaid sheets before after es said
  all_resaid ks said are sorted chain = record {
    each = λ q h some. at (list_any (is_at (cell_cmp q)) ks) q h refl some;
    within = λ q none. nothing (list_any (is_at (cell_cmp q)) ks) q refl none;
    sorted = in_order (AnswersAt sheets before after es) ks said sorted chain;
  }
    where
      at : (b : Bool) (q : Cell) (h : Held) → list_any (is_at (cell_cmp q)) ks ≡ b → held_at es q ≡ Some h → Resaid sheets before after q h (said_at said q)
      at true q h e some =
          subst (λ o. ResaidAt sheets before after q o (said_at said q)) some (its_own (AnswersAt sheets before after es) ks said q sorted chain e)
      at false q h e some =
          subst (Resaid sheets before after q h) (sym (not_among (AnswersAt sheets before after es) ks said q chain e)) (unaffected q h some (are q ∙ e))

      nothing : (b : Bool) (q : Cell) → list_any (is_at (cell_cmp q)) ks ≡ b → held_at es q ≡ None → said_at said q ≡ None
      nothing true q e none =
          subst (λ o. ResaidAt sheets before after q o (said_at said q)) none (its_own (AnswersAt sheets before after es) ks said q sorted chain e)
      nothing false q e none = not_among (AnswersAt sheets before after es) ks said q chain e

  -- no cell is among those of a name that has none
  pub none_resaid : (said : Resayings) → ((q : Cell) → knows users name q ≡ false) → said ≡ [] → AreResaid sheets before after es said
  none_resaid said none is = all_resaid [] said none sorted_nil is

-- ---- what is said, put to the cells, the last of it first
said_last : (said : Resayings) (k : Cell) (s : Said) (q : Cell) (r : Option Said) → said_at said q ≡ r
    → said_at (said ++ (k, s) ∷ []) q ≡ (if is_some r then r else cond (is_at (cell_cmp q) k) (Some s) None)
said_last [] k s q None e = refl
said_last [] k s q (Some x) e = absurd cc
said_last (v ∷ said) k s q r e = by (is_at (cell_cmp q) v.0) e (said_last said k s q r)
  where
    by : (b : Bool) → cond b (Some v.1) (said_at said q) ≡ r
        → (said_at said q ≡ r → said_at (said ++ (k, s) ∷ []) q ≡ (if is_some r then r else cond (is_at (cell_cmp q) k) (Some s) None))
        → cond b (Some v.1) (said_at (said ++ (k, s) ∷ []) q) ≡ (if is_some r then r else cond (is_at (cell_cmp q) k) (Some s) None)
    by true f ih = ap (λ o. if is_some o then o else cond (is_at (cell_cmp q) k) (Some s) None) f
    by false f ih = ih f

put_first : (r : Option Said) (b : Bool) (s : Said) (o : Option Held) → resaid r (if b then resaid (Some s) o else o) ≡ resaid (if is_some r then r else cond b (Some s) None) o
put_first None true s o = refl
put_first None false s o = refl
put_first (Some x) true s None = refl
put_first (Some x) true s (Some h) = refl
put_first (Some x) false s o = refl

pub said_on : (said rest : Resayings) (k : Cell) (s : Said) (old new : HeldCells) (q : Cell) (total : Option Held) → said ≡ rest ++ (k, s) ∷ []
    → held_at new q ≡ (if is_at (cell_cmp k) q then resaid (Some s) (held_at old q) else held_at old q)
    → resaid (said_at said q) (held_at old q) ≡ total → resaid (said_at rest q) (held_at new q) ≡ total
said_on said rest k s old new q total last now so_far =
    ap (resaid (said_at rest q)) now
    ∙ put_first (said_at rest q) (is_at (cell_cmp k) q) s (held_at old q)
    ∙ ap (λ b. resaid (if is_some (said_at rest q) then said_at rest q else cond b (Some s) None) (held_at old q)) ((eq_by_cmp_equiv cells_total).symm k q)
    ∙ ap (λ o. resaid o (held_at old q)) (sym (said_last rest k s q (said_at rest q) refl))
    ∙ ap (λ l. resaid (said_at l q) (held_at old q)) (sym last) ∙ so_far

-- ---- the workbook after
same_text : (r : Option Said) (o : Option Held) → text_held (resaid r o) ≡ text_held o
same_text None o = refl
same_text (Some s) None = refl
same_text (Some s) (Some h) = refl

module _ (sheets : List (List ℕ)) (before after : List Name) (es fs : HeldCells) (said : Resayings) (formulas : ℕ) (kept : IsKept sheets before es formulas)
    (are : AreResaid sheets before after es said) (short : All IsShort after) (now : (q : Cell) → held_at fs q ≡ resaid (said_at said q) (held_at es q)) (same : length fs ≡ length es) where
  pub same_contents : contents_of fs ≡ contents_of es
  same_contents = same_map cells_total exact_cells (contents_of fs) (contents_of es) (λ q.
      get_text fs q ∙ ap text_held (now q) ∙ same_text (said_at said q) (held_at es q) ∙ sym (get_text es q))

  held_now : (q : Cell) (h g : Held) (r : Option Said) → held_at es q ≡ Some h → Resaid sheets before after q h r → resaid r (Some h) ≡ Some g → IsHeld sheets after q g
  held_now q h g None some is e =
      let own = kept.held q h some in
      subst (IsHeld sheets after q) (one_held h g e) (record { listed = own.listed; some = own.some; agrees = own.agrees ∙ sym is; sound = own.sound; spelled = own.spelled })
  held_now q h g (Some s) some is e =
      let own = kept.held q h some in
      subst (IsHeld sheets after q) (one_held (record h { said = s }) g e) (record { listed = own.listed; some = own.some; agrees = is.1; sound = is.0; spelled = own.spelled })

  nothing_said : (r : Option Said) → resaid r None ≡ None
  nothing_said None = refl
  nothing_said (Some s) = refl

  each_held : (q : Cell) (g : Held) → held_at fs q ≡ Some g → IsHeld sheets after q g
  each_held q g some = by (held_at es q) refl (sym (now q) ∙ some)
    where
      by : (o : Option Held) → held_at es q ≡ o → resaid (said_at said q) (held_at es q) ≡ Some g → IsHeld sheets after q g
      by None h e = absurd (let k : None ≡ Some g = sym (ap (resaid (said_at said q)) h ∙ nothing_said (said_at said q)) ∙ e in cc)
      by (Some a) h e = held_now q a g (said_at said q) h (are.each q a h) (sym (ap (resaid (said_at said q)) h) ∙ e)

  pub kept_resaid : IsKept sheets after fs formulas
  kept_resaid = record {
    short = short;
    held = each_held;
    counted = same ∙ kept.counted ∙ ap text_count (sym same_contents);
    few = let a = kept.few in omega arith;
    numbered = kept.numbered ∙ ap formula_count (sym same_contents);
    few_formulas = kept.few_formulas;
  }

  -- ---- the cells that are told
  abbrev entry_after : Cell → Option Entry
  entry_after q = option_map (says sheets after q) (text_held (held_at es q))

  abbrev entry_before : Cell → Option Entry
  entry_before q = option_map (says sheets before q) (text_held (held_at es q))

  after_is : (q : Cell) → entry (book_of (the_state sheets (contents_of fs) after)) q ≡ entry_after q
  after_is q = ap (option_map (says sheets after q)) (ap (λ m. get m q) same_contents ∙ get_text es q)

  before_is : (q : Cell) → entry (book_of (the_state sheets (contents_of es) before)) q ≡ entry_before q
  before_is q = ap (option_map (says sheets before q)) (get_text es q)

  at_index : (l : Resayings) (q : Cell) (k : ℕ) → k < length (keys_of l) → get_or (keys_of l) k q ≡ q → is_some (said_at l q) ≡ true
  at_index [] q k lt at = absurd (omega arith)
  at_index (v ∷ l) q zero lt at = ap (λ b. is_some (cond b (Some v.1) (said_at l q))) (ap (λ x. is_at (cell_cmp q) x) at ∙ (eq_by_cmp_equiv cells_total).refl q)
  at_index (v ∷ l) q (suc k) lt at = by (is_at (cell_cmp q) v.0) (at_index l q k (omega arith) at)
    where
      by : (b : Bool) → is_some (said_at l q) ≡ true → is_some (cond b (Some v.1) (said_at l q)) ≡ true
      by true h = refl
      by false h = h

  among : (l : Resayings) (q : Cell) → is_some (said_at l q) ≡ true → Contains (keys_of l) q
  among [] q e = absurd cc
  among (v ∷ l) q e = by (is_at (cell_cmp q) v.0) refl e (among l q)
    where
      by : (b : Bool) → is_at (cell_cmp q) v.0 ≡ b → is_some (cond b (Some v.1) (said_at l q)) ≡ true → (is_some (said_at l q) ≡ true → Contains (keys_of l) q) → Contains (keys_of (v ∷ l)) q
      by true t h ih = let one : v.0 ≡ q = sym (exact_cells q v.0 (equal_of (cell_cmp q v.0) t)) in (0, omega arith, one)
      by false t h ih = Contains-append_right (v.0 ∷ []) (keys_of l) q (ih h)

  entries_differ : (q : Cell) (o : Option Held) (r : Option Said) → held_at es q ≡ o → said_at said q ≡ r → is_some r ≡ true → entry_after q ≢ entry_before q
  entries_differ q o None h e some = absurd cc
  entries_differ q None (Some s) h e some = absurd (let k = are.within q h in let j : Some s ≡ None = sym e ∙ k in cc)
  entries_differ q (Some g) (Some s) h e some = λ alike.
      let is : Resaid sheets before after q g (Some s) = subst (Resaid sheets before after q g) e (are.each q g h) in
      let a : Some (says sheets after q g.text) ≡ Some (says sheets before q g.text) =
      sym (ap (λ o. option_map (says sheets after q) (text_held o)) h) ∙ alike ∙ ap (λ o. option_map (says sheets before q) (text_held o)) h in
      is.2 (let b : says sheets after q g.text ≡ says sheets before q g.text = cc in b)

  entries_alike : (q : Cell) (o : Option Held) → held_at es q ≡ o → said_at said q ≡ None → entry_after q ≡ entry_before q
  entries_alike q None h e = ap (λ o. option_map (says sheets after q) (text_held o)) h ∙ sym (ap (λ o. option_map (says sheets before q) (text_held o)) h)
  entries_alike q (Some g) h e =
      let is : Resaid sheets before after q g None = subst (Resaid sheets before after q g) e (are.each q g h) in
      ap (λ o. option_map (says sheets after q) (text_held o)) h ∙ ap Some is ∙ sym (ap (λ o. option_map (says sheets before q) (text_held o)) h)

  told : (q : Cell) (r : Option Said) → said_at said q ≡ r → entry_after q ≢ entry_before q → Contains (keys_of said) q
  told q None e ne = absurd (ne (entries_alike q (held_at es q) refl e))
  told q (Some s) e ne = among said q (ap is_some e)

  each_told : (q : Cell) → Contains (keys_of said) q ↔ (entry (book_of (the_state sheets (contents_of fs) after)) q ≢ entry (book_of (the_state sheets (contents_of es) before)) q)
  each_told q = (
    λ there same. entries_differ q (held_at es q) (said_at said q) refl refl (at_index said q there.0 there.1 there.2) (sym (after_is q) ∙ same ∙ before_is q),
    λ ne. told q (said_at said q) refl (λ same. ne (after_is q ∙ same ∙ sym (before_is q))),
  )

  others_alike : (q : Cell) → ¬ (Contains (keys_of said) q) → entry (book_of (the_state sheets (contents_of fs) after)) q ≡ entry (book_of (the_state sheets (contents_of es) before)) q
  others_alike q none = by (said_at said q) refl
    where
      by : (r : Option Said) → said_at said q ≡ r → entry (book_of (the_state sheets (contents_of fs) after)) q ≡ entry (book_of (the_state sheets (contents_of es) before)) q
      by None e = after_is q ∙ entries_alike q (held_at es q) refl e ∙ sym (before_is q)
      by (Some s) e = absurd (none (among said q (ap is_some e)))

  pub say_otherwise : (cells : List Cell) → cells ≡ keys_of said
      → SayOtherwise (the_state sheets (contents_of es) before) (the_state sheets (contents_of fs) after) cells
  say_otherwise cells is = record {
    each = λ q. subst (λ l. Contains l q ↔ (entry (book_of (the_state sheets (contents_of fs) after)) q ≢ entry (book_of (the_state sheets (contents_of es) before)) q)) (sym is) (each_told q);
    sorted = subst (IsStrictlySortedBy cell_cmp) (sym is) are.sorted;
    others = λ q none. others_alike q (λ there. none (subst (λ l. Contains l q) (sym is) there));
  }
