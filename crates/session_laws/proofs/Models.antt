-- A sheet without a linear model has one first cause why it has none.
use Rattle.std.proofs.Common.{◌≡◌, ◌∙◌, ℕ, List, [], ◌∷◌, Option, Some, None, Result, Ok, refl, sym, ap, ap₂, subst}
use Rattle.std.specs.List.{AllZip}
use Rattle.fractions.specs.Rational.{zero_ℚ}
use Rattle.affine_forms.specs.Forms.{AffineForm, constant_form}
use Rattle.cell_refs.specs.declared.cell.Cell.{Cell}
use Rattle.linear_models.specs.Linear.{wide_row}
use Rattle.recalculation.specs.Entries.{Book}
use Rattle.workbook.specs.Kinds.{book_of}
use Rattle.workbook.specs.State.{State}
use Rattle.cell_refs.specs.declared.place.Place.{Place}
use Rattle.cell_refs.specs.declared.place.Place.TheVariants as place
use Rattle.solver_names.specs.Sides.{sides_in}
use Rattle.solver_names.specs.Statement.{RowOf, Statement}
use Rattle.solver_names.specs.Stated.{statement_in}
use Rattle.solver_names.specs.declared.fault.NamesFault.{NamesFault}
use Rattle.sheet_problems.specs.Forms.{HasForm, HasSides}
use Rattle.sheet_problems.specs.Places.{Sides}
use Rattle.form_needs.specs.FirstRefusal.{IsRefusal}
use Rattle.form_needs.specs.Needed.{asked_of}
use Rattle.form_needs.specs.declared.refusal.FormRefusal.{FormRefusal}
use Rattle.form_needs.proofs.One.{one_refusal}
use Rattle.commands.specs.declared.answer.Answer.{Answer}
use Rattle.commands.specs.declared.answer.Answer.TheVariants as answer
use Rattle.session.specs.FromSheetLinearModel.{HasFault, HasNoModel}
use Rattle.session.specs.FromSheetLinearModel.{HasWideRow, HaveForms, IsRefusedBy, rows_of}
use Rattle.session_laws.specs.Answers.{SameAnswer}
use Rattle.session_laws.proofs.Faults.{no_fault, one_fault}
use Rattle.session_laws.proofs.Same.{equal_are_same, same_by}

-- ---- statements
some_is : {A : Type 0} {x y : A} → Some x ≡ Some y → x ≡ y
some_is e = cc

stated_is : {A E : Type 0} (o : Result A E) (x y : A) → o ≡ Ok x → o ≡ Ok y → x ≡ y
stated_is o x y e f = cc

-- ---- forms
one_form : (book : Book) (sides : Sides) (decisions : List Cell) (p : Place) (f g : AffineForm) → HasForm book sides decisions p f → HasForm book sides decisions p g → f ≡ g
one_form book sides decisions p f g h k = some_is (sym h ∙ k)

one_pair : (book : Book) (sides : Sides) (decisions : List Cell) (r : RowOf) (f g : AffineForm × AffineForm) → HasSides book sides decisions r f → HasSides book sides decisions r g → f ≡ g
one_pair book sides decisions r f g h k =
    ap₂ (λ (a b : AffineForm). (a, b)) (one_form book sides decisions (place.Cell r.left) f.0 g.0 h.left k.left) (one_form book sides decisions r.right f.1 g.1 h.right k.right)

one_list : {A B : Type 0} (R : A → B → Type 0) → ((x : A) (y z : B) → R x y → R x z → y ≡ z) → (xs : List A) (ys zs : List B) → AllZip R xs ys → AllZip R xs zs → ys ≡ zs
one_list R one [] [] [] h k = refl
one_list R one [] [] (z ∷ zs) h k = absurd k
one_list R one [] (y ∷ ys) zs h k = absurd h
one_list R one (x ∷ xs) [] zs h k = absurd h
one_list R one (x ∷ xs) (y ∷ ys) [] h k = absurd k
one_list R one (x ∷ xs) (y ∷ ys) (z ∷ zs) h k = ap₂ ◌∷◌ (one x y z h.0 k.0) (one_list R one xs ys zs h.1 k.1)

one_objective : (book : Book) (sides : Sides) (decisions : List Cell) (o : Option Cell) (f g : AffineForm)
    → ((c : Cell) → o ≡ Some c → HasForm book sides decisions (place.Cell c) f) → ((c : Cell) → o ≡ Some c → HasForm book sides decisions (place.Cell c) g)
    → (o ≡ None → f ≡ constant_form zero_ℚ) → (o ≡ None → g ≡ constant_form zero_ℚ) → f ≡ g
one_objective book sides decisions None f g h k n l = n refl ∙ sym (l refl)
one_objective book sides decisions (Some c) f g h k n l = one_form book sides decisions (place.Cell c) f g (h c refl) (k c refl)

record SameForms (s t : Statement) (f g : AffineForm) (xs ys : List (AffineForm × AffineForm)) : Type 0 where
  statement : s ≡ t
  objective : f ≡ g
  sides : xs ≡ ys

forms_of_one : (book : State) (sheet : ℕ) (s : Statement) (f g : AffineForm) (xs ys : List (AffineForm × AffineForm)) → HaveForms book sheet s f xs → HaveForms book sheet s g ys → (f ≡ g) × (xs ≡ ys)
forms_of_one book sheet s f g xs ys h k =
    let b = book_of book in
    let sides = sides_in book s.sheet in (
      one_objective b sides s.decisions s.objective f g h.forms.objective k.forms.objective h.none k.none,
      one_list (HasSides b sides s.decisions) (one_pair b sides s.decisions) s.rows xs ys h.forms.rows k.forms.rows,
    )

one_forms : (book : State) (sheet : ℕ) (s t : Statement) (f g : AffineForm) (xs ys : List (AffineForm × AffineForm)) → HaveForms book sheet s f xs → HaveForms book sheet t g ys → SameForms s t f g xs ys
one_forms book sheet s t f g xs ys h k =
    let same : s ≡ t = stated_is (statement_in book sheet) s t h.stated k.stated in
    let one = forms_of_one book sheet t f g xs ys (subst (λ (u : Statement). HaveForms book sheet u f xs) same h) k in
    record { statement = same; objective = one.0; sides = one.1 }

-- ---- causes
-- why a sheet has no model, and that it is answered
data Cause (book : State) (sheet : ℕ) (a : Answer) : Type 0 where
  names : (e : NamesFault) → HasFault book sheet e → a ≡ answer.Names e → Cause book sheet a
  form : (r : FormRefusal) → IsRefusedBy book sheet r → a ≡ answer.Form r → Cause book sheet a
  row : (k : ℕ) → HasWideRow book sheet k → a ≡ answer.WideRow k → Cause book sheet a

cause : (book : State) (sheet : ℕ) (a : Answer) → HasNoModel book sheet a → Cause book sheet a
cause book sheet (answer.Names e) h = names e h refl
cause book sheet (answer.Form r) h = form r h refl
cause book sheet (answer.WideRow k) h = row k h refl
cause book sheet _ h = absurd h

-- of one statement there is one first refusal, or none
same_refusal : (book : State) (sheet : ℕ) (s t : Statement) (r u : Option FormRefusal) → statement_in book sheet ≡ Ok s → statement_in book sheet ≡ Ok t
    → IsRefusal (asked_of book s) r → IsRefusal (asked_of book t) u → r ≡ u
same_refusal book sheet s t r u h k i j =
    let same : s ≡ t = stated_is (statement_in book sheet) s t h k in
    one_refusal (asked_of book t) r u (subst (λ (v : Statement). IsRefusal (asked_of book v) r) same i) j

refused_or_not : {r : FormRefusal} → Some r ≡ None → ⊥
refused_or_not e = absurd cc

form_is_numbers : (book : State) (sheet : ℕ) (s : Statement) (f : AffineForm) (xs : List (AffineForm × AffineForm)) (r : FormRefusal) → HaveForms book sheet s f xs → IsRefusedBy book sheet r → ⊥
form_is_numbers book sheet s f xs r h k = refused_or_not (same_refusal book sheet k.statement s (Some r) None k.stated h.stated k.first h.numbers)

-- the number of the first row that isn't narrow, by the forms
one_row : (book : State) (sheet : ℕ) (s t : Statement) (f g : AffineForm) (xs ys : List (AffineForm × AffineForm)) (o p : Option ℕ) → HaveForms book sheet s f xs → HaveForms book sheet t g ys
    → wide_row (rows_of s f xs) ≡ o → wide_row (rows_of t g ys) ≡ p → o ≡ p
one_row book sheet s t f g xs ys o p h k i j =
    let same = one_forms book sheet s t f g xs ys h k in
    sym i
    ∙ (ap (λ (u : Statement). wide_row (rows_of u f xs)) same.statement
    ∙ (ap (λ (v : AffineForm). wide_row (rows_of t v xs)) same.objective ∙ (ap (λ (l : List (AffineForm × AffineForm)). wide_row (rows_of t g l)) same.sides ∙ j)))

one_cause : (book : State) (sheet : ℕ) (a b : Answer) → Cause book sheet a → Cause book sheet b → SameAnswer a b
one_cause book sheet a b (names d h e) (names f k i) = same_by a b (answer.Names d) (answer.Names f) e i (one_fault book sheet d f h k)
one_cause book sheet a b (names d h e) (form r k i) = absurd (no_fault book sheet k.statement d k.stated h)
one_cause book sheet a b (names d h e) (row n k i) = absurd (no_fault book sheet k.statement d k.forms.stated h)
one_cause book sheet a b (form r h e) (names d k i) = absurd (no_fault book sheet h.statement d h.stated k)
one_cause book sheet a b (form r h e) (form u k i) =
    let same : r ≡ u = some_is (same_refusal book sheet h.statement k.statement (Some r) (Some u) h.stated k.stated h.first k.first) in
    equal_are_same a b (e ∙ (ap answer.Form same ∙ sym i))
one_cause book sheet a b (form r h e) (row n k i) = absurd (form_is_numbers book sheet k.statement k.objective k.sides r k.forms h)
one_cause book sheet a b (row n h e) (names d k i) = absurd (no_fault book sheet h.statement d h.forms.stated k)
one_cause book sheet a b (row n h e) (form r k i) = absurd (form_is_numbers book sheet h.statement h.objective h.sides r h.forms k)
one_cause book sheet a b (row n h e) (row l k i) =
    let same : n ≡ l = some_is (one_row book sheet h.statement k.statement h.objective k.objective h.sides k.sides (Some n) (Some l) h.forms k.forms h.wide k.wide) in
    equal_are_same a b (e ∙ (ap answer.WideRow same ∙ sym i))

pub one_without_model : (book : State) (sheet : ℕ) (a b : Answer) → HasNoModel book sheet a → HasNoModel book sheet b → SameAnswer a b
one_without_model book sheet a b h k = one_cause book sheet a b (cause book sheet a h) (cause book sheet b k)
