-- A sheet has one model at most, and where it has one, no cause why it has none.
use Rattle.std.specs.Prelude.{Result, Ok, Err}
use Rattle.std.proofs.Common.{◌≡◌, ◌∙◌, ℕ, List, [], ◌∷◌, Option, Some, None, ap, refl, subst, sym}
use Rattle.std.specs.List.{AllZip}
use Rattle.affine_forms.specs.Forms.{AffineForm}
use Rattle.cell_refs.specs.declared.cell.Cell.{Cell}
use Rattle.linear_models.specs.Linear.{linear, wide_row}
use Rattle.linear_models.specs.Statement as rows
use Rattle.recalculation.specs.Entries.{Book}
use Rattle.workbook.specs.Kinds.{book_of}
use Rattle.workbook.specs.State.{State}
use Rattle.cell_refs.specs.declared.place.Place.{Place}
use Rattle.cell_refs.specs.declared.place.Place.TheVariants as place
use Rattle.commands.specs.declared.answer.Answer.{Answer}
use Rattle.commands.specs.declared.answer.Answer.TheVariants as answer
use Rattle.solver_names.specs.Sides.{sides_in}
use Rattle.solver_names.specs.Statement.{RowOf, Statement}
use Rattle.solver_names.specs.Stated.{statement_in}
use Rattle.solver_names.specs.declared.fault.NamesFault.{NamesFault}
use Rattle.solver_names.specs.declared.fault.NamesFault.TheVariants as told
use Rattle.form_needs.specs.FromSheetProblems.{HasForm, HasSides}
use Rattle.form_needs.specs.FromSheetProblems.{Sides}
use Rattle.form_needs.specs.FirstRefusal.{AllNumbers, FirstRefusal}
use Rattle.form_needs.specs.Needed.{Asked, asked_of}
use Rattle.form_needs.specs.declared.refusal.FormRefusal.{FormRefusal}
use Rattle.form_needs.specs.declared.refusal.FormRefusal.TheVariants as refusal
use Rattle.sheet_linear_model.specs.Answers.{HasFault, HasNoModel}
use Rattle.sheet_linear_model.specs.Prepared.{HaveForms, IsPrepared, Prepared, rows_of}

-- ---- statements
abbrev stated_or : {F : Type 0} → Statement → Result Statement F → Statement
stated_or s (Ok t) = t
stated_or s (Err f) = s

same_statement : {F : Type 0} (r : Result Statement F) (s t : Statement) → r ≡ Ok s → r ≡ Ok t → s ≡ t
same_statement r s t e f = ap (stated_or s) (sym e ∙ f)

never_stated : {F : Type 0} (r : Result Statement F) (s : Statement) (f : F) → r ≡ Ok s → r ≡ Err f → ⊥
never_stated r s f e h = let both : Ok s ≡ Err f = sym e ∙ h in cc

-- ---- forms
module _ (book : Book) (sides : Sides) (decisions : List Cell) where
  same_form : (p : Place) (f g : AffineForm) → HasForm book sides decisions p f → HasForm book sides decisions p g → f ≡ g
  same_form p f g h k = let both : Some f ≡ Some g = sym h ∙ k in cc

  same_sides : (rows : List RowOf) (xs ys : List (AffineForm × AffineForm)) → AllZip (HasSides book sides decisions) rows xs → AllZip (HasSides book sides decisions) rows ys → xs ≡ ys
  same_sides [] [] [] h k = refl
  same_sides [] (x ∷ xs) ys h k = absurd h
  same_sides [] [] (y ∷ ys) h k = absurd k
  same_sides (r ∷ rows) [] ys h k = absurd h
  same_sides (r ∷ rows) (x ∷ xs) [] h k = absurd k
  same_sides (r ∷ rows) (x ∷ xs) (y ∷ ys) h k =
      let left : x.0 ≡ y.0 = same_form (place.Cell r.left) x.0 y.0 h.0.left k.0.left in
      let right : x.1 ≡ y.1 = same_form r.right x.1 y.1 h.0.right k.0.right in
      let rest : xs ≡ ys = same_sides rows xs ys h.1 k.1 in
      λ i. (left i, right i) ∷ rest i

module _ (book : State) (sheet : ℕ) (s : Statement) (f g : AffineForm) (xs ys : List (AffineForm × AffineForm)) (h : HaveForms book sheet s f xs) (k : HaveForms book sheet s g ys) where
  same_objective : f ≡ g
  same_objective = by s.objective refl
    where
      by : (o : Option Cell) → s.objective ≡ o → f ≡ g
      by None e = h.none e ∙ sym (k.none e)
      by (Some c) e = same_form (book_of book) (sides_in book s.sheet) s.decisions (place.Cell c) f g (h.forms.objective c e) (k.forms.objective c e)

  same_rows : xs ≡ ys
  same_rows = same_sides (book_of book) (sides_in book s.sheet) s.decisions s.rows xs ys h.forms.rows k.forms.rows

-- ---- models
module _ (book : State) (sheet : ℕ) where
  -- what is made of the names is one
  made_once : (s t : Statement) (f g : AffineForm) (xs ys : List (AffineForm × AffineForm)) → HaveForms book sheet s f xs → HaveForms book sheet t g ys
      → (s ≡ t) × (f ≡ g) × (xs ≡ ys)
  made_once s t f g xs ys h k =
      let e : s ≡ t = same_statement (statement_in book sheet) s t h.stated k.stated in
      let moved : HaveForms book sheet t f xs = subst (λ (s : Statement). HaveForms book sheet s f xs) e h in
      (e, same_objective book sheet t f g xs ys moved k, same_rows book sheet t f g xs ys moved k)

  pub prepared_is_one : (p q : Prepared) → IsPrepared book sheet p → IsPrepared book sheet q → p ≡ q
  prepared_is_one p q h k =
      let made = made_once p.statement q.statement p.objective q.objective p.sides q.sides h.forms k.forms in
      let rows : rows_of p.statement p.objective p.sides ≡ rows_of q.statement q.objective q.sides = λ i. rows_of (made.0 i) (made.1 i) (made.2 i) in
      let model : p.model ≡ q.model = h.model ∙ (ap linear rows ∙ sym k.model) in
      λ i. record { statement = made.0 i; objective = made.1 i; sides = made.2 i; model = model i }

  -- ---- causes
  no_fault : (p : Prepared) (fault : NamesFault) → IsPrepared book sheet p → HasFault book sheet fault → ⊥
  no_fault p told.Memory h k = k
  no_fault p _ h k = never_stated (statement_in book sheet) p.statement k.0 h.forms.stated k.1.0

  none_refused : (q : Asked) (r : FormRefusal) → AllNumbers q → FirstRefusal q r → ⊥
  none_refused q (refusal.Malformed c) all h = all.0.0.0 (place.Cell c) h.holds
  none_refused q (refusal.Circular p) all h = all.0.0.1 p h.1.holds
  none_refused q (refusal.NotAffine p at) all h = all.0.1 p h.1.holds
  none_refused q (refusal.Undecided p at) all h = all.0.1 p h.1.holds
  none_refused q (refusal.Wide p) all h = all.0.1 p h.1.1.holds
  none_refused q (refusal.NotNumber p) all h = all.1 p h.1.holds

  -- where there is a model, there is no cause why there is none
  pub never_both : (p : Prepared) (a : Answer) → IsPrepared book sheet p → HasNoModel book sheet a → ⊥
  never_both p (answer.Names fault) h k = no_fault p fault h k
  never_both p (answer.Form r) h k =
      let e : p.statement ≡ k.statement = same_statement (statement_in book sheet) p.statement k.statement h.forms.stated k.stated in
      none_refused (asked_of book k.statement) r (subst (λ (s : Statement). AllNumbers (asked_of book s)) e h.forms.numbers) k.first
  never_both p (answer.WideRow row) h k =
      let made = made_once p.statement k.statement p.objective k.objective p.sides k.sides h.forms k.forms in
      let rows : rows_of p.statement p.objective p.sides ≡ rows_of k.statement k.objective k.sides = λ i. rows_of (made.0 i) (made.1 i) (made.2 i) in
      let both : None ≡ Some row = sym h.narrow ∙ (ap wide_row rows ∙ k.wide) in
      cc
  never_both p _ h k = k
