-- What is answered where the prices of a sheet's rows are asked for is one.
use Rattle.std.proofs.Common.{◌≡◌, ◌<◌, ◌∙◌, ◌⊎◌, inl, inr, ℕ, true, false, List, [], Some, true≢false, refl, sym, ap, subst}
use Rattle.std.specs.Prelude.{Bool, Result, Ok, Err, Vec, slice_get}
use Rattle.std.specs.Global.{Global}
use Rattle.fractions.specs.Rational.{ℚ}
use Rattle.cell_refs.specs.declared.cell.Cell.{Cell}
use Rattle.linear_models.specs.Model.{is_whole_at}
use Rattle.sensitivity.specs.declared.answer.PriceAnswer.{PriceAnswer}
use Rattle.sensitivity.specs.declared.answer.PriceAnswer.TheVariants as found
use Rattle.sensitivity.specs.declared.row_prices.Price.{Price}
use Rattle.sensitivity.specs.declared.stop.PriceStop.{PriceStop}
use Rattle.sensitivity.specs.declared.stop.PriceStop.TheVariants as stop
use Rattle.commands.specs.declared.answer.Answer.{Answer}
use Rattle.commands.specs.declared.answer.Answer.TheVariants as answer
use Rattle.commands.specs.declared.answer.PathStep.{PathStep}
use Rattle.commands.specs.declared.price_lines.PriceLines.{PriceLines}
use Rattle.session.specs.FromSheetLinearModel.{numbers_of}
use Rattle.session.specs.FromSheetLinearModel.{Prepared}
use Rattle.session.specs.FromSheetPrices.{ComesTo, HasAim, IsFirstWhole, Prices, Tells}
use Rattle.session.specs.FromSheetPrices.{lines_of}
use Rattle.session_laws.specs.Answers.{SameAnswer}
use Rattle.session_laws.proofs.Priced.{IsFound, SameResult, priced_once}
use Rattle.session_laws.proofs.Runs.{three}
use Rattle.session_laws.proofs.Same.{equal_are_same, same_by}

some_is : {A : Type 0} {x y : A} → Some x ≡ Some y → x ≡ y
some_is e = cc

-- ---- the first cell that is to be whole
not_before : (marks : List Bool) (i j : ℕ) → is_whole_at marks i ≡ true → ((k : ℕ) → k < j → is_whole_at marks k ≡ false) → i < j → ⊥
not_before marks i j e none l = true≢false (sym e ∙ none i l)

one_cell : (decisions : List Cell) (marks : List Bool) (c d : Cell) → IsFirstWhole decisions marks c → IsFirstWhole decisions marks d → c ≡ d
one_cell decisions marks c d h k = by (three h.place k.place)
  where
    by : (h.place < k.place) ⊎ ((k.place < h.place) ⊎ (h.place ≡ k.place)) → c ≡ d
    by (inl l) = absurd (not_before marks h.place k.place h.whole k.first l)
    by (inr (inl l)) = absurd (not_before marks k.place h.place k.whole h.first l)
    by (inr (inr e)) = some_is (sym h.is_it ∙ (ap (slice_get decisions) e ∙ k.is_it))

module _ (p : Prepared) (units : ℕ) where
  -- ---- how a result is told
  found_if_told : (r : Result PriceAnswer PriceStop) (a : Answer) → Tells p units r a → IsFound r
  found_if_told (Err stop.Memory) a t = absurd t
  found_if_told r a t = tt

  record TellsBest (value : ℚ) (prices : List Price) (a : Answer) : Type 0 where
    lines : PriceLines
    is : a ≡ answer.Prices lines
    value_is : lines.value ≡ value
    rows_are : lines.rows.items ≡ lines_of p prices

  record TellsWide (basis : List ℕ) (leaves enters : ℕ) (a : Answer) : Type 0 where
    path : Vec PathStep Global
    now_basis : Vec ℕ Global
    is : a ≡ answer.WidePivot path now_basis leaves enters
    no_path : path.items ≡ []
    basis_is : now_basis.items ≡ basis

  tells_best : (value : ℚ) (prices : Vec Price Global) (a : Answer) → Tells p units (Ok (found.Best value prices)) a → TellsBest value prices.items a
  tells_best value prices (answer.Prices lines) t = record { lines = lines; is = refl; value_is = t.0; rows_are = t.1 }
  tells_best value prices _ t = absurd t

  tells_infeasible : (a : Answer) → Tells p units (Ok found.Infeasible) a → a ≡ answer.Infeasible
  tells_infeasible answer.Infeasible t = refl
  tells_infeasible _ t = absurd t

  tells_unbounded : (a : Answer) → Tells p units (Ok found.Unbounded) a → a ≡ answer.Unbounded
  tells_unbounded answer.Unbounded t = refl
  tells_unbounded _ t = absurd t

  tells_wide : (basis : Vec ℕ Global) (leaves enters : ℕ) (a : Answer) → Tells p units (Err (stop.WidePivot basis leaves enters)) a → TellsWide basis.items leaves enters a
  tells_wide basis leaves enters (answer.WidePivot path now_basis out entered) t = record {
    path = path;
    now_basis = now_basis;
    is = ap (answer.WidePivot path now_basis out) t.3 ∙ ap (λ (n : ℕ). answer.WidePivot path now_basis n enters) t.2;
    no_path = t.0;
    basis_is = t.1;
  }
  tells_wide basis leaves enters _ t = absurd t

  tells_spent : (a : Answer) → Tells p units (Err stop.Spent) a → a ≡ answer.Budget units
  tells_spent (answer.Budget n) t = ap answer.Budget t
  tells_spent _ t = absurd t

  tells_row : (place : ℕ) (a : Answer) → Tells p units (Err (stop.WideRange place)) a → (row : ℕ) × (a ≡ answer.WideRange row) × (slice_get (numbers_of p) place ≡ Some row)
  tells_row place (answer.WideRange row) t = (row, refl, t)
  tells_row place _ t = absurd t

  -- results that are the same are told in one way
  one_best : (v w : ℚ) (xs ys : List Price) (a b : Answer) → v ≡ w → xs ≡ ys → TellsBest v xs a → TellsBest w ys b → SameAnswer a b
  one_best v w xs ys a b e f h k =
      same_by a b (answer.Prices h.lines) (answer.Prices k.lines) h.is k.is (h.value_is ∙ (e ∙ sym k.value_is), h.rows_are ∙ (ap (lines_of p) f ∙ sym k.rows_are))

  one_wide : (basis given : List ℕ) (leaves out enters entered : ℕ) (a b : Answer) → basis ≡ given → leaves ≡ out → enters ≡ entered → TellsWide basis leaves enters a → TellsWide given out entered b
      → SameAnswer a b
  one_wide basis given leaves out enters entered a b e f g h k =
      same_by a b (answer.WidePivot h.path h.now_basis leaves enters) (answer.WidePivot k.path k.now_basis out entered) h.is k.is
      (h.no_path ∙ sym k.no_path, h.basis_is ∙ (e ∙ sym k.basis_is), f, g)

  one_row : (place : ℕ) (a b : Answer) → Tells p units (Err (stop.WideRange place)) a → Tells p units (Err (stop.WideRange place)) b → SameAnswer a b
  one_row place a b t u =
      let h = tells_row place a t in
      let k = tells_row place b u in
      equal_are_same a b (h.1 ∙ (ap answer.WideRange (some_is (sym h.2 ∙ k.2)) ∙ sym k.1))

  told_alike : (r : Result PriceAnswer PriceStop) (a b : Answer) → Tells p units r a → Tells p units r b → SameAnswer a b
  told_alike (Ok (found.Best value prices)) a b t u = one_best value value prices.items prices.items a b refl refl (tells_best value prices a t) (tells_best value prices b u)
  told_alike (Ok found.Infeasible) a b t u = equal_are_same a b (tells_infeasible a t ∙ sym (tells_infeasible b u))
  told_alike (Ok found.Unbounded) a b t u = equal_are_same a b (tells_unbounded a t ∙ sym (tells_unbounded b u))
  told_alike (Err (stop.WidePivot basis leaves enters)) a b t u =
      one_wide basis.items basis.items leaves leaves enters enters a b refl refl refl (tells_wide basis leaves enters a t) (tells_wide basis leaves enters b u)
  told_alike (Err stop.Spent) a b t u = equal_are_same a b (tells_spent a t ∙ sym (tells_spent b u))
  told_alike (Err (stop.WideRange place)) a b t u = one_row place a b t u
  told_alike (Err stop.Memory) a b t u = absurd t

  told_once : (r s : Result PriceAnswer PriceStop) (a b : Answer) → SameResult r s → Tells p units r a → Tells p units s b → SameAnswer a b
  told_once (Ok (found.Best value prices)) (Ok (found.Best worth others)) a b h t u = one_best value worth prices.items others.items a b h.0 h.1 (tells_best value prices a t) (tells_best worth others b u)
  told_once (Err (stop.WidePivot basis leaves enters)) (Err (stop.WidePivot given out entered)) a b h t u =
      one_wide basis.items given.items leaves out enters entered a b h.0 h.1 h.2 (tells_wide basis leaves enters a t) (tells_wide given out entered b u)
  told_once r s a b h t u = told_alike s a b (subst (λ (x : Result PriceAnswer PriceStop). Tells p units x a) h t) u

  -- ---- all answers
  -- there is no objective to be greatest or least, a cell is to be whole, or a run's result is told
  data Answered (a : Answer) : Type 0 where
    aimless : a ≡ answer.NoObjective → ¬ (HasAim p.statement) → Answered a
    whole : (c : Cell) → a ≡ answer.NotContinuous c → HasAim p.statement → IsFirstWhole p.statement.decisions p.model.whole c → Answered a
    told : (r : Result PriceAnswer PriceStop) → ComesTo p units r → Tells p units r a → Answered a

  answered : (a : Answer) → Prices p units a → Answered a
  answered answer.NoObjective h = aimless refl h
  answered (answer.NotContinuous c) h = whole c refl h.0 h.1
  answered a h = told h.0 h.1 h.2

  not_whole : (c : Cell) (r : Result PriceAnswer PriceStop) → IsFirstWhole p.statement.decisions p.model.whole c → ComesTo p units r → ⊥
  not_whole c r h k = k.continuous.no_whole h.place h.whole

  one_answered : (a b : Answer) → Answered a → Answered b → SameAnswer a b
  one_answered a b (aimless e h) (aimless f k) = equal_are_same a b (e ∙ sym f)
  one_answered a b (aimless e h) (whole d f aim k) = absurd (h aim)
  one_answered a b (aimless e h) (told s k u) = absurd (h k.aim)
  one_answered a b (whole c e aim h) (aimless f k) = absurd (k aim)
  one_answered a b (whole c e aim h) (whole d f also k) = equal_are_same a b (e ∙ (ap answer.NotContinuous (one_cell p.statement.decisions p.model.whole c d h k) ∙ sym f))
  one_answered a b (whole c e aim h) (told s k u) = absurd (not_whole c s h k)
  one_answered a b (told r h t) (aimless f k) = absurd (k h.aim)
  one_answered a b (told r h t) (whole d f aim k) = absurd (not_whole d r k h)
  one_answered a b (told r h t) (told s k u) =
      told_once r s a b (priced_once p.model units h.left k.left r s h.continuous.valid (found_if_told r a t) (found_if_told s b u) h.priced k.priced) t u

  pub prices_once : (a b : Answer) → Prices p units a → Prices p units b → SameAnswer a b
  prices_once a b h k = one_answered a b (answered a h) (answered b k)
