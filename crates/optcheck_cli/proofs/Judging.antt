-- What the check of a certificate of the model means of the sheet.
use Rattle.std.proofs.Common.{◌≡◌, ℕ, refl, sym, ap, ◌∙◌, subst, inl, inr, length, List, Option, Some, None}
use Rattle.std.specs.Prelude.{Result, IfOk, option_map, Ok, Err, true, false}
use Rattle.std.proofs.lemmas.List.FromFn.{length-map-range_with_len}
use Rattle.fractions.specs.Rational.{ℚ, neg_ℚ}
use Rattle.fractions.proofs.Laws.{neg-neg, add-zero}
use Rattle.optimality.specs.Problem.{Assignment, Goal, Worth, greatest, least, reach}
use Rattle.optimality.specs.Optimal.{objective_at, worth_under}
use Rattle.optimality.specs.Laws.{Agree}
use Rattle.affine_forms.specs.Assigned.{assigned}
use Rattle.affine_forms.specs.Forms.{AffineForm}
use Rattle.affine_forms.proofs.Worths.{negated_worth}
use Rattle.cell_refs.specs.declared.cell.Cell.{Cell}
use Rattle.linear_models.specs.Bounds.{is_marked}
use Rattle.linear_models.specs.Worths.{form_at}
use Rattle.linear_models.specs.Model as model
use Rattle.opt_certificate.specs.Certificate as certificate
use Rattle.opt_certificate.specs.Certificate.{Certifies, Claim, Tree, infeasible, optimal, unbounded}
use Rattle.opt_certificate.specs.Checks.{Checked}
use Rattle.opt_certificate.specs.Claims.{IsOfSize, claim_of}
use Rattle.opt_certificate.specs.Nodes.{IsListed}
use Rattle.opt_certificate.specs.declared.checking.Claim.{Claim as Claimed}
use Rattle.opt_certificate.specs.declared.checking.Claim.TheVariants as claims
use Rattle.opt_certificate.specs.declared.checking.CheckStop.TheVariants as check_stop
use Rattle.certificate_lines.specs.Cert.{Cert}
use Rattle.certificate_texts.specs.Answers.{IsTheCert}
use Rattle.certificate_texts.specs.declared.cert.Cert.{Cert as Made}
use Rattle.workbook.specs.Kinds.{book_of}
use Rattle.workbook.specs.State.{State}
use Rattle.cell_refs.specs.declared.place.Place.TheVariants as place
use Rattle.solver_names.specs.Sides.{sides_in}
use Rattle.solver_names.specs.Statement.{Statement}
use Rattle.sheet_problems.specs.Laws.{ModelIsTheSheet}
use Rattle.sheet_problems.specs.Places.{worth_at}
use Rattle.sheet_problems.specs.SheetProblem.{problem_in}
use Rattle.sheet_linear_model.specs.Prepared.{IsPrepared, Prepared, rows_of}
use Rattle.optcheck_cli.specs.Inner.{ValueJudged, VerdictIsListed, told_of, value_told}
use Rattle.optcheck_cli.specs.Verdicts.{HasNumbers, IsVerdict}
use Rattle.optcheck_cli.specs.declared.verdict.Verdict.{Verdict}
use Rattle.optcheck_cli.specs.declared.verdict.Verdict.TheVariants as verdict

-- ---- the value
-- the objective of the model by the form that is to be as great as can be
objective_by : (g : Goal) (f : AffineForm) (x : Assignment) → model.objective_of g f x ≡ Some (value_told g (form_at (model.maximised g f) x))
objective_by greatest f x = refl
objective_by least f x = ap Some (sym (neg-neg (form_at f x)) ∙ ap neg_ℚ (sym (negated_worth (assigned x) f)))
objective_by (reach w) f x = ap Some (add-zero w)

-- an objective that is a number, where there is one
worth_by : (f : Cell → Worth) (n : ℚ) (x : Assignment) (o : Option Cell) → ((c : Cell) → o ≡ Some c → f c x ≡ Some n) → worth_under (option_map f o) x ≡ option_map (λ c. n) o
worth_by f n x None h = refl
worth_by f n x (Some c) h = h c refl

under_some : (f : Cell → Worth) (x : Assignment) (o : Option Cell) (c : Cell) → o ≡ Some c → worth_under (option_map f o) x ≡ f c x
under_some f x o c e = ap (λ (o : Option Cell). worth_under (option_map f o) x) e

-- the objective of the sheet at a point of the model
value_is : (book : State) (s : Statement) (m : model.Model) (x : Assignment) → ModelIsTheSheet book s m → model.IsPoint m x
    → objective_at (problem_in book s) x ≡ told_of s.objective s.goal (form_at (model.maximised m.goal m.objective) x)
value_is book s m x same point = worth_by f (value_told s.goal (form_at (model.maximised m.goal m.objective) x)) x s.objective number
  where
    f : Cell → Worth
    f c = worth_at (book_of book) (sides_in book s.sheet) s.decisions (place.Cell c)

    number : (c : Cell) → s.objective ≡ Some c → f c x ≡ Some (value_told s.goal (form_at (model.maximised m.goal m.objective) x))
    number c e =
        let agree : Agree (problem_in book s) (model.problem_of m) = same.objective c e in
        sym (under_some f x s.objective c e)
        ∙ (agree.objective x ((same.permitted x).1 point) ∙ (objective_by m.goal m.objective x ∙ ap (λ (g : Goal). Some (value_told g (form_at (model.maximised m.goal m.objective) x))) (sym agree.goal)))

-- ---- sizes
-- the model has the sheet's decisions
decisions_are : (book : State) (p : Prepared) → IsPrepared book 0 p → length p.model.whole ≡ length p.statement.decisions
decisions_are book p h = ap (λ (m : model.Model). length m.whole) h.model ∙ length-map-range_with_len (is_marked (rows_of p.statement p.objective p.sides)) 0 (length p.statement.decisions)

of_size : (n : ℕ) (claim : Claimed) → IsOfSize n claim → HasNumbers n (claim_of claim)
of_size n (claims.Optimal a) h = h
of_size n claims.Infeasible h = tt
of_size n (claims.Unbounded a d) h = h

is_of_size : (n : ℕ) (claim : Claimed) → HasNumbers n (claim_of claim) → IsOfSize n claim
is_of_size n (claims.Optimal a) h = h
is_of_size n claims.Infeasible h = tt
is_of_size n (claims.Unbounded a d) h = h

sized : (book : State) (p : Prepared) (made : Made) (c : Cert) → IsPrepared book 0 p → IsTheCert made c → IsOfSize (length p.model.whole) made.claim → HasNumbers (length p.statement.decisions) c.claim
sized book p made c prepared is h =
    subst (λ (claim : Claim). HasNumbers (length p.statement.decisions) claim) is.claim
    (subst (λ (n : ℕ). HasNumbers n (claim_of made.claim)) (decisions_are book p prepared) (of_size (length p.model.whole) made.claim h))

-- ---- verdicts
-- the lists are of another size
pub no_by_size : (book : State) (p : Prepared) (made : Made) (c : Cert) → IsPrepared book 0 p → IsTheCert made c → ¬ (IsOfSize (length p.model.whole) made.claim) → IsVerdict book c verdict.No
no_by_size book p made c prepared is other =
    let back : HasNumbers (length p.statement.decisions) c.claim → IsOfSize (length p.model.whole) made.claim =
    λ h. is_of_size (length p.model.whole) made.claim
    (subst (λ (n : ℕ). HasNumbers n (claim_of made.claim)) (sym (decisions_are book p prepared)) (subst (λ (claim : Claim). HasNumbers (length p.statement.decisions) claim) (sym is.claim) h)) in
    (p, prepared, inl (λ h. other (back h)))

-- the claim isn't certified
pub no_by_check : (book : State) (p : Prepared) (made : Made) (c : Cert) → IsPrepared book 0 p → IsTheCert made c → Checked p.model c.tree (claim_of made.claim) (Ok false) → IsVerdict book c verdict.No
no_by_check book p made c prepared is other = (p, prepared, inr (inl (subst (λ (claim : Claim). ¬ (Certifies p.model c.tree claim)) is.claim other)))

-- a sum isn't narrow
pub wide_by_check : (book : State) (p : Prepared) (made : Made) (c : Cert) (node : ℕ) → IsPrepared book 0 p → IsTheCert made c → Checked p.model c.tree (claim_of made.claim) (Err (check_stop.Wide node))
    → IsVerdict book c (verdict.Wide node)
wide_by_check book p made c node prepared is wide = (p, prepared, subst (λ (claim : Claim). Checked p.model c.tree claim (Err (check_stop.Wide node))) is.claim wide)

-- the claim is certified, and its value was looked at
module _ (book : State) (p : Prepared) (tree : Option Tree) (prepared : IsPrepared book 0 p) (same : ModelIsTheSheet book p.statement p.model) where
  by_claim : (claim : Claim) (value : Option ℚ) (v : Verdict) → HasNumbers (length p.statement.decisions) claim → Checked p.model tree claim (Ok true) → certificate.IsTrueOf p.model claim
      → ValueJudged p.model p.statement.objective p.statement.goal claim value v → IsVerdict book (record { tree = tree; claim = claim; value = value }) v
  by_claim (optimal a) value verdict.Yes numbers checked is_true h =
      let told = h ∙ sym (value_is book p.statement p.model a same checked.0.0) in (
        record { statement = p.statement; stated = prepared.forms.stated; is_true = (same.answers.optimal a).1 is_true; value = told },
        (p, prepared, record { numbers = numbers; certified = checked.0; narrow = checked.1; value = told }),
      )
  by_claim (optimal a) value verdict.No numbers checked is_true h = (p, prepared, inr (inr (λ e. h (e ∙ value_is book p.statement p.model a same checked.0.0))))
  by_claim (optimal a) value (verdict.Wide node) numbers checked is_true h = (p, prepared, inl (h.0, λ narrow. h.1 narrow.1))
  by_claim (optimal a) value (verdict.Refused answer) numbers checked is_true h = absurd h
  by_claim infeasible value verdict.Yes numbers checked is_true h = (
    record { statement = p.statement; stated = prepared.forms.stated; is_true = (same.answers.infeasible).1 is_true; value = tt },
    (p, prepared, record { numbers = tt; certified = checked.0; narrow = checked.1; value = tt }),
  )
  by_claim infeasible value verdict.No numbers checked is_true h = absurd h
  by_claim infeasible value (verdict.Wide node) numbers checked is_true h = absurd h
  by_claim infeasible value (verdict.Refused answer) numbers checked is_true h = absurd h
  by_claim (unbounded a d) value verdict.Yes numbers checked is_true h = (
    record { statement = p.statement; stated = prepared.forms.stated; is_true = (same.answers.unbounded).1 is_true; value = tt },
    (p, prepared, record { numbers = numbers; certified = checked.0; narrow = checked.1; value = tt }),
  )
  by_claim (unbounded a d) value verdict.No numbers checked is_true h = absurd h
  by_claim (unbounded a d) value (verdict.Wide node) numbers checked is_true h = absurd h
  by_claim (unbounded a d) value (verdict.Refused answer) numbers checked is_true h = absurd h

pub by_value : (book : State) (p : Prepared) (made : Made) (c : Cert) (v : Verdict) → IsPrepared book 0 p → ModelIsTheSheet book p.statement p.model → IsTheCert made c → IsOfSize (length p.model.whole) made.claim
    → Checked p.model c.tree (claim_of made.claim) (Ok true) → certificate.IsTrueOf p.model (claim_of made.claim) → ValueJudged p.model p.statement.objective p.statement.goal (claim_of made.claim) made.value v → IsVerdict book c v
by_value book p made c v prepared same is size checked is_true h =
    by_claim book p c.tree prepared same c.claim c.value v (sized book p made c prepared is size)
    (subst (λ (claim : Claim). Checked p.model c.tree claim (Ok true)) is.claim checked)
    (subst (λ (claim : Claim). certificate.IsTrueOf p.model claim) is.claim is_true)
    (subst (λ (value : Option ℚ). ValueJudged p.model p.statement.objective p.statement.goal c.claim value v) is.value
    (subst (λ (claim : Claim). ValueJudged p.model p.statement.objective p.statement.goal claim made.value v) is.claim h))

-- so it is where the value was looked at without want of memory
pub judged_over : {E : Type 0} (r : Result Verdict E) (p : Prepared) (made : Made) → IsOfSize (length p.model.whole) made.claim → ((t : Option Tree) → IsListed made.tree t → Checked p.model t (claim_of made.claim) (Ok true))
    → certificate.IsTrueOf p.model (claim_of made.claim) → IfOk r (λ v. ValueJudged p.model p.statement.objective p.statement.goal (claim_of made.claim) made.value v)
    → IfOk r (λ v. (book : State) (c : Cert) → IsPrepared book 0 p → ModelIsTheSheet book p.statement p.model → IsTheCert made c → IsVerdict book c v)
judged_over (Ok v) p made size checked is_true h = λ book c prepared same is. by_value book p made c v prepared same is size (checked c.tree is.tree) is_true h
judged_over (Err e) p made size checked is_true h = tt

-- no refusal comes of a value
pub listed_by_value : (m : model.Model) (objective : Option Cell) (goal : Goal) (claim : Claim) (value : Option ℚ) (v : Verdict) (sheets : List (List ℕ)) → ValueJudged m objective goal claim value v → VerdictIsListed sheets v
listed_by_value m objective goal (optimal a) value (verdict.Refused answer) sheets h = absurd h
listed_by_value m objective goal infeasible value (verdict.Refused answer) sheets h = absurd h
listed_by_value m objective goal (unbounded a d) value (verdict.Refused answer) sheets h = absurd h
listed_by_value m objective goal claim value verdict.Yes sheets h = tt
listed_by_value m objective goal claim value verdict.No sheets h = tt
listed_by_value m objective goal claim value (verdict.Wide node) sheets h = tt
