-- The types of what names say, each by a function that takes or makes it, and their cases.
use Rattle.std.proofs.Common.{◌≡◌, ◌<◌, ℕ, Bool, true, false, cond, List, length, Option, Some, None, refl, sym, subst}
use Rattle.std.specs.Prelude.{◌==◌, ◌++◌, codes}
use Rattle.std.specs.Fmt.{decimal}
use Rattle.std.specs.Option.{option_and_then}
use Rattle.std.proofs.lemmas.Bool.{eqb-true}
use Rattle.cell_refs.specs.Areas.{Area}
use Rattle.formula_ast.specs.Tree.{Tree}
use Rattle.solver_names.specs.Constraints.{code_in, code_of, code_said, is_related, left_said, right_said}
use Rattle.solver_names.specs.Faults.{first, rows_of}
use Rattle.solver_names.specs.Texts.{area_on, area_or_tree, as_formula, by_form, reference_in, said_by, side_in, whole_in}
use Rattle.workbook.specs.Kinds.{behind_equals, formula_tree}
use Rattle.workbook.specs.State.{State, text_of}
use Rattle.statement_laws.proofs.ReadAreas.{Lies, area_lies}

-- ---- types
abbrev Taken : {A B : Type 0} → (A → B) → Type 0
Taken {A} f = A

abbrev TakenEach : {A B : Type 0} → (List A → B) → Type 0
TakenEach {A} f = A

abbrev Made : {A B : Type 0} → (A → B) → Type 0
Made {A} {B} f = B

abbrev MadeSome : {A B : Type 0} → (A → Option B) → Type 0
MadeSome {A} {B} f = B

abbrev pub Constraint : Type 0
Constraint = Taken rows_of

abbrev pub Fault : Type 0
Fault = TakenEach first

abbrev pub Said : Type 0 → Type 0
Said A = Made (λ (o : Option A). by_form o)

abbrev pub Code : Type 0
Code = MadeSome code_of

abbrev pub Side : Type 0
Side = MadeSome (area_or_tree None)

-- ---- what is said
abbrev pub absent : {A : Type 0} → (List ℕ → Option A) → Said A
absent form = said_by form None

-- what a name says is absent, not of its form, or what its text is
pub said_cases : {A : Type 0} (form : List ℕ → Option A) (P : Said A → Type 0) → P (absent form) → P (by_form None) → ((text : List ℕ) (a : A) → form text ≡ Some a → P (by_form (Some a)))
    → (text : Option (List ℕ)) → P (said_by form text)
said_cases form P nothing other says None = nothing
said_cases {A} form P nothing other says (Some text) = by (form text) (says text)
  where
    by : (o : Option A) → ((a : A) → o ≡ Some a → P (by_form (Some a))) → P (by_form o)
    by None all = other
    by (Some a) all = all a refl

-- ---- codes
code_cases : (P : Option Code → Type 0) → P None → P (code_of 1) → P (code_of 2) → P (code_of 3) → P (code_of 4) → P (code_of 5) → P (code_of 6) → (n : ℕ) → P (code_of n)
code_cases P none a b c d e f n =
    test 1 a
    (λ one. test 2 b (λ two. test 3 c (λ three. test 4 d (λ four. test 5 e (λ five. test 6 f (λ six. rw (one, two, three, four, five, six) none))))))
  where
    test : (m : ℕ) → P (code_of m) → ((n == m) ≡ false → P (code_of n)) → P (code_of n)
    test m here other = by (n == m) refl
      where
        by : (v : Bool) → (n == m) ≡ v → P (code_of n)
        by true is = subst (λ i. P (code_of i)) (sym (eqb-true n m is)) here
        by false is = other is

code_read : (P : Option Code → Type 0) → P None → ((n : ℕ) → P (code_of n)) → (text : List ℕ) → P (code_in text)
code_read P none all text = by (whole_in 1 6 text)
  where
    by : (o : Option ℕ) → P (option_and_then code_of o)
    by None = none
    by (Some n) = all n

module _ (book : State) (sheet : ℕ) where
  -- the code of a constraint
  pub by_code : (P : Said Code → Type 0) → P (absent code_in) → P (by_form None) → P (by_form (code_of 1)) → P (by_form (code_of 2)) → P (by_form (code_of 3)) → P (by_form (code_of 4)) → P (by_form (code_of 5))
      → P (by_form (code_of 6)) → (k : ℕ) → P (code_said book sheet k)
  by_code P nothing other a b c d e f k = by (text_of book.names (Some sheet) (codes "solver_rel" ++ decimal k))
    where
      by : (text : Option (List ℕ)) → P (said_by code_in text)
      by None = nothing
      by (Some text) = code_read (λ o. P (by_form o)) other (code_cases (λ o. P (by_form o)) other a b c d e f) text

  module _ (there : sheet < length book.sheets) where
    pub text_lies : (text : List ℕ) (a : Area) → area_on book sheet text ≡ Some a → Lies book.sheets a
    text_lies text a e = area_lies (record { text = text; home = sheet; sheets = book.sheets }) a there e

    pub reference_lies : (text : List ℕ) (a : Area) → reference_in book sheet text ≡ Some a → Lies book.sheets a
    reference_lies text a e = text_lies (behind_equals text) a e

    -- ---- sides
    -- the left side of a constraint, whose area lies on the sheets
    pub by_left : (P : Said Area → Type 0) → P (absent (reference_in book sheet)) → P (by_form None) → ((a : Area) → Lies book.sheets a → P (by_form (Some a))) → (k : ℕ) → P (left_said book sheet k)
    by_left P nothing other says k = said_cases (reference_in book sheet) P nothing other (λ text a e. says a (reference_lies text a e)) _

    -- the right side, which is an area that lies on the sheets, or an expression
    pub by_right : (P : Said Side → Type 0) → P (absent (side_in book sheet)) → P (by_form None) → ((a : Area) → Lies book.sheets a → P (by_form (area_or_tree (Some a) None)))
        → ((t : Tree) → P (by_form (area_or_tree None (Some t)))) → (k : ℕ) (code : Said Code) → P (right_said book sheet k code)
    by_right P nothing other areas trees k code = by (is_related code) _
      where
        read : (text : List ℕ) (o : Option Area) (t : Option Tree) → ((a : Area) → o ≡ Some a → Lies book.sheets a) → P (by_form (area_or_tree o t))
        read text None None lies = other
        read text None (Some t) lies = trees t
        read text (Some a) t lies = areas a (lies a refl)

        said : (text : Option (List ℕ)) → P (said_by (side_in book sheet) text)
        said None = nothing
        said (Some text) = read text (reference_in book sheet text) (formula_tree book.sheets book.names sheet (as_formula text)) (reference_lies text)

        by : (b : Bool) (text : Option (List ℕ)) → P (cond b (said_by (side_in book sheet) text) (absent (side_in book sheet)))
        by true text = said text
        by false text = nothing
