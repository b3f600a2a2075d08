-- No two functions have one name, and all functions are gone through.
use Rattle.std.proofs.Common.{refl, ◌∙◌, sym, ap, ◌≡◌}
use Rattle.formula_ast.proofs.FirstNamed.{told}
use Rattle.formula_ast.proofs.Names.{small, one_named, named-pass, named-none}
use Rattle.formula_ast.specs.declared.func.TheConstants.Func.{ALL}
use Rattle.std.specs.Prelude.{IsTrue, None, Some, false, true}
use Rattle.formula_ast.proofs.func.Func.find.Goals as goal

-- a test that did not hold was of a fact that does not
different : {P : Type 0} → (P → IsTrue false) → P → ⊥
different test p = let wrong : false ≡ true = test p in cc

pub returns-then-eq_ignore_ascii_case-clause-only : goal.returns-then-eq_ignore_ascii_case-clause-only
returns-then-eq_ignore_ascii_case-clause-only c = λ other is.
    one_named _ other c.args.name.now (sym (c.if-eq_ignore_ascii_case.ensures.test.0 refl) ∙ ap small c.name.ensures) is

pub loop-func-preserved : goal.loop-func-preserved
loop-func-preserved c =
    sym
    (named-pass ALL c.loop-func.func-index _ c.args.name.now c.loop-func-test.true
    (λ is. different c.if-eq_ignore_ascii_case.ensures.test.1 (ap small c.name.ensures ∙ sym is)))
    ∙ c.loop-func.invariant

pub returns-clause-none : goal.returns-clause-none
returns-clause-none c = named-none c.loop-func.func-index c.args.name.now c.loop-func-test.false c.loop-func.invariant

pub returns-then-eq_ignore_ascii_case-clause-first : goal.returns-then-eq_ignore_ascii_case-clause-first
returns-then-eq_ignore_ascii_case-clause-first c = told c.args.name.now (Some _) (sym (c.if-eq_ignore_ascii_case.ensures.test.0 refl) ∙ ap small c.name.ensures) tt

pub returns-clause-first : goal.returns-clause-first
returns-clause-first c = told c.args.name.now None tt (named-none c.loop-func.func-index c.args.name.now c.loop-func-test.false c.loop-func.invariant)
