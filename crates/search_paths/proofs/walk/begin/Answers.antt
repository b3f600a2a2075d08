use Rattle.std.proofs.Common.{ℕ, List, [], get_or, ap, sym, subst, ◌∙◌, inr}
use Rattle.searches.specs.Trees.{Part}
use Rattle.search_paths.specs.Tables.{grown}
use Rattle.search_paths.specs.Walks.{IsLed}
use Rattle.search_paths.proofs.Walking.{first_path}
use Rattle.search_paths.proofs.walk.begin.Goals as goal

pub returns-clause-at : goal.returns-clause-at
returns-clause-at c = λ os l b a. record {
  there = inr c.in_ok-walk.ensures.at;
  led = subst (λ (path : List Part). IsLed path c.in_ok-walk.field-0) (sym (ap (λ (n : ℕ). get_or (grown [] os) n []) c.in_ok-walk.ensures.at ∙ first_path os b)) c.in_ok-walk.ensures.led;
}
