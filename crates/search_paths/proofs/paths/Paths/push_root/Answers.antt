use Rattle.std.proofs.Common.{arith, [], ap, ◌∙◌, refl}
use Rattle.search_paths.specs.Tables.{grown}
use Rattle.search_paths.proofs.Growing.{grown-length, grown-push, before_push, table_is, a_root}
use Rattle.search_paths.proofs.Walking.{at_push}
use Rattle.search_paths.proofs.paths.Paths.push_root.Goals as goal

pub push_reserved-requires : goal.push_reserved-requires
push_reserved-requires c =
    let e = grown-length [] c.self.inside.origins.items in
    let k = c.self.inside.origins.ok.0 in
    let h = rw (← c.self.view_is) at c.requires in
    omega (arith, e, k, h)

pub invariant_of-self : goal.invariant_of-self
invariant_of-self c =
    let os = c.self.inside.origins.items in
    let b = before_push os a_root c.self.invariant.placed (record { narrow = record { floor = omega arith; above = omega arith }; after = λ part z. absurd cc; root = λ z. refl }) in
    record {
      placed = rw c.push_reserved.ensures.items b;
      at = rw c.push_reserved.ensures.items (at_push os a_root c.self.inside.walk c.self.invariant.placed b c.self.invariant.at);
    }

pub returns : goal.returns
returns c =
    rw (← c.self.view_is)
    (table_is _ _ _ _ (ap (grown []) c.push_reserved.ensures.items ∙ grown-push [] c.self.inside.origins.items a_root) c.push_reserved.ensures.capacity)
