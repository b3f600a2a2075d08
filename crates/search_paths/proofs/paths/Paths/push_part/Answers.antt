use Rattle.std.proofs.Common.{arith, [], ◌∷◌, ◌++◌, ap, ap₂, ◌∙◌, ◌<◌, ◌≡◌, List, ℕ, length}
use Rattle.std.specs.Prelude.{Option, Some, None}
use Rattle.searches.specs.Trees.{Part}
use Rattle.search_paths.specs.Tables.{grown, path_by}
use Rattle.search_paths.proofs.Growing.{grown-length, grown-push, before_push, table_is}
use Rattle.search_paths.proofs.Walking.{at_push}
use Rattle.search_paths.proofs.paths.Paths.push_part.Goals as goal

-- a part is no root
no_root : (o : Option Part) (p : Part) (n m : ℕ) → o ≡ None → o ≡ Some p → n ≡ m
no_root o p n m e h = absurd cc

pub push_reserved-requires : goal.push_reserved-requires
push_reserved-requires c =
    let e = grown-length [] c.self.inside.origins.items in
    let k = c.self.inside.origins.ok.0 in
    let h = rw (← c.self.view_is) at c.requires.room in
    omega (arith, e, k, h)

pub invariant_of-self : goal.invariant_of-self
invariant_of-self c =
    let e = grown-length [] c.self.inside.origins.items in
    let h = rw (← c.self.view_is) at c.requires.parent in
    let p = c.origin.ensures.parent in
    let os = c.self.inside.origins.items in
    let l : c.origin.result.parent < length os = omega (arith, e, h, p) in
    let b = before_push os c.origin.result c.self.invariant.placed (record {
      narrow = c.origin.ensures.narrow;
      after = λ part z. l;
      root = λ z. no_root _ c.args.part _ _ z c.origin.ensures.part;
    }) in
    record {
      placed = rw c.push_reserved.ensures.items b;
      at = rw c.push_reserved.ensures.items (at_push os c.origin.result c.self.inside.walk c.self.invariant.placed b c.self.invariant.at);
    }

pub returns : goal.returns
returns c =
    let os = c.self.inside.origins.items in
    rw (← c.self.view_is)
    (table_is _ _ _ _
    (ap (grown []) c.push_reserved.ensures.items
    ∙ grown-push [] os c.origin.result
    ∙ ap (λ (p : List Part). grown [] os ++ p ∷ []) (ap₂ (λ (n : ℕ) (q : Option Part). path_by (grown [] os) n q) c.origin.ensures.parent c.origin.ensures.part))
    c.push_reserved.ensures.capacity)
