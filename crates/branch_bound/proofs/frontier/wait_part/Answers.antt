use Rattle.std.proofs.Common.{◌≡◌, ℕ, ◌+◌, ◌++◌, ◌∷◌, [], List, length, ap, sym, ◌∙◌, arith, refl, length-append}
use Rattle.searches.specs.Trees.{Part}
use Rattle.search_paths.specs.Tables.{Table}
use Rattle.branch_bound.specs.States.{path_of}
use Rattle.branch_bound.proofs.Nodes.{listed_kept, there_kept, listed_push, new_listed}
use Rattle.branch_bound.proofs.Stepping.{child_state}
use Rattle.branch_bound.proofs.frontier.wait_part.Goals as goal

pub returns-clause-state : goal.returns-clause-state
returns-clause-state c =
    let f = c.args.frontier.now in
    let e = ap (λ (t : Table). t.paths) c.push_part.ensures in
    rw (e, c.push_reserved.ensures.items)
    (child_state f.paths.paths f.opened.items f.waiting.items f.found f.way c.args.parent.now c.args.part c.args.value _ c.requires.orderly.waiting c.requires.orderly.opened c.len-number.ensures refl)

pub returns-clause-orderly : goal.returns-clause-orderly
returns-clause-orderly c =
    let f = c.args.frontier.now in
    let p : List Part = path_of f.paths.paths c.args.parent.now.number ++ c.args.part ∷ [] in
    let e = ap (λ (t : Table). t.paths) c.push_part.ensures in
    let n = c.len-number.ensures in
    let d = c.requires.parent.depth in
    let s = c.requires.parent.short in
    let t = c.requires.parent.there in
    let l : length p ≡ c.args.parent.now.depth + 1 = length-append (path_of f.paths.paths c.args.parent.now.number) (c.args.part ∷ []) ∙ ap (λ (k : ℕ). k + 1) (sym d) in
    record {
      waiting = rw (e, c.push_reserved.ensures.items)
          (listed_push (f.paths.paths ++ p ∷ []) f.waiting.items _ (listed_kept f.paths.paths (p ∷ []) f.waiting.items c.requires.orderly.waiting)
          (new_listed f.paths.paths p _ n (sym l) (omega (arith, l, s, t))));
      opened = rw e (there_kept f.paths.paths (p ∷ []) f.opened.items c.requires.orderly.opened);
    }
