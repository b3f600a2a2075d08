use Rattle.std.proofs.Common.{arith, ℕ, List, ◌<◌, [], ◌∷◌, ◌++◌, ◌≡◌, get_or, reverse, sym, ◌∙◌, ap, refl, append-nil}
use Rattle.std.specs.Prelude.{Some, slice_get}
use Rattle.std.proofs.lemmas.Option.{slice_get_read}
use Rattle.search_paths.specs.declared.origin.Origin.{Origin}
use Rattle.search_paths.specs.Origins.{held_part}
use Rattle.search_paths.specs.Tables.{Table, grown, path_by, path_at}
use Rattle.search_paths.proofs.Growing.{grown-length, node_path, further}
use Rattle.search_paths.proofs.paths.Paths.path.Goals as goal

pub loop-part-init : goal.loop-part-init
loop-part-init c = record {
  within = (let e = grown-length [] c.self.inside.origins.items in let h = rw (← c.self.view_is) at c.requires in omega (arith, e, h));
  path = rw c.new-made.ensures.items (sym (append-nil _));
}

pub part_of-requires : goal.part_of-requires
part_of-requires c = (c.self.invariant.placed c.loop-part.at c.index.result.now (slice_get_read c.self.inside.origins.items _ c.loop-part.at c.index.result.now refl c.loop-part.invariant.within c.index.ensures)).narrow

same_place : (os : List Origin) (k : ℕ) (x y : Origin) → slice_get os k ≡ Some x → slice_get os k ≡ Some y → x ≡ y
same_place os k x y e h = cc

pub loop-part-smaller : goal.loop-part-smaller
loop-part-smaller c =
    let os = c.self.inside.origins.items in
    let a = slice_get_read os _ c.loop-part.at c.index.result.now refl c.loop-part.invariant.within c.index.ensures in
    let b = slice_get_read os _ c.loop-part.at c.index-in-Some.result.now refl c.loop-part.invariant.within c.index-in-Some.ensures in
    let held : held_part c.index-in-Some.result.now ≡ Some c.in-Some.part =
    ap held_part (same_place os c.loop-part.at c.index-in-Some.result.now c.index.result.now b a) ∙ sym c.part_of.ensures ∙ c.in-Some.is in
    (c.self.invariant.placed c.loop-part.at c.index-in-Some.result.now b).after c.in-Some.part held

pub loop-part-preserved : goal.loop-part-preserved
loop-part-preserved c =
    let os = c.self.inside.origins.items in
    let o = c.index-in-Some.result.now in
    let a = slice_get_read os _ c.loop-part.at c.index.result.now refl c.loop-part.invariant.within c.index.ensures in
    let b = slice_get_read os _ c.loop-part.at o refl c.loop-part.invariant.within c.index-in-Some.ensures in
    let held : held_part o ≡ Some c.in-Some.part = ap held_part (same_place os c.loop-part.at o c.index.result.now b a) ∙ sym c.part_of.ensures ∙ c.in-Some.is in
    let smaller : o.parent < c.loop-part.at = (c.self.invariant.placed c.loop-part.at o b).after c.in-Some.part held in
    let path : get_or (grown [] os) c.loop-part.at [] ≡ get_or (grown [] os) o.parent [] ++ c.in-Some.part ∷ [] =
    node_path os c.loop-part.at o c.self.invariant.placed b ∙ ap (path_by (grown [] os) o.parent) held in
    record {
      within = (let w = c.loop-part.invariant.within in omega (arith, w, smaller));
      path = rw c.in_ok-push.ensures.items
          (further _ (get_or (grown [] os) o.parent []) c.in-Some.part c.loop-part.made.items (c.loop-part.invariant.path ∙ ap (λ t. t ++ reverse c.loop-part.made.items) path));
    }

pub returns : goal.returns
returns c =
    let os = c.self.inside.origins.items in
    let o = c.index.result.now in
    let at = slice_get_read os _ c.loop-part.at o refl c.loop-part.invariant.within c.index.ensures in
    let path : get_or (grown [] os) c.loop-part.at [] ≡ [] = node_path os c.loop-part.at o c.self.invariant.placed at ∙ ap (path_by (grown [] os) o.parent) (sym c.part_of.ensures ∙ c.in_default.is) in
    c.reverse.ensures.items
    ∙ sym (c.loop-part.invariant.path ∙ ap (λ t. t ++ reverse c.loop-part.made.items) path)
    ∙ ap (λ (t : Table). path_at t c.args.number) c.self.view_is
