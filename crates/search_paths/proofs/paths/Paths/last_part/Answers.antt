use Rattle.std.proofs.Common.{arith, ◌<◌, [], length, refl}
use Rattle.std.proofs.lemmas.Option.{slice_get_read}
use Rattle.search_paths.proofs.Growing.{grown-length, last_part_is}
use Rattle.search_paths.proofs.paths.Paths.last_part.Goals as goal

pub index-requires : goal.index-requires
index-requires c = let e = grown-length [] c.self.inside.origins.items in let k = c.self.inside.origins.ok.0 in let h = rw (← c.self.view_is) at c.requires in omega (arith, e, k, h)

pub part_of-requires : goal.part_of-requires
part_of-requires c =
    let os = c.self.inside.origins.items in
    let e = grown-length [] os in
    let h = rw (← c.self.view_is) at c.requires in
    let within : c.args.number < length os = omega (arith, e, h) in
    (c.self.invariant.placed c.args.number c.index.result.now (slice_get_read os _ c.args.number c.index.result.now refl within c.index.ensures)).narrow

pub returns : goal.returns
returns c =
    let os = c.self.inside.origins.items in
    let e = grown-length [] os in
    let h = rw (← c.self.view_is) at c.requires in
    let within : c.args.number < length os = omega (arith, e, h) in
    rw (← c.self.view_is) (last_part_is os c.args.number c.index.result.now c.part_of.result c.self.invariant.placed (slice_get_read os _ c.args.number c.index.result.now refl within c.index.ensures) c.part_of.ensures)
