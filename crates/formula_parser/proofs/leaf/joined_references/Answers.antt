-- References joined in a union, or one alone.
use Rattle.std.proofs.Common.{◌≡◌, ◌≤◌, ◌-◌, length, take, map, subst, ap, sym, ◌∙◌, arith}
use Rattle.std.proofs.lemmas.Result.{err_from_is_err_and}
use Rattle.cell_refs.specs.declared.span.Span.{Span}
use Rattle.formula_ast.specs.Tree.{Listed, Reference}
use Rattle.formula_grammar.specs.Symbols.{place_of}
use Rattle.formula_parser.specs.declared.branch.Part.{Part}
use Rattle.formula_parser.specs.Leaves.{leaf_part}
use Rattle.formula_parser.specs.Settings.{seen}
use Rattle.formula_parser.proofs.Unions.{listed_faults, on_sheets, references_fail, same_place, union_front, union_listed, union_lost, union_shorter, union_some, union_stands}
use Rattle.formula_parser.proofs.leaf.joined_references.Goals as goal

pub returns-in_err-union-clause-gives : goal.returns-in_err-union-clause-gives
returns-in_err-union-clause-gives c =
    let p = err_from_is_err_and c.from_residual.result c.from_residual.ensures.1 in
    rw (p.1, p.2) (references_fail (seen c.args.setting.now) c.in_err-union.field-0.0 c.args.symbols.now c.in_err-union.ensures.gives)

pub slice_bounds-place_of-count : goal.slice_bounds-place_of-count
slice_bounds-place_of-count c =
    union_shorter (seen c.args.setting.now) c.args.symbols.now c.in_ok-union.union.areas.items c.in_ok-union.union.lost c.in_ok-union.rest.now c.in_ok-union.ensures.gives

pub returns-then-union-clause-gives : goal.returns-then-union-clause-gives
returns-then-union-clause-gives c =
    let place : c.place_of-place.result ≡ place_of (take (length c.args.symbols.now - length c.in_ok-union.rest.now) c.args.symbols.now) = same_place c.args.symbols.now _ (length c.args.symbols.now - length c.in_ok-union.rest.now) c.place_of-place.result c.place_of-place.ensures (omega arith) in
    let part : Part = record { branch = c.without_sheet-branch.result; place = c.place_of-place.result } in
    union_lost (seen c.args.setting.now) c.args.symbols.now c.in_ok-union.union.areas.items c.in_ok-union.union.lost c.in_ok-union.rest.now c.in_ok-union.ensures.gives c.if-union.true part place (λ tree. c.without_sheet-branch.ensures tree)

pub returns-then-union-clause-placed : goal.returns-then-union-clause-placed
returns-then-union-clause-placed c =
    let place : c.place_of-place.result ≡ place_of (take (length c.args.symbols.now - length c.in_ok-union.rest.now) c.args.symbols.now) = same_place c.args.symbols.now _ (length c.args.symbols.now - length c.in_ok-union.rest.now) c.place_of-place.result c.place_of-place.ensures (omega arith) in
    let part : Part = record { branch = c.without_sheet-branch.result; place = c.place_of-place.result } in
    union_front (seen c.args.setting.now) c.args.symbols.now c.in_ok-union.union.areas.items c.in_ok-union.union.lost c.in_ok-union.rest.now c.in_ok-union.ensures.gives c.requires part (union_lost (seen c.args.setting.now) c.args.symbols.now c.in_ok-union.union.areas.items c.in_ok-union.union.lost c.in_ok-union.rest.now c.in_ok-union.ensures.gives c.if-union.true part place (λ tree. c.without_sheet-branch.ensures tree))

pub invariant_of-part_of : goal.invariant_of-part_of
invariant_of-part_of c =
    let place : c.place_of-place.result ≡ place_of (take (length c.args.symbols.now - length c.in_ok-union.rest.now) c.args.symbols.now) = same_place c.args.symbols.now _ (length c.args.symbols.now - length c.in_ok-union.rest.now) c.place_of-place.result c.place_of-place.ensures (omega arith) in
    (subst (λ (q : Span). q.start ≤ q.end) (sym place) (union_stands (seen c.args.setting.now) c.args.symbols.now c.in_ok-union.union.areas.items c.in_ok-union.union.lost c.in_ok-union.rest.now c.in_ok-union.ensures.gives c.requires).forward, union_some (seen c.args.setting.now) c.args.symbols.now c.in_ok-union.union.areas.items c.in_ok-union.union.lost c.in_ok-union.rest.now c.in_ok-union.ensures.gives c.if-union.false, on_sheets c.in_ok-union.union.areas.items c.in_ok-union.ensures.on_sheet)

pub part_of-part-requires-clause-faults : goal.part_of-part-requires-clause-faults
part_of-part-requires-clause-faults c =
    listed_faults c.place_of-place.result c.in_ok-union.union.areas.items

pub returns-clause-gives : goal.returns-clause-gives
returns-clause-gives c =
    let place : c.place_of-place.result ≡ place_of (take (length c.args.symbols.now - length c.in_ok-union.rest.now) c.args.symbols.now) = same_place c.args.symbols.now _ (length c.args.symbols.now - length c.in_ok-union.rest.now) c.place_of-place.result c.place_of-place.ensures (omega arith) in
    union_listed (seen c.args.setting.now) c.args.symbols.now c.in_ok-union.union.areas.items c.in_ok-union.union.lost c.in_ok-union.rest.now c.in_ok-union.ensures.gives c.if-union.false c.part_of-part.result (c.part_of-part.ensures ∙ ap (λ (q : Span). leaf_part (Reference q (map Listed c.in_ok-union.union.areas.items))) place)

pub returns-clause-placed : goal.returns-clause-placed
returns-clause-placed c =
    let place : c.place_of-place.result ≡ place_of (take (length c.args.symbols.now - length c.in_ok-union.rest.now) c.args.symbols.now) = same_place c.args.symbols.now _ (length c.args.symbols.now - length c.in_ok-union.rest.now) c.place_of-place.result c.place_of-place.ensures (omega arith) in
    union_front (seen c.args.setting.now) c.args.symbols.now c.in_ok-union.union.areas.items c.in_ok-union.union.lost c.in_ok-union.rest.now c.in_ok-union.ensures.gives c.requires c.part_of-part.result (union_listed (seen c.args.setting.now) c.args.symbols.now c.in_ok-union.union.areas.items c.in_ok-union.union.lost c.in_ok-union.rest.now c.in_ok-union.ensures.gives c.if-union.false c.part_of-part.result (c.part_of-part.ensures ∙ ap (λ (q : Span). leaf_part (Reference q (map Listed c.in_ok-union.union.areas.items))) place))
