use Rattle.std.proofs.Common.{sym, subst}
use Rattle.std.specs.Prelude.{All}
use Rattle.std.proofs.lemmas.List.Elements.{All-nil}
use Rattle.std.proofs.lemmas.Result.{err_from_is_err_and}
use Rattle.cell_refs.specs.Areas.{IsOnSheet}
use Rattle.formula_parser.specs.Settings.{seen}
use Rattle.formula_parser.proofs.JoinedAreas.{added_first, union_done, union_fails, union_fails_first, union_goes, union_less}
use Rattle.formula_parser.proofs.union.references.Goals as goal

pub returns-in_err-rest-clause-gives : goal.returns-in_err-rest-clause-gives
returns-in_err-rest-clause-gives c =
    let p = err_from_is_err_and c.from_residual.result c.from_residual.ensures.1 in
    rw (p.1, p.2) (union_fails_first (seen c.args.setting.now) c.args.symbols.now c.in_err-rest.field-0.0 c.in_err-rest.ensures.err)

pub loop-behind-init : goal.loop-behind-init
loop-behind-init c = record {
  joined =
      added_first (seen c.args.setting.now) c.args.symbols.now c.new.result.items c.add_reference.new.self.areas.items c.add_reference.new.self.lost c.in_ok-rest.rest.now c.new.ensures.items c.in_ok-rest.ensures.ok;
  on_sheet = c.in_ok-rest.ensures.on_sheet (subst (All IsOnSheet) (sym c.new.ensures.items) (All-nil IsOnSheet));
  rest = c.in_ok-rest.ensures.rest;
}

pub returns-in_err-rest-2-clause-gives : goal.returns-in_err-rest-2-clause-gives
returns-in_err-rest-2-clause-gives c =
    let p = err_from_is_err_and c.from_residual-in_err-rest-2.result c.from_residual-in_err-rest-2.ensures.1 in
    rw (p.1, p.2)
    (union_fails (seen c.args.setting.now) c.args.symbols.now c.in_err-rest-2.field-0.0 c.loop-behind.union.areas.items c.loop-behind.union.lost c.loop-behind.rest.now c.in-Some.behind.now c.loop-behind.invariant.joined c.in-Some.ensures.front c.in_err-rest-2.ensures.err)

pub loop-behind-smaller : goal.loop-behind-smaller
loop-behind-smaller c =
    let a = c.in_ok-rest-2.ensures.ok in
    union_less (seen c.args.setting.now) c.loop-behind.rest.now c.in-Some.behind.now a.area c.in_ok-rest-2.rest.now c.in-Some.ensures.front a.read

pub loop-behind-preserved : goal.loop-behind-preserved
loop-behind-preserved c =
    let a = c.in_ok-rest-2.ensures.ok in
    record {
      joined =
          union_goes (seen c.args.setting.now) c.args.symbols.now a.area c.loop-behind.union.areas.items c.add_reference-in-Some.new.self.areas.items c.loop-behind.union.lost c.add_reference-in-Some.new.self.lost c.loop-behind.rest.now c.in-Some.behind.now c.in_ok-rest-2.rest.now
          c.loop-behind.invariant.joined c.in-Some.ensures.front a.read a.areas_are a.lost_is;
      on_sheet = c.in_ok-rest-2.ensures.on_sheet c.loop-behind.invariant.on_sheet;
      rest = c.in_ok-rest-2.ensures.rest;
    }

pub returns-clause-gives : goal.returns-clause-gives
returns-clause-gives c = union_done (seen c.args.setting.now) c.args.symbols.now c.loop-behind.union.areas.items c.loop-behind.union.lost c.loop-behind.rest.now c.loop-behind.invariant.joined c.in_default.ensures.front
