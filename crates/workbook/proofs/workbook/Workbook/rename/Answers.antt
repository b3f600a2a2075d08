use Rattle.std.proofs.Common.{◌∙◌, ap, subst, sym}
use Rattle.std.specs.Prelude.{All}
use Rattle.std.specs.Map.{keys_of}
use Rattle.workbook.specs.Changed.{after_change}
use Rattle.workbook.specs.Naming.{SayOtherwise}
use Rattle.workbook.specs.Renamed.{OthersStay}
use Rattle.workbook.specs.Scoped.{IsShort}
use Rattle.workbook.specs.State.{State}
use Rattle.workbook.specs.Held.{contents_of}
use Rattle.workbook.specs.Users.{IsIndexed}
use Rattle.workbook.proofs.Changes.{others_changed}
use Rattle.workbook.proofs.Covered.{covered_resaid}
use Rattle.workbook.proofs.Keeping.{the_state}
use Rattle.workbook.proofs.Resaid.{kept_resaid, same_contents, say_otherwise}
use Rattle.workbook.proofs.workbook.Workbook.rename.Goals as goal

pub sayings_after-requires-clause-others : goal.sayings_after-requires-clause-others
sayings_after-requires-clause-others c =
    subst (λ name. OthersStay name c.self.inside.names (after_change c.self.inside.names c.args.change)) (sym c.as_str.ensures.value)
    (others_changed c.self.inside.names c.args.change)

pub sayings_after-requires-clause-short_after : goal.sayings_after-requires-clause-short_after
sayings_after-requires-clause-short_after c = subst (λ (s : State). All IsShort (after_change s.names c.args.change)) (sym c.self.view_is) c.requires.short

pub invariant_of-self-2 : goal.invariant_of-self-2
invariant_of-self-2 c =
    let names = after_change c.self.inside.names c.args.change in
    let short = subst (λ (s : State). All IsShort (after_change s.names c.args.change)) (sym c.self.view_is) c.requires.short in
    subst (λ ns. IsIndexed c.self.inside.sheets ns c.self.inside.users c.say_otherwise.new.cells.entries c.self.inside.formulas) (sym c.in_ok-change.ensures.ok)
    (record {
      kept =
          kept_resaid c.self.inside.sheets c.self.inside.names names c.self.inside.cells.entries c.say_otherwise.new.cells.entries c.in_ok-said.said.items c.self.inside.formulas
          c.self.invariant.kept c.in_ok-said.ensures short c.say_otherwise.ensures.resaid c.say_otherwise.ensures.len;
      covered =
          covered_resaid c.self.inside.users c.self.inside.cells.entries c.say_otherwise.new.cells.entries c.self.invariant.covered c.in_ok-said.said.items c.say_otherwise.ensures.resaid;
    })

pub returns-clause-names : goal.returns-clause-names
returns-clause-names c =
    let names = after_change c.self.inside.names c.args.change in
    let short = subst (λ (s : State). All IsShort (after_change s.names c.args.change)) (sym c.self.view_is) c.requires.short in
    ap (λ ns. the_state c.self.inside.sheets (contents_of c.say_otherwise.new.cells.entries) ns) c.in_ok-change.ensures.ok
    ∙ ap (λ m. the_state c.self.inside.sheets m names)
    (same_contents c.self.inside.sheets c.self.inside.names names c.self.inside.cells.entries c.say_otherwise.new.cells.entries c.in_ok-said.said.items c.self.inside.formulas
    c.self.invariant.kept c.in_ok-said.ensures short c.say_otherwise.ensures.resaid c.say_otherwise.ensures.len)
    ∙ ap (λ (s : State). the_state s.sheets s.contents (after_change s.names c.args.change)) c.self.view_is

pub returns-clause-told : goal.returns-clause-told
returns-clause-told c =
    let names = after_change c.self.inside.names c.args.change in
    let short = subst (λ (s : State). All IsShort (after_change s.names c.args.change)) (sym c.self.view_is) c.requires.short in
    subst (λ ns. SayOtherwise c.args.self.now (the_state c.self.inside.sheets (contents_of c.say_otherwise.new.cells.entries) ns) c.in_ok-cells.cells.items)
    (sym c.in_ok-change.ensures.ok)
    (subst (λ (s : State). SayOtherwise s (the_state c.self.inside.sheets (contents_of c.say_otherwise.new.cells.entries) names) c.in_ok-cells.cells.items) c.self.view_is
    (say_otherwise c.self.inside.sheets c.self.inside.names names c.self.inside.cells.entries c.say_otherwise.new.cells.entries c.in_ok-said.said.items c.self.inside.formulas
    c.self.invariant.kept c.in_ok-said.ensures short c.say_otherwise.ensures.resaid c.say_otherwise.ensures.len c.in_ok-cells.cells.items
    (c.in_ok-cells.ensures ∙ ap keys_of c.deref.ensures.value)))
