-- The branch of a call.
use Rattle.std.proofs.Common.{◌≡◌, length, arith, ap, ◌∙◌}
use Rattle.formula_parser.specs.declared.branch.Part.{Part}
use Rattle.formula_parser.specs.declared.branch.Branch.{Branch}
use Rattle.formula_parser.specs.Built.{any_faults, miscounts, most_of, refuses, taller}
use Rattle.formula_parser.proofs.Branches.{all_within, call_made}
use Rattle.formula_parser.proofs.call.part_of_call.Goals as goal

pub call_of-requires-clause-within : goal.call_of-requires-clause-within
call_of-requires-clause-within c = all_within (λ v. v.items) c.args.place c.args.args.items c.in_ok-args.args c.requires.within c.in_ok-args.ensures.trees c.in_ok-args.ensures.sound

pub returns-clause-made : goal.returns-clause-made
returns-clause-made c =
    let height : c.taller-height.result ≡ taller (most_of c.args.args.items) = c.taller-height.ensures ∙ ap taller (c.greatest_height.ensures ∙ ap most_of c.deref.ensures.value) in
    let many : c.len.result ≡ length c.args.args.items = omega arith in
    let miscounted : c.refuses.result ≡ refuses c.args.func (length c.args.args.items) = c.refuses.ensures ∙ ap (refuses c.args.func) many in
    let faults : c.with_miscounted-faults.result ≡ miscounts (refuses c.args.func (length c.args.args.items)) (any_faults c.args.args.items) =
    c.with_miscounted-faults.ensures ∙ ap (λ b. miscounts b c.all_faults.result) miscounted
    ∙ ap (miscounts (refuses c.args.func (length c.args.args.items))) (c.all_faults.ensures ∙ ap any_faults c.deref-2.ensures.value) in
    ap (λ (b : Branch). let x : Part = record { branch = b; place = c.args.place } in x) (
    c.of.ensures
    ∙ call_made c.args.func c.args.name.now c.args.place (λ v. v.items) c.args.args.items c.in_ok-args.args c.in_ok-expr.expr c.taller-height.result c.with_miscounted-faults.result height faults
    c.in_ok-args.ensures.trees c.in_ok-expr.ensures.call c.in_ok-expr.ensures.none
    )
