use Rattle.std.proofs.Common.{List, refl, subst}
use Rattle.node_pick.specs.Rules.{Rule, best_first, depth_first, oldest_first}
use Rattle.opensolver_cli.specs.FromCommandLine.{asked_of, texts_of}
use Rattle.opensolver_cli.specs.Headline.{RunsAs}
use Rattle.opensolver_cli.specs.Outside.{Outside, seen}
use Rattle.real_run.proofs.PickerLaws.{rule_by_kind, three, three_are_three}
use Rattle.real_run.proofs.run_with_pickers.Goals as goal
use Rattle.real_run.proofs.run_with_pickers.OwnLists.{own-1}

pub run-status-requires : goal.run-status-requires
run-status-requires g c =
    let a = c.into_dyn_box.result in
    let b = c.into_dyn_box-in_ok-new-2.result in
    let d = c.into_dyn_box-in_ok-new-3.result in
    record { three = three_are_three a b d _ _ _ _ c.new-pickers.ensures.items c.in_ok-push.ensures.items c.in_ok-push-2.ensures.items c.in_ok-push-3.ensures.items }

pub returns-clause-headline : goal.returns-clause-headline
returns-clause-headline g c =
    let a = c.into_dyn_box.result in
    let b = c.into_dyn_box-in_ok-new-2.result in
    let d = c.into_dyn_box-in_ok-new-3.result in
    let before : Outside = seen (g.F.Folder.content c.args.folder.now) (g.F.Folder.read_faults c.args.folder.now) (g.F.Folder.write_faults c.args.folder.now) (g.F.Folder.write_wants c.args.folder.now) (g.S.Source.left c.args.script.now) (g.S.Source.faults c.args.script.now) (g.K.Sink.pieces c.args.out.now) (g.K.Sink.faults c.args.out.now) in
    let after : Outside = seen (g.F.Folder.content c.run-status.new.folder) (g.F.Folder.read_faults c.run-status.new.folder) (g.F.Folder.write_faults c.run-status.new.folder) (g.F.Folder.write_wants c.run-status.new.folder) (g.S.Source.left c.run-status.new.script) (g.S.Source.faults c.run-status.new.script) (g.K.Sink.pieces c.run-status.new.out) (g.K.Sink.faults c.run-status.new.out) in
    subst (λ (rules : List Rule). RunsAs rules (asked_of (texts_of c.args.words.now)) before after c.run-status.result)
    (three _ a b d _ _ _ _ c.new-pickers.ensures.items c.in_ok-push.ensures.items c.in_ok-push-2.ensures.items c.in_ok-push-3.ensures.items
    (rule_by_kind (λ i v. (own-1.entry i).1.rule v) a.vtable _ depth_first a.value c.into_dyn_box.ensures.0 (λ w. refl))
    (rule_by_kind (λ i v. (own-1.entry i).1.rule v) b.vtable _ best_first b.value c.into_dyn_box-in_ok-new-2.ensures.0 (λ w. refl))
    (rule_by_kind (λ i v. (own-1.entry i).1.rule v) d.vtable _ oldest_first d.value c.into_dyn_box-in_ok-new-3.ensures.0 (λ w. refl)))
    c.run-status.ensures.headline
