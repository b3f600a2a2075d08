use Rattle.std.proofs.Common.{ap, refl, subst, sym}
use Rattle.std.specs.Prelude.{string_bytes}
use Rattle.commands.specs.declared.command.Command.{Command}
use Rattle.commands.specs.Commands.{Name, Set, Unname, spoken}
use Rattle.commands.specs.declared.answer.Answer.TheVariants as answer
use Rattle.session.specs.States.{Session}
use Rattle.session.proofs.Following.{IsPlain, plain_answered, plain_follows}
use Rattle.session.proofs.Stopping.{applies_as, name_is, name_stopped, set_is, set_stopped, unname_is, unname_stopped}
use Rattle.session.proofs.Cuts.{slice_interrupted}
use Rattle.session.proofs.session.Session.follow.Goals as goal

pub returns-in-Slice-clause-memory : goal.returns-in-Slice-clause-memory
returns-in-Slice-clause-memory g c =
    slice_interrupted _ c.args.self.now.state c.slice.new.self.state (spoken c.args.command.now) (string_bytes c.in-Slice.sheet) (string_bytes c.in-Slice.units) c.as_str-in-Slice.result.now c.as_str-in-Slice-2.result.now c.slice.result
    (ap (λ (k : Command). spoken k) c.in-Slice.is) c.as_str-in-Slice.ensures.value c.as_str-in-Slice-2.ensures.value c.slice.ensures.memory

pub returns-in-Set-clause-step : goal.returns-in-Set-clause-step
returns-in-Set-clause-step g c =
    applies_as _ c.args.self.now.state c.set.new.self.state (Set c.as_str.result.now c.as_str-in-Set.result.now) (spoken c.args.command.now) c.set.result
    (set_is c.as_str.result.now c.as_str-in-Set.result.now (string_bytes c.in-Set.address) (string_bytes c.in-Set.text) (spoken c.args.command.now) (ap (λ (k : Command). spoken k) c.in-Set.is) c.as_str.ensures.value c.as_str-in-Set.ensures.value)
    c.set.ensures.step

pub returns-in-Set-clause-memory : goal.returns-in-Set-clause-memory
returns-in-Set-clause-memory g c =
    set_stopped _ c.args.self.now.state c.set.new.self.state (spoken c.args.command.now) c.as_str.result.now c.as_str-in-Set.result.now (string_bytes c.in-Set.address) (string_bytes c.in-Set.text) c.set.result
    (ap (λ (k : Command). spoken k) c.in-Set.is) c.as_str.ensures.value c.as_str-in-Set.ensures.value c.set.ensures.memory

pub returns-in-Name-clause-step : goal.returns-in-Name-clause-step
returns-in-Name-clause-step g c =
    applies_as _ c.args.self.now.state c.name.new.self.state (Name c.as_str-in-Name.result.now c.as_str-in-Name-2.result.now c.as_str-in-Name-3.result.now) (spoken c.args.command.now) c.name.result
    (name_is c.as_str-in-Name.result.now c.as_str-in-Name-2.result.now c.as_str-in-Name-3.result.now (string_bytes c.in-Name.sheet) (string_bytes c.in-Name.name) (string_bytes c.in-Name.text) (spoken c.args.command.now)
    (ap (λ (k : Command). spoken k) c.in-Name.is) c.as_str-in-Name.ensures.value c.as_str-in-Name-2.ensures.value c.as_str-in-Name-3.ensures.value)
    c.name.ensures.step

pub returns-in-Name-clause-memory : goal.returns-in-Name-clause-memory
returns-in-Name-clause-memory g c =
    name_stopped _ c.args.self.now.state c.name.new.self.state (spoken c.args.command.now) c.as_str-in-Name.result.now c.as_str-in-Name-2.result.now c.as_str-in-Name-3.result.now (string_bytes c.in-Name.sheet)
    (string_bytes c.in-Name.name) (string_bytes c.in-Name.text) c.name.result (ap (λ (k : Command). spoken k) c.in-Name.is) c.as_str-in-Name.ensures.value c.as_str-in-Name-2.ensures.value
    c.as_str-in-Name-3.ensures.value c.name.ensures.memory

pub returns-in-Unname-clause-step : goal.returns-in-Unname-clause-step
returns-in-Unname-clause-step g c =
    applies_as _ c.args.self.now.state c.unname.new.self.state (Unname c.as_str-in-Unname.result.now c.as_str-in-Unname-2.result.now) (spoken c.args.command.now) c.unname.result
    (unname_is c.as_str-in-Unname.result.now c.as_str-in-Unname-2.result.now (string_bytes c.in-Unname.sheet) (string_bytes c.in-Unname.name) (spoken c.args.command.now) (ap (λ (k : Command). spoken k) c.in-Unname.is)
    c.as_str-in-Unname.ensures.value c.as_str-in-Unname-2.ensures.value)
    c.unname.ensures.step

pub returns-in-Unname-clause-memory : goal.returns-in-Unname-clause-memory
returns-in-Unname-clause-memory g c =
    unname_stopped _ c.args.self.now.state c.unname.new.self.state (spoken c.args.command.now) c.as_str-in-Unname.result.now c.as_str-in-Unname-2.result.now (string_bytes c.in-Unname.sheet) (string_bytes c.in-Unname.name)
    c.unname.result (ap (λ (k : Command). spoken k) c.in-Unname.is) c.as_str-in-Unname.ensures.value c.as_str-in-Unname-2.ensures.value c.unname.ensures.memory

pub returns-in-Show-clause-follows : goal.returns-in-Show-clause-follows
returns-in-Show-clause-follows g c =
    plain_answered c.args.self.now c.show.new.self (spoken c.args.command.now) c.show.result (subst (λ (k : Command). IsPlain (spoken k)) (sym c.in-Show.is) tt) (ap (λ (s : Session). s.state.book) c.show.ensures.same)
    (ap (λ (s : Session). s.tables) c.show.ensures.same)

pub returns-in-Stop-clause-follows : goal.returns-in-Stop-clause-follows
returns-in-Stop-clause-follows g c =
    plain_follows c.args.self.now c.stop.new.self (spoken c.args.command.now) c.stop.result (subst (λ (k : Command). IsPlain (spoken k)) (sym c.in-Stop.is) tt) c.stop.ensures.book c.stop.ensures.tables

pub returns-in-Budget-clause-follows : goal.returns-in-Budget-clause-follows
returns-in-Budget-clause-follows g c =
    plain_follows c.args.self.now c.set_budget.new.self (spoken c.args.command.now) c.set_budget.result (subst (λ (k : Command). IsPlain (spoken k)) (sym c.in-Budget.is) tt) c.set_budget.ensures.book
    c.set_budget.ensures.tables

pub returns-in-Save-clause-follows : goal.returns-in-Save-clause-follows
returns-in-Save-clause-follows g c = plain_answered c.args.self.now c.args.self.now (spoken c.args.command.now) c.save.result (subst (λ (k : Command). IsPlain (spoken k)) (sym c.in-Save.is) tt) refl refl

pub returns-in-Unknown-clause-follows : goal.returns-in-Unknown-clause-follows
returns-in-Unknown-clause-follows g c =
    plain_follows c.args.self.now c.args.self.now (spoken c.args.command.now) answer.UnknownCommand (subst (λ (k : Command). IsPlain (spoken k)) (sym c.in-Unknown.is) tt) refl refl
