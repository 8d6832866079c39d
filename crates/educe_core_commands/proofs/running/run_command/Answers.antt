use Rattle.std.proofs.Common.{Some, string_bytes, ap, refl, sym, subst, ◌∙◌}
use Rattle.std.specs.Option.{option_map}
use Rattle.educe_core_devices.specs.Devices.{Change, change}
use Rattle.educe_core_commands.specs.Commands.{Meaning, IsGiven}
use Rattle.educe_core_commands.proofs.Table.{Answers-input, given_input, given_limit}
use Rattle.educe_core_commands.proofs.running.run_command.Given as given
use Rattle.educe_core_commands.proofs.running.run_command.Goals as goal

-- the text is what the words have
given_is : (g : given.Over) (c : goal.After-answer-arg-in-Ok-Some-1 g) → IsGiven (g.C.Command.meaning c.args.command.now).origin (Some c.as_str.result.now)
given_is g c = subst (IsGiven (g.C.Command.meaning c.args.command.now).origin) (ap (option_map string_bytes) c.in-Ok-Some.field-0-is ∙ ap Some (sym c.as_str.ensures.value)) c.in-Ok-Some.ensures

pub answer-requires : goal.answer-requires
answer-requires g c = given_limit (g.C.Command.meaning c.args.command.now).origin c.as_str.result.now (given_is g c) c.requires

pub returns-in-Ok-Some-clause-answer : goal.returns-in-Ok-Some-clause-answer
returns-in-Ok-Some-clause-answer g c =
    let m : Meaning = g.C.Command.meaning c.args.command.now in
    let source : Change = change (g.S.Source.left c.args.source.now) (g.S.Source.left c.args.source.now) (g.S.Source.faults c.args.source.now) (g.S.Source.faults c.args.source.now) (g.S.Source.may_fail c.args.source.now) in
    Answers-input m source _ _ c.as_str.result.now _
    (given_input m.origin source c.as_str.result.now (record { bytes = refl; faults = refl }) (subst (IsGiven m.origin) (ap (option_map string_bytes) c.in-Ok-Some.field-0-is ∙ ap Some (sym c.as_str.ensures.value)) c.in-Ok-Some.ensures))
    c.answer.ensures
