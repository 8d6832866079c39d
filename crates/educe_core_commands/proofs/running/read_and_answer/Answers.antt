use Rattle.std.proofs.Common.{◌≡◌, ◌≤◌, length, refl, sym, subst, ◌∙◌, arith}
use Rattle.std.specs.Prelude.{IsUtf8}
use Rattle.educe_core_devices.specs.declared.status.Status.TheVariants.{TooLong, NotUtf8}
use Rattle.educe_core_devices.specs.Devices.{Change, change}
use Rattle.educe_core_commands.specs.Commands.{Meaning, IsInput, read, too_long_line, not_utf8_line}
use Rattle.educe_core_commands.proofs.Table.{Answers-line, Answers-input}
use Rattle.educe_core_commands.proofs.running.read_and_answer.Goals as goal

pub returns-then-len-gt-SOURCE_LIMIT-clause-answer : goal.returns-then-len-gt-SOURCE_LIMIT-clause-answer
returns-then-len-gt-SOURCE_LIMIT-clause-answer g c =
    Answers-line _ _ _ _ TooLong too_long_line _
    (c.requires, record { input = c.in-Ok.input.items; taken = c.in-Ok.ensures.taken; limit = omega (arith, c.in-Ok.ensures.limit); faults = c.in-Ok.ensures.kept }, refl)
    c.deliver.ensures (record { bytes = refl; faults = refl })

pub returns-in_default-clause-answer : goal.returns-in_default-clause-answer
returns-in_default-clause-answer g c =
    let limit : length c.in-Ok.input.items ≤ 131072 = omega arith in
    let same : c.deref.result.now ≡ c.in-Ok.input.items = c.deref.ensures.value in
    Answers-line _ _ _ _ NotUtf8 not_utf8_line _ (
      c.requires,
      record {
        input = c.in-Ok.input.items;
        whole = record { taken = c.in-Ok.ensures.taken; end = c.in-Ok.ensures.end (omega arith); limit = limit; faults = c.in-Ok.ensures.kept };
        not_utf8 = λ utf8. c.in_default.ensures.cases.0 (subst IsUtf8 (sym same) utf8);
      },
      refl,
    )
    c.deliver-in_default.ensures (record { bytes = refl; faults = refl })

pub returns-clause-answer : goal.returns-clause-answer
returns-clause-answer g c =
    let m : Meaning = g.C.Command.meaning c.args.command.now in
    let source : Change = change (g.S.Source.left c.args.source.now) (g.S.Source.left c.read_input.new.source) (g.S.Source.faults c.args.source.now) (g.S.Source.faults c.read_input.new.source) (g.S.Source.may_fail c.args.source.now) in
    let limit : length c.in-Ok.input.items ≤ 131072 = omega arith in
    let same : c.in-Ok-from_utf8.text.now ≡ c.in-Ok.input.items = c.in-Ok-from_utf8.ensures.cases.0 ∙ c.deref.ensures.value in
    let is : IsInput read source c.in-Ok-from_utf8.text.now = (
      record { taken = rw same c.in-Ok.ensures.taken; end = c.in-Ok.ensures.end (omega arith); limit = rw same limit; faults = c.in-Ok.ensures.kept },
      subst IsUtf8 (sym c.in-Ok-from_utf8.ensures.cases.0) c.in-Ok-from_utf8.ensures.cases.1,
    ) in
    Answers-input m source _ _ c.in-Ok-from_utf8.text.now _ (subst (λ o. IsInput o source c.in-Ok-from_utf8.text.now) (sym c.requires) is) c.answer.ensures
