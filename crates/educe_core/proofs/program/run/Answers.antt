use Rattle.std.proofs.Common.{ℕ, List, map, string_bytes, inl, inr}
use Rattle.educe_core_devices.specs.Devices.{Change, change}
use Rattle.educe_core_commands.specs.Outcomes.{Outcomes}
use Rattle.educe_core.specs.Spoken.{IsSpoken, meaning, usage_line}
use Rattle.educe_core_commands.proofs.Lawful.{outcomes}
use Rattle.educe_core.proofs.WordsApart.{spoken_once}
use Rattle.educe_core.proofs.program.run.Goals as goal

pub returns : goal.returns
returns g c =
    let was = c.args in
    let now = c.run_words.new in
    let words : List (List ℕ) = map string_bytes c.args.words.now.items in
    let source : Change = change (g.S.Source.left was.source.now) (g.S.Source.left now.source) (g.S.Source.faults was.source.now) (g.S.Source.faults now.source) (g.S.Source.may_fail was.source.now) in
    let sink : Change = change (g.K.Sink.held was.sink.now) (g.K.Sink.held now.sink) (g.K.Sink.faults was.sink.now) (g.K.Sink.faults now.sink) (g.K.Sink.may_fail was.sink.now) in
    let notes : Change = change (g.E.Sink.held was.notes.now) (g.E.Sink.held now.notes) (g.E.Sink.faults was.notes.now) (g.E.Sink.faults now.notes) (g.E.Sink.may_fail was.notes.now) in
    let status = c.run_words.result in
    let implied : Outcomes IsSpoken meaning words source sink notes status = outcomes IsSpoken meaning usage_line spoken_once words source sink notes status c.run_words.ensures.answer in
    record {
      answer = c.run_words.ensures.answer;
      usage = implied.usage;
      too_long = implied.too_long;
      not_utf8 = implied.not_utf8;
      valid = implied.valid;
      caused = implied.caused;
      read_fault = λ is. let fails = implied.read_fault is in (fails.rose, fails.might);
      source_faults = implied.source_faults;
      write_fault = λ is. elim (implied.write_fault is) [ inl sinks ↦ inl (sinks.rose, sinks.might) | inr noted ↦ inr (noted.rose, noted.might) ];
      sink_faults = implied.sink_faults;
      notes_faults = implied.notes_faults;
      most = c.run_words.ensures.most;
      untouched = c.run_words.ensures.untouched;
    }
