use Rattle.std.proofs.Common.{◌≡◌, List, ℕ, map, string_bytes, Some, None, refl, inl, sym, subst, ap, ◌∙◌}
use Rattle.educe_core_commands.specs.Commands.{given}
use Rattle.educe_core.specs.declared.spoken.Spoken.{Spoken}
use Rattle.educe_core.specs.Spoken.{IsSpoken, IsSpokenBy, meaning}
use Rattle.educe_core.proofs.SampleSize.{within_limit}
use Rattle.educe_core.proofs.WordsApart.{spoken_once}
use Rattle.educe_core.proofs.program.run_words.Goals as goal

pub run_command-requires : goal.run_command-requires
run_command-requires g c = within_limit _ c.in-Some.command c.in-Some.ensures

pub returns-in-None-clause-answer : goal.returns-in-None-clause-answer
returns-in-None-clause-answer g c =
    inl (record {
      unknown = subst (λ ws. IsSpokenBy (map string_bytes ws) None) c.deref.ensures.value c.in-None.ensures;
      source_kept = record { bytes = refl; faults = refl };
      sink_kept = record { bytes = refl; faults = refl };
      line = c.deliver.ensures;
    })
