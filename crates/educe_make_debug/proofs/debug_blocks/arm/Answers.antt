use Rattle.std.proofs.Common.{◌≡◌, List, length, map, ap, sym, subst, ◌∙◌, refl, not}
use Rattle.educe_syntax.specs.Field.{Field}
use Rattle.educe_attrs.specs.FieldSettings.{FieldSettings}
use Rattle.educe_meaning.specs.Arms.{IsPatternBy}
use Rattle.educe_settings.specs.Cases.{fields_in}
use Rattle.educe_settings.specs.Shown.{ShownCase, entry_settings, variant_shown}
use Rattle.educe_meaning.specs.ShownBodies.{IsArmBlock}
use Rattle.educe_make_debug.specs.DebugNames.{names_of}
use Rattle.educe_make_debug.proofs.debug_blocks.arm.Goals as goal

pub pattern-requires-clause-each : goal.pattern-requires-clause-each
pattern-requires-clause-each c =
    ap (λ (all : List FieldSettings). length all) c.as_slice.ensures ∙ c.args.case.now.each ∙ ap (λ (fields : List Field). length fields) (sym c.requires)

pub returns : goal.returns
returns c = λ definition own.
    let names = names_of c.args.names.now in
    let variant = c.args.variant.now in
    let shown = variant_shown definition variant in
    let settings : c.as_slice.result.now ≡ map (entry_settings shown.named definition) (fields_in variant) =
    c.as_slice.ensures ∙ own.settled ∙ (λ i. map (entry_settings (own.is i).named definition) (own.is i).fields) in
    record {
      spelled = record { braced_is = ap (λ (case : ShownCase). not case.unit) own.is; comma_is = refl };
      pattern_is = subst (λ (all : List FieldSettings). IsPatternBy names.prefix variant all c.in_ok-pattern.pattern) settings c.in_ok-pattern.ensures;
      block_is = subst (λ (case : ShownCase). IsArmBlock case.unit definition names case c.in_ok-block.block) own.is (c.in_ok-block.ensures definition own.settled);
    }
