-- The metas in a bracket pair.
use Rattle.std.specs.Prelude.{List, Result}
use Rattle.educe_tokens.specs.declared.token.Token.{Token}
use Rattle.educe_syntax.specs.Laws.{lawful_metas}
use Rattle.educe_syntax.specs.Meta.{Meta}
use Rattle.educe_attrs_values.specs.declared.stop.Stop.{Stop}
use Rattle.educe_attrs_values.specs.declared.stop.Stop.TheVariants.{Refused}
use Rattle.educe_attrs_values.specs.Chains.{map_err}
use Rattle.educe_attrs_values.specs.Decisions.{parsed}
use Rattle.educe_attrs_values.specs.Sources.{inside}

-- The metas that the whole list of tokens is, or its rejection.
abbrev pub whole_metas : List Token → Result (List Meta) Stop
whole_metas tokens = map_err Refused (parsed lawful_metas tokens)

-- The metas in a bracket pair, or their rejection.
abbrev pub metas_in : List Token → Result (List Meta) Stop
metas_in tokens = whole_metas (inside tokens)
