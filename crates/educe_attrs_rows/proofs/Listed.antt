-- The metas in a bracket pair: the program reads what the rule says, and rejects for its causes.
use Rattle.std.proofs.Common.{◌≡◌, List, refl, ◌∙◌, ap, Result, Ok, Err}
use Rattle.std.specs.Prelude.{◌≢◌, IfOk}
use Rattle.std.specs.List.{AllByRecursion}
use Rattle.educe_tokens.specs.declared.error.EduceError.{EduceError}
use Rattle.educe_tokens.specs.declared.error.Kind.TheVariants.{Alloc}
use Rattle.educe_tokens.specs.declared.token.Token.{Token}
use Rattle.educe_syntax.specs.Attributes.{metas}
use Rattle.educe_syntax.specs.Laws.{lawful_metas}
use Rattle.educe_syntax.specs.Meta.{Meta}
use Rattle.educe_syntax.specs.Parsed.{IsWhole, IsParseCause}
use Rattle.educe_attrs_values.specs.declared.stop.Stop.{Stop}
use Rattle.educe_attrs_values.specs.declared.stop.Stop.TheVariants.{Memory, Refused}
use Rattle.educe_attrs_values.specs.Chains.{Gives, map_err}
use Rattle.educe_attrs_values.specs.Decisions.{parsed}
use Rattle.educe_attrs_values.specs.Metas.{IsNamed}
use Rattle.educe_attrs_values.specs.Sources.{inside}
use Rattle.educe_attrs_values.proofs.Deciding.{parsed_ok, parsed_is, parsed_err, parsed_cause}
use Rattle.educe_attrs_rows.specs.Metas.{whole_metas, metas_in}
use Rattle.educe_attrs_rows.proofs.Chained.{ok_one, refused_one}
use Rattle.educe_attrs_rows.proofs.Named.{metas_named}

-- ---- whole lists

-- the metas that a call of the parser answers are the program's
pub whole_found : (tokens : List Token) (found : List Meta) → IsWhole metas tokens found → whole_metas tokens ≡ Ok found
whole_found tokens found whole = ap (map_err Refused) (parsed_ok lawful_metas tokens found whole)

-- the error that a call of the parser answers is the program's
pub whole_refused : (tokens : List Token) (e : EduceError) → IsParseCause metas tokens e → e.kind ≢ Alloc → whole_metas tokens ≡ Err (Refused e)
whole_refused tokens e cause told = ap (map_err Refused) (parsed_err lawful_metas tokens e cause told)

read_by : (tokens : List Token) (found : List Meta) (r : Result (List Meta) EduceError) → parsed lawful_metas tokens ≡ r → map_err Refused r ≡ Ok found → parsed lawful_metas tokens ≡ Ok found
read_by tokens found (Ok x) is h = is ∙ ap Ok (ok_one h)
read_by tokens found (Err e) is h = absurd (cc)

refused_by : (tokens : List Token) (e : EduceError) (r : Result (List Meta) EduceError) → parsed lawful_metas tokens ≡ r → map_err Refused r ≡ Err (Refused e) → parsed lawful_metas tokens ≡ Err e
refused_by tokens e (Ok x) is h = absurd (cc)
refused_by tokens e (Err f) is h = is ∙ ap Err (refused_one h)

-- the metas that are read are those of the rule
whole_read : (tokens : List Token) (found : List Meta) → whole_metas tokens ≡ Ok found → IsWhole metas tokens found
whole_read tokens found h = parsed_is lawful_metas tokens found (read_by tokens found (parsed lawful_metas tokens) refl h)

-- each has a name
pub named_answer : (tokens : List Token) (r : Result (List Meta) Stop) → Gives Memory (whole_metas tokens) r → IfOk r (AllByRecursion IsNamed)
named_answer tokens (Ok found) h = metas_named tokens found (whole_read tokens found h)
named_answer tokens (Err s) h = tt

-- ---- bracket pairs

-- the metas that are read are those of the rule
pub metas_read : (tokens : List Token) (found : List Meta) → metas_in tokens ≡ Ok found → IsWhole metas (inside tokens) found
metas_read tokens found h = whole_read (inside tokens) found h

-- the metas of the rule are those that are read
pub metas_back : (tokens : List Token) (found : List Meta) → IsWhole metas (inside tokens) found → metas_in tokens ≡ Ok found
metas_back tokens found whole = whole_found (inside tokens) found whole

-- a rejection is one of the parser's
pub metas_refused : (tokens : List Token) (e : EduceError) → metas_in tokens ≡ Err (Refused e) → IsParseCause metas (inside tokens) e × (e.kind ≢ Alloc)
metas_refused tokens e h = parsed_cause lawful_metas (inside tokens) e (refused_by (inside tokens) e (parsed lawful_metas (inside tokens)) refl h)
