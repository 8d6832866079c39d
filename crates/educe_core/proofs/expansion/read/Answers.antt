use Rattle.std.proofs.Common.{chars, sym, subst}
use Rattle.educe_tokens.specs.Steps.{IsReading}
use Rattle.educe_core.specs.Headline.{lexical}
use Rattle.educe_core.proofs.Causes.{memory_cause, parsed_cause, parsed_defines, whole_of}
use Rattle.educe_core.proofs.expansion.read.Goals as goal

reading : (c : goal.After-drop-tokens-inside) → IsReading (chars c.args.source.now) c.in-Ok-new.tokens
reading c =
    subst (IsReading (chars c.args.source.now)) (sym c.in-Ok-new.ensures)
    (record { lexes = c.in-Ok.ensures.lexes; balanced = c.in-Ok.ensures.balanced; shallow = c.in-Ok.ensures.shallow })

pub returns-in-Err-clause-cause : goal.returns-in-Err-clause-cause
returns-in-Err-clause-cause c = lexical c.in-Err.ensures.err

pub returns-in-Ok-new-clause-defines : goal.returns-in-Ok-new-clause-defines
returns-in-Ok-new-clause-defines c =
    parsed_defines c.args.source.now c.in-Ok-new.tokens c.parse_derive_input.result (reading c) c.parse_derive_input.ensures.found c.parse_derive_input.ensures.apart

pub returns-in-Ok-new-clause-cause : goal.returns-in-Ok-new-clause-cause
returns-in-Ok-new-clause-cause c = parsed_cause c.args.source.now c.in-Ok-new.tokens c.parse_derive_input.result (reading c) c.parse_derive_input.ensures.err

pub returns-in-Ok-new-clause-only : goal.returns-in-Ok-new-clause-only
returns-in-Ok-new-clause-only c = λ d defines.
    c.parse_derive_input.ensures.only d (whole_of c.args.source.now c.in-Ok-new.tokens d (reading c) defines) defines.names_apart

pub returns-in-Err-new-clause-cause : goal.returns-in-Err-new-clause-cause
returns-in-Err-new-clause-cause c = memory_cause c.args.source.now c.alloc.result c.alloc.ensures
