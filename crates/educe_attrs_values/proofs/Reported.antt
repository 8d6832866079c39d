-- The errors of values have messages, and start at boundaries of tokens.
use Rattle.std.proofs.Common.{◌≡◌, List, refl, subst}
use Rattle.educe_tokens.specs.declared.error.EduceError.{EduceError}
use Rattle.educe_tokens.specs.declared.token.Token.{Token}
use Rattle.educe_tokens.specs.Message.{HasWords}
use Rattle.educe_syntax.specs.Meta.{Meta}
use Rattle.educe_syntax.specs.MetaPath.{MetaPath}
use Rattle.educe_syntax.specs.Placed.{AreWithin, IsMetaPlaced}
use Rattle.educe_syntax.specs.TokenLaws.{lawful_lexing}
use Rattle.educe_attrs_values.specs.declared.kind.ValueKind.{ValueKind}
use Rattle.educe_attrs_values.specs.Causes.{IsValueCause}
use Rattle.educe_attrs_values.specs.Reports.{HasMessage, IsBoundary}
use Rattle.educe_attrs_values.proofs.Boundaries.{part_has, first_boundary, source_within, value_boundary}

-- the error of a value has a message
pub value_message : (k : ValueKind) (path : MetaPath) (meta : Meta) (e : EduceError) → IsValueCause k path meta e → HasMessage e
value_message k path meta e (IsValueCause.missing none bare_is) = record { kind = λ same. cc; words = refl }
value_message k path meta e (IsValueCause.wrong s some none carried) = record { kind = λ same. cc; words = refl }
value_message k path meta e (IsValueCause.too_deep s t some none deep) = record { kind = λ same. cc; words = refl }
value_message k path meta e (IsValueCause.deep_text s text some none opened deep) = record { kind = λ same. cc; words = refl }
value_message k path meta e (IsValueCause.not_carried s text f some none opened uncarried) =
    record { kind = λ same. cc; words = subst (λ kind. HasWords kind f.words) uncarried.kind (lawful_lexing.words text f uncarried.cause) }

-- where the name and the meta stand among tokens, it starts at a boundary of them
pub value_placed : (tokens : List Token) (k : ValueKind) (path : MetaPath) (meta : Meta) → AreWithin tokens path.written.tokens → IsMetaPlaced tokens meta
    → (e : EduceError) → IsValueCause k path meta e → IsBoundary tokens e.span.start
value_placed tokens k path meta named placed e (IsValueCause.missing none bare_is) = first_boundary tokens path.written.tokens named
value_placed tokens k path meta named placed e (IsValueCause.wrong s some none carried) = value_boundary tokens meta placed
value_placed tokens k path meta named placed e (IsValueCause.too_deep s t some none deep) =
    IsBoundary.start t.span
    (part_has tokens s.tokens (source_within tokens meta placed s some) t.span (record { front = deep.front; found = t; rest = deep.rest; is = deep.is; at_place = refl }))
value_placed tokens k path meta named placed e (IsValueCause.deep_text s text some none opened deep) = value_boundary tokens meta placed
value_placed tokens k path meta named placed e (IsValueCause.not_carried s text f some none opened uncarried) = value_boundary tokens meta placed
