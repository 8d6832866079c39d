use Rattle.std.proofs.Common.{◌≡◌, ◌++◌, List, ap, sym, subst, ◌∙◌, append-nil}
use Rattle.std.specs.Borrow.{Bor}
use Rattle.std.proofs.lemmas.List.{take_all, map-append}
use Rattle.educe_syntax.specs.Field.{Field}
use Rattle.educe_syntax.specs.Ty.{Ty}
use Rattle.educe_settings.specs.EveryType.{behind, types_of}
use Rattle.educe_settings.proofs.AllTypes.{types_more}
use Rattle.educe_settings.proofs.field_types.push_types.Goals as goal

pub loop-field-init : goal.loop-field-init
loop-field-init c = sym (append-nil _)

pub loop-field-preserved : goal.loop-field-preserved
loop-field-preserved c =
    let field = c.field-item.result in
    let pushed = ap behind c.in_ok-push.ensures.items ∙ map-append (λ (t : Bor Ty). t.now) c.loop-field.types.items _ in
    types_more (behind c.args.types.now.items) _ _ c.args.fields.now c.loop-field.field-index field field c.loop-field-test.true c.field-item.is c.loop-field.invariant pushed

pub returns : goal.returns
returns c =
    subst (λ (front : List Field). behind c.loop-field.types.items ≡ behind c.args.types.now.items ++ types_of front)
    (take_all c.loop-field.field-index c.args.fields.now c.loop-field-test.false) c.loop-field.invariant
