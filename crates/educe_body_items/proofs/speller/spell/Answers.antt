use Rattle.std.proofs.Common.{◌∙◌, sym, ap, subst, List, chars, encode_utf8_all, arith}
use Rattle.std.specs.String.{string_bytes}
use Rattle.std.specs.List.{AllByRecursion}
use Rattle.std.proofs.lemmas.Str.{IsUtf8-string_bytes, encodes-chars, chars-nil}
use Rattle.std.proofs.lemmas.List.{take_all}
use Rattle.educe_body_items.specs.declared.items.Item.{Item}
use Rattle.educe_body_items.specs.Items.{spelling}
use Rattle.educe_body_items.proofs.Spelled.{ItemLexes, spelling_lexes}
use Rattle.educe_body_items.proofs.speller.spell.Goals as goal

pub loop-item-init : goal.loop-item-init
loop-item-init c = record { spelled = ap chars c.new-out.ensures.bytes ∙ chars-nil; emptied = c.new-tokens.ensures; each = tt }

pub returns-clause-spelled : goal.returns-clause-spelled
returns-clause-spelled c =
    let all = take_all c.loop-item.item-index c.as_slice-item-items.result.now (omega arith) ∙ c.as_slice-item-items.ensures in
    let text = string_bytes c.loop-item.out in
    sym (encodes-chars text (IsUtf8-string_bytes c.loop-item.out)) ∙ ap encode_utf8_all (c.loop-item.invariant.spelled ∙ ap spelling all)

pub returns-clause-lexes : goal.returns-clause-lexes
returns-clause-lexes c =
    let all = take_all c.loop-item.item-index c.as_slice-item-items.result.now (omega arith) ∙ c.as_slice-item-items.ensures in
    spelling_lexes c.args.items.now (subst (λ (items : List Item). AllByRecursion ItemLexes items) all c.loop-item.invariant.each)
