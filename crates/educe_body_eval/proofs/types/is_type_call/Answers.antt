use Rattle.std.proofs.Common.{◌&&◌, ◌∙◌, Bool, length, ap, sym, refl}
use Rattle.std.proofs.lemmas.List.{length-map}
use Rattle.std.specs.Cmp.Lexicographic.{pointwise}
use Rattle.std.specs.Str.{bytes_eq}
use Rattle.educe_tokens.specs.declared.token.Token.{Token}
use Rattle.educe_body_values.specs.Callees.{spellings}
use Rattle.educe_body_values.specs.Types.{behind_type}
use Rattle.educe_body_eval.proofs.Places.{spelled_in_parts}
use Rattle.educe_body_eval.proofs.types.is_type_call.Goals as goal

pub returns-then-same_spelled : goal.returns-then-same_spelled
returns-then-same_spelled c =
    let ty = c.args.ty.now in
    sym (ap (λ (b : Bool). b && c.are_words.result) c.if-same_spelled.true)
    ∙ spelled_in_parts c.args.tokens.now _ _ (spellings ty) behind_type (length ty) c.same_spelled.result c.are_words.result (sym (length-map ty (λ (t : Token). t.spelling))) c.if-tokens-ty.false
    c.split_at.ensures.front c.split_at.ensures.back c.same_spelled.ensures c.are_words.ensures

pub returns-else-same_spelled : goal.returns-else-same_spelled
returns-else-same_spelled c =
    let ty = c.args.ty.now in
    let behind : Bool = pointwise bytes_eq (spellings c.split_at.result.1.now) behind_type in
    c.if-same_spelled.false ∙ sym (ap (λ (b : Bool). b && behind) c.if-same_spelled.false)
    ∙ spelled_in_parts c.args.tokens.now _ _ (spellings ty) behind_type (length ty) c.same_spelled.result behind (sym (length-map ty (λ (t : Token). t.spelling))) c.if-tokens-ty.false
    c.split_at.ensures.front c.split_at.ensures.back c.same_spelled.ensures refl
