use Rattle.std.proofs.Common.{◌&&◌, ◌∙◌, Bool, [], ◌∷◌, ◌++◌, ap, sym, refl, arith}
use Rattle.std.specs.Prelude.{codes}
use Rattle.std.specs.Cmp.Lexicographic.{pointwise}
use Rattle.std.specs.Str.{bytes_eq}
use Rattle.educe_body_values.specs.Callees.{spellings}
use Rattle.educe_body_values.specs.Types.{behind_type}
use Rattle.educe_body_eval.proofs.Places.{spelled_in_parts}
use Rattle.educe_body_eval.proofs.types.is_default_call.Goals as goal

pub returns-then-are_words : goal.returns-then-are_words
returns-then-are_words c =
    sym (ap (λ (b : Bool). b && c.is_type_call.result) c.if-are_words.true)
    ∙ spelled_in_parts c.args.tokens.now _ _ (codes "<" ∷ []) (spellings c.args.ty.now ++ behind_type) 1 c.are_words.result c.is_type_call.result refl (grind arith)
    c.split_at.ensures.front c.split_at.ensures.back c.are_words.ensures c.is_type_call.ensures

pub returns-else-are_words : goal.returns-else-are_words
returns-else-are_words c =
    let behind : Bool = pointwise bytes_eq (spellings c.split_at.result.1.now) (spellings c.args.ty.now ++ behind_type) in
    c.if-are_words.false ∙ sym (ap (λ (b : Bool). b && behind) c.if-are_words.false)
    ∙ spelled_in_parts c.args.tokens.now _ _ (codes "<" ∷ []) (spellings c.args.ty.now ++ behind_type) 1 c.are_words.result behind refl (grind arith)
    c.split_at.ensures.front c.split_at.ensures.back c.are_words.ensures refl
