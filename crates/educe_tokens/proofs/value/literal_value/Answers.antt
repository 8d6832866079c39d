use Rattle.std.proofs.Common.{ℕ, List, sym, ap, ◌∙◌, subst, chars}
use Rattle.std.proofs.lemmas.Result.{IfOk-weaker}
use Rattle.educe_tokens_pieces.specs.RawStrings.{IsRawOf}
use Rattle.educe_tokens.specs.StringValue.{raw}
use Rattle.educe_tokens.proofs.StringValues.{raw_by_first, str_by_first, quoted_value}
use Rattle.educe_tokens.proofs.value.literal_value.Goals as goal

pub raw_value-requires : goal.raw_value-requires
raw_value-requires c = raw_by_first (chars c.args.literal.now) c.requires (sym c.begins_raw.ensures ∙ c.if-begins_raw.true)

pub returns-then-begins_raw : goal.returns-then-begins_raw
returns-then-begins_raw c =
    IfOk-weaker _ _ _ (λ t same. raw _ _ (subst (λ (text : List ℕ). IsRawOf (chars c.args.literal.now) text) (ap chars (sym same)) c.raw_value.ensures.law)) c.from_str.ensures.ok

pub returns-else-begins_raw : goal.returns-else-begins_raw
returns-else-begins_raw c =
    let is = str_by_first (chars c.args.literal.now) c.requires (sym c.begins_raw.ensures ∙ c.if-begins_raw.false) in
    IfOk-weaker _ _ _ (λ t found. quoted_value _ _ found.0 is found.1 found.2) (c.str_value.ensures.parts is)
