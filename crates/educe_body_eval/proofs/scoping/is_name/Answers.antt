use Rattle.std.proofs.Common.{◌∙◌, ap, List, ℕ, chars}
use Rattle.std.specs.Str.{bytes_eq}
use Rattle.educe_body_values.proofs.Hiding.{chars_test}
use Rattle.educe_body_eval.proofs.scoping.is_name.Goals as goal

pub returns : goal.returns
returns c =
    c.eq.ensures ∙ chars_test c.unraw.result.now c.args.name.now c.unraw.utf8 c.utf8.name ∙ ap (λ (text : List ℕ). bytes_eq text (chars c.args.name.now)) c.unraw.ensures.chars
