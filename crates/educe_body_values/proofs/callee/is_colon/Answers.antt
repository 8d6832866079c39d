use Rattle.std.proofs.Common.{◌∙◌, ap, refl}
use Rattle.std.specs.Prelude.{codes}
use Rattle.std.specs.Str.{bytes_eq}
use Rattle.educe_tree.specs.TokenLaws.{ascii_chars}
use Rattle.educe_body_values.proofs.callee.is_colon.Goals as goal

pub returns : goal.returns
returns c = c.is_text.ensures ∙ ap (bytes_eq c.args.token.now.spelling) (ascii_chars (codes ":") refl)
