use Rattle.std.proofs.Common.{List, ℕ, ap, ◌∙◌, chars, Bor}
use Rattle.educe_tree.proofs.Raw.{stripped}
use Rattle.educe_tree.proofs.names.unraw.Goals as goal

pub returns-clause-chars : goal.returns-clause-chars
returns-clause-chars c =
    ap (λ (name : Bor (List ℕ)). chars name.now) c.unwrap_or.ensures
    ∙ (stripped c.as_str-text.result c.args.text.now c.strip_prefix.result c.as_str-text.utf8 c.as_str-text.ensures.chars c.as_str-text.ensures.bytes c.strip_prefix.ensures.cases).0

pub returns-clause-bytes : goal.returns-clause-bytes
returns-clause-bytes c =
    ap (λ (name : Bor (List ℕ)). name.now) c.unwrap_or.ensures
    ∙ (stripped c.as_str-text.result c.args.text.now c.strip_prefix.result c.as_str-text.utf8 c.as_str-text.ensures.chars c.as_str-text.ensures.bytes c.strip_prefix.ensures.cases).1
