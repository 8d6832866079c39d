use Rattle.std.proofs.Common.{◌≡◌, ◌++◌, codes, ap, ◌∙◌, chars}
use Rattle.educe_body_forms.proofs.Literals.{chars_path, ident_stands, path_stands, spelled-same}
use Rattle.educe_body_forms.proofs.literal_text.LiteralText.of_path.Goals as goal

pub invariant_of-result : goal.invariant_of-result
invariant_of-result c =
    let first = c.args.first.now in
    let last = c.args.last.now in
    let is : c.in_ok-text.text ≡ first.text ++ codes "::" ++ last.text =
    c.in_ok-text.ensures ∙ ap chars (c.deref.ensures ∙ c.in_ok-whole.ensures.ok) ∙ chars_path c.as_str.result.now c.as_str-2.result.now c.as_str.utf8
    ∙ (λ i. c.as_str.ensures.chars i ++ codes "::" ++ c.as_str-2.ensures.chars i)
    in
    record { spelled = spelled-same c.in_ok-text.text (first.text ++ codes "::" ++ last.text) is (path_stands first.text last.text (ident_stands first.text first.spelled) (ident_stands last.text last.spelled)) }

pub returns : goal.returns
returns c =
    c.in_ok-text.ensures ∙ ap chars (c.deref.ensures ∙ c.in_ok-whole.ensures.ok) ∙ chars_path c.as_str.result.now c.as_str-2.result.now c.as_str.utf8
    ∙ (λ i. c.as_str.ensures.chars i ++ codes "::" ++ c.as_str-2.ensures.chars i)
