use Rattle.educe_body_forms.proofs.Literals.{ident_stands, spelled-same}
use Rattle.educe_body_forms.proofs.literal_text.LiteralText.of_name.Goals as goal

pub invariant_of-result : goal.invariant_of-result
invariant_of-result c =
    let name = c.args.name.now in
    record { spelled = spelled-same c.in_ok-text.text name.text c.in_ok-text.ensures (ident_stands name.text name.spelled) }
