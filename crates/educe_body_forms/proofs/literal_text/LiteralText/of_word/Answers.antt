use Rattle.educe_body_forms.proofs.Literals.{word_or_index_stands, spelled-same}
use Rattle.educe_body_forms.proofs.literal_text.LiteralText.of_word.Goals as goal

pub invariant_of-result : goal.invariant_of-result
invariant_of-result c =
    let word = c.args.word.now in
    record { spelled = spelled-same c.in_ok-text.text word.text c.in_ok-text.ensures (word_or_index_stands word.text word.spelled) }
