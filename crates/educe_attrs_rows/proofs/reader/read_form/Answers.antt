use Rattle.educe_attrs_rows.proofs.MetaLaws.{word_answer}
use Rattle.educe_attrs_rows.proofs.reader.read_form.Goals as goal

pub returns-in-Word : goal.returns-in-Word
returns-in-Word c =
    word_answer c.args.row.now c.args.meta.now c.in-Word.field-0 c.in-Some.name.now c.is_empty.result c.read_word.result c.in-Word.is c.in-Some.ensures c.is_empty.ensures c.if-is_empty.false c.read_word.ensures
