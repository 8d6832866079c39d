use Rattle.std.proofs.Common.{chars, string_bytes, sym, subst}
use Rattle.std.proofs.lemmas.Result.{IfOk-weaker}
use Rattle.educe_tokens.specs.Spells.{IsWord}
use Rattle.educe_names.proofs.Underscored.{underscored_is_word}
use Rattle.educe_names.proofs.used_idents.UsedIdents.select_prefix.Goals as goal

pub returns-clause-word : goal.returns-clause-word
returns-clause-word c =
    λ word. IfOk-weaker c.free_text.result _ (λ prefix. IsWord (chars (string_bytes prefix)))
    (λ prefix free. subst IsWord (sym free.is) (underscored_is_word free.count (chars c.args.name.now) word)) c.free_text.ensures
