use Rattle.std.proofs.Common.{None, chars, sym, ◌∙◌, rules}
use Rattle.std.specs.Str.{IsUtf8}
use Rattle.std.proofs.lemmas.Bool.{false≢true}
use Rattle.std.proofs.lemmas.Str.Pattern.{split_text_parts, contains_text}
use Rattle.educe_tokens_pieces.proofs.InPlace.{block_end, block_start, block_end_ascii, block_start_ascii, flat_ends}
use Rattle.educe_tokens_pieces.proofs.Searches.{lacks_run, split_run}
use Rattle.educe_tokens_pieces.proofs.Unclosed.{none_ends}
use Rattle.educe_tokens_pieces.proofs.in_place.behind_block.Goals.{then-contains, else-contains}
use Rattle.educe_tokens_pieces.proofs.in_place.behind_block.Goals as goal

pub returns-in_err-front-clause-none : goal.returns-in_err-front-clause-none
returns-in_err-front-clause-none c _ =
    none_ends 0 (chars c.args.text.now) (lacks_run block_end c.args.text.now block_end_ascii c.utf8.text (λ h. split_text_parts block_end c.args.text.now None c.in_err-front.ensures.cases h.0 h.1 h.2))

pub returns-else-ends_in_slash-clause-front : goal.returns-else-ends_in_slash-clause-front
returns-else-ends_in_slash-clause-front c =
    let front : IsUtf8 c.in_ok-front.front.now = search rules in
    let back : IsUtf8 c.in_ok-front.rest.now = search rules in
    let parts = split_run block_end c.args.text.now c.in_ok-front.front.now c.in_ok-front.rest.now block_end_ascii c.utf8.text front back c.in_ok-front.ensures.cases in
    elim c.if-contains.branch [
      | then-contains w ↦ absurd (false≢true (sym c.if-ends_in_slash.false ∙ w.value-is ∙ w.if-contains.true))
      | else-contains w ↦ flat_ends (chars c.args.text.now) (chars c.in_ok-front.front.now) (chars c.in_ok-front.rest.now) parts.0 parts.1
          (lacks_run block_start c.in_ok-front.front.now block_start_ascii front (λ h. false≢true (sym w.if-contains.false ∙ (contains_text c.contains.result block_start c.in_ok-front.front.now c.contains.ensures.cases).1 h)))
          (sym w.ends_in_slash.ensures ∙ sym w.value-is ∙ c.if-ends_in_slash.false)
    ]
