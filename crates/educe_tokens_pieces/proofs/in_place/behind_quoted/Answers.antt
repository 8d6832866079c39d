use Rattle.std.proofs.Common.{[], ◌∷◌, chars, sym, ◌∙◌, rules}
use Rattle.educe_tokens_pieces.specs.Machine.{ends}
use Rattle.educe_tokens_pieces.specs.declared.quotes.Within.TheVariants.{Open}
use Rattle.educe_tokens_pieces.proofs.InPlace.{goes_on, goes_to, step_goes, step_ends}
use Rattle.educe_tokens_pieces.proofs.Reached.{go_reached}
use Rattle.educe_tokens_pieces.proofs.in_place.behind_quoted.Goals as goal

pub loop-c-preserved : goal.loop-c-preserved
loop-c-preserved c =
    let go = sym c.step.ensures ∙ c.in-Go.is in
    record {
      utf8 = search rules;
      goes = goes_on (ends (Open c.args.quote)) (ends c.loop-c.within) (ends c.in-Go.next) (chars c.args.text.now) (chars c.loop-c.rest.now) (chars c.in-Some.more.now) (c.in-Some.c ∷ [])
          c.loop-c.invariant.goes c.in-Some.ensures.parts (λ cs zs e. step_goes c.loop-c.within c.in-Go.next c.in-Some.c go cs);
      reachable = go_reached c.loop-c.within c.in-Go.next c.in-Some.c c.loop-c.invariant.reachable go;
    }

pub returns-in-End : goal.returns-in-End
returns-in-End c =
    goes_to (ends (Open c.args.quote)) (ends c.loop-c.within) (chars c.args.text.now) (chars c.loop-c.rest.now) (chars c.in-Some.more.now) (c.in-Some.c ∷ [])
    c.loop-c.invariant.goes c.in-Some.ensures.parts (step_ends c.loop-c.within c.in-Some.c (sym c.step.ensures ∙ c.in-End.is))
