use Rattle.std.proofs.Common.{◌≡◌, ◌++◌, ap, ◌∙◌}
use Rattle.educe_tokens.specs.Lexes.{lexemes}
use Rattle.educe_tokens.proofs.Appending.{Appends-append, lexemes-Appends}
use Rattle.educe_syntax.specs.Alike.{lexemes_aside}
use Rattle.educe_bound.specs.Predicates.{behind}
use Rattle.educe_bound.proofs.Asking.{may_be_asked, asked_key_is}
use Rattle.educe_bound.proofs.asked.predicate_on.Goals as goal

pub new-written-requires : goal.new-written-requires
new-written-requires g c =
    let front = g.T.ToTokens.lexemes_of c.args.subject.now in
    let is : lexemes c.in_ok-into_slice.field-0 ≡ front ++ behind c.args.which =
    ap lexemes c.in_ok-into_slice.ensures ∙ lexemes-Appends c.new-tokens.ensures (Appends-append c.in_ok-to_tokens.ensures.ok c.in_ok-push_bound.ensures) in
    may_be_asked c.in_ok-into_slice.field-0 front c.args.which is (g.met.T.ToTokens.well_formed c.args.subject.now) (g.met.T.ToTokens.ends_apart c.args.subject.now)

pub returns : goal.returns
returns g c =
    let front = g.T.ToTokens.lexemes_of c.args.subject.now in
    let is : lexemes c.in_ok-into_slice.field-0 ≡ front ++ behind c.args.which =
    ap lexemes c.in_ok-into_slice.ensures ∙ lexemes-Appends c.new-tokens.ensures (Appends-append c.in_ok-to_tokens.ensures.ok c.in_ok-push_bound.ensures) in
    record {
      key = ap lexemes_aside c.new-written.ensures ∙ asked_key_is c.in_ok-into_slice.field-0 front c.args.which is;
      tokens = ap lexemes c.new-written.ensures ∙ is;
    }
