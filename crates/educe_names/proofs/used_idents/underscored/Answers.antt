use Rattle.std.proofs.Common.{◌≡◌, ◌∙◌, ◌++◌, ℕ, [], ap, sym, add-one, arith, chars}
use Rattle.std.proofs.lemmas.Str.{encode_ascii}
use Rattle.educe_names.specs.Chosen.{underscored}
use Rattle.educe_names.proofs.Underscored.{underscored_more, chars-underscored}
use Rattle.educe_names.proofs.used_idents.underscored.Goals as goal

pub loop-turn-preserved : goal.loop-turn-preserved
loop-turn-preserved c =
    let turn = c.loop-turn._turn in
    c.in_ok-push.ensures.bytes ∙ (λ i. c.loop-turn.invariant i ++ encode_ascii 95 (omega arith) i) ∙ underscored_more turn ∙ ap (λ (n : ℕ). underscored n []) (sym (add-one turn))

pub returns : goal.returns
returns c =
    let done : c.loop-turn._turn ≡ c.args.count = omega arith in
    ap chars (c.in_ok-push_str.ensures.bytes ∙ (λ i. c.loop-turn.invariant i ++ c.args.name.now) ∙ ap (λ (n : ℕ). underscored n [] ++ c.args.name.now) done)
    ∙ chars-underscored c.args.count c.args.name.now
