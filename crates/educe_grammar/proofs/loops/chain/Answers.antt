use Rattle.std.proofs.Common.{rules, arith, ◌≡◌, ℕ, suc, ◌+◌, ◌-◌, true, List, [], ◌∷◌, ◌++◌, Ok, sym, ◌∙◌}
use Rattle.std.proofs.lemmas.Grind.{common_steps}
use Rattle.educe_grammar.specs.declared.parse_stream.ParseStream.{ParseStream}
use Rattle.educe_grammar.specs.Ahead.{Look, sees_any}
use Rattle.educe_grammar.specs.Noting.{Noter, links}
use Rattle.educe_grammar.proofs.Turns.{one_more, no_more}
use Rattle.educe_grammar.proofs.loops.chain.Goals as goal

pub returns-then-not-is_next : goal.returns-then-not-is_next
unfolding links
returns-then-not-is_next g c =
    let e = one_more (λ n. links g.S.Lookahead.look (g.P.Production.reads c.args.budget) n c.loop-link.found c.loop-link.input) 128 c.loop-link._link c.loop-link-test.true c.loop-link.invariant in
    first_of (search rules, grind (arith, common_steps))

pub returns-in_err-parse : goal.returns-in_err-parse
unfolding links
returns-in_err-parse g c =
    let e = one_more (λ n. links g.S.Lookahead.look (g.P.Production.reads c.args.budget) n c.loop-link.found c.loop-link.input) 128 c.loop-link._link c.loop-link-test.true c.loop-link.invariant in
    first_of (search rules, grind (arith, common_steps))

-- one link more
link_read : {A : Type 0} (look : Look) (read : Noter A) (n : ℕ) (found : List A) (s : ParseStream) (x : A) (t : ParseStream) → sees_any look s.cursor ≡ true
    → read s ≡ Ok (x, t) → links look read (suc n) found s ≡ links look read n (found ++ x ∷ []) t
unfolding links
link_read look read n found s x t seen is = rw (seen, is)

pub loop-link-preserved : goal.loop-link-preserved
loop-link-preserved g c =
    let e = one_more (λ n. links g.S.Lookahead.look (g.P.Production.reads c.args.budget) n c.loop-link.found c.loop-link.input) 128 c.loop-link._link c.loop-link-test.true c.loop-link.invariant in
    e ∙ link_read g.S.Lookahead.look (g.P.Production.reads c.args.budget) _ _ _ _ _ (sym c.is_next.ensures ∙ c.if-not-is_next.false) c.in_ok-parse.ensures
    ∙ (λ i. links g.S.Lookahead.look (g.P.Production.reads c.args.budget) (128 - (c.loop-link._link + 1)) (sym (c.in_ok-push.ensures.ok) i) c.parse.new.input)

pub returns-then-is_next : goal.returns-then-is_next
unfolding links
returns-then-is_next g c =
    let e = no_more (λ n. links g.S.Lookahead.look (g.P.Production.reads c.args.budget) n c.loop-link.found c.loop-link.input) 128 c.loop-link._link c.loop-link-test.false c.loop-link.invariant in
    first_of (search rules, grind (arith, common_steps))

pub returns : goal.returns
unfolding links
returns g c =
    let e = no_more (λ n. links g.S.Lookahead.look (g.P.Production.reads c.args.budget) n c.loop-link.found c.loop-link.input) 128 c.loop-link._link c.loop-link-test.false c.loop-link.invariant in
    first_of (search rules, grind (arith, common_steps))
