use Rattle.std.proofs.Common.{sym, subst, IsTrue, List, ℕ, lit<}
use Rattle.std.specs.List.{flat_map}
use Rattle.std.proofs.lemmas.Iterator.Consumers.{YieldsList-turn, YieldsList-end}
use Rattle.std.proofs.lemmas.Iterator.Splits.{YieldsList-from_str_split}
use Rattle.std.proofs.lemmas.List.Sums.{AllPass-from_list_all}
use Rattle.educe_tokens.specs.Appends.{Appends}
use Rattle.educe_tokens.specs.Quote.{template_words}
use Rattle.educe_body_forms.specs.Filled.{behind, filled_word, fits}
use Rattle.educe_body_forms.proofs.filled.push_filled.Goals as goal

pub push_word-requires : goal.push_word-requires
push_word-requires c =
    let words = YieldsList-from_str_split 32 c.args.template.now (lit< tt) (cc) (cc) (cc) in
    let turn = YieldsList-turn words c.loop-word.yielded _ c.loop-word.yielded_by _ _ c.in-Some.word c.in-Some.is c.next.ensures.steps in
    let Fits : List ℕ → Type 0 = λ word. IsTrue (fits word) in
    subst Fits (sym turn.1) (AllPass-from_list_all fits (template_words c.args.template.now) c.requires _ _ turn.0)

pub returns-clause-ok : goal.returns-clause-ok
returns-clause-ok c =
    let words = YieldsList-from_str_split 32 c.args.template.now (lit< tt) (cc) (cc) (cc) in
    let all = YieldsList-end words c.loop-word.yielded _ c.loop-word.yielded_by _ _ c.in-None.is c.next.ensures.steps in
    let Grows : List (List ℕ) → Type 0 = λ words. Appends (flat_map (filled_word (behind c.args.names.now)) words) c.args.tokens.now c.loop-word.tokens in
    subst Grows all.0 c.loop-word.invariant.grown
