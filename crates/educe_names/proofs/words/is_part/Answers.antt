use Rattle.std.proofs.Common.{ℕ, List, not, rules, tests}
use Rattle.std.specs.Str.{bytes_eq}
use Rattle.std.proofs.lemmas.Iterator.Search.{any_from_yields_List}
use Rattle.std.proofs.lemmas.Iterator.Splits.{YieldsList-from_slice_split}
use Rattle.unicode_ident.specs.Ident.{is_xid_continue}
use Rattle.educe_names.proofs.words.is_part.Goals as goal

pub returns : goal.returns
returns c =
    any_from_yields_List (λ (part : List ℕ). bytes_eq part c.args.word.now) _ _ _ c.any.ensures.ran
    (YieldsList-from_slice_split _ (λ (ch : ℕ). not (is_xid_continue ch)) c.args.text.now c.split.ensures.rest c.split.ensures.done c.split.ensures.closure (λ x b q k. search (rules, tests)))
    (λ x b q k. search (rules, tests))
