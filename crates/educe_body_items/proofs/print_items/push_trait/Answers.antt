use Rattle.std.proofs.Common.{ℕ, IsTrue, List, sym, ap, subst}
use Rattle.std.proofs.lemmas.Bool.{and_parts}
use Rattle.std.proofs.lemmas.Result.{on_ok_weaker}
use Rattle.educe_tokens.specs.Quote.{is_template, quoted}
use Rattle.educe_tokens.proofs.Appending.{Appends-same}
use Rattle.educe_bound_traits.specs.Paths.{trait_path}
use Rattle.educe_body_items.specs.Items.{path_printable}
use Rattle.educe_body_items.proofs.print_items.push_trait.Goals as goal

pub quote-requires : goal.quote-requires
quote-requires c =
    let template = (and_parts (is_template (trait_path c.args.which)) _ (path_printable c.args.which)).0 in
    subst (λ (text : List ℕ). IsTrue (is_template text)) (sym c.trait_path.ensures) template

pub returns-clause-ok : goal.returns-clause-ok
returns-clause-ok c = on_ok_weaker _ (λ found. Appends-same (ap quoted c.trait_path.ensures) found) c.quote.ensures.ok
