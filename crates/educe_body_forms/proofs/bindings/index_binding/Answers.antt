use Rattle.std.proofs.Common.{◌≡◌, ◌<◌, ◌^◌, ◌∙◌, ◌++◌, List, ℕ, IsTrue, sym, subst, arith, chars, IfOk}
use Rattle.std.specs.Fmt.{decimal}
use Rattle.educe_tokens.specs.TokenKind.TheVariants.{Ident}
use Rattle.educe_tokens.specs.Pieces.{spells}
use Rattle.educe_tree.specs.declared.ident.Ident.{Ident as Name}
use Rattle.educe_body_forms.proofs.Prefixed.{index_spells}
use Rattle.educe_body_forms.proofs.bindings.index_binding.Goals as goal

pub behind_prefix-requires : goal.behind_prefix-requires
behind_prefix-requires c =
    let small : c.args.place < 2 ^ 64 = omega arith in
    let P : List ℕ → Type 0 = λ rest. IsTrue (spells Ident (chars c.args.prefix.now ++ rest)) in
    subst P (sym (c.as_str.ensures ∙ c.in_ok-digits.ensures)) (index_spells (chars c.args.prefix.now) c.args.place c.requires small)

pub returns-clause-text : goal.returns-clause-text
returns-clause-text c =
    let Text : List ℕ → Name → Type 0 = λ rest ident. ident.text ≡ chars c.args.prefix.now ++ rest in
    let digits : chars c.as_str.result.now ≡ decimal c.args.place = c.as_str.ensures ∙ c.in_ok-digits.ensures in
    let P : List ℕ → Type 0 = λ rest. IfOk c.behind_prefix.result (Text rest) in
    subst P digits c.behind_prefix.ensures.text
