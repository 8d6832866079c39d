use Rattle.std.proofs.Common.{◌++◌, List, ℕ, IsTrue, sym, subst, chars}
use Rattle.educe_tokens.specs.TokenKind.TheVariants.{Ident}
use Rattle.educe_tokens.specs.Pieces.{spells}
use Rattle.educe_body_forms.proofs.Prefixed.{name_spells}
use Rattle.educe_body_forms.proofs.bindings.name_binding.Goals as goal

pub behind_prefix-requires : goal.behind_prefix-requires
behind_prefix-requires c =
    let P : List ℕ → Type 0 = λ rest. IsTrue (spells Ident (chars c.args.prefix.now ++ rest)) in
    subst P (sym c.unraw.ensures.chars) (name_spells (chars c.args.prefix.now) c.args.name.now.text c.requires c.args.name.now.spelled)
