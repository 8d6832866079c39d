-- Words, as characters.
use Rattle.std.proofs.Common.{◌≡◌, refl, codes}
use Rattle.std.specs.Str.{chars}

pub chars_name : chars (codes "name") ≡ codes "name"
unfolding chars
chars_name = refl

pub chars_named_field : chars (codes "named_field") ≡ codes "named_field"
unfolding chars
chars_named_field = refl

pub chars_new : chars (codes "new") ≡ codes "new"
unfolding chars
chars_new = refl

pub chars_expression : chars (codes "expression") ≡ codes "expression"
unfolding chars
chars_expression = refl

pub chars_ignore : chars (codes "ignore") ≡ codes "ignore"
unfolding chars
chars_ignore = refl

pub chars_method : chars (codes "method") ≡ codes "method"
unfolding chars
chars_method = refl

pub chars_rank : chars (codes "rank") ≡ codes "rank"
unfolding chars
chars_rank = refl

pub chars_reverse : chars (codes "reverse") ≡ codes "reverse"
unfolding chars
chars_reverse = refl

pub chars_bound : chars (codes "bound") ≡ codes "bound"
unfolding chars
chars_bound = refl

pub chars_rename : chars (codes "rename") ≡ codes "rename"
unfolding chars
chars_rename = refl

pub chars_expr : chars (codes "expr") ≡ codes "expr"
unfolding chars
chars_expr = refl
