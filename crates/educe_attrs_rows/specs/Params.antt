-- The parameters of traits.
use Rattle.std.specs.Prelude.{ℕ, List, [], ◌∷◌, codes}
use Rattle.educe_attrs_rows.specs.declared.param.Param.{Param}
use Rattle.educe_attrs_rows.specs.declared.param.Param.TheVariants.{Name, NamedField, New, Expression, Ignore, Method, Rank, Reverse, Bound}

-- All parameters.
abbrev pub all_params : List Param
all_params = Name ∷ NamedField ∷ New ∷ Expression ∷ Ignore ∷ Method ∷ Rank ∷ Reverse ∷ Bound ∷ []

-- The word that names a parameter.
abbrev pub word_of : Param → List ℕ
word_of Name = codes "name"
word_of NamedField = codes "named_field"
word_of New = codes "new"
word_of Expression = codes "expression"
word_of Ignore = codes "ignore"
word_of Method = codes "method"
word_of Rank = codes "rank"
word_of Reverse = codes "reverse"
word_of Bound = codes "bound"

-- The alternative word that names a parameter; the word itself where it has none.
abbrev pub alias_of : Param → List ℕ
alias_of Name = codes "rename"
alias_of NamedField = codes "named_field"
alias_of New = codes "new"
alias_of Expression = codes "expr"
alias_of Ignore = codes "ignore"
alias_of Method = codes "method"
alias_of Rank = codes "rank"
alias_of Reverse = codes "reverse"
alias_of Bound = codes "bound"
