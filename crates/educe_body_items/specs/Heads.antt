-- What stands before the blocks of functions, and the names that it has.
use Rattle.std.specs.Prelude.{ℕ, zero, suc, List, [], ◌∷◌, Option, Some, None, if◌then◌else◌, codes}
use Rattle.std.specs.Str.{bytes_eq}
use Rattle.std.proofs.Common.{refl}
use Rattle.educe_tokens.specs.declared.word.Word.{Word}
use Rattle.educe_bound_traits.specs.declared.traits.Trait.{Trait}
use Rattle.educe_bound_traits.specs.declared.traits.Trait.TheVariants as trait
use Rattle.educe_body_items.specs.declared.print_heads.Head.{Head}
use Rattle.educe_body_items.specs.declared.print_heads.Head.TheVariants as head
use Rattle.educe_body_items.specs.declared.items.Function.{Function}
use Rattle.educe_body_forms.specs.Printouts.{Printout, nothing, says, word, ◌beside◌, in_round, in_angle}
use Rattle.educe_body_forms.specs.ShownPrintouts.{fmt_head}

-- ---- names

-- The name at an index, where there is one.
abbrev pub name_at : ℕ → List Word → Printout
name_at i [] = nothing
name_at zero (own ∷ more) = word own
name_at (suc i) (own ∷ more) = name_at i more

-- ---- which head

-- This head, if the name is this text.
abbrev pub if_named : List ℕ → List ℕ → Head → Option Head
if_named own text this = if bytes_eq own text then Some this else None

-- This head, or where there is none the other.
abbrev pub first_head : Option Head → Option Head → Option Head
first_head None other = other
first_head (Some own) other = Some own

-- The head of a trait's function of a name; of a name that the trait does not have there is none.
abbrev pub head_of : Trait → List ℕ → Option Head
head_of trait.Debug own = if_named own (codes "fmt") head.Fmt
head_of trait.Clone own = first_head (if_named own (codes "clone") head.Clone) (if_named own (codes "clone_from") head.CloneFrom)
head_of trait.Copy own = None
head_of trait.PartialEq own = if_named own (codes "eq") head.Eq
head_of trait.Eq own = None
head_of trait.PartialOrd own = if_named own (codes "partial_cmp") head.PartialCmp
head_of trait.Ord own = if_named own (codes "cmp") head.Cmp
head_of trait.Hash own = if_named own (codes "hash") head.Hash
head_of trait.Default own = if_named own (codes "default") head.Default

-- ---- heads

-- `self`, and another parameter of this type.
abbrev pub self_and : Printout → List Word → Printout
self_and ty params = in_round (says (codes "& self ,") refl beside name_at 0 params beside ty)

-- `fn eq ( & self , other : & Self ) -> :: core :: primitive :: bool`.
abbrev pub eq_head : List Word → Printout
eq_head params = says (codes "fn eq") refl beside self_and (says (codes ": & Self") refl) params beside says (codes "-> :: core :: primitive :: bool") refl

-- `fn partial_cmp ( & self , other : & Self , ) -> :: core :: option :: Option < :: core :: cmp :: Ordering >`.
abbrev pub partial_cmp_head : List Word → Printout
partial_cmp_head params =
    says (codes "fn partial_cmp") refl beside self_and (says (codes ": & Self ,") refl) params
    beside says (codes "-> :: core :: option :: Option < :: core :: cmp :: Ordering >") refl

-- `fn cmp ( & self , other : & Self ) -> :: core :: cmp :: Ordering`.
abbrev pub cmp_head : List Word → Printout
cmp_head params = says (codes "fn cmp") refl beside self_and (says (codes ": & Self") refl) params beside says (codes "-> :: core :: cmp :: Ordering") refl

-- `< H : :: core :: hash :: Hasher >`, by the second name.
abbrev pub hasher_printout : List Word → Printout
hasher_printout params = in_angle (name_at 1 params beside says (codes ": :: core :: hash :: Hasher") refl)

-- `& self , state : & mut H`.
abbrev pub hash_parameters : List Word → Printout
hash_parameters params = says (codes "& self ,") refl beside name_at 0 params beside says (codes ": & mut") refl beside name_at 1 params

-- `fn hash < H : :: core :: hash :: Hasher > ( & self , state : & mut H )`.
abbrev pub hash_head : List Word → Printout
hash_head params = says (codes "fn hash") refl beside hasher_printout params beside in_round (hash_parameters params)

-- `fn clone_from ( & mut self , source : & Self )`.
abbrev pub clone_from_head : List Word → Printout
clone_from_head params =
    says (codes "fn clone_from") refl beside in_round (says (codes "& mut self ,") refl beside name_at 0 params beside says (codes ": & Self") refl)

-- A head with the names of parameters.
abbrev pub own_head : Head → List Word → Printout
own_head head.Eq params = eq_head params
own_head head.PartialCmp params = partial_cmp_head params
own_head head.Cmp params = cmp_head params
own_head head.Hash params = hash_head params
own_head head.Default params = says (codes "fn default ( ) -> Self") refl
own_head head.Clone params = says (codes "fn clone ( & self ) -> Self") refl
own_head head.CloneFrom params = clone_from_head params
own_head head.Fmt params = fmt_head (name_at 0 params)

-- A function of a name that the trait does not have has no parameters and no result.
abbrev pub other_head : Word → Printout
other_head own = says (codes "fn") refl beside word own beside says (codes "( )") refl

-- A head that the trait has, or of another name.
abbrev pub own_or_other : Option Head → Function → Printout
own_or_other (Some own) f = own_head own f.body.params
own_or_other None f = other_head f.name

-- The printout of the head of a function of a trait.
abbrev pub function_head : Trait → Function → Printout
function_head which f = own_or_other (head_of which f.name.text) f
