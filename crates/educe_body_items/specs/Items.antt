-- What functions and items are printed as, spans aside, and their text.
use Rattle.std.specs.Prelude.{◌≡◌, ℕ, Bool, true, false, List, [], ◌∷◌, ◌++◌, codes}
use Rattle.std.specs.List.{flat_map}
use Rattle.std.proofs.Common.{refl}
use Rattle.educe_tokens.specs.declared.word.Word.{Word}
use Rattle.educe_tokens.specs.declared.written.Written.{Written}
use Rattle.educe_tokens.specs.Lexes.{Lexeme}
use Rattle.educe_tokens.specs.Text.{text_of}
use Rattle.educe_tokens.proofs.Printable.{is_printable_template}
use Rattle.educe_tree.specs.declared.ty.Ty.{Ty}
use Rattle.educe_bound_traits.specs.declared.traits.Trait.{Trait}
use Rattle.educe_bound_traits.specs.declared.traits.Trait.TheVariants as trait
use Rattle.educe_bound_traits.specs.Paths.{trait_path}
use Rattle.educe_body_forms.specs.declared.form.Form.{Form}
use Rattle.educe_body_items.specs.declared.items.Function.{Function}
use Rattle.educe_body_items.specs.declared.items.ImplItem.{ImplItem}
use Rattle.educe_body_items.specs.declared.items.CheckItem.{CheckItem}
use Rattle.educe_body_items.specs.declared.items.MarkerItem.{MarkerItem}
use Rattle.educe_body_items.specs.declared.items.Item.{Item}
use Rattle.educe_body_items.specs.declared.items.Item.TheVariants.{Impl, New, FieldCheck, Marker}
use Rattle.educe_body_items.specs.Headers.{params_printout, arguments_printout, where_printout}
use Rattle.educe_body_items.specs.Heads.{name_at, function_head}
use Rattle.educe_body_forms.specs.Printouts.{Printout, nothing, says, name, word, written, string, ◌beside◌, each, in_round, in_square, in_curly, in_angle}
use Rattle.educe_body_forms.specs.ShownPrintouts.{formatter_param, fmt_result}
use Rattle.educe_body_forms.specs.Tokens.{form_printout}

-- Forms in curly brackets.
abbrev pub block_printout : List Form → Printout
block_printout block = in_curly (each form_printout block)

-- A function of a trait: its head, and its forms in curly brackets.
abbrev pub function_printout : Trait → Function → Printout
function_printout which f = function_head which f beside block_printout f.body.block

-- `" Returns the \"default value\" for a type."`.
abbrev pub documentation_spelling : List ℕ
documentation_spelling = codes "\" Returns the \\\"default value\\\" for a type.\""

-- The string that is spelled so.
abbrev pub documentation_text : Printout
documentation_text = string documentation_spelling refl

-- `# [ doc = text ]`.
abbrev pub documentation : Printout
documentation = says (codes "#") refl beside in_square (says (codes "doc =") refl beside documentation_text)

-- `pub fn new ( ) -> Self` behind its documentation.
abbrev pub constructor_head : Function → Printout
constructor_head f = documentation beside says (codes "pub fn") refl beside word f.name beside says (codes "( ) -> Self") refl

-- A function that makes a default value: its head, and its forms in curly brackets.
abbrev pub constructor_printout : Function → Printout
constructor_printout f = constructor_head f beside block_printout f.body.block

-- The path of a trait may stand anywhere.
pub path_printable : (which : Trait) → is_printable_template (trait_path which) ≡ true
path_printable trait.Debug = refl
path_printable trait.Clone = refl
path_printable trait.Copy = refl
path_printable trait.PartialEq = refl
path_printable trait.Eq = refl
path_printable trait.PartialOrd = refl
path_printable trait.Ord = refl
path_printable trait.Hash = refl
path_printable trait.Default = refl

-- The printout of the path of a trait.
abbrev pub path_printout : Trait → Printout
path_printout which = says (trait_path which) (path_printable which)

-- The attributes, and `impl` with the parameters.
abbrev pub impl_start : ImplItem → Printout
impl_start item = written item.attributes beside says (codes "impl") refl beside params_printout item.generics.params

-- What stands before the type in the impl of a trait.
abbrev pub impl_head : ImplItem → Printout
impl_head item = impl_start item beside path_printout item.which beside says (codes "for") refl

-- The type, with the names of the parameters, and the where clause.
abbrev pub impl_type : ImplItem → Printout
impl_type item = name item.ident beside arguments_printout item.generics.params beside where_printout item.generics.predicates

-- The impl of a trait: its head, its type, and its functions in curly brackets.
abbrev pub impl_printout : ImplItem → Printout
impl_printout item = impl_head item beside impl_type item beside in_curly (each (function_printout item.which) item.functions)

-- An impl of no trait, with the functions that make default values.
abbrev pub inherent_printout : ImplItem → Printout
inherent_printout item = impl_start item beside impl_type item beside in_curly (each constructor_printout item.functions)

-- `INNER :: < Type > ( ) ;`.
abbrev pub check_call : List Word → Ty → Printout
check_call names ty = name_at 1 names beside says (codes "::") refl beside in_angle (written ty.written) beside says (codes "( ) ;") refl

-- `< T : ? Sized + :: core :: cmp :: Eq >`.
abbrev pub inner_parameter : List Word → Printout
inner_parameter names = in_angle (name_at 2 names beside says (codes ": ? Sized + :: core :: cmp :: Eq") refl)

-- `fn INNER < T : ? Sized + :: core :: cmp :: Eq > ( ) { }`.
abbrev pub inner_function : List Word → Printout
inner_function names = says (codes "fn") refl beside name_at 1 names beside inner_parameter names beside says (codes "( ) { }") refl

-- `fn OUTER G ( ) W`.
abbrev pub outer_head : CheckItem → Printout
outer_head check =
    says (codes "fn") refl beside name_at 0 check.names beside params_printout check.generics.params beside says (codes "( )") refl
    beside where_printout check.generics.predicates

-- The outer function: the inner one, and a call of it for each type.
abbrev pub outer_function : CheckItem → Printout
outer_function check = outer_head check beside in_curly (inner_function check.names beside each (check_call check.names) check.types)

-- `const _ : ( ) =` behind the attributes.
abbrev pub constant_start : Written → Printout
constant_start attributes = written attributes beside says (codes "const _ : ( ) =") refl

-- `const _ : ( ) = { fn OUTER G ( ) W { fn INNER .. calls } } ;` behind the attributes.
abbrev pub check_printout : CheckItem → Printout
check_printout check = constant_start check.attributes beside in_curly (outer_function check) beside says (codes ";") refl

-- A method of the trait is handed a formatter besides, and has its result.
abbrev pub has_formatter : Trait → Bool
has_formatter trait.Debug = true
has_formatter _ = false

-- `NAME : & Type ,`.
abbrev pub marker_value : MarkerItem → Printout
marker_value marker = name_at 1 marker.names beside says (codes ": &") refl beside written marker.ty.written beside says (codes ",") refl

-- With true `NAME : & mut :: core :: fmt :: Formatter < '_ > ,`.
abbrev pub marker_formatter : Bool → List Word → Printout
marker_formatter false names = nothing
marker_formatter true names = formatter_param (name_at 2 names) beside says (codes ",") refl

-- `NAME : & Type ,`, and where there is one the formatter.
abbrev pub marker_parameters : MarkerItem → Printout
marker_parameters marker = marker_value marker beside marker_formatter (has_formatter marker.which) marker.names

-- `fn NAME G ( NAME : & Type , )`.
abbrev pub marker_start : MarkerItem → Printout
marker_start marker = says (codes "fn") refl beside name_at 0 marker.names beside params_printout marker.generics.params beside in_round (marker_parameters marker)

-- `-> Type`, or with true the result of `fmt`.
abbrev pub marker_result : Bool → Ty → Printout
marker_result false ty = says (codes "->") refl beside written ty.written
marker_result true ty = fmt_result

-- `fn NAME G ( NAME : & Type , ) -> Type W`.
abbrev pub marker_head : MarkerItem → Printout
marker_head marker = marker_start marker beside marker_result (has_formatter marker.which) marker.ty beside where_printout marker.generics.predicates

-- `NAME`, or with true `NAME , NAME`.
abbrev pub marker_arguments : Bool → List Word → Printout
marker_arguments false names = name_at 1 names
marker_arguments true names = name_at 1 names beside says (codes ",") refl beside name_at 2 names

-- `method ( NAME )`.
abbrev pub marker_call : MarkerItem → Printout
marker_call marker = written marker.method.written beside in_round (marker_arguments (has_formatter marker.which) marker.names)

-- `fn NAME G ( NAME : & Type , ) -> Type W { method ( NAME ) }`.
abbrev pub marker_function : MarkerItem → Printout
marker_function marker = marker_head marker beside in_curly (marker_call marker)

-- `const _ : ( ) = { fn NAME G ( NAME : & Type , ) -> Type W { method ( NAME ) } } ;` behind the attributes.
abbrev pub marker_printout : MarkerItem → Printout
marker_printout marker = constant_start marker.attributes beside in_curly (marker_function marker) beside says (codes ";") refl

-- The printout of an item.
abbrev pub item_printout : Item → Printout
item_printout (Impl item) = impl_printout item
item_printout (New item) = inherent_printout item
item_printout (FieldCheck check) = check_printout check
item_printout (Marker marker) = marker_printout marker

-- The tokens of one item.
abbrev pub item_lexemes : Item → List Lexeme
item_lexemes item = (item_printout item).tokens

-- The tokens of items, in order.
abbrev pub tokens_of : List Item → List Lexeme
tokens_of items = flat_map item_lexemes items

-- The text of items: that of each, and a line feed.
abbrev pub spelling : List Item → List ℕ
spelling items = flat_map (λ item. text_of (item_lexemes item) ++ 10 ∷ []) items
