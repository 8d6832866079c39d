-- What `fmt` is printed as: what it hands to the formatter, the helper type of a map's keys, and the arguments of methods.
use Rattle.std.specs.Prelude.{ℕ, Bool, true, false, IsTrue, List, [], ◌∷◌, codes}
use Rattle.std.proofs.Common.{refl}
use Rattle.educe_tokens.specs.TokenKind.TheVariants as kind
use Rattle.educe_tokens.specs.declared.written.Written.{Written}
use Rattle.educe_tree.specs.Printed.{printable-lifetime}
use Rattle.educe_tree.specs.declared.ident.Ident.{Ident}
use Rattle.educe_body_forms.specs.declared.literal_text.LiteralText.{LiteralText}
use Rattle.educe_body_forms.specs.declared.shown.ArgumentNames.{ArgumentNames}
use Rattle.educe_body_forms.specs.declared.shown.EntryKey.{EntryKey}
use Rattle.educe_body_forms.specs.declared.shown.EntryKey.TheVariants.{Unnamed, Named, Mapped}
use Rattle.educe_body_forms.specs.declared.shown.Opening.{Opening}
use Rattle.educe_body_forms.specs.declared.shown.Opening.TheVariants.{Struct, Tuple, Map}
use Rattle.educe_body_forms.specs.Lifetimes.{is_ascii_lifetime, ascii_lifetime_spells}
use Rattle.educe_body_forms.specs.Quotes.{in_quotes}
use Rattle.educe_body_forms.specs.Printouts.{Printout, nothing, says, name, written, string, number, ◌beside◌, in_round, in_curly, in_angle}

-- ---- texts

-- The printout of a text as a string literal.
abbrev pub literal_printout : LiteralText → Printout
literal_printout shown = string (in_quotes shown.text) shown.spelled

-- The token of a lifetime that is spelled so; that it is one is computed, and its proof is `refl`.
abbrev pub lifetime_text : (text : List ℕ) → IsTrue (is_ascii_lifetime text) → Printout
lifetime_text text h = record { tokens = record { kind = kind.Lifetime; spelling = text } ∷ []; printable = printable-lifetime text (ascii_lifetime_spells text h) }

-- ---- the formatter

-- `& mut :: core :: fmt :: Formatter < '_ >`.
abbrev pub formatter_type : Printout
formatter_type = says (codes "& mut :: core :: fmt :: Formatter") refl beside in_angle (lifetime_text (codes "'_") refl)

-- `f : & mut :: core :: fmt :: Formatter < '_ >`.
abbrev pub formatter_param : Printout → Printout
formatter_param formatter = formatter beside says (codes ":") refl beside formatter_type

-- `-> :: core :: fmt :: Result`.
abbrev pub fmt_result : Printout
fmt_result = says (codes "-> :: core :: fmt :: Result") refl

-- `& self , f : & mut :: core :: fmt :: Formatter < '_ >`.
abbrev pub fmt_params : Printout → Printout
fmt_params formatter = says (codes "& self ,") refl beside formatter_param formatter

-- `fn fmt ( & self , f : & mut :: core :: fmt :: Formatter < '_ > ) -> :: core :: fmt :: Result`, the formatter being this.
abbrev pub fmt_head : Printout → Printout
fmt_head formatter = says (codes "fn fmt") refl beside in_round (fmt_params formatter) beside fmt_result

-- `f . write_str`.
abbrev pub write_str : Ident → Printout
write_str formatter = name formatter beside says (codes ". write_str") refl

-- `f . write_str ( text )`.
abbrev pub write_str_printout : Ident → Printout → Printout
write_str_printout formatter text = write_str formatter beside in_round text

-- ---- builders

-- `. debug_struct ( "N" )`, `. debug_tuple ( "N" )` or `. debug_map ( )`.
abbrev pub opening_printout : Opening → Printout
opening_printout (Struct shown) = says (codes ". debug_struct") refl beside in_round (literal_printout shown)
opening_printout (Tuple shown) = says (codes ". debug_tuple") refl beside in_round (literal_printout shown)
opening_printout Map = says (codes ". debug_map ( )") refl

-- `f . debug_struct ( "N" )` and the like.
abbrev pub opened : Ident → Opening → Printout
opened formatter opening = name formatter beside opening_printout opening

-- `let mut builder = f . debug_struct ( "N" ) ;` and the like.
abbrev pub builder_printout : Ident → Ident → Opening → Printout
builder_printout builder formatter opening =
    says (codes "let mut") refl beside name builder beside says (codes "=") refl beside opened formatter opening beside says (codes ";") refl

-- `. field` or `. entry`.
abbrev pub entry_call : EntryKey → Printout
entry_call Unnamed = says (codes ". field") refl
entry_call (Named key) = says (codes ". field") refl
entry_call (Mapped helper key) = says (codes ". entry") refl

-- What stands before the value of an entry: `"key" ,` or `& Helper ( "key" ) ,`.
abbrev pub entry_key : EntryKey → Printout
entry_key Unnamed = nothing
entry_key (Named key) = literal_printout key beside says (codes ",") refl
entry_key (Mapped helper key) = says (codes "&") refl beside name helper beside in_round (literal_printout key) beside says (codes ",") refl

-- With true `&`, and else nothing.
abbrev pub lender : Bool → Printout
lender false = nothing
lender true = says (codes "&") refl

-- What stands before the value of an entry, and with true the `&` of the value.
abbrev pub entry_front : EntryKey → Bool → Printout
entry_front key by_reference = entry_key key beside lender by_reference

-- `( "key" , x )` and the like.
abbrev pub entry_arguments : EntryKey → Bool → Printout → Printout
entry_arguments key by_reference x = in_round (entry_front key by_reference beside x)

-- `builder . field` or `builder . entry`.
abbrev pub entry_start : Ident → EntryKey → Printout
entry_start builder key = name builder beside entry_call key

-- `( "key" , x ) ;` and the like.
abbrev pub entry_rest : EntryKey → Bool → Printout → Printout
entry_rest key by_reference x = entry_arguments key by_reference x beside says (codes ";") refl

-- `builder . field ( "key" , x ) ;` and the like.
abbrev pub entry_printout : Ident → EntryKey → Bool → Printout → Printout
entry_printout builder key by_reference x = entry_start builder key beside entry_rest key by_reference x

-- `builder . finish ( )`.
abbrev pub finish_printout : Ident → Printout
finish_printout builder = name builder beside says (codes ". finish ( )") refl

-- ---- the helper type of a map's keys

-- `( & 'static :: core :: primitive :: str )`.
abbrev pub helper_field : Printout
helper_field = in_round (says (codes "&") refl beside lifetime_text (codes "'static") refl beside says (codes ":: core :: primitive :: str") refl)

-- `struct Helper ( & 'static :: core :: primitive :: str ) ;`.
abbrev pub helper_struct : Ident → Printout
helper_struct helper = says (codes "struct") refl beside name helper beside helper_field beside says (codes ";") refl

-- `self . 0`.
abbrev pub first_of_self : Printout
first_of_self = says (codes "self .") refl beside number (codes "0") refl

-- `fn fmt .. { f . write_str ( self . 0 ) }`.
abbrev pub helper_function : Ident → Printout
helper_function formatter = fmt_head (name formatter) beside in_curly (write_str_printout formatter first_of_self)

-- `impl :: core :: fmt :: Debug for Helper { fn fmt .. { f . write_str ( self . 0 ) } }`.
abbrev pub helper_impl : Ident → Ident → Printout
helper_impl helper formatter = says (codes "impl :: core :: fmt :: Debug for") refl beside name helper beside in_curly (helper_function formatter)

-- The helper type of a map's keys, and its `Debug`.
abbrev pub helper_printout : Ident → Ident → Printout
helper_printout helper formatter = helper_struct helper beside helper_impl helper formatter

-- ---- the arguments of methods

-- `V : ? Sized , F`.
abbrev pub wrapper_parameters : ArgumentNames → Printout
wrapper_parameters names = name names.value_type beside says (codes ": ? Sized ,") refl beside name names.function_type

-- `V , F`.
abbrev pub wrapper_arguments : ArgumentNames → Printout
wrapper_arguments names = name names.value_type beside says (codes ",") refl beside name names.function_type

-- `< 'a , V : ? Sized , F >`.
abbrev pub wrapper_generics : ArgumentNames → Printout
wrapper_generics names = in_angle (lifetime_text (codes "'a") refl beside says (codes ",") refl beside wrapper_parameters names)

-- `( & 'a V , F )`.
abbrev pub wrapper_fields : ArgumentNames → Printout
wrapper_fields names = in_round (says (codes "&") refl beside lifetime_text (codes "'a") refl beside wrapper_arguments names)

-- `struct W < 'a , V : ? Sized , F > ( & 'a V , F ) ;`.
abbrev pub wrapper_struct : ArgumentNames → Printout
wrapper_struct names = says (codes "struct") refl beside name names.wrapper beside wrapper_generics names beside wrapper_fields names beside says (codes ";") refl

-- `impl < V : ? Sized , F > :: core :: fmt :: Debug for`.
abbrev pub wrapper_start : ArgumentNames → Printout
wrapper_start names = says (codes "impl") refl beside in_angle (wrapper_parameters names) beside says (codes ":: core :: fmt :: Debug for") refl

-- `< '_ , V , F >`.
abbrev pub own_arguments : ArgumentNames → Printout
own_arguments names = in_angle (lifetime_text (codes "'_") refl beside says (codes ",") refl beside wrapper_arguments names)

-- `W < '_ , V , F >`.
abbrev pub wrapper_type : ArgumentNames → Printout
wrapper_type names = name names.wrapper beside own_arguments names

-- `& V ,`.
abbrev pub method_value : ArgumentNames → Printout
method_value names = says (codes "&") refl beside name names.value_type beside says (codes ",") refl

-- `( & V , & mut :: core :: fmt :: Formatter < '_ > )`.
abbrev pub method_parameters : ArgumentNames → Printout
method_parameters names = in_round (method_value names beside formatter_type)

-- `F : :: core :: ops :: Fn ( & V , & mut :: core :: fmt :: Formatter < '_ > )`.
abbrev pub method_bound : ArgumentNames → Printout
method_bound names = name names.function_type beside says (codes ": :: core :: ops :: Fn") refl beside method_parameters names

-- `where F : :: core :: ops :: Fn ( & V , & mut :: core :: fmt :: Formatter < '_ > ) -> :: core :: fmt :: Result ,`.
abbrev pub wrapper_where : ArgumentNames → Printout
wrapper_where names = says (codes "where") refl beside method_bound names beside fmt_result beside says (codes ",") refl

-- `( self . 1 )`.
abbrev pub method_of_self : Printout
method_of_self = in_round (says (codes "self .") refl beside number (codes "1") refl)

-- `( self . 0 , f )`.
abbrev pub handed_arguments : ArgumentNames → Printout
handed_arguments names = in_round (first_of_self beside says (codes ",") refl beside name names.formatter)

-- `( self . 1 ) ( self . 0 , f )`.
abbrev pub wrapper_call : ArgumentNames → Printout
wrapper_call names = method_of_self beside handed_arguments names

-- `fn fmt .. { ( self . 1 ) ( self . 0 , f ) }`.
abbrev pub wrapper_function : ArgumentNames → Printout
wrapper_function names = fmt_head (name names.formatter) beside in_curly (wrapper_call names)

-- `impl .. :: core :: fmt :: Debug for W .. where .. ,`.
abbrev pub wrapper_head : ArgumentNames → Printout
wrapper_head names = wrapper_start names beside wrapper_type names beside wrapper_where names

-- The impl of the type that wraps a field and its method.
abbrev pub wrapper_impl : ArgumentNames → Printout
wrapper_impl names = wrapper_head names beside in_curly (wrapper_function names)

-- The type that wraps a field and its method, and its impl.
abbrev pub wrapper_printout : ArgumentNames → Printout
wrapper_printout names = wrapper_struct names beside wrapper_impl names

-- `| educe__value : & Type , educe__formatter : & mut :: core :: fmt :: Formatter < '_ > |`.
abbrev pub closure_head : ArgumentNames → Written → Printout
closure_head names ty =
    says (codes "|") refl beside name names.own_value beside says (codes ": &") refl beside written ty
    beside (says (codes ",") refl beside formatter_param (name names.own_formatter) beside says (codes "|") refl)

-- `( educe__value , educe__formatter )`.
abbrev pub closure_arguments : ArgumentNames → Printout
closure_arguments names = in_round (name names.own_value beside says (codes ",") refl beside name names.own_formatter)

-- `m ( educe__value , educe__formatter )`.
abbrev pub closure_call : ArgumentNames → Written → Printout
closure_call names path = written path beside closure_arguments names

-- `| .. | m ( .. )`.
abbrev pub method_closure : ArgumentNames → Written → Written → Printout
method_closure names ty path = closure_head names ty beside closure_call names path

-- `( x , | .. | m ( .. ) )`.
abbrev pub wrapped_arguments : ArgumentNames → Printout → Written → Written → Printout
wrapped_arguments names x ty path = in_round (x beside says (codes ",") refl beside method_closure names ty path)

-- `W ( x , | .. | m ( .. ) )`.
abbrev pub wrapped : ArgumentNames → Printout → Written → Written → Printout
wrapped names x ty path = name names.wrapper beside wrapped_arguments names x ty path

-- `let argument =`.
abbrev pub argument_start : ArgumentNames → Printout
argument_start names = says (codes "let") refl beside name names.argument beside says (codes "=") refl

-- `{ struct W .. impl .. W ( x , | .. | m ( .. ) ) }`.
abbrev pub argument_block : ArgumentNames → Printout → Written → Written → Printout
argument_block names x ty path = in_curly (wrapper_printout names beside wrapped names x ty path)

-- `{ struct W .. impl .. W ( x , | .. | m ( .. ) ) } ;`.
abbrev pub argument_rest : ArgumentNames → Printout → Written → Written → Printout
argument_rest names x ty path = argument_block names x ty path beside says (codes ";") refl

-- `let argument = { struct W .. impl .. W ( x , | .. | m ( .. ) ) } ;`.
abbrev pub method_argument : ArgumentNames → Printout → Written → Written → Printout
method_argument names x ty path = argument_start names beside argument_rest names x ty path
