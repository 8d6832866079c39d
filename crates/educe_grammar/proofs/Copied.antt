-- What these rules read may be copied, since none of it is documentation.
use Rattle.std.proofs.Common.{◌≡◌, ℕ, true, IsTrue, Ok, refl}
use Rattle.educe_tokens.specs.Copied.{may_be_copied}
use Rattle.educe_tokens.specs.Lexes.{lexemes}
use Rattle.educe_grammar.specs.declared.parse_stream.ParseStream.{ParseStream}
use Rattle.educe_grammar.specs.Noting.{IsCopied}
use Rattle.educe_grammar.specs.Steps.{since}
use Rattle.educe_grammar.specs.Expressions.{any_expr_path, operation}
use Rattle.educe_grammar.specs.NotedReads.{read}
use Rattle.educe_grammar.specs.declared.terminal.Terminal.TheVariants as terminal
use Rattle.educe_grammar.specs.Names.{simple_path}
use Rattle.educe_grammar.specs.Expressions.{group}
use Rattle.educe_grammar.specs.Generics.{bounded_lifetime, bounded_name, typed_const, any_predicate}
use Rattle.educe_grammar.specs.Attributes.{unread_value}
use Rattle.educe_grammar.specs.Rules.{Rule}
use Rattle.educe_grammar.specs.Types.{constant, one_bound_form, any_bounds_form}
use Rattle.educe_grammar.proofs.Balanced.{copied_since}
use Rattle.educe_grammar.proofs.Forgetting.{forget_ok}
use Rattle.educe_grammar.proofs.Keeping.{has_no_documentation}
use Rattle.educe_grammar.proofs.Productions.{productions}

-- what the rule reads may be copied
abbrev pub MayBeCopied : {A : Type 0} → Rule A → Type 0
MayBeCopied g = (budget : ℕ) → IsCopied (read budget g)

-- a rule without documentation
noted_since : {A : Type 0} (budget : ℕ) (g : Rule A) (s t : ParseStream) (x : A) → has_no_documentation g ≡ true → read budget g s ≡ Ok (x, t)
    → IsTrue (may_be_copied (lexemes (since s.cursor t.cursor)))
noted_since budget g s t x none is = copied_since budget g s.cursor t.cursor x none (forget_ok budget g s t x is)

-- of `constant`
pub constant_copied : MayBeCopied constant
unfolding has_no_documentation productions
constant_copied budget s t x is = noted_since budget constant s t x refl is

-- of `words`
pub words_copied : MayBeCopied (simple_path terminal.AnyWord)
unfolding has_no_documentation productions
words_copied budget s t x is = noted_since budget (simple_path terminal.AnyWord) s t x refl is

-- of `group`
pub group_copied : MayBeCopied group
unfolding has_no_documentation productions
group_copied budget s t x is = noted_since budget group s t x refl is

-- of `unread_value`
pub unread_value_copied : MayBeCopied unread_value
unfolding has_no_documentation productions
unread_value_copied budget s t x is = noted_since budget unread_value s t x refl is

-- of `bounded_lifetime`
pub bounded_lifetime_copied : MayBeCopied bounded_lifetime
unfolding has_no_documentation productions
bounded_lifetime_copied budget s t x is = noted_since budget bounded_lifetime s t x refl is

-- of `bounded_name`
pub bounded_name_copied : MayBeCopied bounded_name
unfolding has_no_documentation productions
bounded_name_copied budget s t x is = noted_since budget bounded_name s t x refl is

-- of `typed_const`
pub typed_const_copied : MayBeCopied typed_const
unfolding has_no_documentation productions
typed_const_copied budget s t x is = noted_since budget typed_const s t x refl is

-- of `any_predicate`
pub any_predicate_copied : MayBeCopied any_predicate
unfolding has_no_documentation productions
any_predicate_copied budget s t x is = noted_since budget any_predicate s t x refl is

-- of `one_bound_form`
pub one_bound_form_copied : MayBeCopied one_bound_form
unfolding has_no_documentation productions
one_bound_form_copied budget s t x is = noted_since budget one_bound_form s t x refl is

-- of `any_bounds_form`
pub any_bounds_form_copied : MayBeCopied any_bounds_form
unfolding has_no_documentation productions
any_bounds_form_copied budget s t x is = noted_since budget any_bounds_form s t x refl is

-- of `any_expr_path`
pub any_expr_path_copied : MayBeCopied any_expr_path
unfolding has_no_documentation productions
any_expr_path_copied budget s t x is = noted_since budget any_expr_path s t x refl is

-- of `operation`
pub operation_copied : MayBeCopied operation
unfolding has_no_documentation productions
operation_copied budget s t x is = noted_since budget operation s t x refl is
