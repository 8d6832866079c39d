-- The laws of parsing: of rules, definitions, places, parts and types.
use Rattle.std.specs.Prelude.{◌≡◌, ◌⊎◌, ◌↔◌, ℕ, List, [], true, Ok}
use Rattle.std.specs.List.{AllByRecursion}
use Rattle.std.proofs.Common.{sym, subst}
use Rattle.educe_tokens.specs.declared.error.EduceError.{EduceError}
use Rattle.educe_tokens.specs.declared.span.Span.{Span}
use Rattle.educe_tokens.specs.declared.token.Token.{Token}
use Rattle.educe_tokens.specs.Causes.{HasCause}
use Rattle.educe_tree.specs.declared.attr.Meta.{Meta}
use Rattle.educe_tree.specs.declared.derive.DeriveInput.{DeriveInput}
use Rattle.educe_tree.specs.declared.ty.Ty.{Ty}
use Rattle.educe_grammar.specs.Alike.{AreEqualAside, AlikeTypes}
use Rattle.educe_grammar.specs.Attributes.{metas}
use Rattle.educe_grammar.specs.Causes.{IsUncaused, IsSingle, IsReported, IsDecided}
use Rattle.educe_grammar.specs.Definitions.{definition}
use Rattle.educe_grammar.specs.Expressions.{expr_path, expression}
use Rattle.educe_grammar.specs.Generics.{predicates}
use Rattle.educe_grammar.specs.Names.{name}
use Rattle.educe_grammar.specs.Parsed.{depth_limit, IsWhole, IsParseCause}
use Rattle.educe_grammar.specs.Placed.{HasPlace, IsSpan, AreMetasPlaced, IsDefinitionPlaced}
use Rattle.educe_grammar.specs.Readings.{HasReadParts}
use Rattle.educe_grammar.specs.Reads.{Reads, read}
use Rattle.educe_grammar.specs.Refusal.{IsDefinition, IsRefusalOf}
use Rattle.educe_grammar.specs.Rules.{Rule}
use Rattle.educe_grammar.specs.Steps.{Tokens}
use Rattle.educe_grammar.specs.Types.{any_type}
use Rattle.educe_grammar.specs.Within.{PartLaws}
use Rattle.educe_grammar.proofs.AlikeByTokens as alike
use Rattle.educe_grammar.proofs.Decided as decided
use Rattle.educe_grammar.proofs.OfDefinitions.{definition_parts}
use Rattle.educe_grammar.proofs.Opening.{is_ready}
use Rattle.educe_grammar.proofs.Placed.{definition_stands, shape_within, attrs_within, definition_tokens, metas_stand, metas_within, path_tokens}
use Rattle.educe_grammar.proofs.ReadsAgain as again
use Rattle.educe_grammar.proofs.Ready as ready
use Rattle.educe_grammar.proofs.Refusals as refusals
use Rattle.educe_grammar.proofs.Repeated.{all_at}
use Rattle.educe_grammar.proofs.Reported.{cause_reported, refusal_reported}

-- ---- rules

-- Laws of a rule, for each list of tokens and within the limits.
pub record RuleLaws {A : Type 0} (g : Rule A) : Type 0 where
  -- The list has a reading, or a cause of rejection.
  pub decided : (tokens : Tokens) → IsDecided g tokens
  -- The list has at most one reading.
  pub one_reading : (tokens : Tokens) (x y : A) → IsWhole g tokens x → IsWhole g tokens y → x ≡ y
  -- A list that has a reading has no cause of rejection but out of memory.
  pub uncaused : (tokens : Tokens) (x : A) → IsWhole g tokens x → IsUncaused (IsParseCause g tokens)
  -- The list has at most one cause of rejection.
  pub one_cause : (tokens : Tokens) → IsSingle (IsParseCause g tokens)
  -- A cause of rejection has its place and the words that its message cites.
  pub reported : (tokens : Tokens) (e : EduceError) → IsParseCause g tokens e → IsReported tokens e
  -- The reading is what the program of the rule parses.
  pub by_program : (tokens : Tokens) (x : A) → IsWhole g tokens x ↔ (read depth_limit g tokens ≡ Ok (x, []))

-- The laws hold of a rule whose readings its program parses, and whose nested parts stand behind an opener.
lawful : {A : Type 0} (g : Rule A) → again.ReadsAgain g → is_ready g ≡ true → RuleLaws g
lawful g reads_again is_ready = record {
  decided = decided.decided g reads_again depth_limit is_ready;
  one_reading = again.one_reading g reads_again depth_limit;
  uncaused = refusals.whole_uncaused depth_limit g;
  one_cause = refusals.one_cause depth_limit g;
  reported = cause_reported depth_limit g;
  by_program = λ tokens x. (reads_again depth_limit tokens x, decided.whole_if_read g reads_again depth_limit tokens x);
}

-- The laws of the rule for names.
pub lawful_name : RuleLaws name
lawful_name = lawful name again.name_again ready.name_ready

-- The laws of the rule for paths in expressions.
pub lawful_path : RuleLaws expr_path
lawful_path = lawful expr_path again.expr_path_again ready.expr_path_ready

-- The laws of the rule for expressions.
pub lawful_expression : RuleLaws expression
lawful_expression = lawful expression again.expression_again ready.expression_ready

-- The laws of the rule for predicates.
pub lawful_predicates : RuleLaws predicates
lawful_predicates = lawful predicates again.predicates_again ready.predicates_ready

-- The laws of the rule for metas.
pub lawful_metas : RuleLaws metas
lawful_metas = lawful metas again.metas_again ready.metas_ready

-- The laws of the rule for definitions.
pub lawful_definition : RuleLaws definition
lawful_definition = lawful definition again.definition_again ready.definition_ready

-- ---- definitions

-- Laws of definitions whose names are distinct, for each list of tokens and within the limits.
pub record DefinitionLaws : Type 0 where
  -- The list is such a definition, or has a cause of rejection.
  pub decided : (tokens : Tokens) → ((found : DeriveInput) × IsDefinition tokens found) ⊎ HasCause (IsRefusalOf tokens)
  -- A list that is such a definition has no cause of rejection but out of memory.
  pub uncaused : (tokens : Tokens) (found : DeriveInput) → IsDefinition tokens found → IsUncaused (IsRefusalOf tokens)
  -- The list has at most one cause of rejection.
  pub one_cause : (tokens : Tokens) → IsSingle (IsRefusalOf tokens)
  -- A cause of rejection has its place and the words that its message cites.
  pub reported : (tokens : Tokens) (e : EduceError) → IsRefusalOf tokens e → IsReported tokens e
  -- In a parsed definition names are names, and each type, parameter and predicate is the reading of its tokens.
  pub parts : (tokens : Tokens) (found : DeriveInput) → IsWhole definition tokens found → HasReadParts found

-- The laws of definitions hold.
pub lawful_definitions : DefinitionLaws
lawful_definitions = record {
  decided = decided.definition_decided;
  uncaused = refusals.definition_uncaused;
  one_cause = refusals.one_refusal;
  reported = refusal_reported;
  parts = definition_parts;
}

-- ---- places

-- Laws of places: the parts of a tree lie at the places of its tokens.
pub record PlaceLaws : Type 0 where
  pub definitions : (tokens : Tokens) (found : DeriveInput) → IsWhole definition tokens found → IsDefinitionPlaced tokens found
  pub metas : (tokens : Tokens) (found : List Meta) → IsWhole metas tokens found → AreMetasPlaced tokens found

-- The laws of places hold of definitions and metas.
pub lawful_places : PlaceLaws
lawful_places = record { definitions = definition_stands; metas = metas_stand }

-- A property of all tokens' spans holds of every span that is a token's.
pub place_has : (P : Span → Type 0) (tokens : Tokens) (place : Span) → AllByRecursion (λ (t : Token). P t.span) tokens → HasPlace tokens place → P place
place_has P tokens place each is = subst P is.at_place (all_at (λ (t : Token). P t.span) is.front is.rest is.found (subst (AllByRecursion (λ (t : Token). P t.span)) is.is each))

-- A property of all offsets where tokens start holds of the start of a span.
pub start_has : (P : ℕ → Type 0) (tokens : Tokens) (span : Span) → AllByRecursion (λ (t : Token). P t.span.start) tokens → IsSpan tokens span → P span.start
start_has P tokens span each is = subst (λ (s : Span). P s.start) (sym is.is) (place_has (λ s. P s.start) tokens is.first each is.first_stands)

-- A property of all offsets where tokens end holds of the end of a span.
pub end_has : (P : ℕ → Type 0) (tokens : Tokens) (span : Span) → AllByRecursion (λ (t : Token). P t.span.end) tokens → IsSpan tokens span → P span.end
end_has P tokens span each is = subst (λ (s : Span). P s.end) (sym is.is) (place_has (λ s. P s.end) tokens is.last each is.last_stands)

-- ---- parts

-- The tokens of a part are tokens of the whole.
pub lawful_parts : PartLaws
lawful_parts = record {
  definition = shape_within;
  attrs = attrs_within;
  definition_tokens = definition_tokens;
  metas = metas_within;
  path = path_tokens;
}

-- ---- types

-- Types that are parsed from lists that are equal, spans and jointness aside, are alike, whatever the budgets.
abbrev pub TypeLaw : Type 0
TypeLaw = (b c : ℕ) (ts us : Tokens) (x y : Ty) → AreEqualAside ts us → Reads b any_type ts x → Reads c any_type us y → AlikeTypes x y

-- The law of types holds.
pub lawful_types : TypeLaw
lawful_types = alike.types_alike
