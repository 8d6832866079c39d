-- A name is one token, so that reading it is never too deep.
use Rattle.std.proofs.Common.{◌≡◌, ◌≢◌, ℕ, inl, inr, sym, ap, ◌∙◌, Some, Result, Ok, Err}
use Rattle.std.specs.Prelude.{IfErr}
use Rattle.educe_tokens.specs.declared.error.EduceError.{EduceError}
use Rattle.educe_tokens.specs.declared.error.Kind.TheVariants as kind
use Rattle.educe_tree.specs.declared.ident.Ident.{Ident}
use Rattle.educe_grammar.specs.declared.parse_error.ParseError.{ParseError}
use Rattle.educe_grammar.specs.declared.parse_error.ParseError.TheVariants.{Memory, Syntax, TooDeep}
use Rattle.educe_grammar.specs.declared.terminal.Terminal.TheVariants.{Name}
use Rattle.educe_grammar.specs.Names.{name, name_of}
use Rattle.educe_grammar.specs.Parsed.{depth_limit, stop_of, refusal_of}
use Rattle.educe_grammar.specs.Reads.{read}
use Rattle.educe_grammar.specs.Running.{run}
use Rattle.educe_grammar.specs.Steps.{Tokens, expect}
use Rattle.educe_grammar.specs.Terminals.{accepts}
use Rattle.educe_grammar.proofs.Failing.{expect_fails, made_fails}
use Rattle.educe_syntax.specs.Answers.{IsAnswer}
use Rattle.educe_grammar.proofs.Decided.{deep_stop}

-- the program of a name never stops so
name_shallow : (tokens : Tokens) (left : ℕ) → read depth_limit name tokens ≡ Err (TooDeep left) → ⊥
unfolding name run
name_shallow tokens left h = expect_fails (accepts Name) tokens left (made_fails (expect (accepts Name) tokens) (λ found _. name_of found) left h)

-- the rejection where the program of a name stops is not that of too deep nesting
stop_shallow : (tokens : Tokens) (error : ParseError) → stop_of (read depth_limit name tokens) ≡ Some error → (refusal_of tokens error).kind ≢ kind.TooDeep
stop_shallow tokens Memory stop = λ deep. cc
stop_shallow tokens (Syntax left) stop = λ deep. cc
stop_shallow tokens (TooDeep left) stop = absurd (name_shallow tokens left (deep_stop (read depth_limit name tokens) left stop))

-- the rejection that is answered for a name is not that of too deep nesting
pub answer_shallow : (tokens : Tokens) (result : Result Ident EduceError) → IsAnswer (read depth_limit name) tokens result → IfErr result (λ e. e.kind ≢ kind.TooDeep)
answer_shallow tokens (Ok x) is = tt
answer_shallow tokens (Err e) (inl short) = λ deep. (let same = sym (ap (λ (e : EduceError). e.kind) short) ∙ deep in cc)
answer_shallow tokens (Err e) (inr stop) = λ deep. stop_shallow tokens stop.0 stop.1 (sym (ap (λ (e : EduceError). e.kind) stop.2) ∙ deep)
