use Rattle.std.proofs.Common.{◌≡◌, Bool, true, false, IsTrue, Ok, refl, ap, subst, ◌∙◌}
use Rattle.educe_tokens.specs.declared.written.Written.{Written}
use Rattle.educe_tokens.specs.Copied.{may_be_copied}
use Rattle.educe_tokens.specs.Lexes.{lexemes}
use Rattle.educe_grammar.specs.Running.{written_if}
use Rattle.educe_grammar.specs.Noting.{and_then, onto, plainly}
use Rattle.educe_grammar.specs.Steps.{Tokens, since}
use Rattle.educe_grammar.proofs.Steps.{IsTrue-prop}
use Rattle.educe_grammar.proofs.slices.written.Goals as goal

-- what may be copied is kept
kept_if : {A : Type 0} (x : A) (w : Written) (rest : Tokens) (b : Bool) (is : may_be_copied (lexemes w.tokens) ≡ b) → b ≡ true
    → written_if x w.tokens rest b is ≡ Ok ((x, w), rest)
kept_if x w rest true is e =
    ap (λ (p : IsTrue (may_be_copied (lexemes w.tokens))). Ok ((x, record { tokens = w.tokens; written = p }), rest)) (IsTrue-prop (may_be_copied (lexemes w.tokens)) is w.written)
kept_if x w rest false is e = absurd (cc)

abbrev Keeps : {A : Type 0} → A → Written → Tokens → Tokens → Type 0
Keeps x w rest tokens = written_if x tokens rest (may_be_copied (lexemes tokens)) refl ≡ Ok ((x, w), rest)

kept : {A : Type 0} (x : A) (w : Written) (rest tokens : Tokens) → w.tokens ≡ tokens → Keeps x w rest tokens
kept x w rest tokens same = subst (Keeps x w rest) same (kept_if x w rest (may_be_copied (lexemes w.tokens)) refl w.written)

pub returns : goal.returns
returns g c =
    let tokens : c.new.result.tokens ≡ since c.args.input.now.cursor c.parse.new.input.cursor = c.new.ensures ∙ c.in_ok-tokens.ensures ∙ ap (λ start. since start c.parse.new.input.cursor) c.mark-start.ensures in
    ap (λ o. and_then o (λ x. plainly (λ rest. written_if x (since c.args.input.now.cursor rest) rest (may_be_copied (lexemes (since c.args.input.now.cursor rest))) refl))) c.in_ok-found.ensures
    ∙ ap (onto c.parse.new.input) (kept c.in_ok-found.found c.new.result c.parse.new.input.cursor _ tokens)
