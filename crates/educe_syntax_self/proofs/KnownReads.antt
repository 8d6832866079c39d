-- Tokens that have a value are read to that value, unless memory fails, and what is noted of them is known.
use Rattle.std.proofs.Common.{◌≡◌, ℕ, List, [], refl, sym, ap, subst, ◌∙◌, Result, Ok, Err}
use Rattle.std.specs.Prelude.{IfOk, IfErr}
use Rattle.std.specs.declared.alloc.AllocError.{AllocError}
use Rattle.educe_grammar.specs.declared.parse_error.ParseError.{ParseError}
use Rattle.educe_grammar.specs.declared.parse_error.ParseError.TheVariants.{Memory, Syntax, TooDeep}
use Rattle.educe_grammar.specs.declared.parse_stream.ParseStream.{ParseStream}
use Rattle.educe_grammar.specs.declared.parse_stream.SelfPath.{SelfPath}
use Rattle.educe_grammar.specs.Ahead.{at_end}
use Rattle.educe_grammar.specs.NotedReads.{read}
use Rattle.educe_grammar.specs.Noting.{Noted, forget}
use Rattle.educe_grammar.specs.Parsed.{depth_limit, IsWhole}
use Rattle.educe_grammar.specs.Reads.{Reads}
use Rattle.educe_grammar.specs.Rules.{Rule}
use Rattle.educe_grammar.specs.Steps.{Tokens, Gives}
use Rattle.educe_grammar.proofs.Forgetting.{forget_read}
use Rattle.educe_grammar.proofs.ReadsAgain.{ReadsAgain}
use Rattle.educe_grammar.proofs.Steps.{ok_pair}
use Rattle.educe_syntax_self.specs.Splicing.{noted_in, notes_of}
use Rattle.educe_syntax_self.proofs.NotedSteps.{both_same}

-- the tokens, of which nothing is noted yet
abbrev pub unread : Tokens → ParseStream
unread tokens = record { cursor = tokens; selves = [] }

module _ {A : Type 0} (g : Rule A) (again : ReadsAgain g) (budget : ℕ) (tokens : Tokens) (y : A) (is : Reads budget g tokens y) where
  -- what is read of them, with what is noted
  pub read_so : (notes : List SelfPath) × (read budget g (unread tokens) ≡ Ok (y, record { cursor = []; selves = notes }))
  read_so = step (read budget g (unread tokens)) refl (forget_read budget g (unread tokens) ∙ again budget tokens y is)
    where
      step : (o : Noted A) → read budget g (unread tokens) ≡ o → forget o ≡ Ok (y, []) → (notes : List SelfPath) × (read budget g (unread tokens) ≡ Ok (y, record { cursor = []; selves = notes }))
      step (Ok p) found e = let same = ok_pair e in (p.1.selves, found ∙ (λ i. Ok (same.0 i, record { cursor = same.1 i; selves = p.1.selves })))
      step (Err error) found e = absurd (cc)

  -- what is read of a stream that is these tokens, with what is noted
  read_from : (s : ParseStream) → s.cursor ≡ tokens → s.selves ≡ [] → read budget g s ≡ Ok (y, record { cursor = []; selves = read_so.0 })
  read_from s at none = ap (read budget g) (λ i. record { cursor = at i; selves = none i }) ∙ read_so.1

  -- no other error comes
  only_error : (s new : ParseStream) (e : ParseError) → s.cursor ≡ tokens → s.selves ≡ [] → Gives (read budget g s) (Err e) new → e ≡ Memory
  only_error s new Memory at none gives = refl
  only_error s new (Syntax left) at none gives = absurd (let read = gives (λ h. cc) in let value = read_from s at none in cc)
  only_error s new (TooDeep left) at none gives = absurd (let read = gives (λ h. cc) in let value = read_from s at none in cc)

  pub only_memory : (s new : ParseStream) (result : Result A ParseError) → s.cursor ≡ tokens → s.selves ≡ [] → Gives (read budget g s) result new → IfErr result (λ e. e ≡ Memory)
  only_memory s new (Ok x) at none gives = tt
  only_memory s new (Err e) at none gives = only_error s new e at none gives

  -- the value is the one that was known
  pub found_again : (s new : ParseStream) (result : Result A ParseError) (answer : Result A AllocError) → s.cursor ≡ tokens → s.selves ≡ [] → IfOk answer (λ found. result ≡ Ok found)
      → Gives (read budget g s) result new → IfOk answer (λ found. Reads budget g tokens found)
  found_again s new result (Ok x) at none same gives =
      let found = subst (λ (r : Result A ParseError). Gives (read budget g s) r new) same gives in subst (Reads budget g tokens) (both_same (sym (read_from s at none) ∙ found)).0 is
  found_again s new result (Err e) at none same gives = tt

-- what is noted of a whole list
pub notes_known : {A : Type 0} (g : Rule A) → ReadsAgain g → (tokens : Tokens) (x : A) → IsWhole g tokens x → read depth_limit g (unread tokens) ≡ Ok (x, record { cursor = []; selves = notes_of g tokens })
unfolding notes_of at_end read_so
notes_known g again tokens x is =
    let so = read_so g again depth_limit tokens x is in so.1 ∙ (λ i. Ok (x, record { cursor = []; selves = sym (ap noted_in so.1) i }))

-- what is noted of a whole list, where a call reads it
pub notes_found : {A : Type 0} (g : Rule A) → ReadsAgain g → (tokens : Tokens) (y : A) → IsWhole g tokens y → (s new : ParseStream) (result : Result A ParseError) (x : A) → s.cursor ≡ tokens → s.selves ≡ []
    → result ≡ Ok x → Gives (read depth_limit g s) result new → new.selves ≡ notes_of g tokens
notes_found {A = A} g again tokens y is s new result x at none same gives =
    let found = subst (λ (r : Result A ParseError). Gives (read depth_limit g s) r new) same gives in
    let own = ap (read depth_limit g) (λ i. record { cursor = at i; selves = none i }) ∙ notes_known g again tokens y is in
    ap (λ (u : ParseStream). u.selves) (both_same (sym found ∙ own)).1
