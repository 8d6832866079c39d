-- What a step that notes did where it came to an end.
use Rattle.std.proofs.Common.{◌≡◌, ℕ, Bool, true, false, ◌++◌, refl, ap, sym, subst, ◌∙◌, ◌⊎◌, inl, inr, cond, Result, Ok, Err}
use Rattle.std.proofs.lemmas.List.{append_cancel_right}
use Rattle.educe_grammar.specs.declared.parse_stream.ParseStream.{ParseStream}
use Rattle.educe_grammar.specs.NotedReads.{read}
use Rattle.educe_grammar.specs.Noting.{Noted, Noter, and_then, onto, plainly}
use Rattle.educe_grammar.specs.Reading.{Parses}
use Rattle.educe_grammar.specs.Reads.{parts}
use Rattle.educe_grammar.specs.Rules.{Rule}
use Rattle.educe_grammar.specs.Steps.{Tokens, Outcome, Parser}
use Rattle.educe_grammar.proofs.Forgetting.{forget_ok}
use Rattle.educe_grammar.proofs.Sound.{reads_sound}
use Rattle.educe_grammar.proofs.Steps.{ok_same}

-- equal outcomes have equal values and equal rests
pub both_same : {A : Type 0} {x y : A} {s t : ParseStream} → ◌≡◌ {A = Noted A} (Ok (x, s)) (Ok (y, t)) → (x ≡ y) × (s ≡ t)
both_same h = let e = ok_same h in (ap (λ p. p.0) e, ap (λ p. p.1) e)

-- a step that came to an end: what its first part gave
pub record Went {A B : Type 0} (p : Noted A) (f : A → Noter B) (y : B) (rest : ParseStream) : Type 0 where
  pub value : A
  pub left : ParseStream
  pub first : p ≡ Ok (value, left)
  pub second : f value left ≡ Ok (y, rest)

-- two steps that came to an end
pub went : {A B : Type 0} (p : Noted A) (f : A → Noter B) (y : B) (rest : ParseStream) → and_then p f ≡ Ok (y, rest) → Went p f y rest
went (Ok x) f y rest h = record { value = x.0; left = x.1; first = refl; second = h }
went (Err e) f y rest h = absurd (cc)

-- which branch was taken
pub chose : {A : Type 0} (b : Bool) (x y : Noted A) (z : Noted A) → cond b x y ≡ z → ((b ≡ true) × (x ≡ z)) ⊎ ((b ≡ false) × (y ≡ z))
chose true x y z h = inl (refl, h)
chose false x y z h = inr (refl, h)

-- what notes nothing
kept : {A : Type 0} (s t : ParseStream) (x : A) (o : Outcome A) → onto s o ≡ Ok (x, t)
    → (o ≡ Ok (x, t.cursor)) × (t.selves ≡ s.selves)
kept s t x (Ok p) h = let e = both_same h in (λ i. Ok (e.0 i, (e.1 i).cursor), ap (λ (u : ParseStream). u.selves) (sym e.1))
kept s t x (Err e) h = absurd (cc)

pub plainly_went : {A : Type 0} (read : Parser A) (s t : ParseStream) (x : A) → plainly read s ≡ Ok (x, t) → (read s.cursor ≡ Ok (x, t.cursor)) × (t.selves ≡ s.selves)
plainly_went read s t x h = kept s t x (read s.cursor) h

-- what is read and noted is by the rule
pub noted_reads : {A : Type 0} (budget : ℕ) (g : Rule A) (s t : ParseStream) (x : A) (front : Tokens) → read budget g s ≡ Ok (x, t) → s.cursor ≡ front ++ t.cursor → Parses parts budget g front x
noted_reads budget g s t x front is all =
    let took = reads_sound budget g s.cursor t.cursor x (forget_ok budget g s t x is) in
    subst (λ us. Parses parts budget g us x) (append_cancel_right took.front front t.cursor (sym took.whole ∙ all)) took.is_in
