-- A program that notes reads what the one that doesn't note reads.
use Rattle.std.proofs.Common.{◌≡◌, ℕ, zero, suc, ◌-◌, Bool, true, false, if◌then◌else◌, List, [], ◌∷◌, ◌++◌, length, drop, refl, sym, ap, ◌∙◌, Option, Some, None, Result, Ok, Err}
use Rattle.educe_tokens.specs.declared.token.Token.{Token}
use Rattle.educe_tokens.specs.Lexes.{lexemes}
use Rattle.educe_tokens.specs.Copied.{may_be_copied}
use Rattle.educe_grammar.specs.declared.operator.Operator.{Operator}
use Rattle.educe_grammar.specs.declared.parse_error.ParseError.{ParseError}
use Rattle.educe_grammar.specs.declared.parse_error.ParseError.TheVariants.{Syntax, TooDeep}
use Rattle.educe_grammar.specs.declared.parse_stream.ParseStream.{ParseStream}
use Rattle.educe_grammar.specs.declared.terminal.Keyword.TheVariants.{SelfType}
use Rattle.educe_grammar.specs.declared.terminal.Terminal.TheVariants.{Sign, Word}
use Rattle.educe_grammar.specs.Terminals.{accepts}
use Rattle.educe_grammar.specs.Steps.{Outcome, Parser, and_then, expect, enter, since}
use Rattle.educe_grammar.specs.Ahead.{Look, sees_any, sees, opens, closes, documents, begins_pair, begins_lone}
use Rattle.educe_grammar.specs.Operators.{operator_at}
use Rattle.educe_grammar.specs.Reading.{chain_limit}
use Rattle.educe_grammar.specs.Rules.{Rule, token, documentation, empty, both, made, checked, either, prefer, operator, lone, binary, nest, angles, under, arrow, list, many, chain, path, sliced, written, part, Part, TreeOf}
use Rattle.educe_grammar.specs.Running as plain
use Rattle.educe_grammar.specs.Running.{Readers, skip_if, written_if}
use Rattle.educe_grammar.specs.Noting as noting
use Rattle.educe_grammar.specs.Noting.{Noted, Noter, Noters, onto, plainly, forget, Forgets}
use Rattle.educe_grammar.specs.Reads as reads
use Rattle.educe_grammar.specs.Reads.{rule_of}
use Rattle.educe_grammar.specs.NotedReads as noted_reads

-- ---- steps

forget_then : {A B : Type 0} (o : Noted A) (p : Outcome A) (f : A → Noter B) (h : A → Parser B) → forget o ≡ p → ((x : A) → Forgets (f x) (h x))
    → forget (noting.and_then o f) ≡ and_then p h
forget_then (Ok q) p f h e same = same q.0 q.1 ∙ ap (λ o. and_then o h) e
forget_then (Err x) p f h e same = ap (λ o. and_then o h) e

forget_kept : {A : Type 0} (s : ParseStream) (o : Outcome A) → forget (onto s o) ≡ o
forget_kept s (Ok p) = refl
forget_kept s (Err e) = refl

-- what notes nothing
forget_plainly : {A : Type 0} (read : Parser A) → Forgets (plainly read) read
forget_plainly read s = forget_kept s (read s.cursor)

-- one of two
forget_if : {A : Type 0} (b : Bool) (o p : Noted A) (q r : Outcome A) → forget o ≡ q → forget p ≡ r → forget (if b then o else p) ≡ (if b then q else r)
forget_if true o p q r first second = first
forget_if false o p q r first second = second

-- what goes on with nothing
then_pure : {A : Type 0} (p : Outcome A) → and_then p (λ x ts. Ok (x, ts)) ≡ p
then_pure (Ok q) = refl
then_pure (Err e) = refl

-- ---- loops

module _ {A : Type 0} (note : Noter A) (read : Parser A) (same : Forgets note read) where
  forget_items : (separates : Token → Bool) (stop : Look) (turns : ℕ) (found : List A) → Forgets (noting.items separates stop note turns found) (plain.items separates stop read turns found)
  unfolding noting.items plain.items
  forget_items separates stop zero found s = refl
  forget_items separates stop (suc turns) found s =
      forget_if (sees_any stop s.cursor) _ _ _ _ refl
      (forget_then (note s) (read s.cursor) _ _ (same s) (λ x s. forget_if (sees separates s.cursor) _ _ _ _ (forget_items separates stop turns (found ++ x ∷ []) (record { cursor = drop 1 s.cursor; selves = s.selves })) refl))

  forget_repeat : (look : Look) (turns : ℕ) (found : List A) → Forgets (noting.repeat look note turns found) (plain.repeat look read turns found)
  unfolding noting.repeat plain.repeat
  forget_repeat look zero found s = refl
  forget_repeat look (suc turns) found s =
      forget_if (sees_any look s.cursor) _ _ _ _ (forget_then (note s) (read s.cursor) _ _ (same s) (λ x. forget_repeat look turns (found ++ x ∷ []))) refl

  forget_links : (look : Look) (left : ℕ) (found : List A) → Forgets (noting.links look note left found) (plain.links look read left found)
  unfolding noting.links plain.links
  forget_links look zero found s = forget_if (sees_any look s.cursor) _ _ _ _ refl refl
  forget_links look (suc left) found s =
      forget_if (sees_any look s.cursor) _ _ _ _ (forget_then (note s) (read s.cursor) _ _ (same s) (λ x. forget_links look left (found ++ x ∷ []))) refl

  -- further items, each behind `::`
  abbrev further : ℕ → List A → Parser (List A)
  further turns found ts = if begins_pair 58 58 ts then plain.segments read turns found (drop 2 ts) else Ok (found, ts)

  forget_further : (turns : ℕ) (found : List A) → Forgets (noting.further note turns found) (further turns found)
  unfolding noting.further plain.segments
  forget_further zero found s = forget_if (begins_pair 58 58 s.cursor) _ _ _ _ refl refl
  forget_further (suc turns) found s =
      forget_if (begins_pair 58 58 s.cursor) _ _ _ _
      (forget_then (note (record { cursor = drop 2 s.cursor; selves = s.selves })) (read (drop 2 s.cursor)) _ _ (same (record { cursor = drop 2 s.cursor; selves = s.selves })) (λ x. forget_further turns (found ++ x ∷ []))) refl

  -- what is noted leaves the tokens as they are
  noted_cursor : (b : Bool) (s t : ParseStream) → s.cursor ≡ t.cursor → (if b then s else t).cursor ≡ t.cursor
  noted_cursor true s t e = e
  noted_cursor false s t e = refl

  forget_segments : Forgets (noting.segments note) (λ ts. plain.segments read (suc (length ts)) [] ts)
  unfolding plain.segments
  forget_segments s =
      forget_then (note s) (read s.cursor) _ _ (same s) (λ x first.
      forget_then (noting.further note (length s.cursor) (x ∷ []) first) (further (length s.cursor) (x ∷ []) first.cursor) _ (λ found ts. Ok (found, ts)) (forget_further (length s.cursor) (x ∷ []) first) (λ found behind.
      ap (λ ts. Ok (found, ts)) (noted_cursor (sees (accepts (Word SelfType)) s.cursor) _ behind refl))
      ∙ then_pure (further (length s.cursor) (x ∷ []) first.cursor))

-- ---- rules

forget_binary : {A : Type 0} (longest : Option (Operator × ℕ)) (note : Noter A) (read : Parser A) → Forgets note read
    → Forgets (noting.binary_with longest note) (plain.binary_with longest read)
forget_binary None note read same s = refl
forget_binary (Some o) note read same s =
    let t : ParseStream = record { cursor = drop o.1 s.cursor; selves = s.selves } in
    forget_then (note t) (read t.cursor) _ _ (same t) (λ x s. refl)

module _ (noters : Noters) (readers : Readers) (same : (budget : ℕ) (p : Part) → Forgets (noters budget p) (readers budget p)) where
  pub forget_run : (budget : ℕ) {A : Type 0} (g : Rule A) → Forgets (noting.run noters budget g) (plain.run readers budget g)
  unfolding noting.run plain.run
  forget_run budget (token asked) s = forget_plainly (expect (accepts asked)) s
  forget_run budget documentation s = forget_plainly (expect documents) s
  forget_run budget (empty x) s = refl
  forget_run budget (both g h) s =
      forget_then (noting.run noters budget g s) (plain.run readers budget g s.cursor) _ _ (forget_run budget g s) (λ x s.
      forget_then (noting.run noters budget h s) (plain.run readers budget h s.cursor) _ _ (forget_run budget h s) (λ y s. refl))
  forget_run budget (made f g) s = forget_then (noting.run noters budget g s) (plain.run readers budget g s.cursor) _ _ (forget_run budget g s) (λ x s. refl)
  forget_run budget (checked test g) s =
      forget_then (noting.run noters budget g s) (plain.run readers budget g s.cursor) _ _ (forget_run budget g s) (λ x s. forget_if (test x) _ _ _ _ refl refl)
  forget_run budget (either look g h) s = forget_if (sees_any look s.cursor) _ _ _ _ (forget_run budget g s) (forget_run budget h s)
  forget_run budget (prefer asked g h) s = forget_if (sees (accepts asked) s.cursor) _ _ _ _ (forget_run budget g s) (forget_run budget h s)
  forget_run budget (operator c d) s = forget_plainly (λ ts. skip_if (begins_pair c d ts) 2 ts) s
  forget_run budget (lone c d g) s =
      forget_then (plainly (λ ts. skip_if (begins_lone c d ts) 1 ts) s) (skip_if (begins_lone c d s.cursor) 1 s.cursor) _ _ (forget_plainly (λ ts. skip_if (begins_lone c d ts) 1 ts) s) (λ _. forget_run budget g)
  forget_run budget (binary g) s = forget_binary (operator_at s.cursor) (noting.run noters budget g) (plain.run readers budget g) (forget_run budget g) s
  forget_run budget (nest b g) s =
      forget_then (plainly (expect (opens b)) s) (expect (opens b) s.cursor) _ _ (forget_plainly (expect (opens b)) s) (λ _ t.
      forget_then (plainly (enter budget (length s.cursor)) t) (enter budget (length s.cursor) t.cursor) _ _ (forget_plainly (enter budget (length s.cursor)) t) (λ _ s.
      forget_then (noting.run noters (budget - 1) g s) (plain.run readers (budget - 1) g s.cursor) _ _ (forget_run (budget - 1) g s) (λ x s.
      forget_then (plainly (expect (closes b)) s) (expect (closes b) s.cursor) _ _ (forget_plainly (expect (closes b)) s) (λ _ s. refl))))
  forget_run budget (angles g) s =
      forget_then (plainly (λ ts. skip_if (begins_lone 60 61 ts) 1 ts) s) (skip_if (begins_lone 60 61 s.cursor) 1 s.cursor) _ _ (forget_plainly (λ ts. skip_if (begins_lone 60 61 ts) 1 ts) s) (λ _ t.
      forget_then (plainly (enter budget (length s.cursor)) t) (enter budget (length s.cursor) t.cursor) _ _ (forget_plainly (enter budget (length s.cursor)) t) (λ _ s.
      forget_then (noting.run noters (budget - 1) g s) (plain.run readers (budget - 1) g s.cursor) _ _ (forget_run (budget - 1) g s) (λ x s.
      forget_then (plainly (expect (accepts (Sign 62))) s) (expect (accepts (Sign 62)) s.cursor) _ _ (forget_plainly (expect (accepts (Sign 62))) s) (λ _ s. refl))))
  forget_run budget (under asked g) s =
      forget_then (plainly (expect (accepts asked)) s) (expect (accepts asked) s.cursor) _ _ (forget_plainly (expect (accepts asked)) s) (λ _ t.
      forget_then (plainly (enter budget (length s.cursor)) t) (enter budget (length s.cursor) t.cursor) _ _ (forget_plainly (enter budget (length s.cursor)) t) (λ _. forget_run (budget - 1) g))
  forget_run budget (arrow g) s =
      forget_then (plainly (λ ts. skip_if (begins_pair 45 62 ts) 2 ts) s) (skip_if (begins_pair 45 62 s.cursor) 2 s.cursor) _ _ (forget_plainly (λ ts. skip_if (begins_pair 45 62 ts) 2 ts) s) (λ _ t.
      forget_then (plainly (enter budget (length s.cursor)) t) (enter budget (length s.cursor) t.cursor) _ _ (forget_plainly (enter budget (length s.cursor)) t) (λ _. forget_run (budget - 1) g))
  forget_run budget (list separator stop g) s = forget_items (noting.run noters budget g) (plain.run readers budget g) (forget_run budget g) (accepts separator) stop (suc (length s.cursor)) [] s
  forget_run budget (many look g) s = forget_repeat (noting.run noters budget g) (plain.run readers budget g) (forget_run budget g) look (suc (length s.cursor)) [] s
  forget_run budget (chain look g) s = forget_links (noting.run noters budget g) (plain.run readers budget g) (forget_run budget g) look chain_limit [] s
  forget_run budget (path g) s = forget_segments (noting.run noters budget g) (plain.run readers budget g) (forget_run budget g) s
  forget_run budget (sliced g) s = forget_then (noting.run noters budget g s) (plain.run readers budget g s.cursor) _ _ (forget_run budget g s) (λ x t. refl)
  forget_run budget (written g) s =
      forget_then (noting.run noters budget g s) (plain.run readers budget g s.cursor) _ _ (forget_run budget g s) (λ x.
      forget_plainly (λ rest. written_if x (since s.cursor rest) rest (may_be_copied (lexemes (since s.cursor rest))) refl))
  forget_run budget (part p) s = same budget p s

forget_below : (n budget : ℕ) (p : Part) → Forgets (noted_reads.readers_below n budget p) (reads.readers_below n budget p)
unfolding noted_reads.readers_below reads.readers_below
forget_below zero budget p s = refl
forget_below (suc n) budget p s = forget_run (noted_reads.readers_below n) (reads.readers_below n) (forget_below n) budget (rule_of p) s

-- the program of the rule that notes reads what its program reads
pub forget_read : (budget : ℕ) {A : Type 0} (g : Rule A) → Forgets (noted_reads.read budget g) (reads.read budget g)
forget_read budget g = forget_run noted_reads.readers reads.readers (λ budget. forget_below (suc budget) budget) budget g

-- what is read and noted is read
pub forget_ok : {A : Type 0} (budget : ℕ) (g : Rule A) (s t : ParseStream) (x : A) → noted_reads.read budget g s ≡ Ok (x, t) → reads.read budget g s.cursor ≡ Ok (x, t.cursor)
forget_ok budget g s t x is = sym (forget_read budget g s) ∙ ap forget is

-- what is rejected is rejected
pub forget_err : {A : Type 0} (budget : ℕ) (g : Rule A) (s : ParseStream) (e : ParseError) → noted_reads.read budget g s ≡ Err e → reads.read budget g s.cursor ≡ Err e
forget_err budget g s e is = sym (forget_read budget g s) ∙ ap forget is
