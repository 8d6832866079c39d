-- The values of literals between quotes, character by character.
use Rattle.std.proofs.Common.{◌≡◌, ℕ, ◌+◌, ◌<◌, cond, Option, Some, true, Result, Ok, Err, List, [], ◌∷◌, ◌++◌, length, drop, get_or, ◌⊎◌, is_ok, sym, ap, ◌∙◌, ⊎_elim, arith, append_assoc, append-nil, chars}
use Rattle.std.specs.Prelude.{OnOk, option_to_list}
use Rattle.std.specs.Char.{encode_utf8}
use Rattle.std.specs.Str.{IsUtf8}
use Rattle.std.proofs.lemmas.List.{drop_all}
use Rattle.std.proofs.lemmas.Str.{chars_from_encodes, encodes-append, encodes-chars}
use Rattle.educe_tokens_pieces.specs.declared.quotes.Quote.TheVariants.{Str}
use Rattle.educe_tokens_pieces.specs.declared.quotes.Within.{Within}
use Rattle.educe_tokens_pieces.specs.declared.quotes.Within.TheVariants.{Open}
use Rattle.educe_tokens_pieces.specs.declared.quotes.Next.{Next}
use Rattle.educe_tokens_pieces.specs.declared.quotes.Next.TheVariants.{Go, End, Stop}
use Rattle.educe_tokens_pieces.specs.Quotes.{Part, IsBody, value_of}
use Rattle.educe_tokens_pieces.specs.Machine.{step, gives, ends, given, is_str}
use Rattle.educe_tokens_pieces.proofs.Bodies.{body_ends, ends_body}
use Rattle.educe_tokens_pieces.proofs.Lists.{from_index}
use Rattle.educe_tokens_pieces.proofs.Parts.{rest_given}
use Rattle.educe_tokens_pieces.proofs.Quoted.{str_parts}

-- a text with one character more
chars-push : (old new : List ℕ) (c : ℕ) → IsUtf8 old → IsUtf8 new → new ≡ old ++ encode_utf8 c → chars new ≡ chars old ++ c ∷ []
chars-push old new c from to e =
    sym (chars_from_encodes (chars old ++ c ∷ []) new to (encodes-append (chars old) (c ∷ []) ∙ (λ i. encodes-chars old from i ++ append-nil (encode_utf8 c) i) ∙ sym e))

-- the value so far, after a character was pushed to it
pub pushed : {A E : Type 0} (r : Result A E) (old new : List ℕ) (c : ℕ) (o : Option ℕ) → IsUtf8 old → IsUtf8 new → new ≡ cond (is_ok r) (old ++ encode_utf8 c) old → o ≡ Some c → OnOk r (chars new ≡ chars old ++ option_to_list o)
pushed (Ok a) old new c o from to e is = chars-push old new c from to e ∙ ap (λ p. chars old ++ option_to_list p) (sym is)
pushed (Err a) old new c o from to e is = tt

-- what a text gives from its character at an index on
given_at : (text : List ℕ) (i c : ℕ) (w : Within) (x : Next) → i < length text → c ≡ get_or text i c → step w c ≡ x → given w (drop i text) ≡ rest_given (gives w c) x (drop (i + 1) text)
given_at text i c w x h item e = ap (given w) (from_index text i c h item) ∙ ap (λ y. rest_given (gives w c) y (drop (i + 1) text)) e

-- the value so far and what the rest gives, one character further
pub value_more : (whole old new text : List ℕ) (i c : ℕ) (w more : Within) → whole ≡ old ++ given w (drop i text) → i < length text → c ≡ get_or text i c → step w c ≡ Go more → new ≡ old ++ gives w c → whole ≡ new ++ given more (drop (i + 1) text)
value_more whole old new text i c w more front h item e grown =
    front ∙ ap (λ v. old ++ v) (given_at text i c w (Go more) h item e) ∙ sym (append_assoc old (gives w c) (given more (drop (i + 1) text)))
    ∙ ap (λ v. v ++ given more (drop (i + 1) text)) (sym grown)

-- the value so far is the whole where the rest gives nothing
value_whole : (whole old rest : List ℕ) → whole ≡ old ++ rest → rest ≡ [] → old ≡ whole
value_whole whole old rest front none = sym (front ∙ ap (λ v. old ++ v) none ∙ append-nil old)

-- the value so far is the whole at the character at which the literal ends, or is none
pub value_here : (whole old text : List ℕ) (i c : ℕ) (w : Within) (x : Next) → whole ≡ old ++ given w (drop i text) → i < length text → c ≡ get_or text i c → x ≡ step w c → (x ≡ End) ⊎ (x ≡ Stop) → old ≡ whole
value_here whole old text i c w x front h item at last =
    value_whole whole old (given w (drop i text)) front
    (⊎_elim (λ e. given_at text i c w End h item (sym at ∙ e)) (λ e. given_at text i c w Stop h item (sym at ∙ e)) last)

-- the value is complete at the end of the text
pub value_end : (whole old text : List ℕ) (i : ℕ) (w : Within) → whole ≡ old ++ given w (drop i text) → i ≡ length text → old ≡ whole
value_end whole old text i w front all = value_whole whole old (given w (drop i text)) front (ap (given w) (drop_all i text (omega (arith, all))))

-- what a string gives is the value of the parts that it consists of
pub str_parts_value : (literal value : List ℕ) → is_str literal ≡ true → value ≡ given (Open Str) (drop 1 literal) → (parts : List Part) × IsBody Str (drop 1 literal) parts × (value ≡ value_of parts)
str_parts_value literal value h e =
    let p = str_parts literal h in
    let b = ends_body Str (drop 1 literal) (ap (λ s. ends (Open Str) (drop 1 s)) p.1 ∙ p.2) in
    (b.0, b.1, e ∙ (body_ends Str (drop 1 literal) b.0 b.1).1)
