-- What stands before the item of a definition, and the word `union` behind it.
use Rattle.std.proofs.Common.{◌≡◌, List, ◌∷◌, refl, ap, sym, ◌∙◌, Option, Some, None, Ok, Err, codes}
use Rattle.std.specs.Prelude.{IfSome, IfNone}
use Rattle.std.specs.Str.{chars}
use Rattle.educe_tokens.specs.declared.token.Token.{Token}
use Rattle.educe_tree.specs.declared.attr.Attribute.{Attribute}
use Rattle.educe_grammar.specs.declared.parse_error.ParseError.{ParseError}
use Rattle.educe_grammar.specs.Combining.{unit}
use Rattle.educe_grammar.specs.Parsed.{depth_limit}
use Rattle.educe_grammar.specs.Reads.{read}
use Rattle.educe_grammar.specs.Refusal.{IsUnion, IsUnionWord}
use Rattle.educe_grammar.specs.Running.{run, pure}
use Rattle.educe_grammar.specs.Steps.{Tokens, Outcome, and_then}
use Rattle.educe_grammar.proofs.Steps.{ok_pair}
use Rattle.educe_grammar.proofs.Unions.{head, union_read, union_found}

-- the text of the word
pub chars_union : chars (codes "union") ≡ codes "union"
unfolding chars
chars_union = refl

abbrev Head : Type 0
Head = List Attribute × Unit {0}

-- what is read without its value was read with one
unit_ok : (outcome : Outcome Head) (rest : Tokens) → and_then outcome (λ x. pure {A = Unit {0}} tt) ≡ Ok (tt, rest) → (x : Head) × (outcome ≡ Ok (x, rest))
unit_ok (Ok (x, left)) rest h = (x, ap (λ left. Ok (x, left)) (ok_pair h).1)
unit_ok (Err e) rest h = absurd (cc)

-- what is rejected without its value was rejected with one
unit_err : (outcome : Outcome Head) (e : ParseError) → and_then outcome (λ x. pure {A = Unit {0}} tt) ≡ Err e → outcome ≡ Err e
unit_err (Ok (x, left)) e h = absurd (cc)
unit_err (Err f) e h = let same : f ≡ e = cc in ap Err same

-- where the word stands behind what was read, the tokens begin as a union
pub union_next : (tokens more : Tokens) (word : Token) → read depth_limit (unit head) tokens ≡ Ok (tt, word ∷ more) → IsUnionWord word → IsUnion tokens word
unfolding run
union_next tokens more word h is =
    let x = unit_ok (read depth_limit head tokens) (word ∷ more) h in
    union_found tokens more word x.0 x.1 is

-- where tokens begin as a union, its word stands behind what was read
pub union_rest : (tokens rest : Tokens) (word : Token) → read depth_limit (unit head) tokens ≡ Ok (tt, rest) → (is : IsUnion tokens word) → rest ≡ word ∷ is.rest
unfolding run
union_rest tokens rest word h is =
    let x = unit_ok (read depth_limit head tokens) rest h in
    (ok_pair (sym x.1 ∙ union_read tokens word is)).1

-- ---- what is looked for

-- what holds of a value, if there is one
pub if_some : {A : Type 0} {P Q : A → Type 0} (found : Option A) → ((x : A) → P x → Q x) → IfSome found P → IfSome found Q
if_some None leads holds = tt
if_some (Some x) leads holds = leads x holds

-- what holds where there is none
pub if_none : {A : Type 0} {P Q : Type 0} (found : Option A) → (P → Q) → IfNone found P → IfNone found Q
if_none None leads holds = leads holds
if_none (Some x) leads holds = tt

-- the word, as the first of what is left
abbrev pub FirstIs : Tokens → Token → Type 0
FirstIs first word = IsUnionWord word × ((more : Tokens) × (first ≡ word ∷ more))

-- where the word is found, the tokens begin as a union
pub union_seen : (tokens start rest first : Tokens) (word : Token) → start ≡ tokens → read depth_limit (unit head) start ≡ Ok (tt, rest) → first ≡ rest → FirstIs first word → IsUnion tokens word
union_seen tokens start rest first word begun h is at_front =
    union_next tokens at_front.1.0 word (ap (read depth_limit (unit head)) (sym begun) ∙ h ∙ ap (λ rest. Ok (tt, rest)) (sym is ∙ at_front.1.1)) at_front.0

-- where it isn't, they don't
pub union_unseen : (tokens start rest first : Tokens) → start ≡ tokens → read depth_limit (unit head) start ≡ Ok (tt, rest) → first ≡ rest
    → ((word : Token) (more : Tokens) → first ≡ word ∷ more → IsUnionWord word → ⊥) → (word : Token) → IsUnion tokens word → ⊥
union_unseen tokens start rest first begun h is never word union = never word union.rest (is ∙ union_rest tokens rest word (ap (read depth_limit (unit head)) (sym begun) ∙ h) union) union.word_is

-- where what stands before the item is not read, they don't either
pub union_unread : (tokens start : Tokens) (e : ParseError) → start ≡ tokens → read depth_limit (unit head) start ≡ Err e → (word : Token) → IsUnion tokens word → ⊥
unfolding run
union_unread tokens start e begun h word union =
    let h = unit_err (read depth_limit head tokens) e (ap (read depth_limit (unit head)) (sym begun) ∙ h) in
    let is = union_read tokens word union in
    absurd (cc)
