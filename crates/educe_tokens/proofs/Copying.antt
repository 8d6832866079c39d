-- What stays the same where tokens are copied, and what the copies are.
use Rattle.std.proofs.Common.{◌≡◌, ℕ, Bool, true, false, ◌&&◌, IsTrue, Option, Some, None, List, [], ◌∷◌, ◌++◌, map, refl, sym, ap, ◌∙◌}
use Rattle.std.specs.List.{list_all}
use Rattle.std.proofs.lemmas.Bool.{and_parts, and_from, and_right, false≢true}
use Rattle.std.proofs.lemmas.List.{map-append}
use Rattle.std.proofs.lemmas.List.Folds.{list_all-append}
use Rattle.educe_tokens_pieces.specs.declared.kind.Bracket.{Bracket}
use Rattle.educe_tokens_pieces.specs.declared.kind.TokenKind.{TokenKind}
use Rattle.educe_tokens_pieces.specs.declared.kind.TokenKind.TheVariants.{Ident, Lifetime, Literal, Punct, Start, Stop, Doc}
use Rattle.educe_tokens_pieces.specs.Pieces.{spells}
use Rattle.educe_tokens.specs.Lexes.{Lexeme}
use Rattle.educe_tokens.specs.Brackets.{open_after, closes, kinds}
use Rattle.educe_tokens.specs.Copied.{copied_kind, copied, may_be_copied, unjoined, unjoin}
use Rattle.educe_tokens.specs.Text.{is_punct_behind, may_join, joins_well, is_no_doc, have_no_doc, is_written}
use Rattle.educe_tokens.proofs.Opened.{closes_after, closes-cons}
use Rattle.educe_tokens.proofs.Tokens.{is_lexeme}
use Rattle.educe_tokens.proofs.Writing.{closes-append, written_from, written_closes, written_joins, closes-bracket}

-- ---- what stays the same

-- the spellings
pub copied_spellings : (xs : List Lexeme) → map (λ x. x.spelling) (copied xs) ≡ map (λ x. x.spelling) xs
copied_spellings [] = refl
copied_spellings (x ∷ xs) = ap (λ more. x.spelling ∷ more) (copied_spellings xs)

unjoined-copied : (kind : TokenKind) (more : List TokenKind) → unjoined (copied_kind kind more) ≡ unjoined kind
unjoined-copied (Punct c joint) more = refl
unjoined-copied Ident more = refl
unjoined-copied Lifetime more = refl
unjoined-copied (Literal l) more = refl
unjoined-copied (Start b) more = refl
unjoined-copied (Stop b) more = refl
unjoined-copied Doc more = refl

-- the kinds, jointness aside
pub copied_kinds : (xs : List Lexeme) → map unjoined (kinds (copied xs)) ≡ map unjoined (kinds xs)
copied_kinds [] = refl
copied_kinds (x ∷ xs) = λ i. unjoined-copied x.kind (kinds xs) i ∷ copied_kinds xs i

-- each token spells its kind
pub spells-copied : (kind : TokenKind) (more : List TokenKind) (s : List ℕ) → spells (copied_kind kind more) s ≡ spells kind s
spells-copied (Punct c joint) more s = refl
spells-copied Ident more s = refl
spells-copied Lifetime more s = refl
spells-copied (Literal l) more s = refl
spells-copied (Start b) more s = refl
spells-copied (Stop b) more s = refl
spells-copied Doc more s = refl

pub copied_spelled : (xs : List Lexeme) → list_all is_lexeme (copied xs) ≡ list_all is_lexeme xs
copied_spelled [] = refl
copied_spelled (x ∷ xs) = λ i. spells-copied x.kind (kinds xs) x.spelling i && copied_spelled xs i

-- ---- the copies may stand side by side

-- a copy opens and closes the brackets that its token does
open_after-copied : (outer : List Bracket) (kind : TokenKind) (more : List TokenKind) → open_after outer (copied_kind kind more) ≡ open_after outer kind
open_after-copied outer (Punct c joint) more = refl
open_after-copied outer Ident more = refl
open_after-copied outer Lifetime more = refl
open_after-copied outer (Literal l) more = refl
open_after-copied outer (Start b) more = refl
open_after-copied outer (Stop b) more = refl
open_after-copied outer Doc more = refl

closes-copied : (outer : List Bracket) (xs : List Lexeme) → closes outer (kinds (copied xs)) ≡ closes outer (kinds xs)
closes-copied outer [] = refl
closes-copied outer (x ∷ xs) =
    let Goal : Option (List Bracket) → Type 0 = λ opened. closes_after opened (kinds (copied xs)) ≡ closes_after opened (kinds xs) in
    let step : (opened : Option (List Bracket)) → Goal opened = λ opened. elim opened as Goal [ None ↦ refl | Some inner ↦ closes-copied inner xs ] in
    closes-cons outer (copied_kind x.kind (kinds xs)) (kinds (copied xs))
    ∙ ap (λ opened. closes_after opened (kinds (copied xs))) (open_after-copied outer x.kind (kinds xs))
    ∙ step (open_after outer x.kind)
    ∙ sym (closes-cons outer x.kind (kinds xs))

-- a punct stands behind where it stood before
punct_behind-copied : (c : ℕ) (xs : List Lexeme) → is_punct_behind c (kinds (copied xs)) ≡ is_punct_behind c (kinds xs)
punct_behind-copied c [] = refl
punct_behind-copied c (x ∷ xs) = first x.kind
  where
    first : (kind : TokenKind) → is_punct_behind c (copied_kind kind (kinds xs) ∷ kinds (copied xs)) ≡ is_punct_behind c (kind ∷ kinds xs)
    first (Punct d joint) = refl
    first Ident = refl
    first Lifetime = refl
    first (Literal l) = refl
    first (Start b) = refl
    first (Stop b) = refl
    first Doc = refl

may_join-joint : (c : ℕ) (xs : List Lexeme) (b : Bool) → is_punct_behind c (kinds xs) ≡ b → may_join (Punct c b) (kinds (copied xs)) ≡ true
may_join-joint c xs true h = punct_behind-copied c xs ∙ h
may_join-joint c xs false h = refl

-- a copy of no documentation may stand before the copies behind it
may_join-copied : (kind : TokenKind) (xs : List Lexeme) → is_no_doc kind ≡ true → may_join (copied_kind kind (kinds xs)) (kinds (copied xs)) ≡ true
may_join-copied (Punct c true) xs h = may_join-joint c xs (is_punct_behind c (kinds xs)) refl
may_join-copied (Punct c false) xs h = refl
may_join-copied Ident xs h = refl
may_join-copied Lifetime xs h = refl
may_join-copied (Literal l) xs h = refl
may_join-copied (Start b) xs h = refl
may_join-copied (Stop b) xs h = refl
may_join-copied Doc xs h = absurd (false≢true h)

joins_well-copied : (xs : List Lexeme) → have_no_doc (kinds xs) ≡ true → joins_well (kinds (copied xs)) ≡ true
joins_well-copied [] h = refl
joins_well-copied (x ∷ xs) h =
    let parts = and_parts (is_no_doc x.kind) _ h in
    and_from _ _ (may_join-copied x.kind xs parts.0) (joins_well-copied xs parts.1)

-- the copies of what closes its brackets and has no documentation may stand side by side
pub written-copied : (xs : List Lexeme) → IsTrue (may_be_copied xs) → IsTrue (is_written (copied xs))
written-copied xs h =
    let parts = and_parts (closes [] (kinds xs)) _ h in
    written_from (copied xs) (closes-copied [] xs ∙ parts.0) (joins_well-copied xs parts.1)

-- ---- what may stand side by side stays as it is

may_join-kept : (kind : TokenKind) (more : List TokenKind) → may_join kind more ≡ true → copied_kind kind more ≡ kind
may_join-kept (Punct c true) more h = ap (Punct c) h
may_join-kept (Punct c false) more h = refl
may_join-kept Ident more h = refl
may_join-kept Lifetime more h = refl
may_join-kept (Literal l) more h = refl
may_join-kept (Start b) more h = refl
may_join-kept (Stop b) more h = refl
may_join-kept Doc more h = refl

-- what joins well is copied as it is
joins_well-kept : (xs : List Lexeme) → joins_well (kinds xs) ≡ true → copied xs ≡ xs
joins_well-kept [] h = refl
joins_well-kept (x ∷ xs) h =
    let parts = and_parts (may_join x.kind (kinds xs)) _ h in
    λ i. record { kind = may_join-kept x.kind (kinds xs) parts.0 i; spelling = x.spelling } ∷ joins_well-kept xs parts.1 i

pub copied-written : (xs : List Lexeme) → IsTrue (is_written xs) → copied xs ≡ xs
copied-written xs h = joins_well-kept xs (written_joins xs h)

no_doc-joined : (kind : TokenKind) (more : List TokenKind) → may_join kind more ≡ true → is_no_doc kind ≡ true
no_doc-joined (Punct c joint) more h = refl
no_doc-joined Ident more h = refl
no_doc-joined Lifetime more h = refl
no_doc-joined (Literal l) more h = refl
no_doc-joined (Start b) more h = refl
no_doc-joined (Stop b) more h = refl
no_doc-joined Doc more h = h

have_no_doc-joined : (ks : List TokenKind) → joins_well ks ≡ true → have_no_doc ks ≡ true
have_no_doc-joined [] h = refl
have_no_doc-joined (kind ∷ more) h =
    let parts = and_parts (may_join kind more) _ h in
    and_from _ _ (no_doc-joined kind more parts.0) (have_no_doc-joined more parts.1)

-- what may stand side by side may be copied
pub may_be_copied-written : (xs : List Lexeme) → IsTrue (is_written xs) → IsTrue (may_be_copied xs)
may_be_copied-written xs h = and_from _ _ (written_closes xs h) (have_no_doc-joined (kinds xs) (written_joins xs h))

-- ---- longer lists that may be copied

-- one list behind another
pub may_be_copied-append : (xs ys : List Lexeme) → IsTrue (may_be_copied xs) → IsTrue (may_be_copied ys) → IsTrue (may_be_copied (xs ++ ys))
may_be_copied-append xs ys h g =
    let both = map-append (λ lexeme. lexeme.kind) xs ys in
    let x = and_parts (closes [] (kinds xs)) _ h in
    let y = and_parts (closes [] (kinds ys)) _ g in
    and_from _ _
    (ap (closes []) both ∙ closes-append [] [] (kinds xs) (kinds ys) x.0 ∙ y.0)
    (ap have_no_doc both ∙ list_all-append is_no_doc (kinds xs) (kinds ys) ∙ and_from _ _ x.1 y.1)

-- brackets around a list
pub may_be_copied-brackets : (b : Bracket) (first last : List ℕ) (xs : List Lexeme) → IsTrue (may_be_copied xs) → IsTrue (may_be_copied (record { kind = Start b; spelling = first } ∷ (xs ++ record { kind = Stop b; spelling = last } ∷ [])))
may_be_copied-brackets b first last xs h =
    let close : Lexeme = record { kind = Stop b; spelling = last } in
    let both = map-append (λ lexeme. lexeme.kind) xs (close ∷ []) in
    let parts = and_parts (closes [] (kinds xs)) _ h in
    and_from _ _
    (ap (closes (b ∷ [])) both ∙ closes-append [] (b ∷ []) (kinds xs) (Stop b ∷ []) parts.0 ∙ closes-bracket b)
    (ap have_no_doc both ∙ list_all-append is_no_doc (kinds xs) (Stop b ∷ []) ∙ and_from _ _ parts.1 refl)

-- ---- a last token that is joint

last_kind : (kind : TokenKind) → copied_kind kind [] ≡ unjoined kind
last_kind (Punct c joint) = ap (Punct c) (and_right joint false refl)
last_kind Ident = refl
last_kind Lifetime = refl
last_kind (Literal l) = refl
last_kind (Start b) = refl
last_kind (Stop b) = refl
last_kind Doc = refl

-- one that is not joint is kept
last_kept : (kind : TokenKind) → copied_kind (unjoined kind) [] ≡ unjoined kind
last_kept (Punct c joint) = refl
last_kept Ident = refl
last_kept Lifetime = refl
last_kept (Literal l) = refl
last_kept (Start b) = refl
last_kept (Stop b) = refl
last_kept Doc = refl

-- a punct looks at the next token alone
behind_first : (c : ℕ) (kind : TokenKind) (xs ys : List TokenKind) → is_punct_behind c (kind ∷ xs) ≡ is_punct_behind c (kind ∷ ys)
behind_first c (Punct d joint) xs ys = refl
behind_first c Ident xs ys = refl
behind_first c Lifetime xs ys = refl
behind_first c (Literal l) xs ys = refl
behind_first c (Start b) xs ys = refl
behind_first c (Stop b) xs ys = refl
behind_first c Doc xs ys = refl

-- whether a punct joins the next token doesn't depend on that token's jointness
behind_unjoined : (c : ℕ) (kind : TokenKind) → is_punct_behind c (kind ∷ []) ≡ is_punct_behind c (unjoined kind ∷ [])
behind_unjoined c (Punct d joint) = refl
behind_unjoined c Ident = refl
behind_unjoined c Lifetime = refl
behind_unjoined c (Literal l) = refl
behind_unjoined c (Start b) = refl
behind_unjoined c (Stop b) = refl
behind_unjoined c Doc = refl

behind_last : (c : ℕ) (front : List Lexeme) (last : Lexeme) → is_punct_behind c (kinds (front ++ last ∷ [])) ≡ is_punct_behind c (kinds (front ++ unjoin last ∷ []))
behind_last c [] last = behind_unjoined c last.kind
behind_last c (x ∷ front) last = behind_first c x.kind _ _

-- a copy looks at what stands behind alone
copied_kind-behind : (kind : TokenKind) (xs ys : List TokenKind) → ((c : ℕ) → is_punct_behind c xs ≡ is_punct_behind c ys) → copied_kind kind xs ≡ copied_kind kind ys
copied_kind-behind (Punct c joint) xs ys h = ap (λ b. Punct c (joint && b)) (h c)
copied_kind-behind Ident xs ys h = refl
copied_kind-behind Lifetime xs ys h = refl
copied_kind-behind (Literal l) xs ys h = refl
copied_kind-behind (Start b) xs ys h = refl
copied_kind-behind (Stop b) xs ys h = refl
copied_kind-behind Doc xs ys h = refl

copied-unjoined : (front : List Lexeme) (last : Lexeme) → copied (front ++ last ∷ []) ≡ copied (front ++ unjoin last ∷ [])
copied-unjoined [] last = ap (λ kind. record { kind = kind; spelling = last.spelling } ∷ []) (last_kind last.kind ∙ sym (last_kept last.kind))
copied-unjoined (x ∷ front) last =
    let same = copied_kind-behind x.kind (kinds (front ++ last ∷ [])) (kinds (front ++ unjoin last ∷ [])) (λ c. behind_last c front last) in
    λ i. record { kind = same i; spelling = x.spelling } ∷ copied-unjoined front last i

-- where the tokens could stand side by side if the last were not joint, its copy alone is another: it is not joint
pub copied-last : (front : List Lexeme) (last : Lexeme) → IsTrue (is_written (front ++ unjoin last ∷ [])) → copied (front ++ last ∷ []) ≡ front ++ unjoin last ∷ []
copied-last front last h = copied-unjoined front last ∙ copied-written (front ++ unjoin last ∷ []) h
