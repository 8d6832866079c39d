-- The text of items reads as their tokens.
use Rattle.std.proofs.Common.{◌≡◌, ℕ, ◌+◌, ◌<◌, List, [], ◌∷◌, ◌++◌, take, get_or, length, refl, sym, ap, ◌∙◌, subst, append_assoc, append-nil, IsUtf8, chars, arith}
use Rattle.std.specs.List.{AllByRecursion}
use Rattle.std.proofs.lemmas.Grind.{flat_map-append}
use Rattle.std.proofs.lemmas.Str.{chars-IsAscii}
use Rattle.std.proofs.lemmas.Str.Ascii.{IsAscii-nil, IsAscii-cons}
use Rattle.std.proofs.lemmas.List.{take_more}
use Rattle.educe_tokens.specs.Lexes.{LexesAside}
use Rattle.educe_tokens.specs.Text.{text_of}
use Rattle.educe_tokens.proofs.Printed.{put_text}
use Rattle.educe_tree.specs.TokenLaws.{lawful_printing}
use Rattle.educe_body_items.specs.declared.items.Item.{Item}
use Rattle.educe_body_items.specs.Items.{item_lexemes, tokens_of, spelling}

-- the text of an item reads as its tokens
abbrev pub ItemLexes : Item → Type 0
ItemLexes item = LexesAside (text_of (item_lexemes item)) (item_lexemes item)

-- the text of items reads as their tokens
pub spelling_lexes : (items : List Item) → AllByRecursion ItemLexes items → LexesAside (spelling items) (tokens_of items)
spelling_lexes [] each = record { pieces = []; reads = refl; carried = refl; tokens_are = refl }
spelling_lexes (item ∷ items) each =
    let text = text_of (item_lexemes item) in
    subst (λ (whole : List ℕ). LexesAside whole (tokens_of (item ∷ items))) (sym (append_assoc text (10 ∷ []) (spelling items)))
    (lawful_printing.behind text (spelling items) (item_lexemes item) (tokens_of items) each.0 (spelling_lexes items each.1))

-- one more item
pub spelling-take : (items : List Item) (i : ℕ) (d : Item) → i < length items → spelling (take (i + 1) items) ≡ spelling (take i items) ++ (text_of (item_lexemes (get_or items i d)) ++ 10 ∷ [])
spelling-take items i d h =
    let item = get_or items i d in
    ap spelling (take_more items i d h)
    ∙ flat_map-append (λ item. text_of (item_lexemes item) ++ 10 ∷ []) (take i items) (item ∷ [])
    ∙ ap (λ line. spelling (take i items) ++ line) (append-nil (text_of (item_lexemes item) ++ 10 ∷ []))

-- the characters of a text, behind which a line feed was put
pub put_line : (mid new front text : List ℕ) → IsUtf8 mid → chars mid ≡ front ++ text → new ≡ mid ++ (10 ∷ []) → chars new ≡ front ++ (text ++ 10 ∷ [])
put_line mid new front text u e f =
    put_text mid new (10 ∷ []) (10 ∷ []) (front ++ text) u f (chars-IsAscii (10 ∷ []) (IsAscii-cons 10 [] (omega arith) IsAscii-nil)) e
    ∙ append_assoc front text (10 ∷ [])
