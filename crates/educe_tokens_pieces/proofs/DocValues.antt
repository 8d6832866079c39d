-- The text of documentation in its bytes.
use Rattle.std.proofs.Common.{◌≡◌, ℕ, ◌<◌, ◌⊎◌, inl, inr, ⊎_elim, Bool, true, false, None, List, [], ◌∷◌, ◌++◌, sym, ap, ◌∙◌, subst, arith, append-nil}
use Rattle.std.proofs.Math.Dec.{eqb}
use Rattle.std.specs.Bool.{MatchBool}
use Rattle.std.specs.List.{starts_with}
use Rattle.std.specs.Str.{chars, IsUtf8, IsAscii}
use Rattle.std.specs.Str.Pattern.{FindsTextPrefix, HasPrefixMatch}
use Rattle.std.proofs.lemmas.Bool.{false≢true}
use Rattle.std.proofs.lemmas.Str.Ascii.{IsAscii-cons, IsAscii-nil}
use Rattle.std.proofs.lemmas.Str.Pattern.{starts_text}
use Rattle.educe_tokens_pieces.specs.Comments.{is_doc, doc_value, IsDocOf}
use Rattle.educe_tokens_pieces.proofs.CommentLaws.{doc_of, doc_value_is}
use Rattle.educe_tokens_pieces.proofs.Texts.{IsBetween, between}

-- `///`
abbrev pub line_mark : List ℕ
line_mark = 47 ∷ 47 ∷ 47 ∷ []

-- `/**`
abbrev pub block_mark : List ℕ
block_mark = 47 ∷ 42 ∷ 42 ∷ []

-- `*/`
abbrev pub end_mark : List ℕ
end_mark = 42 ∷ 47 ∷ []

-- three ASCII characters
three_ascii : (a b c : ℕ) → a < 128 → b < 128 → c < 128 → IsAscii (a ∷ b ∷ c ∷ [])
three_ascii a b c f g h = IsAscii-cons a (b ∷ c ∷ []) f (IsAscii-cons b (c ∷ []) g (IsAscii-cons c [] h IsAscii-nil))

-- `*/` is ASCII
pub end_ascii : IsAscii end_mark
end_ascii = IsAscii-cons 42 (47 ∷ []) (omega arith) (IsAscii-cons 47 [] (omega arith) IsAscii-nil)

-- the text of documentation, behind `///` or between `/**` and `*/`
abbrev IsDocText : List ℕ → List ℕ → Type 0
IsDocText bs value = IsBetween bs line_mark value [] ⊎ IsBetween bs block_mark value end_mark

-- documentation has a text
doc_text : (bs value : List ℕ) → IsUtf8 bs → IsDocOf (chars bs) value → IsDocText bs value
doc_text bs value u h =
    ⊎_elim (λ e. inl (between bs line_mark value [] u (three_ascii 47 47 47 (omega arith) (omega arith) (omega arith)) IsAscii-nil (e ∙ ap (λ t. line_mark ++ t) (sym (append-nil value)))))
    (λ e. inr (between bs block_mark value end_mark u (three_ascii 47 42 42 (omega arith) (omega arith) (omega arith)) end_ascii e))
    h

-- the text begins with `//`
abbrev begins_line : List ℕ → Bool
begins_line bs = starts_with eqb bs (47 ∷ 47 ∷ [])

-- the answer of `starts_with` at `//`
abbrev StartsLine : List ℕ → Bool → Type 0
StartsLine bs r = MatchBool r (HasPrefixMatch (FindsTextPrefix (47 ∷ 47 ∷ [])) bs) (FindsTextPrefix (47 ∷ 47 ∷ []) bs None)

-- documentation that begins with `//` is of a line
pub line_text : (bs : List ℕ) (r : Bool) → IsUtf8 bs → is_doc (chars bs) ≡ true → StartsLine bs r → r ≡ true → (value : List ℕ) × IsDocOf (chars bs) value × IsBetween bs line_mark value []
line_text bs r u h s e =
    let own = doc_of (chars bs) h in
    let starts : begins_line bs ≡ true = sym (starts_text r (47 ∷ 47 ∷ []) bs s) ∙ e in
    (own.0, own.1, ⊎_elim (λ l. l) (λ b. absurd (false≢true (sym (ap begins_line b.is) ∙ starts))) (doc_text bs own.0 u own.1))

-- documentation that doesn't is of a block
pub block_text : (bs : List ℕ) (r : Bool) → IsUtf8 bs → is_doc (chars bs) ≡ true → StartsLine bs r → r ≡ false → (value : List ℕ) × IsDocOf (chars bs) value × IsBetween bs block_mark value end_mark
block_text bs r u h s e =
    let own = doc_of (chars bs) h in
    let starts : begins_line bs ≡ false = sym (starts_text r (47 ∷ 47 ∷ []) bs s) ∙ e in
    (own.0, own.1, ⊎_elim (λ l. absurd (false≢true (sym starts ∙ ap begins_line l.is))) (λ b. b) (doc_text bs own.0 u own.1))

-- the law of what was cut out
pub cut_law : (doc cut value : List ℕ) → IsDocOf doc value → cut ≡ value → IsDocOf doc cut
cut_law doc cut value h e = subst (IsDocOf doc) (sym e) h

-- the value of what was cut out
pub cut_value : (doc cut value : List ℕ) → IsDocOf doc value → cut ≡ value → cut ≡ doc_value doc
cut_value doc cut value h e = e ∙ sym (doc_value_is doc value h)
