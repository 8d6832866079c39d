-- What a rule reads has whole bracket pairs; where it reads no documentation, it may be copied.
use Rattle.std.proofs.Common.{◌≡◌, ℕ, ◌+◌, Bool, true, false, List, [], ◌∷◌, ◌++◌, refl, ap, sym, subst, ◌∙◌, inl, inr, arith, Ok, IsTrue, append_assoc, append-nil}
use Rattle.std.proofs.lemmas.List.Folds.{list_all-append}
use Rattle.educe_tokens.specs.Bracket.{Bracket}
use Rattle.educe_tokens.specs.Bracket.TheVariants.{Round, Square, Curly}
use Rattle.educe_tokens.specs.TokenKind.{TokenKind}
use Rattle.educe_tokens.specs.TokenKind.TheVariants as kind
use Rattle.educe_tokens.specs.declared.token.Token.{Token}
use Rattle.educe_tokens.specs.Brackets.{same_bracket, kinds}
use Rattle.educe_tokens.specs.Brackets as brackets
use Rattle.educe_tokens.specs.Copied.{may_be_copied}
use Rattle.educe_tokens.specs.Lexes.{lexemes}
use Rattle.educe_tokens.specs.Text.{is_no_doc, have_no_doc}
use Rattle.educe_grammar.specs.Steps.{Tokens, Outcome, and_then, since}
use Rattle.educe_grammar.specs.Ahead.{is_start, is_stop, is_doc}
use Rattle.educe_grammar.specs.Depth.{pending, closed}
use Rattle.educe_grammar.specs.Reading.{Parses}
use Rattle.educe_grammar.specs.Running.{run, written_if}
use Rattle.educe_grammar.specs.Rules.{Rule, written}
use Rattle.educe_grammar.specs.Reads.{parts_below, Reads, read}
use Rattle.educe_grammar.proofs.Beginnings.{is_plain}
use Rattle.educe_grammar.proofs.Keeping.{has_no_documentation, IsKept, OfDocumentation, parses_keeps, parts_keep, reads_keep}
use Rattle.educe_grammar.proofs.Sound.{reads_sound}
use Rattle.educe_grammar.proofs.Steps.{IsTrue-prop, since_all}

-- ---- bracket pairs

-- the kinds of the tokens
abbrev pub kinds_of : Tokens → List TokenKind
kinds_of tokens = kinds (lexemes tokens)

-- kinds of lists behind one another
pub kinds-append : (front rest : Tokens) → kinds_of (front ++ rest) ≡ kinds_of front ++ kinds_of rest
kinds-append [] rest = refl
kinds-append (t ∷ front) rest = ap (λ ks. t.kind ∷ ks) (kinds-append front rest)

-- kinds of lists behind one another, before others
kinds_before : (front rest : Tokens) (more : List TokenKind) → kinds_of (front ++ rest) ++ more ≡ kinds_of front ++ (kinds_of rest ++ more)
kinds_before front rest more = ap (λ ks. ks ++ more) (kinds-append front rest) ∙ append_assoc (kinds_of front) (kinds_of rest) more

-- brackets that are tested the same are
bracket_same : (b c : Bracket) → same_bracket b c ≡ true → b ≡ c
bracket_same Round Round h = refl
bracket_same Square Square h = refl
bracket_same Curly Curly h = refl
bracket_same Round Square h = absurd (cc)
bracket_same Round Curly h = absurd (cc)
bracket_same Square Round h = absurd (cc)
bracket_same Square Curly h = absurd (cc)
bracket_same Curly Round h = absurd (cc)
bracket_same Curly Square h = absurd (cc)

-- an opening bracket
pub start_kind : (b : Bracket) (k : TokenKind) → is_start b k ≡ true → k ≡ kind.Start b
start_kind b (kind.Start c) h = ap kind.Start (sym (bracket_same b c h))
start_kind b (kind.Stop c) h = absurd (cc)
start_kind b kind.Ident h = absurd (cc)
start_kind b kind.Lifetime h = absurd (cc)
start_kind b (kind.Literal l) h = absurd (cc)
start_kind b (kind.Punct c joint) h = absurd (cc)
start_kind b kind.Doc h = absurd (cc)

-- a closing bracket
pub stop_kind : (b : Bracket) (k : TokenKind) → is_stop b k ≡ true → k ≡ kind.Stop b
stop_kind b (kind.Stop c) h = ap kind.Stop (sym (bracket_same b c h))
stop_kind b (kind.Start c) h = absurd (cc)
stop_kind b kind.Ident h = absurd (cc)
stop_kind b kind.Lifetime h = absurd (cc)
stop_kind b (kind.Literal l) h = absurd (cc)
stop_kind b (kind.Punct c joint) h = absurd (cc)
stop_kind b kind.Doc h = absurd (cc)

-- documentation
pub doc_kind : (k : TokenKind) → is_doc k ≡ true → k ≡ kind.Doc
doc_kind kind.Doc h = refl
doc_kind (kind.Start c) h = absurd (cc)
doc_kind (kind.Stop c) h = absurd (cc)
doc_kind kind.Ident h = absurd (cc)
doc_kind kind.Lifetime h = absurd (cc)
doc_kind (kind.Literal l) h = absurd (cc)
doc_kind (kind.Punct c joint) h = absurd (cc)

-- each bracket pair of the list is whole: whatever is open before it and stands behind it, it changes nothing
abbrev pub IsBalanced : Tokens → Type 0
IsBalanced tokens = (outer : List Bracket) (more : List TokenKind) → brackets.closes outer (kinds_of tokens ++ more) ≡ brackets.closes outer more

-- a plain token opens and closes nothing
plain_closes : (outer : List Bracket) (k : TokenKind) (more : List TokenKind) → is_plain k ≡ true → brackets.closes outer (k ∷ more) ≡ brackets.closes outer more
plain_closes outer kind.Ident more h = refl
plain_closes outer kind.Lifetime more h = refl
plain_closes outer (kind.Literal l) more h = refl
plain_closes outer (kind.Punct c joint) more h = refl
plain_closes outer (kind.Start b) more h = absurd (cc)
plain_closes outer (kind.Stop b) more h = absurd (cc)
plain_closes outer kind.Doc more h = absurd (cc)

-- a bracket closes the one that is open innermost
stop_closes : (b : Bracket) (outer : List Bracket) (more : List TokenKind) → brackets.closes (b ∷ outer) (kind.Stop b ∷ more) ≡ brackets.closes outer more
stop_closes Round outer more = refl
stop_closes Square outer more = refl
stop_closes Curly outer more = refl

-- a pair around what is balanced is
pair_closes : (b : Bracket) (first last : Token) (inside : Tokens) → first.kind ≡ kind.Start b → last.kind ≡ kind.Stop b → IsBalanced inside → IsBalanced (first ∷ (inside ++ last ∷ []))
pair_closes b first last inside starts stops whole outer more =
    ap (λ k. brackets.closes outer (k ∷ kinds_of (inside ++ last ∷ []) ++ more)) starts
    ∙ ap (brackets.closes (b ∷ outer)) (kinds_before inside (last ∷ []) more)
    ∙ whole (b ∷ outer) (last.kind ∷ more)
    ∙ ap (λ k. brackets.closes (b ∷ outer) (k ∷ more)) stops
    ∙ stop_closes b outer more

-- what rules are made of is balanced
pub balanced_kept : IsKept IsBalanced
balanced_kept = record {
  none = λ outer more. refl;
  behind = λ front rest p q outer more. ap (brackets.closes outer) (kinds_before front rest more) ∙ p outer (kinds_of rest ++ more) ∙ q outer more;
  plain = λ t is outer more. plain_closes outer t.kind more is;
  pair = λ b first last inside is ends whole. pair_closes b first last inside (start_kind b first.kind is) (stop_kind b last.kind ends) whole;
}

-- documentation is balanced
balanced_documentation : OfDocumentation IsBalanced
balanced_documentation t is outer more = ap (λ k. brackets.closes outer (k ∷ more)) (doc_kind t.kind is)

-- what is balanced closes in order
pub balanced_closes : (tokens : Tokens) → IsBalanced tokens → brackets.closes [] (kinds_of tokens) ≡ true
balanced_closes tokens whole = ap (brackets.closes []) (sym (append-nil (kinds_of tokens))) ∙ whole [] []

-- ---- how many are closed

-- in front of any list, as many brackets are closed that were not opened there as without it
abbrev pub IsEven : Tokens → Type 0
IsEven tokens = (ts : Tokens) → closed (tokens ++ ts) ≡ closed ts

-- a plain token leaves as many as were closed
plain_pending : (k : TokenKind) (n : ℕ) → is_plain k ≡ true → pending k n ≡ n
plain_pending kind.Ident n h = refl
plain_pending kind.Lifetime n h = refl
plain_pending (kind.Literal l) n h = refl
plain_pending (kind.Punct c joint) n h = refl
plain_pending (kind.Start b) n h = absurd (cc)
plain_pending (kind.Stop b) n h = absurd (cc)
plain_pending kind.Doc n h = absurd (cc)

-- a pair around what is even is
pair_even : (b : Bracket) (first last : Token) (inside : Tokens) → first.kind ≡ kind.Start b → last.kind ≡ kind.Stop b → IsEven inside → IsEven (first ∷ (inside ++ last ∷ []))
unfolding closed
pair_even b first last inside starts stops even ts =
    let e : closed (inside ++ (last ∷ ts)) ≡ closed ts + 1 = even (last ∷ ts) ∙ ap (λ k. pending k (closed ts)) stops in
    let whole : closed ((inside ++ last ∷ []) ++ ts) ≡ closed ts + 1 = ap closed (append_assoc inside (last ∷ []) ts) ∙ e in
    ap (λ k. pending k (closed ((inside ++ last ∷ []) ++ ts))) starts ∙ omega arith

-- a plain token is
pub plain_even : (t : Token) → is_plain t.kind ≡ true → IsEven (t ∷ [])
unfolding closed
plain_even t is ts = plain_pending t.kind (closed ts) is

-- documentation is even
documentation_even : OfDocumentation IsEven
unfolding closed
documentation_even t is ts = ap (λ k. pending k (closed ts)) (doc_kind t.kind is)

-- what rules are made of is even
pub even_kept : IsKept IsEven
even_kept = record {
  none = λ ts. refl;
  behind = λ front rest p q ts. ap closed (append_assoc front rest ts) ∙ p (rest ++ ts) ∙ q ts;
  plain = plain_even;
  pair = λ b first last inside is ends even. pair_even b first last inside (start_kind b first.kind is) (stop_kind b last.kind ends) even;
}

-- ---- documentation

-- no token is documentation
abbrev pub HasNoDoc : Tokens → Type 0
HasNoDoc tokens = have_no_doc (kinds_of tokens) ≡ true

-- lists behind one another
no_doc_behind : (front rest : Tokens) → HasNoDoc front → HasNoDoc rest → HasNoDoc (front ++ rest)
no_doc_behind front rest p q = ap have_no_doc (kinds-append front rest) ∙ list_all-append is_no_doc (kinds_of front) (kinds_of rest) ∙ rw (p, q) refl

-- a plain token is none
plain_no_doc : (t : Token) → is_plain t.kind ≡ true → HasNoDoc (t ∷ [])
plain_no_doc t is = go t.kind is
  where
    go : (k : TokenKind) → is_plain k ≡ true → have_no_doc (k ∷ []) ≡ true
    go kind.Ident h = refl
    go kind.Lifetime h = refl
    go (kind.Literal l) h = refl
    go (kind.Punct c joint) h = refl
    go (kind.Start b) h = absurd (cc)
    go (kind.Stop b) h = absurd (cc)
    go kind.Doc h = absurd (cc)

-- one more token that is none
kind_no_doc : (t : Token) (rest : Tokens) → is_no_doc t.kind ≡ true → HasNoDoc rest → HasNoDoc (t ∷ rest)
kind_no_doc t rest is p = rw (is, p) refl

-- a pair around tokens of which none is
pair_no_doc : (b : Bracket) (first last : Token) (inside : Tokens) → first.kind ≡ kind.Start b → last.kind ≡ kind.Stop b → HasNoDoc inside → HasNoDoc (first ∷ (inside ++ last ∷ []))
pair_no_doc b first last inside starts stops p =
    kind_no_doc first (inside ++ last ∷ []) (ap is_no_doc starts) (no_doc_behind inside (last ∷ []) p (kind_no_doc last [] (ap is_no_doc stops) refl))

-- what rules are made of has no documentation
no_doc_kept : IsKept HasNoDoc
no_doc_kept = record {
  none = refl;
  behind = no_doc_behind;
  plain = plain_no_doc;
  pair = λ b first last inside is ends p. pair_no_doc b first last inside (start_kind b first.kind is) (stop_kind b last.kind ends) p;
}

-- ---- rules

-- what a rule allows is balanced, whatever the fuel of the parts
pub balanced_below : {A : Type 0} (n : ℕ) (g : Rule A) (budget : ℕ) (tokens : Tokens) (x : A) → Parses (parts_below n) budget g tokens x → IsBalanced tokens
balanced_below n g budget tokens x is =
    parses_keeps IsBalanced balanced_kept (parts_below n) (parts_keep IsBalanced balanced_kept n) g (inr balanced_documentation) budget tokens x is

-- what a rule allows is even, whatever the fuel of the parts
pub even_below : {A : Type 0} (n : ℕ) (g : Rule A) (budget : ℕ) (tokens : Tokens) (x : A) → Parses (parts_below n) budget g tokens x → IsEven tokens
even_below n g budget tokens x is = parses_keeps IsEven even_kept (parts_below n) (parts_keep IsEven even_kept n) g (inr documentation_even) budget tokens x is

-- what a rule allows that reads no documentation has none, whatever the fuel of the parts
pub no_doc_below : {A : Type 0} (n : ℕ) (g : Rule A) (budget : ℕ) (tokens : Tokens) (x : A) → has_no_documentation g ≡ true → Parses (parts_below n) budget g tokens x → HasNoDoc tokens
no_doc_below n g budget tokens x no_doc is = parses_keeps HasNoDoc no_doc_kept (parts_below n) (parts_keep HasNoDoc no_doc_kept n) g (inl no_doc) budget tokens x is

-- what is balanced and has no documentation may be copied
may_copy : (tokens : Tokens) → IsBalanced tokens → HasNoDoc tokens → IsTrue (may_be_copied (lexemes tokens))
may_copy tokens whole no_doc = rw (balanced_closes tokens whole, no_doc) refl

-- what a rule allows that reads no documentation may be copied, whatever the fuel of the parts
pub copied_below : {A : Type 0} (n : ℕ) (g : Rule A) (budget : ℕ) (tokens : Tokens) (x : A) → has_no_documentation g ≡ true → Parses (parts_below n) budget g tokens x
    → IsTrue (may_be_copied (lexemes tokens))
copied_below n g budget tokens x no_doc is = may_copy tokens (balanced_below n g budget tokens x is) (no_doc_below n g budget tokens x no_doc is)

-- what a rule allows is balanced
pub reads_balanced : {A : Type 0} (budget : ℕ) (g : Rule A) (tokens : Tokens) (x : A) → Reads budget g tokens x → IsBalanced tokens
reads_balanced budget g tokens x is = reads_keep IsBalanced balanced_kept g (inr balanced_documentation) budget tokens x is

-- what a rule allows that reads no documentation has none
pub reads_no_doc : {A : Type 0} (budget : ℕ) (g : Rule A) (tokens : Tokens) (x : A) → has_no_documentation g ≡ true → Reads budget g tokens x → HasNoDoc tokens
reads_no_doc budget g tokens x no_doc is = reads_keep HasNoDoc no_doc_kept g (inl no_doc) budget tokens x is

-- what a rule allows that reads no documentation may be copied
pub reads_copied : {A : Type 0} (budget : ℕ) (g : Rule A) (tokens : Tokens) (x : A) → has_no_documentation g ≡ true → Reads budget g tokens x → IsTrue (may_be_copied (lexemes tokens))
reads_copied budget g tokens x no_doc is = may_copy tokens (reads_balanced budget g tokens x is) (reads_no_doc budget g tokens x no_doc is)

-- what its program has read may be copied
pub copied_since : {A : Type 0} (budget : ℕ) (g : Rule A) (ts rest : Tokens) (x : A) → has_no_documentation g ≡ true → read budget g ts ≡ Ok (x, rest)
    → IsTrue (may_be_copied (lexemes (since ts rest)))
copied_since budget g ts rest x no_doc h =
    let t = reads_sound budget g ts rest x h in
    let e : since ts rest ≡ t.front = ap (λ us. since us rest) t.whole ∙ since_all t.front rest in
    subst (λ us. IsTrue (may_be_copied (lexemes us))) (sym e) (reads_copied budget g t.front x no_doc t.is_in)

-- what may be copied is kept
written_stands : {A : Type 0} (x : A) (tokens rest : Tokens) (stands : IsTrue (may_be_copied (lexemes tokens))) (b : Bool) (is : may_be_copied (lexemes tokens) ≡ b) → b ≡ true
    → written_if x tokens rest b is ≡ Ok ((x, record { tokens = tokens; written = stands }), rest)
written_stands {A} x tokens rest stands true is e =
    ap (λ (p : IsTrue (may_be_copied (lexemes tokens))). Ok ((x, record { tokens = tokens; written = p }), rest)) (IsTrue-prop (may_be_copied (lexemes tokens)) is stands)
written_stands x tokens rest stands false is e = absurd (cc)

-- where a rule reads no documentation, what it reads is kept as it was written
pub written_read : {A : Type 0} (budget : ℕ) (g : Rule A) (ts rest : Tokens) (x : A) → has_no_documentation g ≡ true → read budget g ts ≡ Ok (x, rest)
    → (stands : IsTrue (may_be_copied (lexemes (since ts rest)))) × (read budget (written g) ts ≡ Ok ((x, record { tokens = since ts rest; written = stands }), rest))
unfolding run
written_read {A} budget g ts rest x no_doc h =
    let stands = copied_since budget g ts rest x no_doc h in (
      stands,
      ap (λ (o : Outcome A). and_then o (λ y us. written_if y (since ts us) us (may_be_copied (lexemes (since ts us))) refl)) h
          ∙ written_stands x (since ts rest) rest stands (may_be_copied (lexemes (since ts rest))) refl stands,
    )
