-- Comments and documentation: what is found at the front of a text is one, and each is found.
use Rattle.std.proofs.Common.{◌≡◌, ℕ, zero, suc, ◌+◌, ◌-◌, ◌<◌, ◌≤◌, ◌≢◌, Bool, true, false, cond, ◌||◌, ◌&&◌, Option, Some, None, List, [], ◌∷◌, ◌++◌, length, take, drop, get_or, refl, sym, ap, ◌∙◌, subst, ◌⊎◌, inl, inr, ⊎_elim, arith, length-drop, length-append}
use Rattle.std.specs.Prelude.{◌==◌, not}
use Rattle.std.specs.List.{prefix_len}
use Rattle.std.proofs.Math.Seq.{take-append_seam}
use Rattle.std.proofs.lemmas.Bool.{and_parts, and_from, and_left, and_right, and_cases, or_parts, or_from, or_cases, or_left, or_right, false≢true, not-true, not_from_false, cond_both, cases_Bool, eqb-true, ne_eqb}
use Rattle.std.proofs.lemmas.Bool.Decides.{nat_tests}
use Rattle.std.proofs.lemmas.List.{take-append-drop}
use Rattle.std.proofs.lemmas.List.Sums.{prefix_len-le-length}
use Rattle.educe_tokens_pieces.specs.declared.kind.TokenKind.TheVariants.{Doc}
use Rattle.educe_tokens_pieces.specs.declared.kind.PieceKind.{PieceKind}
use Rattle.educe_tokens_pieces.specs.declared.kind.PieceKind.TheVariants.{Comment, Token}
use Rattle.educe_tokens_pieces.specs.Chars.{begins, is_empty, is_in_line}
use Rattle.educe_tokens_pieces.specs.Comments.{closes_comment, is_line, is_block, opens_line_doc, opens_block_doc, opens_inner, is_comment, is_doc, opens_comment, ends_line_before, doc_value, IsDocOf}
use Rattle.educe_tokens_pieces.specs.CommentScan.{closing_len, comment_kind, of_kind, line_at, block_at, comment_at}
use Rattle.educe_tokens_pieces.specs.Machine.{plus}
use Rattle.educe_tokens_pieces.specs.Pieces.{is_piece}
use Rattle.educe_tokens_pieces.specs.Fits.{Fits}
use Rattle.educe_tokens_pieces.proofs.Classes.{list_all-prefix, prefix_len-append}
use Rattle.educe_tokens_pieces.proofs.Lists.{from_index, nil_from_empty, begins-append, plus_plus, same_length}

-- two characters more of a text
two_more : (text : List ℕ) (i c d : ℕ) → i + 1 < length text → c ≡ get_or text i c → d ≡ get_or text (i + 1) d → drop i text ≡ c ∷ d ∷ drop (i + 2) text
two_more text i c d h e f =
    let here : i < length text = omega arith in
    let two : i + 1 + 1 ≡ i + 2 = omega arith in
    from_index text i c here e ∙ ap (λ t. c ∷ t) (from_index text (i + 1) d h f ∙ ap (λ k. d ∷ drop k text) two)

-- an inner comment closes here
closes_inner : (inner c d : ℕ) (cs : List ℕ) → ((c == 42) && (d == 47)) ≡ true → inner ≢ 0 → closing_len inner (c ∷ d ∷ cs) ≡ plus 2 (closing_len (inner - 1) cs)
closes_inner inner c d cs e z = let more = ne_eqb inner 0 z in rw (e, more) refl

-- an inner comment opens here
opens_here : (inner c d : ℕ) (cs : List ℕ) → ((c == 42) && (d == 47)) ≡ false → ((c == 47) && (d == 42)) ≡ true → closing_len inner (c ∷ d ∷ cs) ≡ plus 2 (closing_len (inner + 1) cs)
opens_here inner c d cs e f = rw (e, f) refl

-- no comment opens or closes here
goes_on : (inner c d : ℕ) (cs : List ℕ) → ((c == 42) && (d == 47)) ≡ false → ((c == 47) && (d == 42)) ≡ false → closing_len inner (c ∷ d ∷ cs) ≡ plus 1 (closing_len inner (d ∷ cs))
goes_on inner c d cs e f = rw (e, f) refl

-- the scan of a block at a place where an inner comment closes
pub ahead_inner : (text : List ℕ) (i inner c d : ℕ) → i + 1 < length text → c ≡ get_or text i c → d ≡ get_or text (i + 1) d → ((c == 42) && (d == 47)) ≡ true → inner ≢ 0 → plus i (closing_len inner (drop i text)) ≡ plus (i + 2) (closing_len (inner - 1) (drop (i + 2) text))
ahead_inner text i inner c d h e f k z = ap (λ t. plus i (closing_len inner t)) (two_more text i c d h e f) ∙ ap (plus i) (closes_inner inner c d (drop (i + 2) text) k z) ∙ plus_plus i 2 _

-- the scan of a block at a place where an inner comment opens
pub ahead_opens : (text : List ℕ) (i inner c d : ℕ) → i + 1 < length text → c ≡ get_or text i c → d ≡ get_or text (i + 1) d → ((c == 42) && (d == 47)) ≡ false → ((c == 47) && (d == 42)) ≡ true → plus i (closing_len inner (drop i text)) ≡ plus (i + 2) (closing_len (inner + 1) (drop (i + 2) text))
ahead_opens text i inner c d h e f k m = ap (λ t. plus i (closing_len inner t)) (two_more text i c d h e f) ∙ ap (plus i) (opens_here inner c d (drop (i + 2) text) k m) ∙ plus_plus i 2 _

-- the scan of a block at any other place
pub ahead_on : (text : List ℕ) (i inner c d : ℕ) → i + 1 < length text → c ≡ get_or text i c → d ≡ get_or text (i + 1) d → ((c == 42) && (d == 47)) ≡ false → ((c == 47) && (d == 42)) ≡ false → plus i (closing_len inner (drop i text)) ≡ plus (i + 1) (closing_len inner (drop (i + 1) text))
ahead_on text i inner c d h e f k m =
    let two : i + 1 + 1 ≡ i + 2 = omega arith in
    let rest : d ∷ drop (i + 2) text ≡ drop (i + 1) text = sym (from_index text (i + 1) d h f ∙ ap (λ n. d ∷ drop n text) two) in
    ap (λ t. plus i (closing_len inner t)) (two_more text i c d h e f) ∙ ap (plus i) (goes_on inner c d (drop (i + 2) text) k m ∙ ap (λ t. plus 1 (closing_len inner t)) rest) ∙ plus_plus i 1 _

-- no comment closes within one character
short_none : (inner : ℕ) (text : List ℕ) → length text ≤ 1 → closing_len inner text ≡ None
short_none inner [] h = refl
short_none inner (c ∷ []) h = refl
short_none inner (c ∷ d ∷ cs) h = absurd (omega arith)

-- the scan of a block at the end
pub ahead_end : (text : List ℕ) (i inner : ℕ) → length text ≤ i + 1 → plus i (closing_len inner (drop i text)) ≡ None
ahead_end text i inner h = ap (plus i) (short_none inner (drop i text) (omega (arith, length-drop i text)))

-- a slash is in a line
no_slash : (c : ℕ) → is_in_line c ≡ false → (c == 47) ≡ false
no_slash c h = grind (arith, nat_tests)

-- an exclamation mark is in a line
no_inner : (c : ℕ) → is_in_line c ≡ false → (c == 33) ≡ false
no_inner c h = grind (arith, nat_tests)

-- what begins outside of a line doesn't begin with a character that is in one
begins_none : (p : ℕ → Bool) (r : List ℕ) → ((c : ℕ) → is_in_line c ≡ false → p c ≡ false) → begins is_in_line r ≡ false → begins p r ≡ false
begins_none p [] none h = refl
begins_none p (c ∷ r) none h = none c h

-- what follows a line doesn't say whether it opens documentation
line_doc-append : (s r : List ℕ) → begins is_in_line r ≡ false → opens_line_doc (s ++ r) ≡ opens_line_doc s
line_doc-append [] [] h = refl
line_doc-append [] (c ∷ r) h = and_left _ _ (no_slash c h)
line_doc-append (c ∷ s) r h = ap (λ b. (c == 47) && not b) (begins-append (λ d. d == 47) s r (begins_none (λ d. d == 47) r no_slash h))

-- what follows a line doesn't change whether it opens inner documentation
line_inner-append : (s r : List ℕ) → begins is_in_line r ≡ false → opens_inner (s ++ r) ≡ opens_inner s
line_inner-append s r h = begins-append (λ c. c == 33) s r (begins_none (λ c. c == 33) r no_inner h)

-- what follows a block doesn't say whether it opens documentation
block_doc-append : (s r : List ℕ) → closes_comment 0 s ≡ true → opens_block_doc (s ++ r) ≡ opens_block_doc s
block_doc-append [] r h = absurd (false≢true h)
block_doc-append (c ∷ []) r h = absurd (false≢true h)
block_doc-append (c ∷ d ∷ s) r h = refl

-- what follows a block doesn't change whether it opens inner documentation
block_inner-append : (s r : List ℕ) → closes_comment 0 s ≡ true → opens_inner (s ++ r) ≡ opens_inner s
block_inner-append [] r h = absurd (false≢true h)
block_inner-append (c ∷ s) r h = refl

-- behind `//`: documentation or none, and not inner documentation
abbrev OpensLine : Bool → List ℕ → Type 0
OpensLine documents cs = (opens_line_doc cs ≡ documents) × (opens_inner cs ≡ false)

-- behind `/*`: documentation or none, and not inner documentation
abbrev OpensBlock : Bool → List ℕ → Type 0
OpensBlock documents cs = (opens_block_doc cs ≡ documents) × (opens_inner cs ≡ false)

-- a line of the kind
line_is : (documents : Bool) (s : List ℕ) → is_line s ≡ true → OpensLine documents (drop 2 s) → is_piece (comment_kind documents) s ≡ true
line_is true s h o = or_left _ _ (and_from (is_line s) _ h o.0)
line_is false s h o = or_left _ _ (and_from (is_line s) _ h (not_from_false _ (or_from _ _ o.0 o.1)))

-- a block of the kind
block_is : (documents : Bool) (s : List ℕ) → is_block s ≡ true → OpensBlock documents (drop 2 s) → is_piece (comment_kind documents) s ≡ true
block_is true s h o = or_right _ _ (and_from (is_block s) _ h o.0)
block_is false s h o = or_right _ _ (and_from (is_block s) _ h (not_from_false _ (or_from _ _ o.0 o.1)))

-- documentation of a line is not inner documentation
line_doc_outer : (cs : List ℕ) → opens_line_doc cs ≡ true → opens_inner cs ≡ false
line_doc_outer [] h = refl
line_doc_outer (c ∷ cs) h = let slash = (and_parts (c == 47) _ h).0 in grind (arith, nat_tests)

-- documentation of a block is not inner documentation
block_doc_outer : (cs : List ℕ) → opens_block_doc cs ≡ true → opens_inner cs ≡ false
block_doc_outer [] h = refl
block_doc_outer (c ∷ cs) h = let star = (and_parts (c == 42) _ h).0 in grind (arith, nat_tests)

-- a line of the kind, or a block of it
abbrev IsOfKind : Bool → List ℕ → Type 0
IsOfKind documents s = ((is_line s ≡ true) × OpensLine documents (drop 2 s)) ⊎ ((is_block s ≡ true) × OpensBlock documents (drop 2 s))

-- a piece of the kind is a line of it or a block of it
kind_parts : (documents : Bool) (s : List ℕ) → is_piece (comment_kind documents) s ≡ true → IsOfKind documents s
kind_parts true s h =
    ⊎_elim (λ l. let p = and_parts (is_line s) _ l in inl (p.0, (p.1, line_doc_outer (drop 2 s) p.1)))
    (λ b. let p = and_parts (is_block s) _ b in inr (p.0, (p.1, block_doc_outer (drop 2 s) p.1)))
    (or_cases (is_line s && opens_line_doc (drop 2 s)) (is_block s && opens_block_doc (drop 2 s)) h)
kind_parts false s h =
    ⊎_elim (λ l. let p = and_parts (is_line s) _ l in inl (p.0, or_parts (opens_line_doc (drop 2 s)) (opens_inner (drop 2 s)) (not-true _ p.1)))
    (λ b. let p = and_parts (is_block s) _ b in inr (p.0, or_parts (opens_block_doc (drop 2 s)) (opens_inner (drop 2 s)) (not-true _ p.1)))
    (or_cases (is_line s && not (opens_line_doc (drop 2 s) || opens_inner (drop 2 s))) (is_block s && not (opens_block_doc (drop 2 s) || opens_inner (drop 2 s))) h)

-- what closes at the end and what closes after so many characters, by the same tests
same_tests : (a z b : Bool) (p q r s : Bool) (P Q R S o : Option ℕ) → (p ≡ true → P ≡ o) → (q ≡ true → Q ≡ o) → (r ≡ true → R ≡ o) → (s ≡ true → S ≡ o) → cond a (cond z p q) (cond b r s) ≡ true → cond a (cond z P Q) (cond b R S) ≡ o
same_tests true true b p q r s P Q R S o f g h k = f
same_tests true false b p q r s P Q R S o f g h k = g
same_tests false z true p q r s P Q R S o f g h k = h
same_tests false z false p q r s P Q R S o f g h k = k

-- an empty text ends nothing
ends_two : (cs : List ℕ) → is_empty cs ≡ true → ◌≡◌ {A = Option ℕ} (Some 2) (Some (suc (suc (length cs))))
ends_two [] h = refl
ends_two (c ∷ cs) h = absurd (false≢true h)

-- what closes at its end is found, whatever follows
closing_found : (inner : ℕ) (s r : List ℕ) → closes_comment inner s ≡ true → closing_len inner (s ++ r) ≡ Some (length s)
closing_found inner [] r h = absurd (false≢true h)
closing_found inner (c ∷ []) r h = absurd (false≢true h)
closing_found inner (c ∷ d ∷ cs) r h =
    let two : (n : ℕ) → ◌≡◌ {A = Option ℕ} (Some (2 + n)) (Some (suc (suc n))) = λ n. ap (λ (k : ℕ). Some k) (omega arith) in
    let one : (n : ℕ) → ◌≡◌ {A = Option ℕ} (Some (1 + n)) (Some (suc n)) = λ n. ap (λ (k : ℕ). Some k) (omega arith) in
    same_tests ((c == 42) && (d == 47)) (inner == 0) ((c == 47) && (d == 42))
    (is_empty cs) (closes_comment (inner - 1) cs) (closes_comment (inner + 1) cs) (closes_comment inner (d ∷ cs))
    (Some 2) (plus 2 (closing_len (inner - 1) (cs ++ r))) (plus 2 (closing_len (inner + 1) (cs ++ r))) (plus 1 (closing_len inner (d ∷ (cs ++ r))))
    (Some (suc (suc (length cs))))
    (λ e. ends_two cs e)
    (λ e. ap (plus 2) (closing_found (inner - 1) cs r e) ∙ two (length cs))
    (λ e. ap (plus 2) (closing_found (inner + 1) cs r e) ∙ two (length cs))
    (λ e. ap (plus 1) (closing_found inner (d ∷ cs) r e) ∙ one (suc (length cs)))
    h

-- where a length is found, the outermost comment closes just there
abbrev ClosesAt : ℕ → List ℕ → Option ℕ → Type 0
ClosesAt inner text None = Unit {0}
ClosesAt inner text (Some n) = (closes_comment inner (take n text) ≡ true) × (2 ≤ n) × (n ≤ length text)

-- behind two characters it closes
two_longer : (inner next c d : ℕ) (cs : List ℕ) → ((t : List ℕ) → closes_comment next t ≡ true → closes_comment inner (c ∷ d ∷ t) ≡ true) → (o : Option ℕ) → ClosesAt next cs o → ClosesAt inner (c ∷ d ∷ cs) (plus 2 o)
two_longer inner next c d cs goes None h = tt
two_longer inner next c d cs goes (Some n) h =
    let two : suc (suc n) ≡ 2 + n = omega arith in
    (subst (λ k. closes_comment inner (take k (c ∷ d ∷ cs)) ≡ true) two (goes (take n cs) h.0), omega arith, omega arith)

-- behind one character it closes
one_longer : (inner c d : ℕ) (cs : List ℕ) → ((t : List ℕ) → closes_comment inner (d ∷ t) ≡ true → closes_comment inner (c ∷ d ∷ t) ≡ true) → (o : Option ℕ) → ClosesAt inner (d ∷ cs) o → ClosesAt inner (c ∷ d ∷ cs) (plus 1 o)
one_longer inner c d cs goes None h = tt
one_longer inner c d cs goes (Some zero) h = absurd (omega arith)
one_longer inner c d cs goes (Some (suc n)) h =
    let one : suc (suc n) ≡ 1 + suc n = omega arith in
    (subst (λ k. closes_comment inner (take k (c ∷ d ∷ cs)) ≡ true) one (goes (take n cs) h.0), omega arith, omega arith)

-- where it is found that a comment closes, it does
closing_is : (inner : ℕ) (text : List ℕ) → ClosesAt inner text (closing_len inner text)
closing_is inner [] = tt
closing_is inner (c ∷ []) = tt
closing_is inner (c ∷ d ∷ cs) =
    let P : Option ℕ → Type 0 = ClosesAt inner (c ∷ d ∷ cs) in
    cond_both ((c == 42) && (d == 47)) _ _ P
    (λ e. cond_both (inner == 0) _ _ P
    (λ z. (rw (e, z) refl, omega arith, omega arith))
    (λ z. two_longer inner (inner - 1) c d cs (λ t k. rw (e, z) k) _ (closing_is (inner - 1) cs)))
    (λ e. cond_both ((c == 47) && (d == 42)) _ _ P
    (λ f. two_longer inner (inner + 1) c d cs (λ t k. rw (e, f) k) _ (closing_is (inner + 1) cs))
    (λ f. one_longer inner c d cs (λ t k. rw (e, f) k) _ (closing_is inner (d ∷ cs))))

-- what stands behind the line begins with no character of it
line_ends : (cs : List ℕ) → begins is_in_line (drop (prefix_len is_in_line cs) cs) ≡ false
line_ends [] = refl
line_ends (c ∷ cs) =
    let n : ℕ = prefix_len is_in_line cs in
    let P : ℕ → Type 0 = λ k. begins is_in_line (drop k (c ∷ cs)) ≡ false in
    let one : suc n ≡ 1 + n = omega arith in
    cond_both (is_in_line c) (1 + n) 0 P (λ _. subst P one (line_ends cs)) (λ e. e)

-- two characters and the next ones fit, where they are a piece
two_fit : (kind : PieceKind) (c d : ℕ) (cs : List ℕ) (n : ℕ) → n ≤ length cs → is_piece kind (c ∷ d ∷ take n cs) ≡ true → Fits (c ∷ d ∷ cs) (Some (kind, 2 + n))
two_fit kind c d cs n h e =
    let two : suc (suc n) ≡ 2 + n = omega arith in
    (subst (λ k. is_piece kind (take k (c ∷ d ∷ cs)) ≡ true) two e, omega arith, omega arith)

-- a line that is found fits
line_fits : (c d : ℕ) (cs : List ℕ) → ((c == 47) && (d == 47)) ≡ true → Fits (c ∷ d ∷ cs) (line_at cs)
line_fits c d cs e =
    let n : ℕ = prefix_len is_in_line cs in
    let whole = take-append-drop n cs in
    let ends = line_ends cs in
    cond_both (opens_inner cs) _ _ (Fits (c ∷ d ∷ cs)) (λ _. tt) (λ outer.
    let documents : opens_line_doc (take n cs) ≡ opens_line_doc cs = sym (line_doc-append (take n cs) (drop n cs) ends) ∙ ap opens_line_doc whole in
    let inner : opens_inner (take n cs) ≡ false = sym (line_inner-append (take n cs) (drop n cs) ends) ∙ ap opens_inner whole ∙ outer in
    two_fit (comment_kind (opens_line_doc cs)) c d cs n (prefix_len-le-length is_in_line cs)
    (line_is (opens_line_doc cs) (c ∷ d ∷ take n cs) (and_from _ _ e (list_all-prefix is_in_line cs)) (documents, inner)))

-- a block that is found fits, where its end was found
block_some : (c d : ℕ) (cs : List ℕ) → ((c == 47) && (d == 42)) ≡ true → opens_inner cs ≡ false → (o : Option ℕ) → ClosesAt 0 cs o → Fits (c ∷ d ∷ cs) (of_kind (comment_kind (opens_block_doc cs)) (plus 2 o))
block_some c d cs e outer None h = tt
block_some c d cs e outer (Some n) h =
    let whole = take-append-drop n cs in
    let documents : opens_block_doc (take n cs) ≡ opens_block_doc cs = sym (block_doc-append (take n cs) (drop n cs) h.0) ∙ ap opens_block_doc whole in
    let inner : opens_inner (take n cs) ≡ false = sym (block_inner-append (take n cs) (drop n cs) h.0) ∙ ap opens_inner whole ∙ outer in
    two_fit (comment_kind (opens_block_doc cs)) c d cs n h.2
    (block_is (opens_block_doc cs) (c ∷ d ∷ take n cs) (and_from _ _ e h.0) (documents, inner))

-- a block that is found fits
block_fits : (c d : ℕ) (cs : List ℕ) → ((c == 47) && (d == 42)) ≡ true → Fits (c ∷ d ∷ cs) (block_at cs)
block_fits c d cs e = cond_both (opens_inner cs) _ _ (Fits (c ∷ d ∷ cs)) (λ _. tt) (λ outer. block_some c d cs e outer (closing_len 0 cs) (closing_is 0 cs))

-- the comment or the documentation that is found fits
pub comment_fits : (text : List ℕ) → opens_comment text ≡ true → Fits text (comment_at text)
comment_fits [] o = tt
comment_fits (c ∷ []) o = tt
comment_fits (c ∷ d ∷ cs) o =
    let P : Option (PieceKind × ℕ) → Type 0 = Fits (c ∷ d ∷ cs) in
    cond_both ((c == 47) && (d == 47)) _ _ P (λ e. line_fits c d cs e) (λ _.
    cond_both ((c == 47) && (d == 42)) _ _ P (λ e. block_fits c d cs e) (λ _. tt))

-- a line stands only before what begins with no character of it
line_end_before : (s r : List ℕ) → is_line s ≡ true → ends_line_before s r ≡ true → begins is_in_line r ≡ false
line_end_before s r h m = ⊎_elim (λ e. absurd (false≢true (sym e ∙ h))) (λ e. e) (and_cases (is_line s) (begins is_in_line r) (not-true _ m))

-- a line that may stand before the rest is found
line_finds : (documents : Bool) (s r : List ℕ) → is_line s ≡ true → OpensLine documents (drop 2 s) → ends_line_before s r ≡ true → comment_at (s ++ r) ≡ Some (comment_kind documents, length s)
line_finds documents [] r h o m = absurd (false≢true h)
line_finds documents (c ∷ []) r h o m = absurd (false≢true h)
line_finds documents (c ∷ d ∷ cs) r h o m =
    let p = and_parts ((c == 47) && (d == 47)) _ h in
    let opened = p.0 in
    let ends = line_end_before (c ∷ d ∷ cs) r h m in
    let kind : opens_line_doc (cs ++ r) ≡ documents = line_doc-append cs r ends ∙ o.0 in
    let outer : opens_inner (cs ++ r) ≡ false = line_inner-append cs r ends ∙ o.1 in
    let all = prefix_len-append is_in_line cs r p.1 ends in
    rw (opened, outer, kind) (same_length (comment_kind documents) _ _ (omega (arith, all)))

-- a star is no slash
two_marks : (d : ℕ) → (d == 42) ≡ true → (d == 47) ≡ false
two_marks d h = grind (arith, nat_tests)

-- what begins with a block begins with no line
block_no_line : (c d : ℕ) → ((c == 47) && (d == 42)) ≡ true → ((c == 47) && (d == 47)) ≡ false
block_no_line c d h = let star = (and_parts (c == 47) _ h).1 in and_right _ _ (two_marks d star)

-- a block is found
block_finds : (documents : Bool) (s r : List ℕ) → is_block s ≡ true → OpensBlock documents (drop 2 s) → comment_at (s ++ r) ≡ Some (comment_kind documents, length s)
block_finds documents [] r h o = absurd (false≢true h)
block_finds documents (c ∷ []) r h o = absurd (false≢true h)
block_finds documents (c ∷ d ∷ cs) r h o =
    let p = and_parts ((c == 47) && (d == 42)) _ h in
    let opened = p.0 in
    let apart = block_no_line c d p.0 in
    let kind : opens_block_doc (cs ++ r) ≡ documents = block_doc-append cs r p.1 ∙ o.0 in
    let outer : opens_inner (cs ++ r) ≡ false = block_inner-append cs r p.1 ∙ o.1 in
    let all = closing_found 0 cs r p.1 in
    rw (apart, opened, outer, kind, all) (same_length (comment_kind documents) _ _ (omega arith))

-- a comment of the kind that may stand before the rest is found
kind_finds : (documents : Bool) (s r : List ℕ) → is_piece (comment_kind documents) s ≡ true → ends_line_before s r ≡ true → comment_at (s ++ r) ≡ Some (comment_kind documents, length s)
kind_finds documents s r h m = ⊎_elim (λ l. line_finds documents s r l.0 l.1 m) (λ b. block_finds documents s r b.0 b.1) (kind_parts documents s h)

-- a comment that may stand before the rest is found
pub comment_finds : (s r : List ℕ) → is_comment s ≡ true → ends_line_before s r ≡ true → comment_at (s ++ r) ≡ Some (Comment, length s)
comment_finds s r h m = kind_finds false s r h m

-- documentation that may stand before the rest is found
pub doc_finds : (s r : List ℕ) → is_doc s ≡ true → ends_line_before s r ≡ true → comment_at (s ++ r) ≡ Some (Token Doc, length s)
doc_finds s r h m = kind_finds true s r h m

-- a line begins with `/` and `/`
line_opens : (s : List ℕ) → is_line s ≡ true → opens_comment s ≡ true
line_opens [] h = absurd (false≢true h)
line_opens (c ∷ []) h = absurd (false≢true h)
line_opens (c ∷ d ∷ cs) h = let p = and_parts (c == 47) (d == 47) (and_parts ((c == 47) && (d == 47)) _ h).0 in and_from _ _ p.0 (or_left _ _ p.1)

-- a block begins with `/` and `*`
block_opens : (s : List ℕ) → is_block s ≡ true → opens_comment s ≡ true
block_opens [] h = absurd (false≢true h)
block_opens (c ∷ []) h = absurd (false≢true h)
block_opens (c ∷ d ∷ cs) h = let p = and_parts (c == 47) (d == 42) (and_parts ((c == 47) && (d == 42)) _ h).0 in and_from _ _ p.0 (or_right _ _ p.1)

-- a comment of the kind begins with `/`, and then `/` or `*`
kind_opens : (documents : Bool) (s : List ℕ) → is_piece (comment_kind documents) s ≡ true → opens_comment s ≡ true
kind_opens documents s h = ⊎_elim (λ l. line_opens s l.0) (λ b. block_opens s b.0) (kind_parts documents s h)

-- a comment begins with `/`, and then `/` or `*`
pub comment_opens : (s : List ℕ) → is_comment s ≡ true → opens_comment s ≡ true
comment_opens s h = kind_opens false s h

-- documentation begins with `/`, and then `/` or `*`
pub doc_opens : (s : List ℕ) → is_doc s ≡ true → opens_comment s ≡ true
doc_opens s h = kind_opens true s h

-- a line feed behind the rest changes nothing
pub ends_line-feed_behind : (s r b : List ℕ) → ends_line_before s (r ++ 10 ∷ b) ≡ ends_line_before s r
ends_line-feed_behind s r b = ap (λ x. not (is_line s && x)) (begins-append is_in_line r (10 ∷ b) refl)

-- each may stand before a line feed
pub ends_line-feed : (s r : List ℕ) → ends_line_before s (10 ∷ r) ≡ true
ends_line-feed s r = not_from_false _ (and_right (is_line s) false refl)

-- each comment may stand at the end of the text
pub ends_line-nil : (s : List ℕ) → ends_line_before s [] ≡ true
ends_line-nil s = not_from_false _ (and_right (is_line s) false refl)

-- a block ends with `*/`
closes_split : (inner : ℕ) (s : List ℕ) → closes_comment inner s ≡ true → (front : List ℕ) × (s ≡ front ++ 42 ∷ 47 ∷ [])
closes_split inner [] h = absurd (false≢true h)
closes_split inner (c ∷ []) h = absurd (false≢true h)
closes_split inner (c ∷ d ∷ cs) h =
    ⊎_elim (λ e.
    let inside = rw e at h in
    ⊎_elim (λ z. let p = and_parts (c == 42) _ e in ([], λ i. eqb-true c 42 p.0 i ∷ eqb-true d 47 p.1 i ∷ nil_from_empty cs (rw z at inside) i))
    (λ z. let more = closes_split (inner - 1) cs (rw z at inside) in (c ∷ d ∷ more.0, ap (λ t. c ∷ d ∷ t) more.1))
    (cases_Bool (inner == 0)))
    (λ e.
    let inside = rw e at h in
    ⊎_elim (λ f. let more = closes_split (inner + 1) cs (rw f at inside) in (c ∷ d ∷ more.0, ap (λ t. c ∷ d ∷ t) more.1))
    (λ f. let more = closes_split inner (d ∷ cs) (rw f at inside) in (c ∷ more.0, ap (λ t. c ∷ t) more.1))
    (cases_Bool ((c == 47) && (d == 42))))
    (cases_Bool ((c == 42) && (d == 47)))

-- documentation of a line is `///` and its text
line_doc_of : (s : List ℕ) → is_line s ≡ true → opens_line_doc (drop 2 s) ≡ true → (value : List ℕ) × (s ≡ 47 ∷ 47 ∷ 47 ∷ value)
line_doc_of [] h o = absurd (false≢true h)
line_doc_of (c ∷ []) h o = absurd (false≢true h)
line_doc_of (c ∷ d ∷ []) h o = absurd (false≢true o)
line_doc_of (c ∷ d ∷ e ∷ value) h o =
    let p = and_parts (c == 47) (d == 47) (and_parts ((c == 47) && (d == 47)) _ h).0 in
    let q = and_parts (e == 47) _ o in
    (value, λ i. eqb-true c 47 p.0 i ∷ eqb-true d 47 p.1 i ∷ eqb-true e 47 q.0 i ∷ value)

-- what opens documentation of a block and ends with `*/` has a `*` before that
block_doc_body : (s front : List ℕ) → opens_block_doc s ≡ true → s ≡ front ++ 42 ∷ 47 ∷ [] → (value : List ℕ) × (s ≡ 42 ∷ (value ++ 42 ∷ 47 ∷ []))
block_doc_body s [] o e = absurd (false≢true (ap opens_block_doc (sym e) ∙ o))
block_doc_body s (c ∷ value) o e =
    let star = (and_parts (c == 42) _ (ap opens_block_doc (sym e) ∙ o)).0 in
    (value, e ∙ ap (λ x. x ∷ (value ++ 42 ∷ 47 ∷ [])) (eqb-true c 42 star))

-- documentation of a block is `/**`, its text and `*/`
block_doc_of : (s : List ℕ) → is_block s ≡ true → opens_block_doc (drop 2 s) ≡ true → (value : List ℕ) × (s ≡ 47 ∷ 42 ∷ 42 ∷ (value ++ 42 ∷ 47 ∷ []))
block_doc_of [] h o = absurd (false≢true h)
block_doc_of (c ∷ []) h o = absurd (false≢true h)
block_doc_of (c ∷ d ∷ s) h o =
    let p = and_parts ((c == 47) && (d == 42)) _ h in
    let q = and_parts (c == 47) (d == 42) p.0 in
    let parts = closes_split 0 s p.1 in
    let body = block_doc_body s parts.0 o parts.1 in
    (body.0, λ i. eqb-true c 47 q.0 i ∷ eqb-true d 42 q.1 i ∷ body.1 i)

-- documentation has a text
pub doc_of : (s : List ℕ) → is_doc s ≡ true → (value : List ℕ) × IsDocOf s value
doc_of s h =
    ⊎_elim (λ l. let own = line_doc_of s l.0 l.1.0 in (own.0, inl own.1))
    (λ b. let own = block_doc_of s b.0 b.1.0 in (own.0, inr own.1))
    (kind_parts true s h)

-- the text that documentation has is its value
pub doc_value_is : (s value : List ℕ) → IsDocOf s value → doc_value s ≡ value
doc_value_is s value h =
    ⊎_elim (λ e. ap doc_value e)
    (λ e.
    let shape : length (47 ∷ 42 ∷ 42 ∷ (value ++ 42 ∷ 47 ∷ [])) - 5 ≡ length value = omega (arith, length-append value (42 ∷ 47 ∷ [])) in
    ap doc_value e ∙ ap (λ k. take k (value ++ 42 ∷ 47 ∷ [])) shape ∙ take-append_seam value (42 ∷ 47 ∷ []))
    h
