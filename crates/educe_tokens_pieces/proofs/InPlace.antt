-- Scans of a text where it stands.
use Rattle.std.proofs.Common.{◌≡◌, ◌≢◌, ℕ, ◌+◌, ◌-◌, ◌<◌, Bool, true, false, List, [], ◌∷◌, ◌++◌, length, take, drop, get_or, chars, refl, sym, ap, ◌∙◌, subst, arith, append_assoc, take-append-drop, length-append, lit<, ⊎_elim}
use Rattle.std.specs.Prelude.{◌==◌, ◌&&◌, encode_utf8_all}
use Rattle.std.specs.List.{list_all}
use Rattle.std.specs.Str.{IsUtf8, IsAscii, IsCharBoundary, NonePass, NoCharPasses}
use Rattle.std.specs.Str.Pattern.{HasCharAt}
use Rattle.std.proofs.Math.Seq.{take-append_seam, get_or-append_seam}
use Rattle.std.proofs.lemmas.Bool.{and_parts, and_from, and_right, false≢true, eqb-true, eq-eqb, ne_eqb, cases_Bool}
use Rattle.std.proofs.lemmas.List.Folds.{list_all-append}
use Rattle.std.proofs.lemmas.Str.{IsUtf8-take, IsUtf8-drop, IsCharBoundary-before_ascii, chars-append, chars_past_char, chars_from_encodes, encodes-chars, encodes-append, encode_ascii}
use Rattle.std.proofs.lemmas.Str.Ascii.{IsAscii-cons, IsAscii-nil}
use Rattle.educe_tokens_pieces.specs.Chars.{begins, is_in_line, is_word_start}
use Rattle.educe_tokens_pieces.specs.Words.{is_word}
use Rattle.unicode_ident.specs.Ident.{is_xid_continue}
use Rattle.educe_tokens_pieces.specs.Comments.{closes_comment}
use Rattle.educe_tokens_pieces.specs.Fronts.{HasFront, begins_pair, is_last}
use Rattle.educe_tokens_pieces.specs.declared.quotes.Within.{Within}
use Rattle.educe_tokens_pieces.specs.declared.quotes.Next.TheVariants.{Go, End}
use Rattle.educe_tokens_pieces.specs.Machine.{step, ends}
use Rattle.educe_tokens_pieces.proofs.Searches.{IsFirstRun}

-- behind a front of the text, the test goes on as another one
pub record Goes (test later : List ℕ → Bool) (text rest : List ℕ) : Type 0 where
  pub front : List ℕ
  pub is : text ≡ front ++ rest
  pub on : (cs zs : List ℕ) → rest ≡ cs ++ zs → test (front ++ cs) ≡ later cs

-- before anything it is the same test
pub goes_at : (test : List ℕ → Bool) (text : List ℕ) → Goes test test text text
goes_at test text = record { front = []; is = refl; on = λ cs zs e. refl }

-- what stands behind more characters
further : (text front rest us more : List ℕ) → text ≡ front ++ rest → rest ≡ us ++ more → text ≡ (front ++ us) ++ more
further text front rest us more f e = f ∙ ap (λ cs. front ++ cs) e ∙ sym (append_assoc front us more)

-- it goes on behind more characters
pub goes_on : (test later next : List ℕ → Bool) (text rest more us : List ℕ) → Goes test later text rest → rest ≡ us ++ more → ((cs zs : List ℕ) → more ≡ cs ++ zs → later (us ++ cs) ≡ next cs) → Goes test next text more
goes_on test later next text rest more us g e h = record {
  front = g.front ++ us;
  is = further text g.front rest us more g.is e;
  on = λ cs zs f. ap test (append_assoc g.front us cs) ∙ g.on (us ++ cs) zs (further rest us more cs zs e f) ∙ h cs zs f;
}

-- what passes the later test ends a front that passes the test
pub goes_to : (test later : List ℕ → Bool) (text rest more us : List ℕ) → Goes test later text rest → rest ≡ us ++ more → later us ≡ true → HasFront test text more
goes_to test later text rest more us g e h = record {
  front = g.front ++ us;
  is = further text g.front rest us more g.is e;
  passes = g.on us more e ∙ h;
}

-- one more character passes
pub one_more_passes : (p : ℕ → Bool) (text rest more : List ℕ) (c : ℕ) → HasFront (list_all p) text rest → rest ≡ c ∷ more → p c ≡ true → HasFront (list_all p) text more
one_more_passes p text rest more c f e h = record {
  front = f.front ++ c ∷ [];
  is = f.is ∙ ap (λ cs. f.front ++ cs) e ∙ sym (append_assoc f.front (c ∷ []) more);
  passes = list_all-append p f.front (c ∷ []) ∙ and_from _ _ f.passes (and_from _ _ h refl);
}

-- a word is its first character and those that go on with it
pub word_front : (text more rest : List ℕ) (c : ℕ) → is_word_start c ≡ true → text ≡ c ∷ more → HasFront (list_all is_xid_continue) more rest → HasFront is_word text rest
word_front text more rest c e is f = record {
  front = c ∷ f.front;
  is = is ∙ ap (λ cs. c ∷ cs) f.is;
  passes = and_from _ _ e f.passes;
}

-- a step with which the literal goes on
pub step_goes : (w more : Within) (c : ℕ) → step w c ≡ Go more → (cs : List ℕ) → ends w (c ∷ cs) ≡ ends more cs
step_goes w more c e cs = rw (e, ends) refl

-- a step at which it ends
pub step_ends : (w : Within) (c : ℕ) → step w c ≡ End → ends w (c ∷ []) ≡ true
step_ends w c e = rw (e, ends) refl

-- a list with no line feed
line_from_none : (cs : List ℕ) → NonePass (λ d. d == 10) cs → list_all is_in_line cs ≡ true
line_from_none [] h = refl
line_from_none (c ∷ cs) h = and_from (is_in_line c) _ (rw h.0 refl) (line_from_none cs h.1)

-- the characters of a text in two parts
pub chars_split : (bs : List ℕ) (n : ℕ) → IsUtf8 bs → IsCharBoundary bs n → chars bs ≡ chars (take n bs) ++ chars (drop n bs)
chars_split bs n u b = ap chars (sym (take-append-drop n bs)) ∙ chars-append (take n bs) (drop n bs) (IsUtf8-take bs n u b)

-- a text with no line feed is a line
pub line_in : (bs : List ℕ) → IsUtf8 bs → NoCharPasses (λ d. d == 10) bs → list_all is_in_line (chars bs) ≡ true
line_in bs u h = subst (λ cs. list_all is_in_line cs ≡ true) (chars_from_encodes h.0 bs u h.1) (line_from_none h.0 h.2)

-- behind a line the feed stands first
pub feed_behind : (bs : List ℕ) (n j : ℕ) → IsUtf8 bs → IsCharBoundary bs n → HasCharAt 10 bs n j → begins is_in_line (chars (drop n bs)) ≡ false
feed_behind bs n j u b h = ap (begins is_in_line) (chars_past_char (drop n bs) (drop j bs) 10 (IsUtf8-drop bs n u b) h.split)

-- a mark at the end
is_last-append : (cs : List ℕ) (c : ℕ) → is_last c (cs ++ c ∷ []) ≡ true
is_last-append [] c = eq-eqb c c refl
is_last-append (d ∷ []) c = eq-eqb c c refl
is_last-append (d ∷ e ∷ cs) c = is_last-append (e ∷ cs) c

last_parts : (c : ℕ) (cs : List ℕ) → is_last c cs ≡ true → (us : List ℕ) × (cs ≡ us ++ c ∷ [])
last_parts c [] h = absurd (false≢true h)
last_parts c (d ∷ []) h = ([], ap (λ x. x ∷ []) (eqb-true d c h))
last_parts c (d ∷ e ∷ cs) h = let p = last_parts c (e ∷ cs) h in (d ∷ p.0, ap (λ xs. d ∷ xs) p.1)

-- the bytes of a slash
slash_bytes : encode_utf8_all (47 ∷ []) ≡ 47 ∷ []
slash_bytes = ap (λ xs. xs ++ []) (encode_ascii 47 (lit< tt))

slash_text : IsUtf8 (47 ∷ [])
slash_text = (47 ∷ [], (refl, slash_bytes))

-- what stands before a slash at the end is a text
before_slash : (fs : List ℕ) → IsUtf8 (fs ++ 47 ∷ []) → IsUtf8 fs
before_slash fs u =
    let at = get_or-append_seam fs 47 [] 0 in
    let long = length-append fs (47 ∷ []) in
    let small : get_or (fs ++ 47 ∷ []) (length fs) 0 < 128 = omega (arith, at) in
    subst IsUtf8 (take-append_seam fs (47 ∷ [])) (IsUtf8-take (fs ++ 47 ∷ []) (length fs) u (IsCharBoundary-before_ascii (fs ++ 47 ∷ []) (length fs) (omega (arith, long)) small))

-- its characters
chars_before_slash : (fs : List ℕ) → IsUtf8 (fs ++ 47 ∷ []) → chars (fs ++ 47 ∷ []) ≡ chars fs ++ 47 ∷ []
chars_before_slash fs u =
    chars-append fs (47 ∷ []) (before_slash fs u)
    ∙ ap (λ cs. chars fs ++ cs) (sym (chars_from_encodes (47 ∷ []) (47 ∷ []) slash_text slash_bytes))

-- two tests that imply each other
same_test : (a b : Bool) → (a ≡ true → b ≡ true) → (b ≡ true → a ≡ true) → a ≡ b
same_test true b f g = sym (f refl)
same_test false true f g = g refl
same_test false false f g = refl

-- the text ends with the byte of a slash where its characters end with one
pub slash_ends : (bs : List ℕ) (r : Bool) → IsUtf8 bs → (r ≡ true → bs ≡ take (length bs - 1) bs ++ (47 ∷ [])) × ((front : List ℕ) → bs ≡ front ++ (47 ∷ []) → r ≡ true) → r ≡ is_last 47 (chars bs)
slash_ends bs r u h =
    same_test r (is_last 47 (chars bs))
    (λ e. ap (λ xs. is_last 47 (chars xs)) (h.0 e) ∙ ap (is_last 47) (chars_before_slash (take (length bs - 1) bs) (subst IsUtf8 (h.0 e) u)) ∙ is_last-append (chars (take (length bs - 1) bs)) 47)
    (λ e. let p = last_parts 47 (chars bs) e in
    h.1 (encode_utf8_all p.0) (sym (encodes-chars bs u) ∙ ap encode_utf8_all p.1 ∙ encodes-append p.0 (47 ∷ []) ∙ ap (λ xs. encode_utf8_all p.0 ++ xs) slash_bytes))

-- a character that begins neither `/*` nor `*/` in a text begins neither in a front
one_skipped : (inner c : ℕ) (cs zs more : List ℕ) → more ≡ cs ++ zs → begins_pair 47 42 (c ∷ more) ≡ false → begins_pair 42 47 (c ∷ more) ≡ false → closes_comment inner (c ∷ cs) ≡ closes_comment inner cs
one_skipped inner c [] zs more e opens closes = refl
one_skipped inner c (d ∷ cs) zs more e opens closes =
    let flat : ((c == 47) && (d == 42)) ≡ false = sym (ap (λ t. begins_pair 47 42 (c ∷ t)) e) ∙ opens in
    let within : ((c == 42) && (d == 47)) ≡ false = sym (ap (λ t. begins_pair 42 47 (c ∷ t)) e) ∙ closes in
    rw (within, flat) refl

-- within a comment: `/*` opens one in it,
module _ (inner : ℕ) (text rest : List ℕ) (goes : Goes (closes_comment 0) (closes_comment inner) text rest) where
  pub block_opens : (behind : List ℕ) → rest ≡ 47 ∷ 42 ∷ behind → Goes (closes_comment 0) (closes_comment (inner + 1)) text behind
  block_opens behind e = goes_on (closes_comment 0) (closes_comment inner) (closes_comment (inner + 1)) text rest behind (47 ∷ 42 ∷ []) goes e (λ cs zs f. refl)

  -- `*/` closes one in it,
  pub block_closes : (behind : List ℕ) → rest ≡ 42 ∷ 47 ∷ behind → inner ≢ 0 → Goes (closes_comment 0) (closes_comment (inner - 1)) text behind
  block_closes behind e some =
      goes_on (closes_comment 0) (closes_comment inner) (closes_comment (inner - 1)) text rest behind (42 ∷ 47 ∷ []) goes e (λ cs zs f. rw (ne_eqb inner 0 some) refl)

  -- or the outermost,
  pub block_ends : (behind : List ℕ) → rest ≡ 42 ∷ 47 ∷ behind → inner ≡ 0 → HasFront (closes_comment 0) text behind
  block_ends behind e zero =
      goes_to (closes_comment 0) (closes_comment inner) text rest behind (42 ∷ 47 ∷ []) goes e (ap (λ n. closes_comment n (42 ∷ 47 ∷ [])) zero)

  -- and a character that begins neither is skipped
  pub block_stays : (c : ℕ) (more : List ℕ) → rest ≡ c ∷ more → begins_pair 47 42 rest ≡ false → begins_pair 42 47 rest ≡ false → Goes (closes_comment 0) (closes_comment inner) text more
  block_stays c more e opens closes =
      goes_on (closes_comment 0) (closes_comment inner) (closes_comment inner) text rest more (c ∷ []) goes e
      (λ cs zs f. one_skipped inner c cs zs more f (sym (ap (begins_pair 47 42) e) ∙ opens) (sym (ap (begins_pair 42 47) e) ∙ closes))

-- two characters are not these two
pub apart : (a b c d : ℕ) → (c ≡ a → d ≡ b → ⊥) → ((c == a) && (d == b)) ≡ false
apart a b c d other =
    ⊎_elim (λ e. let p = and_parts (c == a) _ e in absurd (other (eqb-true c a p.0) (eqb-true d b p.1))) (λ e. e) (cases_Bool ((c == a) && (d == b)))

-- `*/` and `/*`
abbrev pub block_end : List ℕ
block_end = 42 ∷ 47 ∷ []

abbrev pub block_start : List ℕ
block_start = 47 ∷ 42 ∷ []

pub block_end_ascii : IsAscii block_end
block_end_ascii = IsAscii-cons 42 (47 ∷ []) (lit< tt) (IsAscii-cons 47 [] (lit< tt) IsAscii-nil)

pub block_start_ascii : IsAscii block_start
block_start_ascii = IsAscii-cons 47 (42 ∷ []) (lit< tt) (IsAscii-cons 42 [] (lit< tt) IsAscii-nil)

-- the first `*/` closes the comment, where no other opens before it
first_closes : (cs : List ℕ) → IsFirstRun block_end cs → ((xs ys : List ℕ) → cs ≢ xs ++ (block_start ++ ys)) → is_last 47 cs ≡ false → closes_comment 0 (cs ++ block_end) ≡ true
first_closes [] first none l = refl
first_closes (c ∷ []) first none l = rw (and_right (c == 42) false refl, l) refl
first_closes (c ∷ d ∷ cs) first none l =
    let stays : ((c == 42) && (d == 47)) ≡ false = apart 42 47 c d (λ e f. first [] (c ∷ d ∷ cs) (cs ++ block_end) refl (omega arith) (λ i. e i ∷ f i ∷ (cs ++ block_end))) in
    let flat : ((c == 47) && (d == 42)) ≡ false = apart 47 42 c d (λ e f. none [] cs (λ i. e i ∷ f i ∷ cs)) in
    rw (stays, flat) (first_closes (d ∷ cs) (λ xs ws ys e. first (c ∷ xs) ws ys (ap (λ t. c ∷ t) e)) (λ xs ys e. none (c ∷ xs) ys (ap (λ t. c ∷ t) e)) l)

-- the text up to the first `*/` is a block comment, where no `/*` stands before it
pub flat_ends : (text front rest : List ℕ) → text ≡ (front ++ block_end) ++ rest → IsFirstRun block_end front → ((xs ys : List ℕ) → front ≢ xs ++ (block_start ++ ys)) → is_last 47 front ≡ false
    → HasFront (closes_comment 0) text rest
flat_ends text front rest e first none l = record { front = front ++ block_end; is = e; passes = first_closes front first none l }
