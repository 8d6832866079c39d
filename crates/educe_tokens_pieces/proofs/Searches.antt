-- What a search of a text for a run of ASCII characters says of the characters.
use Rattle.std.proofs.Common.{◌≡◌, ◌≢◌, ℕ, ◌<◌, ◌≤◌, false, List, [], ◌∷◌, ◌++◌, length, get_or, take, drop, chars, sym, ap, ◌∙◌, subst, arith, append_assoc, take-append-drop, length-append}
use Rattle.std.specs.Prelude.{encode_utf8_all}
use Rattle.std.specs.Str.{IsUtf8, IsAscii, IsCharBoundary}
use Rattle.std.specs.Str.Iter.{HasSubslice}
use Rattle.std.specs.Str.Pattern.{LacksTextAt, HasTextAt, FindsText, SplitsAroundMatch}
use Rattle.std.proofs.Math.Seq.{drop-append_seam}
use Rattle.std.proofs.lemmas.Bool.{false_from_ne_true}
use Rattle.std.proofs.lemmas.List.{length-take-le}
use Rattle.std.proofs.lemmas.Str.{encodes-chars, encodes-append, encodes-IsAscii, length-le-encodes, chars-append, chars-IsAscii, IsUtf8-from_ascii, IsCharBoundary-after_ascii}
use Rattle.std.proofs.lemmas.Str.Ascii.{IsAscii-cons, IsAscii-nil}
use Rattle.educe_tokens_pieces.specs.Fronts.{begins_pair}
use Rattle.educe_tokens_pieces.proofs.BlockLaws.{pair_is}

-- the bytes of a text in two parts
parts_bytes : (bs xs ys : List ℕ) → IsUtf8 bs → chars bs ≡ xs ++ ys → bs ≡ encode_utf8_all xs ++ encode_utf8_all ys
parts_bytes bs xs ys u e = sym (encodes-chars bs u) ∙ ap encode_utf8_all e ∙ encodes-append xs ys

-- the bytes of what begins with the run
run_bytes : (run ys : List ℕ) → IsAscii run → encode_utf8_all (run ++ ys) ≡ run ++ encode_utf8_all ys
run_bytes run ys a = encodes-append run ys ∙ ap (λ bs. bs ++ encode_utf8_all ys) (encodes-IsAscii run a)

-- where the bytes lack the run, the characters do
pub lacks_run : (run bs : List ℕ) → IsAscii run → IsUtf8 bs → (HasSubslice bs run → ⊥) → (xs ys : List ℕ) → chars bs ≢ xs ++ (run ++ ys)
lacks_run run bs a u none xs ys e = none (encode_utf8_all xs, encode_utf8_all ys, parts_bytes bs xs (run ++ ys) u e ∙ ap (λ us. encode_utf8_all xs ++ us) (run_bytes run ys a))

-- where the run is found first, none begins before it
abbrev pub IsFirstRun : List ℕ → List ℕ → Type 0
IsFirstRun run front = (xs ws ys : List ℕ) → front ≡ xs ++ ws → 0 < length ws → ws ++ run ≢ run ++ ys

pub first_run : (run bs : List ℕ) (i j : ℕ) → IsAscii run → IsUtf8 (take i bs) → i ≤ length bs → ((k : ℕ) → k < i → LacksTextAt run bs k) → HasTextAt run bs i j → IsFirstRun run (chars (take i bs))
first_run run bs i j a u within lacks at xs ws ys e some same =
    let us : List ℕ = encode_utf8_all xs in
    let vs : List ℕ = encode_utf8_all ws in
    let more : List ℕ = drop j bs in
    let own : take i bs ≡ us ++ vs = parts_bytes (take i bs) xs ws u e in
    let long : length (take i bs) ≡ i = length-take-le i bs within in
    let before : length us < i = omega (arith, ap length own, long, length-append us vs, length-le-encodes ws) in
    let again : vs ++ run ≡ run ++ encode_utf8_all ys = ap (λ q. vs ++ q) (sym (encodes-IsAscii run a)) ∙ sym (encodes-append ws run) ∙ ap encode_utf8_all same ∙ run_bytes run ys a in
    let whole : bs ≡ us ++ (vs ++ (run ++ more)) = sym (take-append-drop i bs) ∙ (λ k. own k ++ at.split k) ∙ append_assoc us vs (run ++ more) in
    lacks (length us) before (encode_utf8_all ys ++ more)
    (ap (drop (length us)) whole ∙ drop-append_seam us (vs ++ (run ++ more)) ∙ sym (append_assoc vs run more) ∙ ap (λ q. q ++ more) again ∙ append_assoc run (encode_utf8_all ys) more)

-- the characters before the run, the run, and those behind it
pub run_parts : (run bs : List ℕ) (i j : ℕ) → IsAscii run → IsUtf8 bs → IsUtf8 (take i bs) → IsUtf8 (drop j bs) → HasTextAt run bs i j → chars bs ≡ (chars (take i bs) ++ run) ++ chars (drop j bs)
run_parts run bs i j a u front back at =
    ap chars (sym (take-append-drop i bs) ∙ ap (λ q. take i bs ++ q) at.split)
    ∙ chars-append (take i bs) (run ++ drop j bs) front
    ∙ ap (λ q. chars (take i bs) ++ q) (chars-append run (drop j bs) (IsUtf8-from_ascii run a) ∙ ap (λ q. q ++ chars (drop j bs)) (chars-IsAscii run a))
    ∙ sym (append_assoc (chars (take i bs)) run (chars (drop j bs)))

-- both, where a text is split at the run
pub split_run : (run bs front back : List ℕ) → IsAscii run → IsUtf8 bs → IsUtf8 front → IsUtf8 back → SplitsAroundMatch (FindsText run) bs front back
    → (chars bs ≡ (chars front ++ run) ++ chars back) × IsFirstRun run (chars front)
split_run run bs front back a u v w s =
    let within : s.0 ≤ length bs = omega (arith, s.5, s.7) in
    let before : IsUtf8 (take s.0 bs) = subst IsUtf8 s.3 v in
    let behind : IsUtf8 (drop s.1 bs) = subst IsUtf8 s.4 w in (
      run_parts run bs s.0 s.1 a u before behind s.2.1 ∙ (λ k. (chars (sym s.3 k) ++ run) ++ chars (sym s.4 k)),
      subst (λ q. IsFirstRun run (chars q)) (sym s.3) (first_run run bs s.0 s.1 a before within s.2.0 s.2.1),
    )

-- two ASCII characters at the front
pub pair_parts : (bs : List ℕ) (a b : ℕ) → a < 128 → b < 128 → get_or bs 0 0 ≡ a → get_or bs 1 0 ≡ b → 2 ≤ length bs → bs ≡ a ∷ b ∷ drop 2 bs
pair_parts [] a b f g d e long = absurd (omega arith)
pair_parts (c ∷ []) a b f g d e long = absurd (omega arith)
pair_parts (c ∷ x ∷ bs) a b f g d e long = λ i. d i ∷ e i ∷ bs

pair_ascii : (a b : ℕ) → a < 128 → b < 128 → IsAscii (a ∷ b ∷ [])
pair_ascii a b f g = IsAscii-cons a (b ∷ []) f (IsAscii-cons b [] g IsAscii-nil)

-- the text may be cut behind them
pub pair_cut : (bs : List ℕ) (a b : ℕ) → a < 128 → b < 128 → IsUtf8 bs → bs ≡ a ∷ b ∷ drop 2 bs → IsCharBoundary bs 2
pair_cut bs a b f g u e =
    let long : 1 < length bs = omega (arith, ap length e) in
    let last : get_or bs 1 0 < 128 = omega (arith, ap (λ t. get_or t 1 0) e, g) in
    IsCharBoundary-after_ascii bs 1 u long last

-- its characters are they and those behind them
pub pair_chars : (bs : List ℕ) (a b : ℕ) → a < 128 → b < 128 → bs ≡ a ∷ b ∷ drop 2 bs → chars bs ≡ a ∷ b ∷ chars (drop 2 bs)
pair_chars bs a b f g e =
    ap chars e ∙ chars-append (a ∷ b ∷ []) (drop 2 bs) (IsUtf8-from_ascii (a ∷ b ∷ []) (pair_ascii a b f g)) ∙ ap (λ cs. cs ++ chars (drop 2 bs)) (chars-IsAscii (a ∷ b ∷ []) (pair_ascii a b f g))

-- where the bytes don't begin with them, the characters don't
pub pair_none : (bs : List ℕ) (a b : ℕ) → a < 128 → b < 128 → IsUtf8 bs → ((ys : List ℕ) → bs ≢ a ∷ b ∷ ys) → begins_pair a b (chars bs) ≡ false
pair_none bs a b f g u none =
    false_from_ne_true (begins_pair a b (chars bs)) (λ h.
    let m = pair_is a b (chars bs) h in
    none (encode_utf8_all m.0) (parts_bytes bs [] (a ∷ b ∷ m.0) u m.1 ∙ run_bytes (a ∷ b ∷ []) m.0 (pair_ascii a b f g)))
