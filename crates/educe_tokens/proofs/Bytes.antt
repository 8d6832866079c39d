-- How many bytes characters take.
use Rattle.std.proofs.Common.{◌≡◌, ℕ, suc, ◌+◌, ◌<◌, ◌≤◌, List, [], ◌∷◌, ◌++◌, length, take, drop, get_or, sym, ap, ◌∙◌, arith, length-append, take-append-drop, encode_utf8_all, append-nil}
use Rattle.std.specs.Char.{encode_utf8, len_utf8}
use Rattle.std.proofs.lemmas.Str.{encodes-append, length-encode}
use Rattle.std.proofs.Math.Seq.{take-suc}

-- one character in UTF-8
encodes_one : (c : ℕ) → encode_utf8_all (c ∷ []) ≡ encode_utf8 c
encodes_one c = append-nil (encode_utf8 c)

-- the bytes of two texts are those of both
pub bytes-append : (xs ys : List ℕ) → length (encode_utf8_all (xs ++ ys)) ≡ length (encode_utf8_all xs) + length (encode_utf8_all ys)
bytes-append xs ys = ap length (encodes-append xs ys) ∙ length-append (encode_utf8_all xs) (encode_utf8_all ys)

-- a front has no more bytes than the whole
pub bytes-take_le : (xs : List ℕ) (i : ℕ) → length (encode_utf8_all (take i xs)) ≤ length (encode_utf8_all xs)
bytes-take_le xs i =
    let whole = ap (λ ys. length (encode_utf8_all ys)) (take-append-drop i xs) in
    let parts = bytes-append (take i xs) (drop i xs) in
    omega arith

-- the bytes of one more element that a loop has
pub encodes_item : (xs : List ℕ) (i c : ℕ) → i < length xs → c ≡ get_or xs i c → encode_utf8_all (take (i + 1) xs) ≡ encode_utf8_all (take i xs) ++ encode_utf8 c
encodes_item xs i c h e =
    let one : suc i ≡ i + 1 = omega arith in
    ap encode_utf8_all (ap (λ k. take k xs) (sym one) ∙ take-suc xs i c h) ∙ encodes-append (take i xs) (get_or xs i c ∷ []) ∙ ap (λ bs. encode_utf8_all (take i xs) ++ bs) (encodes_one (get_or xs i c) ∙ ap encode_utf8 (sym e))

-- how many bytes one more element that a loop has takes
pub bytes_item : (xs : List ℕ) (i c : ℕ) → i < length xs → c ≡ get_or xs i c → length (encode_utf8_all (take (i + 1) xs)) ≡ length (encode_utf8_all (take i xs)) + len_utf8 c
bytes_item xs i c h e =
    ap length (encodes_item xs i c h e) ∙ length-append (encode_utf8_all (take i xs)) (encode_utf8 c) ∙ ap (λ n. length (encode_utf8_all (take i xs)) + n) (length-encode c)
