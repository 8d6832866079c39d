-- Texts whose characters stand between marks of ASCII characters.
use Rattle.std.proofs.Common.{◌≡◌, ℕ, zero, suc, ◌+◌, ◌-◌, ◌<◌, ◌≤◌, true, List, [], ◌∷◌, ◌++◌, length, take, drop, replicate, refl, sym, ap, ◌∙◌, subst, arith, append_assoc, append-nil, length-append}
use Rattle.std.proofs.Math.Utf8.{scalars, scalar, encodes}
use Rattle.std.specs.List.{slice_range}
use Rattle.std.specs.Str.{chars, IsUtf8, IsAscii, IsCharBoundary}
use Rattle.std.proofs.Math.Seq.{take-append_seam, drop-append_seam}
use Rattle.std.proofs.lemmas.Bool.{and_parts, and_from}
use Rattle.std.proofs.lemmas.Str.{encodes-chars, scalars-chars, chars-encodes, encodes-append, encodes-IsAscii, IsUtf8-append, IsUtf8-from_ascii, IsCharBoundary-at_seam}
use Rattle.std.proofs.lemmas.Str.Ascii.{IsAscii-cons, IsAscii-nil}

-- what stands behind some of the characters are characters
scalars_behind : (xs ys : List ℕ) → scalars (xs ++ ys) ≡ true → scalars ys ≡ true
scalars_behind [] ys h = h
scalars_behind (x ∷ xs) ys h = scalars_behind xs ys (and_parts (scalar x) _ h).1

-- and so are those before it
scalars_before : (xs ys : List ℕ) → scalars (xs ++ ys) ≡ true → scalars xs ≡ true
scalars_before [] ys h = refl
scalars_before (x ∷ xs) ys h = let p = and_parts (scalar x) _ h in and_from _ _ p.0 (scalars_before xs ys p.1)

-- the text is `front`, a middle that has these characters, and `back`
pub record IsBetween (bs front value back : List ℕ) : Type 0 where
  pub middle : List ℕ
  pub is : bs ≡ front ++ (middle ++ back)
  pub chars : Rattle.std.specs.Str.chars middle ≡ value
  pub utf8 : IsUtf8 middle

-- what stands between marks of ASCII characters, in bytes
pub between : (bs front value back : List ℕ) → IsUtf8 bs → IsAscii front → IsAscii back → chars bs ≡ front ++ (value ++ back) → IsBetween bs front value back
between bs front value back u f b e =
    let all : scalars (front ++ (value ++ back)) ≡ true = ap scalars (sym e) ∙ scalars-chars bs u in
    let own = scalars_before value back (scalars_behind front (value ++ back) all) in
    record {
      middle = encodes value;
      is = sym (encodes-chars bs u) ∙ ap encodes e ∙ encodes-append front (value ++ back)
          ∙ (λ i. encodes-IsAscii front f i ++ (encodes-append value back ∙ ap (λ t. encodes value ++ t) (encodes-IsAscii back b)) i);
      chars = chars-encodes value own;
      utf8 = (value, (own, refl));
    }

-- copies of an ASCII character are ASCII
pub IsAscii-replicate : (n c : ℕ) → c < 128 → IsAscii (replicate n c)
IsAscii-replicate zero c h = IsAscii-nil
IsAscii-replicate (suc n) c h = IsAscii-cons c (replicate n c) h (IsAscii-replicate n c h)

-- the text may be cut behind the marks in front
pub front_boundary : (bs front value back : List ℕ) → IsAscii back → IsBetween bs front value back → IsCharBoundary bs (length front)
front_boundary bs front value back b t = IsCharBoundary-at_seam bs front (t.middle ++ back) t.is (IsUtf8-append t.middle back t.utf8 (IsUtf8-from_ascii back b))

-- and before those at the end
pub back_boundary : (bs front value back : List ℕ) → IsAscii back → IsBetween bs front value back → IsCharBoundary bs (length bs - length back)
back_boundary bs front value back b t =
    let seam : bs ≡ (front ++ t.middle) ++ back = t.is ∙ sym (append_assoc front t.middle back) in
    let here : length (front ++ t.middle) ≡ length bs - length back = omega (arith, ap length seam, length-append (front ++ t.middle) back) in
    subst (IsCharBoundary bs) here (IsCharBoundary-at_seam bs (front ++ t.middle) back seam (IsUtf8-from_ascii back b))

-- the marks at both ends are within the text
pub marks_fit : (bs front value back : List ℕ) → IsBetween bs front value back → length front + length back ≤ length bs
marks_fit bs front value back t = omega (arith, ap length t.is, length-append front (t.middle ++ back), length-append t.middle back)

-- what stands between the marks
pub between_chars : (bs front value back : List ℕ) → IsBetween bs front value back → chars (slice_range bs (length front) (length bs - length back)) ≡ value
between_chars bs front value back t =
    let behind : drop (length front) bs ≡ t.middle ++ back = ap (drop (length front)) t.is ∙ drop-append_seam front (t.middle ++ back) in
    let here : length bs - length back - length front ≡ length t.middle = omega (arith, ap length t.is, length-append front (t.middle ++ back), length-append t.middle back) in
    ap chars ((λ i. take (here i) (behind i)) ∙ take-append_seam t.middle back) ∙ t.chars

-- where no marks stand at the end, what stands behind those in front
pub behind_chars : (bs front value : List ℕ) → IsBetween bs front value [] → chars (drop (length front) bs) ≡ value
behind_chars bs front value t = ap chars (ap (drop (length front)) t.is ∙ drop-append_seam front (t.middle ++ []) ∙ append-nil t.middle) ∙ t.chars
