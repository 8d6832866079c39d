-- The names that heads have.
use Rattle.std.proofs.Common.{◌≡◌, ℕ, zero, suc, ◌<◌, ◌≤◌, List, [], ◌∷◌, length, refl, sym, ap, arith}
use Rattle.std.specs.Prelude.{slice_index_or}
use Rattle.educe_tokens.specs.declared.word.Word.{Word}
use Rattle.educe_tokens.specs.Quote.{word_lexeme}
use Rattle.educe_body_items.specs.Heads.{name_at}

-- the name at an index of the list
pub name_at-some : (names : List Word) (i : ℕ) (own : Word) → i < length names → own ≡ slice_index_or names i own → (name_at i names).tokens ≡ word_lexeme own.text ∷ []
name_at-some [] i own inside is = absurd (omega arith)
name_at-some (name ∷ more) zero own inside is = ap (λ (w : Word). word_lexeme w.text ∷ []) (sym is)
name_at-some (name ∷ more) (suc i) own inside is = name_at-some more i own (omega arith) is

-- behind the list there is none
pub name_at-none : (names : List Word) (i : ℕ) → length names ≤ i → (name_at i names).tokens ≡ []
name_at-none [] i behind = refl
name_at-none (name ∷ more) zero behind = absurd (omega arith)
name_at-none (name ∷ more) (suc i) behind = name_at-none more i (omega arith)
