-- Rejections, with their places and words.
use Rattle.std.specs.Prelude.{◌≡◌, ◌⊎◌, ℕ, List, [], ◌∷◌}
use Rattle.educe_tokens.specs.declared.span.Span.{Span}
use Rattle.educe_tokens.specs.declared.error.EduceError.{EduceError}
use Rattle.educe_tokens.specs.declared.error.Kind.{Kind}
use Rattle.educe_tokens.specs.declared.error.Kind.TheVariants.{Syntax, TooDeep, NotCarried, Alloc}

-- The rejection of this kind without a place and without words.
abbrev pub placeless : Kind → EduceError
placeless kind = record { kind = kind; span = record { start = 0; end = 0 }; words = [] }

-- A syntax error at a place.
abbrev pub syntax_at : Span → EduceError
syntax_at place = record { kind = Syntax; span = place; words = [] }

-- An error at a place for nesting that is too deep.
abbrev pub too_deep_at : Span → EduceError
too_deep_at place = record { kind = TooDeep; span = place; words = [] }

-- An error of a kind at a place, with one word.
abbrev pub citing_at : Kind → Span → List ℕ → EduceError
citing_at kind place spelling = record { kind = kind; span = place; words = spelling ∷ [] }

-- An unsupported literal at its place, with its spelling as the word.
abbrev pub not_carried_at : Span → List ℕ → EduceError
not_carried_at place literal = citing_at NotCarried place literal

-- The error is of this kind, at this place, with this word, or it is out of memory.
abbrev pub Cites : Kind → Span → List ℕ → EduceError → Type 0
Cites kind place spelling e = (e ≡ placeless Alloc) ⊎ (e ≡ citing_at kind place spelling)
