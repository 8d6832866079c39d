-- Which function a path names.
use Rattle.std.specs.Prelude.{ℕ, Bool, true, ◌&&◌, List, [], ◌∷◌, map, Option, Some, None, if◌then◌else◌, chars, codes}
use Rattle.std.specs.Borrow.{Bor}
use Rattle.std.specs.Char.{is_ascii}
use Rattle.std.specs.List.{list_all}
use Rattle.std.specs.Str.{bytes_eq}
use Rattle.std.specs.Cmp.Lexicographic.{pointwise}
use Rattle.educe_tokens.specs.declared.token.Token.{Token}
use Rattle.educe_tokens.specs.Text.{text_of}
use Rattle.educe_tokens.specs.WrittenLexemes.{written_lexemes}
use Rattle.educe_tree.specs.declared.expr.ExprPath.{ExprPath}
use Rattle.educe_body_values.specs.declared.callee.BuiltIn.{BuiltIn}
use Rattle.educe_body_values.specs.declared.callee.BuiltIn.TheVariants.{Ne, Cmp, PartialCmp, Hash, Clone, CloneFrom}
use Rattle.educe_body_values.specs.declared.callee.Callee.{Callee}
use Rattle.educe_body_values.specs.declared.callee.Callee.TheVariants.{Ne as CalleeNe, Cmp as CalleeCmp, PartialCmp as CalleePartialCmp, Hash as CalleeHash, Clone as CalleeClone, CloneFrom as CalleeCloneFrom, Written}

-- The spellings of tokens; where they agree the tokens are the same (`AreSameTokens`), since a spelling decides the kind.
abbrev pub spellings : List Token → List (List ℕ)
spellings tokens = map (λ t. t.spelling) tokens

-- The spellings of the path of these words, each behind `::`.
abbrev pub path_of : List (List ℕ) → List (List ℕ)
path_of [] = []
path_of (word ∷ words) = codes ":" ∷ codes ":" ∷ word ∷ path_of words

-- The words of the path of a function that is built in.
abbrev pub path_names : BuiltIn → List (List ℕ)
path_names Ne = codes "core" ∷ codes "cmp" ∷ codes "PartialEq" ∷ codes "ne" ∷ []
path_names Cmp = codes "core" ∷ codes "cmp" ∷ codes "Ord" ∷ codes "cmp" ∷ []
path_names PartialCmp = codes "core" ∷ codes "cmp" ∷ codes "PartialOrd" ∷ codes "partial_cmp" ∷ []
path_names Hash = codes "core" ∷ codes "hash" ∷ codes "Hash" ∷ codes "hash" ∷ []
path_names Clone = codes "core" ∷ codes "clone" ∷ codes "Clone" ∷ codes "clone" ∷ []
path_names CloneFrom = codes "core" ∷ codes "clone" ∷ codes "Clone" ∷ codes "clone_from" ∷ []

-- The first of these functions whose path has these spellings.
abbrev pub first_spelled : List BuiltIn → List (List ℕ) → Option BuiltIn
first_spelled [] path = None
first_spelled (which ∷ more) path = if pointwise bytes_eq path (path_of (path_names which)) then Some which else first_spelled more path

-- The function that a path of these spellings names, if it is built in.
unfoldable pub built_in_named : List (List ℕ) → Option BuiltIn
built_in_named path = first_spelled (Ne ∷ Cmp ∷ PartialCmp ∷ Hash ∷ Clone ∷ CloneFrom ∷ []) path

-- The built-in function that a path's tokens spell.
abbrev pub built_in : ExprPath → Option BuiltIn
built_in path = built_in_named (spellings path.written.tokens)

-- A function that is built in, as what is called.
abbrev pub as_callee : BuiltIn → Callee
as_callee Ne = CalleeNe
as_callee Cmp = CalleeCmp
as_callee PartialCmp = CalleePartialCmp
as_callee Hash = CalleeHash
as_callee Clone = CalleeClone
as_callee CloneFrom = CalleeCloneFrom

-- The text of a path: its tokens with one space between any two, but none behind a joint punctuation character.
abbrev pub text_of_path : ExprPath → List ℕ
text_of_path path = text_of (written_lexemes path.written)

-- A function that is built in, or else that of the path's text.
abbrev pub callee_or_text : ExprPath → Option BuiltIn → Callee
callee_or_text path None = Written (text_of_path path)
callee_or_text path (Some which) = as_callee which

-- What a path names: a function that is built in, or that of its text.
abbrev pub callee_of : ExprPath → Callee
callee_of path = callee_or_text path (built_in path)

-- Words as they are written in code.
abbrev pub texts : List (Bor (List ℕ)) → List (List ℕ)
texts words = map (λ word. word.now) words

-- The words have ASCII characters alone.
abbrev pub are_ascii : List (Bor (List ℕ)) → Bool
are_ascii [] = true
are_ascii (word ∷ words) = list_all is_ascii word.now && are_ascii words

-- The tokens are spelled `::` and the word.
abbrev pub segment_is : Token → Token → Token → List ℕ → Bool
segment_is first second name word = bytes_eq first.spelling (codes ":") && bytes_eq second.spelling (codes ":") && bytes_eq name.spelling word

-- The function of the first path of a table that has these spellings.
unfoldable pub first_named : List (List (Bor (List ℕ)) × BuiltIn) → List (List ℕ) → Option BuiltIn
first_named [] path = None
first_named (known ∷ more) path =
    if pointwise bytes_eq path (path_of (map (λ word. chars word.now) known.0)) then Some known.1 else first_named more path
