-- The lines of a message, one behind the other.
use Rattle.std.proofs.Common.{◌≡◌, ◌∙◌, ℕ, ◌<◌, Bool, true, false, List, [], ◌∷◌, length, length-append, arith, codes, Result, Ok, Err}
use Rattle.std.specs.Prelude.{IfOk, is_some}
use Rattle.educe_attrs_rows.specs.declared.row.Row.{Row}
use Rattle.educe_attrs_rows.specs.Usage.{line, with_line, takes_name, takes_expression, takes_truth, shown, shows_false, shows_true, with_heads, with_names, with_params, with_usage}

-- ---- equal lines

pub line_as : (name rest : List ℕ) (lines others : List (List ℕ)) (a b : Bool) → lines ≡ others → a ≡ b → with_line lines a name rest ≡ with_line others b name rest
line_as name rest lines others a b same is = λ i. with_line (same i) (is i) name rest

pub ok_as : {X E : Type 0} (r : Result X E) (x y : X) → IfOk r (λ z. z ≡ x) → x ≡ y → IfOk r (λ z. z ≡ y)
ok_as (Ok z) x y h same = h ∙ same
ok_as (Err e) x y h same = tt

-- ---- no line goes

-- a line more leaves what stands there
line_kept : (lines : List (List ℕ)) (allowed : Bool) (name rest : List ℕ) → 0 < length lines → 0 < length (with_line lines allowed name rest)
line_kept lines true name rest some = omega (arith, some, length-append lines (line name rest ∷ []))
line_kept lines false name rest some = some

module _ (name : List ℕ) (row : Row) where
  heads_kept : (lines : List (List ℕ)) → 0 < length lines → 0 < length (with_heads lines name row)
  heads_kept lines some =
      let a : List (List ℕ) = with_line lines row.flag name [] in
      let b : List (List ℕ) = with_line a (takes_name row.equals) name (codes " = NewName") in
      line_kept b (takes_expression row.equals) name (codes " = expr")
      (line_kept a (takes_name row.equals) name (codes " = NewName") (line_kept lines row.flag name [] some))

  names_kept : (lines : List (List ℕ)) → 0 < length lines → 0 < length (with_names lines name row)
  names_kept lines some =
      let a : List (List ℕ) = with_line lines (is_some row.name) name (codes "(name(NewName))") in
      let b : List (List ℕ) = with_line a (shows_false (shown row.name)) name (codes "(name = false)") in
      let d : List (List ℕ) = with_line b (shows_true (shown row.name)) name (codes "(name = true)") in
      let e : List (List ℕ) = with_line d (shows_false row.named_field) name (codes "(named_field = false)") in
      line_kept e (shows_true row.named_field) name (codes "(named_field = true)")
      (line_kept d (shows_false row.named_field) name (codes "(named_field = false)")
      (line_kept b (shows_true (shown row.name)) name (codes "(name = true)")
      (line_kept a (shows_false (shown row.name)) name (codes "(name = false)") (line_kept lines (is_some row.name) name (codes "(name(NewName))") some))))

  params_kept : (lines : List (List ℕ)) → 0 < length lines → 0 < length (with_params lines name row)
  params_kept lines some =
      let a : List (List ℕ) = with_line lines row.new name (codes "(new)") in
      let b : List (List ℕ) = with_line a row.expression name (codes "(expression = expr)") in
      let d : List (List ℕ) = with_line b (takes_truth row.equals) name (codes " = false") in
      let e : List (List ℕ) = with_line d row.ignore name (codes "(ignore)") in
      let f : List (List ℕ) = with_line e row.method name (codes "(method(path_to_method))") in
      let g : List (List ℕ) = with_line f row.rank name (codes "(rank = integer)") in
      let h : List (List ℕ) = with_line g row.reverse name (codes "(reverse)") in
      line_kept h row.bound name (codes "(bound(where_predicates))")
      (line_kept g row.reverse name (codes "(reverse)")
      (line_kept f row.rank name (codes "(rank = integer)")
      (line_kept e row.method name (codes "(method(path_to_method))")
      (line_kept d row.ignore name (codes "(ignore)")
      (line_kept b (takes_truth row.equals) name (codes " = false")
      (line_kept a row.expression name (codes "(expression = expr)") (line_kept lines row.new name (codes "(new)") some)))))))

  -- the words stay
  pub usage_kept : (words : List (List ℕ)) → 0 < length words → 0 < length (with_usage words name row)
  usage_kept words some =
      let a : List (List ℕ) = with_heads words name row in
      let b : List (List ℕ) = with_names a name row in
      line_kept (with_params b name row) row.bound name (codes "(bound = false)") (params_kept b (names_kept a (heads_kept words some)))
