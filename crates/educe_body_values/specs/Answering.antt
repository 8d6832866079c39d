-- What a call answers.
use Rattle.std.specs.Prelude.{Bool, true, false, not, ◌&&◌, ◌==◌, List, [], ◌∷◌, Option, Some, None, if◌then◌else◌}
use Rattle.std.specs.Str.{bytes_eq}
use Rattle.std.specs.Ordering.{int_eq, int_cmp}
use Rattle.educe_body_values.specs.declared.value.FieldValue.{FieldValue}
use Rattle.educe_body_values.specs.declared.callee.Callee.{Callee}
use Rattle.educe_body_values.specs.declared.callee.Callee.TheVariants.{Ne, Cmp, PartialCmp, Hash, Clone, CloneFrom, Default, Written}
use Rattle.educe_body_values.specs.declared.answers.Answer.{Answer}
use Rattle.educe_body_values.specs.declared.answers.Answer.TheVariants.{Truth, Order, PartialOrder, Part}
use Rattle.educe_body_values.specs.declared.answers.Row.{Row}
use Rattle.educe_body_values.specs.declared.answers.Answers.{Answers}

-- The two values have one type place and one number.
abbrev pub same_value : FieldValue → FieldValue → Bool
same_value x y = (x.ty == y.ty) && int_eq x.number y.number

-- Both arguments are missing, or both are the same value.
abbrev pub same_argument : Option FieldValue → Option FieldValue → Bool
same_argument None None = true
same_argument (Some x) (Some y) = same_value x y
same_argument None (Some y) = false
same_argument (Some x) None = false

-- Both are the same built-in function, default values of one type, or functions that are written as one text.
abbrev pub same_callee : Callee → Callee → Bool
same_callee Ne Ne = true
same_callee Cmp Cmp = true
same_callee PartialCmp PartialCmp = true
same_callee Hash Hash = true
same_callee Clone Clone = true
same_callee CloneFrom CloneFrom = true
same_callee (Default own) (Default place) = own == place
same_callee (Written own) (Written text) = bytes_eq own text
same_callee own callee = false

-- The row answers a call of this function with these arguments.
abbrev pub row_fits : Row → Callee → Option FieldValue → Option FieldValue → Bool
row_fits row callee x y = same_callee row.callee callee && same_argument row.first x && same_argument row.second y

-- The answer of the first row with this callee and these arguments.
abbrev pub first_row : List Row → Callee → Option FieldValue → Option FieldValue → Option Answer
first_row [] callee x y = None
first_row (row ∷ rows) callee x y = if row_fits row callee x y then Some row.answer else first_row rows callee x y

-- The comparison of two numbers; the other functions answer by rows alone.
abbrev pub compared_numbers : Callee → FieldValue → FieldValue → Option Answer
compared_numbers Ne x y = Some (Truth (not (int_eq x.number y.number)))
compared_numbers Cmp x y = Some (Order (int_cmp x.number y.number))
compared_numbers PartialCmp x y = Some (PartialOrder (Some (int_cmp x.number y.number)))
compared_numbers callee x y = None

-- What `Hash::hash` feeds of one value: its number.
abbrev pub hashed_number : Callee → FieldValue → Option Answer
hashed_number Hash x = Some (Part x.number)
hashed_number callee x = None

-- The comparison of the numbers of two values of one type, or what is fed of one value, by a built-in function; otherwise none.
abbrev pub by_number_answer : Callee → Option FieldValue → Option FieldValue → Option Answer
by_number_answer callee None y = None
by_number_answer callee (Some x) None = hashed_number callee x
by_number_answer callee (Some x) (Some y) = if x.ty == y.ty then compared_numbers callee x y else None

-- The first answer, or where there is none the other.
abbrev pub or_else : Option Answer → Option Answer → Option Answer
or_else None other = other
or_else (Some answer) other = Some answer

-- The answer of the first row with this callee and these arguments; without one, if the table answers by number, what the numbers
-- say; otherwise none.
abbrev pub answer_of : Answers → Callee → Option FieldValue → Option FieldValue → Option Answer
answer_of table callee x y =
    or_else (first_row table.rows callee x y) (if table.by_number then by_number_answer callee x y else None)
