use Rattle.std.proofs.Common.{◌∙◌, sym, ap, subst, OnOk, Option, Some, slice_get, Bor}
use Rattle.std.specs.Option.{option_map}
use Rattle.std.proofs.lemmas.Option.{slice_get-map, slice_get-get_or, slice_get_past}
use Rattle.educe_tokens.specs.Appends.{Appends}
use Rattle.educe_tokens.proofs.Appending.{Appends-nil}
use Rattle.educe_tree.specs.declared.ident.Ident.{Ident}
use Rattle.educe_body_forms.specs.Filled.{name_lexemes}
use Rattle.educe_body_forms.proofs.filled.push_name.Goals as goal

pub returns-in-Some-clause-ok : goal.returns-in-Some-clause-ok
returns-in-Some-clause-ok c =
    let at : Bor Ident → Ident = λ n. n.now in
    let Grows : Option Ident → Type 0 = λ found. OnOk c.to_tokens.result (Appends (name_lexemes found) c.args.tokens.now c.to_tokens.new.tokens) in
    let lookup = c.in-Some.ensures.lookup in
    let found = slice_get-get_or c.args.names.now c.args.number c.in-Some.name.now lookup.3.0 ∙ ap Some (sym lookup.1) in
    subst Grows (sym (slice_get-map at c.args.names.now c.args.number ∙ ap (option_map at) found)) c.to_tokens.ensures.ok

pub returns-in-None-clause-ok : goal.returns-in-None-clause-ok
returns-in-None-clause-ok c =
    let at : Bor Ident → Ident = λ n. n.now in
    let Grows : Option Ident → Type 0 = λ found. Appends (name_lexemes found) c.args.tokens.now c.args.tokens.now in
    let found = slice_get_past c.args.names.now c.args.number c.in-None.ensures.lookup.3 in
    subst Grows (sym (slice_get-map at c.args.names.now c.args.number ∙ ap (option_map at) found)) (Appends-nil c.args.tokens.now)
