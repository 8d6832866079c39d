use Rattle.std.proofs.Common.{◌≡◌, ◌<◌, ◌^◌, ◌++◌, List, ℕ, sym, subst, arith, chars, IfOk}
use Rattle.educe_tree.specs.declared.ident.Ident.{Ident as Name}
use Rattle.educe_body_forms.proofs.Prefixed.{unraw_decimal}
use Rattle.educe_body_forms.proofs.bindings.binding.Goals as goal

pub returns-in-None-clause-text : goal.returns-in-None-clause-text
returns-in-None-clause-text c =
    let small : c.args.place < 2 ^ 64 = omega arith in
    let P : List ℕ → Type 0 = λ key. IfOk c.index_binding.result (λ (ident : Name). ident.text ≡ chars c.args.prefix.now ++ key) in
    rw c.in-None.is (subst P (sym (unraw_decimal c.args.place small)) c.index_binding.ensures.text)
