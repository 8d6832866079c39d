use Rattle.std.proofs.Common.{◌≡◌, ◌+◌, ◌≤◌, ◌++◌, length, take, drop, replicate, Option, None, List, [], ℕ, refl, sym, ap, subst, ◌∙◌, append-nil, length-drop, rules, arith}
use Rattle.std.proofs.lemmas.List.{nil_from_length, take_all}
use Rattle.educe_syntax_self.specs.Splicing.{ArePlaces}
use Rattle.educe_syntax_self.proofs.Splices.{no_places, more_places}
use Rattle.educe_syntax_self.proofs.splice.places.Goals as goal

pub loop-note-init : goal.loop-note-init
loop-note-init c = no_places c.args.tokens.now c.in_ok-found.found.items (search rules)

pub loop-note-preserved : goal.loop-note-preserved
loop-note-preserved c =
    let tokens = c.args.tokens.now in
    let notes = c.args.notes.now in
    let i = c.loop-note.note-index in
    let items = c.loop-note.found.items in
    let new = c.mark.new.places in
    let size : length new ≡ length items = c.mark.ensures.size ∙ ap length c.deref_mut.ensures.value in
    let behind : drop (length new) items ≡ [] = nil_from_length (drop (length new) items) (omega (arith, length-drop (length new) items)) in
    let whole : new ++ drop (length new) items ≡ new = ap (λ xs. new ++ xs) behind ∙ append-nil new in
    let room : length new ≤ c.loop-note.found.len = omega arith in
    let same : take c.loop-note.found.len (new ++ drop (length new) items) ≡ new = ap (take c.loop-note.found.len) whole ∙ take_all c.loop-note.found.len new room in
    let old = subst (ArePlaces tokens (take i notes)) (sym c.deref_mut.ensures.value) c.loop-note.invariant in
    subst (ArePlaces tokens (take (i + 1) notes)) (sym same) (more_places tokens notes i _ _ c.deref_mut.result.now new (omega arith) refl old c.mark.ensures.size c.mark.ensures.marks)
