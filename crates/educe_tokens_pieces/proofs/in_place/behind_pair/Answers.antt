use Rattle.std.proofs.Common.{◌≡◌, ◌≤◌, ◌∷◌, length, get_or, chars, sym, ap, ◌∙◌, arith}
use Rattle.educe_tokens_pieces.proofs.Searches.{pair_parts, pair_cut, pair_chars, pair_none}
use Rattle.educe_tokens_pieces.proofs.in_place.behind_pair.Goals as goal

pub returns-then-bytes-lt2-clause-none : goal.returns-then-bytes-lt2-clause-none
returns-then-bytes-lt2-clause-none c _ =
    pair_none c.args.text.now c.args.first c.args.second c.requires.ascii.0 c.requires.ascii.1 c.utf8.text (λ ys e. omega (arith, ap length (c.as_bytes-bytes.ensures.value ∙ e), c.if-bytes-lt2.true))

pub returns-then-bytes-first-clause-none : goal.returns-then-bytes-first-clause-none
returns-then-bytes-first-clause-none c _ =
    pair_none c.args.text.now c.args.first c.args.second c.requires.ascii.0 c.requires.ascii.1 c.utf8.text (λ ys e. c.if-bytes-first.true (ap (λ t. get_or t 0 0) (c.as_bytes-bytes.ensures.value ∙ e)))

pub range_from-requires : goal.range_from-requires
range_from-requires c _ =
    let same = c.as_bytes-bytes.ensures.value in
    let long : 2 ≤ length c.args.text.now = omega (arith, ap length same, c.if-bytes-lt2.false) in
    let front : get_or c.args.text.now 0 0 ≡ c.args.first = sym (ap (λ t. get_or t 0 0) same) ∙ c.if-bytes-first.false in
    let back : get_or c.args.text.now 1 0 ≡ c.args.second = sym (ap (λ t. get_or t 1 0) same) ∙ c.if-bytes-second.true in
    let parts = pair_parts c.args.text.now c.args.first c.args.second c.requires.ascii.0 c.requires.ascii.1 front back long in
    pair_cut c.args.text.now c.args.first c.args.second c.requires.ascii.0 c.requires.ascii.1 c.utf8.text parts

pub returns-then-bytes-second-clause-parts : goal.returns-then-bytes-second-clause-parts
returns-then-bytes-second-clause-parts c =
    let same = c.as_bytes-bytes.ensures.value in
    let long : 2 ≤ length c.args.text.now = omega (arith, ap length same, c.if-bytes-lt2.false) in
    let front : get_or c.args.text.now 0 0 ≡ c.args.first = sym (ap (λ t. get_or t 0 0) same) ∙ c.if-bytes-first.false in
    let back : get_or c.args.text.now 1 0 ≡ c.args.second = sym (ap (λ t. get_or t 1 0) same) ∙ c.if-bytes-second.true in
    let parts = pair_parts c.args.text.now c.args.first c.args.second c.requires.ascii.0 c.requires.ascii.1 front back long in
    pair_chars c.args.text.now c.args.first c.args.second c.requires.ascii.0 c.requires.ascii.1 parts ∙ ap (λ t. c.args.first ∷ c.args.second ∷ chars t) (sym c.range_from.ensures.value)

pub returns-else-bytes-second-clause-none : goal.returns-else-bytes-second-clause-none
returns-else-bytes-second-clause-none c _ =
    pair_none c.args.text.now c.args.first c.args.second c.requires.ascii.0 c.requires.ascii.1 c.utf8.text (λ ys e. c.if-bytes-second.false (ap (λ t. get_or t 1 0) (c.as_bytes-bytes.ensures.value ∙ e)))
