use Rattle.std.proofs.Common.{◌≡◌, ◌-◌, ◌≤◌, drop, chars}
use denote.Text.{Utf8}
use denote.Shadow.{shadow}
use Rattle.educe_tokens_scan.proofs.windows.behind_count.Given as goal

abbrev pub invariant-loop-seen : goal.invariant-loop-seen
invariant-loop-seen l = record {
  utf8 : shadow (Utf8 l.rest);
  behind : chars l.rest ≡ drop l.seen (chars l.text);
  within : l.seen ≤ l.count;
}

abbrev pub decreases-loop-seen : goal.decreases-loop-seen
decreases-loop-seen l = l.count - l.seen
