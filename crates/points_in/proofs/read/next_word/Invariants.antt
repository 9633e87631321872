use Rattle.std.specs.Prelude.{◌≡◌, ◌≤◌, length, ◌-◌}
use Rattle.points_in.specs.Reading.{words_at}
use Rattle.points_in.proofs.read.next_word.Given as goal

abbrev pub invariant-loop-start : goal.invariant-loop-start
invariant-loop-start l = record {
  onward : l.at ≤ l.start;
  within : l.start ≤ length l.bytes;
  words : words_at l.bytes l.at ≡ words_at l.bytes l.start;
}

abbrev pub decreases-loop-start : goal.decreases-loop-start
decreases-loop-start l = length l.bytes - l.start
