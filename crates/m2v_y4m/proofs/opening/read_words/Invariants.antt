use Rattle.std.proofs.Common.{◌≡◌, ◌+◌, ◌-◌, length}
use Rattle.m2v_y4m.specs.Header.{with_words, words_from, none_seen}
use Rattle.m2v_y4m.specs.Reading.{IsSeen}
use Rattle.m2v_y4m.proofs.opening.read_words.Given as goal

abbrev pub invariant-loop-at : goal.invariant-loop-at
invariant-loop-at l = record {
  rest : with_words none_seen 10 (words_from 10 l.line) ≡ with_words l.seen l.at (words_from l.at l.line);
  seen : IsSeen l.seen;
}

abbrev pub decreases-loop-at : goal.decreases-loop-at
decreases-loop-at l = length l.line + 1 - l.at
