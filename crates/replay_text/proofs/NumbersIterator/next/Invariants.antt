-- `Numbers::next`: behind the digits that were read, the numbers are those of the text, and so is what is left behind the first. The text falls at each turn.
use Rattle.std.proofs.Common.{◌≡◌, length}
use Rattle.replay_text.specs.TextNumbers.{behind_from, behind_number, numbers_from, numbers_left, text_left}
use Rattle.replay_text.proofs.NumbersIterator.next.Given as goal

abbrev pub invariant-loop-byte : goal.invariant-loop-byte
invariant-loop-byte l =
    (numbers_from l.number l.self.text.now ≡ numbers_left l.initial.self)
    × (behind_from l.number l.self.text.now ≡ behind_number (text_left l.initial.self))

abbrev pub decreases-loop-byte : goal.decreases-loop-byte
decreases-loop-byte l = length l.self.text.now
