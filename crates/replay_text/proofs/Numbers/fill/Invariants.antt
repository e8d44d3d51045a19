-- `Numbers::fill`: what was filled, and the numbers and the text that are left.
use Rattle.std.proofs.Common.{◌≡◌, ◌<◌, ℕ, drop, slice_index}
use Rattle.replay_text.specs.TextNumbers.{behind_numbers, number_at, numbers_left, text_left}
use Rattle.replay_text.proofs.Numbers.fill.Given as goal

abbrev pub invariant-loop-place : goal.invariant-loop-place
invariant-loop-place l =
    (numbers_left l.self ≡ drop l.place-index (numbers_left l.initial.self))
    × (text_left l.self ≡ behind_numbers l.place-index (text_left l.initial.self))
    × ((k : ℕ) → k < l.place-index → slice_index l.places k ≡ number_at (numbers_left l.initial.self) k)
