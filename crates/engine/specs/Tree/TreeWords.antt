-- The words of a tournament: the key of block b at leaves + b, at t the lesser of those at 2t and 2t + 1.
--   levels leaves tree_words room    how many levels, leaves and words there are: a leaf for each block
--   idle Key               the key of a block's best
--   at key_at Won Played    each word is the lesser of the two below it
--   IsTournament           which bests the words hold
--   WinnerLeaves           the lowest block of least sum
--   KeyChanged             one block has another key
--   best_of                 the code's answer as a best
use Rattle.std.specs.Prelude.{◌≡◌, List, ◌≢◌, ℕ, ◌+◌, ◌-◌, ◌*◌, ◌^◌, ◌≤◌, ◌<◌, min, get_or, length, Option, Some, None}
use Rattle.std.proofs.Common.{arith}
use Rattle.definitions.specs.Best.{Best, nobody, by, least_from}
use Rattle.preparation.specs.Prepared.{max_blocks}
use Rattle.engine.specs.Heap.WordLaws.{word_end}

-- the least power of two that gives each block a leaf
abbrev pub levels : ℕ
levels = 10

abbrev pub leaves : ℕ
leaves = 2 ^ levels

pub room : max_blocks ≤ leaves
room = omega arith

-- the words above the leaves and the leaves; the word at 0 is not used
abbrev pub tree_words : ℕ
tree_words = 2 * leaves

-- the key of a block with no interval, above every other: all 64 bits are 1
abbrev pub idle : ℕ
idle = 2 ^ 64 - 1

-- x is the key of block b with a best: least where the sum is least and, where sums are equal, the block is lowest
abbrev pub Key : ℕ → Best → ℕ → Type 0
Key b nobody x = x ≡ idle
Key b (by p s) x = (s < word_end) × (x ≡ s * leaves + b)

abbrev pub at : List ℕ → ℕ → ℕ
at words t = get_or words t 0

-- the key of block b
abbrev pub key_at : List ℕ → ℕ → ℕ
key_at words b = at words (leaves + b)

-- the word at t is the lesser of the two below it
abbrev pub Won : List ℕ → ℕ → Type 0
Won words t = at words t ≡ min (at words (2 * t)) (at words (2 * t + 1))

-- each word above the leaves
abbrev pub Played : List ℕ → Type 0
Played words = (t : ℕ) → 1 ≤ t → t < leaves → Won words t

-- the words hold the best w b of each block b < leaves
pub record IsTournament (w : ℕ → Best) (words : List ℕ) : Type 0 where
  pub size : length words ≡ tree_words
  pub leaf : (b : ℕ) → b < leaves → Key b (w b) (key_at words b)
  pub played : Played words

-- z is the lowest block of least sum, whatever the words hold; of n blocks, where the others have no interval
unfoldable pub WinnerLeaves : List ℕ → Best → Type 0
WinnerLeaves words z =
    (w : ℕ → Best) → IsTournament w words → (n : ℕ) → n ≤ leaves → ((b : ℕ) → n ≤ b → b < leaves → w b ≡ nobody) → z ≡ least_from w 0 n

-- block b has the key x now: whatever the words held, they hold it still, with a best of that key at b
unfoldable pub KeyChanged : ℕ → ℕ → List ℕ → List ℕ → Type 0
KeyChanged b x before after =
    (w v : ℕ → Best) → IsTournament w before → Key b (v b) x → ((i : ℕ) → i < leaves → i ≢ b → v i ≡ w i) → IsTournament v after

abbrev pub best_of : Option (ℕ × ℕ) → Best
best_of (Some (b, s)) = by b s
best_of None = nobody
