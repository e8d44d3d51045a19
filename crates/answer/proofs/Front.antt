-- Laws of the front of an input.
--   listing_front               the listing of a text depends on its first 60,001 bytes only
--   part_read                   the part of a buffer that was read
--   front_listed                what is written for the front of an input is written for the whole
use Rattle.std.specs.Prelude.{◌≡◌, ◌⊎◌, List, ℕ, ◌≤◌, ◌<◌, length, take}
use Rattle.std.proofs.Common.{sym, ◌∙◌, inl, inr, arith, length-take-le, min, take_all}
use Rattle.std.proofs.lemmas.Bool.{lt-leb}
use Rattle.definitions.specs.Limits.{max_text}
use Rattle.definitions.specs.Reading.{judge_length, read_text}
use Rattle.definitions.specs.Entries.{refusal_line, plan_listing, listing, write_listing}
use Rattle.logic.specs.Tests.{split_at}
use Rattle.answer.specs.Front.{input_places}

too_long : (text : List ℕ) → max_text < length text → listing text ≡ refusal_line 2
unfolding listing plan_listing read_text judge_length
too_long text h = rw (lt-leb (length text) max_text h)

-- A text of at most 60,000 bytes is its own front; of a longer one the front has more than 60,000 too, and both are refused.
pub listing_front : (text : List ℕ) → listing text ≡ listing (take input_places text)
listing_front text = go (split_at max_text (length text))
  where
    go : (max_text < length text) ⊎ (length text ≤ max_text) → listing text ≡ listing (take input_places text)
    go (inl h) = too_long text h ∙ sym (too_long (take input_places text) (omega (arith, length-take-le input_places text (omega arith))))
    go (inr h) = rw (take_all input_places text (omega arith))

-- what was read into a buffer: as much as is said, and no more than it holds
pub part_read : (buffer : List ℕ) (read end : ℕ) → end ≡ min read (length buffer) → take end buffer ≡ take read buffer
part_read buffer read end e = go (split_at (length buffer) read)
  where
    go : (length buffer < read) ⊎ (read ≤ length buffer) → take end buffer ≡ take read buffer
    go (inl h) = take_all end buffer (omega arith) ∙ sym (take_all read buffer (omega arith))
    go (inr h) = let same : end ≡ read = omega arith in rw same

-- what is written for the front of an input is what is written for the whole
pub front_listed : (input buffer out : List ℕ) (read : ℕ) → length buffer ≡ input_places → take read buffer ≡ take (length buffer) input → write_listing (take read buffer) out ≡ write_listing input out
unfolding write_listing
front_listed input buffer out read long e = rw (e, long, ← listing_front input)
