-- The index of a session's rows, in the front of an array with a row for each that a rectangle may have.
--   blank_front      the part that is lent to be filled
--   index_room index_front index_served    what is filled is lent to the calls
use Rattle.std.specs.Prelude.{◌≡◌, List, [], ◌++◌, ℕ, ◌≤◌, length, take, drop, replicate}
use Rattle.std.proofs.Common.{sym, ap, ◌∙◌, arith, length-append, get_or-take, length-take-le, take_at}
use Rattle.std.proofs.lemmas.List.{length-replicate, get_or-replicate}
use Rattle.definitions.specs.Limits.{max_side, index_row_places}
use Rattle.definitions.specs.HeldModel.{Checked}
use Rattle.index.specs.HeldRows.{filled_index}
use Rattle.index.specs.HeldLaws.{RowsLong}
use Rattle.index.specs.IndexTheorems.{filled_tall, filled_indexed}
use Rattle.engine.specs.Heap.RowBest.{HasIndex}

-- before it is filled
abbrev pub blank : List (List ℕ)
blank = replicate max_side (replicate index_row_places 0)

blank_tall : length blank ≡ max_side
blank_tall = length-replicate max_side (replicate {A = ℕ} index_row_places 0)

module _ (rows : List (List ℕ)) (cols : ℕ) (checked : Checked rows 0 cols) where
  pub blank_front : length rows ≡ length (take (length rows) blank)
  blank_front = sym (length-take-le (length rows) blank (omega (arith, blank_tall, checked.few)))

  front_long : RowsLong (take (length rows) blank)
  front_long r l =
      ap length (get_or-take (length rows) blank r [] (omega (arith, blank_front)) ∙ get_or-replicate max_side r (replicate {A = ℕ} index_row_places 0) [] (omega (arith, blank_front, checked.few)))
      ∙ length-replicate {A = ℕ} index_row_places 0

  module _ (part : List (List ℕ)) (is : part ≡ filled_index (take (length rows) blank) rows 0 cols) where
    part_tall : length part ≡ length rows
    part_tall = ap length is ∙ filled_tall (take (length rows) blank) rows 0 cols ∙ sym blank_front

    lent_is : take (length rows) (part ++ drop (length rows) blank) ≡ part
    lent_is = take_at part (drop (length rows) blank) (length rows) part_tall

    pub index_room : length rows ≤ length (part ++ drop (length rows) blank)
    index_room = omega (arith, length-append part (drop (length rows) blank), part_tall)

    pub index_front : length rows ≡ length (take (length rows) (part ++ drop (length rows) blank))
    index_front = rw lent_is (sym part_tall)

    pub index_served : HasIndex (take (length rows) (part ++ drop (length rows) blank)) rows 0 cols
    index_served = rw (lent_is, is) (record {
      inside = checked.inside;
      indexed = filled_indexed (take (length rows) blank) rows 0 cols (sym blank_front) front_long checked.some checked.inside;
    })
