-- The index of a rectangle in its buffer, row by row.
--   stored_rows held_row                      rows that are stored there, and one that is read from there
--   stored_none stored_more length_stored   none, one more, how many places there are
--   stored_index                            of rows that hold their index, it is the rectangle's
--   zero_rows zeros_tall zeros_stored     rows of zeros that are filled
--   index_same length_index                 of which only used entries count
--   row_placed held_placed                  where the index of a row stands
use Rattle.std.specs.Prelude.{◌≡◌, replicate}
use Rattle.std.proofs.Math.Path.{refl}
use Rattle.std.proofs.Common.{sym, ap, ◌∙◌, get_or-append-add}
use mathlib.Core.List.{List, [], map, flat_map}
use Prim.Native.Nat.{ℕ, zero, suc, ◌+◌, ◌-◌, ◌*◌, ◌≤◌, ◌<◌}
use Rattle.std.proofs.Math.Numerals.{add-one}
use native.Mathlib.Omega.{arith}
use Rattle.std.proofs.Math.ListN.{get_or, length, length-append, get_or-append}
use Rattle.definitions.specs.Limits.{max_side, row_places, index_row_places, index_places}
use Rattle.definitions.specs.Lists.{up_from, padded}
use Rattle.definitions.specs.Network.{Rectangle}
use Rattle.definitions.specs.Blocks.{splits_of}
use Rattle.definitions.specs.Index.{row_index, index_of}
use Rattle.basics.specs.ListLaws.{length_padded}
use Rattle.basics.specs.Sequences.{get_or_each, up_from_snoc}
use Rattle.basics.specs.Buffers.{flat_map_snoc, put, put_padded}
use Rattle.monge.specs.Matrix.{at}
use Rattle.index.specs.HeldRows.{lengths_in, held_from, HeldAt, filled_row, filled_index}
use Rattle.index.specs.StretchHalves.{length_held, held_same}
use Rattle.index.specs.HeldLaws.{RowsLong}
use Rattle.index.specs.FilledRows.{index_tall, index_at}

-- the first n rows, one behind the other; unused places are 0
unfoldable pub stored_rows : List (List ℕ) → ℕ → List ℕ
stored_rows held n = padded index_places 0 (flat_map (λ i. get_or held i []) (up_from 0 n))

-- the places of row i
unfoldable pub held_row : List ℕ → ℕ → List ℕ
held_row index i = map (λ k. get_or index (index_row_places * i + k) 0) (up_from 0 index_row_places)

-- ---- rows one behind the other

module _ (part : ℕ → List ℕ) where
  -- so many places for each
  length_parts : (s n : ℕ) → ((i : ℕ) → s ≤ i → i < s + n → length (part i) ≡ index_row_places) → length (flat_map part (up_from s n)) ≡ index_row_places * n
  unfolding up_from flat_map
  length_parts s zero long = refl
  length_parts s (suc n) long =
      omega (arith, length-append (part s) (flat_map part (up_from (suc s) n)), long s (omega arith) (omega arith), length_parts (suc s) n (λ i a b. long i (omega arith) (omega arith)))

  part_at : (s n i j : ℕ) → ((i : ℕ) → s ≤ i → i < s + n → length (part i) ≡ index_row_places) → i < n → j < index_row_places
      → get_or (flat_map part (up_from s n)) (index_row_places * i + j) 0 ≡ get_or (part (s + i)) j 0
  unfolding up_from flat_map
  part_at s zero i j long l r = absurd (omega arith)
  part_at s (suc n) zero j long l r =
      let z : index_row_places * 0 + j ≡ j = omega arith in
      let w : s + 0 ≡ s = omega arith in
      rw (z, w) (get_or-append (part s) (flat_map part (up_from (suc s) n)) 0 j (omega (arith, long s (omega arith) (omega arith))))
  part_at s (suc n) (suc i) j long l r =
      let z : index_row_places * suc i + j ≡ length (part s) + (index_row_places * i + j) = omega (arith, long s (omega arith) (omega arith)) in
      let w : s + suc i ≡ suc s + i = omega arith in
      rw (z, w) (get_or-append-add (part s) (flat_map part (up_from (suc s) n)) (index_row_places * i + j) 0 ∙ part_at (suc s) n i j (λ i a b. long i (omega arith) (omega arith)) (omega arith) r)

  parts_same : (part' : ℕ → List ℕ) (s n : ℕ) → ((i : ℕ) → s ≤ i → i < s + n → part i ≡ part' i) → flat_map part (up_from s n) ≡ flat_map part' (up_from s n)
  unfolding up_from flat_map
  parts_same part' s zero h = refl
  parts_same part' s (suc n) h = rw (h s (omega arith) (omega arith), parts_same part' (suc s) n (λ i a b. h i (omega arith) (omega arith)))

-- ---- rows that are stored

pub stored_none : (held : List (List ℕ)) (l : List ℕ) → l ≡ replicate index_places 0 → l ≡ stored_rows held 0
unfolding stored_rows up_from flat_map padded
stored_none held l h = h

module _ (held : List (List ℕ)) (tall : length held ≡ max_side) (long : RowsLong held) where
  parts_long : (n : ℕ) → n ≤ max_side → length (flat_map (λ i. get_or held i []) (up_from 0 n)) ≡ index_row_places * n
  parts_long n h = length_parts (λ i. get_or held i []) 0 n (λ i a b. long i (omega arith))

  pub length_stored : (n : ℕ) → n ≤ max_side → length (stored_rows held n) ≡ index_places
  unfolding stored_rows
  length_stored n h = length_padded index_places 0 (flat_map (λ i. get_or held i []) (up_from 0 n)) (omega (arith, parts_long n h))

  pub stored_more : (i : ℕ) (l l' : List ℕ) → i < max_side → l ≡ stored_rows held i → l' ≡ put l (index_row_places * i) (get_or held i []) → l' ≡ stored_rows held (i + 1)
  unfolding stored_rows
  stored_more i l l' h q p =
      let rows : ℕ → List ℕ = λ i. get_or held i [] in
      let z : 0 + i ≡ i = omega arith in
      p
      ∙ rw (q, put_padded index_places (flat_map rows (up_from 0 i)) (rows i) (index_row_places * i) (parts_long i (omega arith)) (omega (arith, long i (omega arith))), add-one i, up_from_snoc 0 i, z)
      (ap (λ (t : List ℕ). padded index_places 0 t) (sym (flat_map_snoc rows (up_from 0 i) i)))

-- ---- the index of a rectangle

-- a row's index is that of the stretch of all its columns
pub row_is : (row : ℕ → ℕ) (cols : ℕ) → row_index row cols ≡ held_from row 0 cols
unfolding row_index held_from splits_of
row_is row cols = refl

-- the index of a row, of which only the columns in use count
row_same : (row row' : ℕ → ℕ) (cols : ℕ) → ((k : ℕ) → k < cols → row k ≡ row' k) → row_index row cols ≡ row_index row' cols
row_same row row' cols h = row_is row cols ∙ held_same row row' 0 cols (λ k a b. h k (omega arith)) ∙ sym (row_is row' cols)

pub index_same : (e e' : Rectangle) (rows cols : ℕ) → ((i k : ℕ) → i < rows → k < cols → e i k ≡ e' i k) → index_of e rows cols ≡ index_of e' rows cols
unfolding index_of
index_same e e' rows cols h =
    ap (λ (xs : List ℕ). padded index_places 0 xs)
    (parts_same (λ i. padded index_row_places 0 (row_index (e i) cols)) (λ i. padded index_row_places 0 (row_index (e' i) cols)) 0 rows
    (λ i a b. ap (λ (xs : List ℕ). padded index_row_places 0 xs) (row_same (e i) (e' i) cols (λ k l. h i k (omega arith) l))))

-- a row of zeros, filled
put_zeros : (xs : List ℕ) → length xs ≤ index_row_places → put (replicate index_row_places 0) 0 xs ≡ padded index_row_places 0 xs
unfolding padded
put_zeros xs h = put_padded index_row_places [] xs 0 refl (omega arith)

filled_zeros : (row : List ℕ) (cols : ℕ) → cols ≤ row_places → filled_row (replicate index_row_places 0) row 0 0 cols ≡ padded index_row_places 0 (row_index (lengths_in row) cols)
unfolding filled_row
filled_zeros row cols h =
    rw (row_is (lengths_in row) cols) (put_zeros (held_from (lengths_in row) 0 cols) (omega (arith, length_held (lengths_in row) 0 cols)))

pub stored_index : (held rectangle : List (List ℕ)) (rows cols : ℕ) → cols ≤ row_places
    → ((i : ℕ) → i < rows → get_or held i [] ≡ filled_row (replicate index_row_places 0) (get_or rectangle i []) 0 0 cols)
    → stored_rows held rows ≡ index_of (at rectangle) rows cols
unfolding stored_rows index_of
stored_index held rectangle rows cols few h =
    ap (λ (xs : List ℕ). padded index_places 0 xs)
    (parts_same (λ i. get_or held i []) (λ i. padded index_row_places 0 (row_index (at rectangle i) cols)) 0 rows (λ i a b. h i (omega arith) ∙ filled_zeros (get_or rectangle i []) cols few))

-- rows of zeros
abbrev pub zero_rows : List (List ℕ)
zero_rows = replicate max_side (replicate {A = ℕ} index_row_places 0)

zero_row : (n i : ℕ) → i < n → get_or (replicate n (replicate {A = ℕ} index_row_places 0)) i [] ≡ replicate index_row_places 0
zero_row zero i l = absurd (omega arith)
zero_row (suc n) zero l = refl
zero_row (suc n) (suc i) l = zero_row n i (omega arith)

-- they are filled, for as many rows as a rectangle has at most
module _ (held rectangle : List (List ℕ)) (cols : ℕ) (tall : length rectangle ≡ max_side) (few : cols ≤ row_places) (filled : held ≡ filled_index zero_rows rectangle 0 cols) where
  pub zeros_tall : length held ≡ max_side
  zeros_tall = ap length filled ∙ index_tall zero_rows rectangle 0 cols

  pub zeros_stored : (rows : ℕ) → rows ≤ max_side → stored_rows held rows ≡ index_of (at rectangle) rows cols
  zeros_stored rows h =
      stored_index held rectangle rows cols few
      (λ i l. ap (λ (xs : List (List ℕ)). get_or xs i []) filled
      ∙ index_at zero_rows rectangle 0 cols (sym tall) (omega arith) i (omega (arith, tall))
      ∙ ap (λ (zeros : List ℕ). filled_row zeros (get_or rectangle i []) 0 0 cols) (zero_row max_side i (omega arith)))

module _ (e : Rectangle) (cols : ℕ) (few : cols ≤ row_places) where
  length_part : (i : ℕ) → length (padded index_row_places 0 (row_index (e i) cols)) ≡ index_row_places
  length_part i = length_padded index_row_places 0 (row_index (e i) cols) (omega (arith, ap length (row_is (e i) cols), length_held (e i) 0 cols))

  abbrev part : ℕ → List ℕ
  part i = padded index_row_places 0 (row_index (e i) cols)

  pub length_index : (rows : ℕ) → rows ≤ max_side → length (index_of e rows cols) ≡ index_places
  unfolding index_of
  length_index rows h = length_padded index_places 0 (flat_map part (up_from 0 rows)) (omega (arith, length_parts part 0 rows (λ i a b. length_part i)))

  -- the index holds each row's numbers from its own place on
  pub row_placed : (rows i : ℕ) → rows ≤ max_side → i < rows → HeldAt (index_of e rows cols) (index_row_places * i) (held_from (e i) 0 cols)
  unfolding index_of padded
  row_placed rows i h l j r =
      let g = length_held (e i) 0 cols in
      let z : 0 + i ≡ i = omega arith in
      let parts = flat_map part (up_from 0 rows) in
      get_or-append parts (replicate (index_places - length parts) 0) 0 (index_row_places * i + j) (omega (arith, length_parts part 0 rows (λ i a b. length_part i), g))
      ∙ part_at part 0 rows i j (λ i a b. length_part i) l (omega (arith, g))
      ∙ rw (z, row_is (e i) cols) (get_or-append (held_from (e i) 0 cols) (replicate (index_row_places - length (held_from (e i) 0 cols)) 0) 0 j r)

-- ---- a row that is read

pub held_placed : (index : List ℕ) (i k : ℕ) → k < index_row_places → get_or (held_row index i) k 0 ≡ get_or index (index_row_places * i + k) 0
unfolding held_row
held_placed index i k h = get_or_each (λ k. get_or index (index_row_places * i + k) 0) index_row_places k 0 h
