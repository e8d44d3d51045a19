-- What building leaves, in one row and in each row.
--   held_of HalvesHeld cut_row       one half's column as held; both halves are held; the place of a stretch from its halves
--   cut_rows RowsLong RowsHalved    the same in each row
--   half_least cut_least           a half's column is its least; the lesser of both is the least of the stretch
--   cut_first cut_second cut_row_lem   the place of a stretch from what is held for its halves
--   small_none small_two small_three     at most three columns
--   row_long .. row_cut            a row, filled: its places, what it holds, what stays; the whole from its halves
--   each-..                        a change of each row, and a loop over the rows
--   rows_few rows_long rows_halved rows_cut     each row, filled
use Rattle.std.specs.Prelude.{◌≡◌, cond, ltb, take}
use Rattle.std.proofs.Math.Path.{refl, ap}
use Rattle.std.proofs.Common.{sym, ◌∙◌, add-one, arith, length-append, take_all}
use mathlib.Core.List.{List, [], ◌∷◌, ◌++◌}
use Prim.Native.Nat.{ℕ, zero, suc, ◌+◌, ◌-◌, ◌/◌, ◌≤◌, ◌<◌}
use Rattle.std.proofs.Math.ListN.{get_or, length, set}
use Rattle.definitions.specs.Limits.{row_places, index_row_places}
use Rattle.definitions.specs.Best.{by, lesser}
use Rattle.definitions.specs.Index.{column_of, least_in}
use Rattle.logic.specs.Tests.{Order, less, more, order}
use Rattle.basics.specs.Buffers.{put, put_nothing, put_append}
use Rattle.index.specs.HeldRows.{lengths_in, held_from, HeldAt, filled_row, each_row, fill_rows}
use Rattle.index.specs.PutPlaces.{length_put, set_put, put_before, put_behind, put_held, holds_first, holds_left, holds_right}
use Rattle.index.specs.StretchHalves.{least_some, least_one, least_halves, held_few, held_halves, length_held}

-- the column held at place p for the k columns from s on, where that is built; a single one needs no place
unfoldable pub held_of : List ℕ → ℕ → ℕ → ℕ → ℕ
held_of held p s k = cond (ltb k 2) s (get_or held p 0)

-- the places of both halves are filled
abbrev pub HalvesHeld : List ℕ → List ℕ → ℕ → ℕ → ℕ → Type 0
HalvesHeld held row p s k =
    HeldAt held (p + 1) (held_from (lengths_in row) s (k / 2)) × HeldAt held (p + k / 2) (held_from (lengths_in row) (s + k / 2) (k - k / 2))

-- the place of the stretch itself
unfoldable pub cut_row : ℕ → ℕ → ℕ → List ℕ → List ℕ → List ℕ
cut_row p s k held row = set held p (column_of (least_in (lengths_in row) s k))

-- ---- in each row

abbrev pub cut_rows : List (List ℕ) → List (List ℕ) → ℕ → ℕ → ℕ → List (List ℕ)
cut_rows index rows p s k = each_row (cut_row p s k) index rows

abbrev pub RowsLong : List (List ℕ) → Type 0
RowsLong index = (r : ℕ) → r < length index → length (get_or index r []) ≡ index_row_places

abbrev pub RowsHalved : List (List ℕ) → List (List ℕ) → ℕ → ℕ → ℕ → Type 0
RowsHalved index rows p s k = (r : ℕ) → r < length rows → HalvesHeld (get_or index r []) (get_or rows r []) p s k

-- ---- one row: the columns held

-- what is held for a half is its least, and one of its columns
pub half_least : (row : ℕ → ℕ) (held : List ℕ) (p s k : ℕ) → 1 ≤ k → HeldAt held p (held_from row s k)
    → (by (held_of held p s k) (row (held_of held p s k)) ≡ least_in row s k) × (held_of held p s k < s + k)
unfolding held_of column_of
half_least row held p s k l h = go (order k 2)
  where
    go : Order k 2 → (by (held_of held p s k) (row (held_of held p s k)) ≡ least_in row s k) × (held_of held p s k < s + k)
    go (less t q) = let e : k ≡ 1 = omega arith in (rw (t, e) (sym (least_one row s)), rw t (omega arith))
    go (more t q) =
        let f = least_some row s k l in
        let own : get_or held p 0 ≡ f.column =
        holds_first held p (column_of (least_in row s k)) (held_from row s (k / 2) ++ held_from row (s + k / 2) (k - k / 2)) (rw (held_halves row s k q) at h) ∙ ap column_of f.here in
        (rw (t, own) (sym f.here), rw (t, own) f.high)

-- ---- one row: a stretch from its halves

-- the lesser of the columns of both halves is the least of the stretch
pub cut_least : (row : ℕ → ℕ) (s k l r c : ℕ) → by l (row l) ≡ least_in row s (k / 2) → by r (row r) ≡ least_in row (s + k / 2) (k - k / 2)
    → by c (row c) ≡ lesser (by l (row l)) (by r (row r)) → by c (row c) ≡ least_in row s k
cut_least row s k l r c first second least = least ∙ rw (first, second) (sym (least_halves row s k))

-- two lists of places one behind the other, and one place before them
module _ (row : ℕ → ℕ) (p s k : ℕ) (held₀ : List ℕ) (two : 2 ≤ k) (room : p + k ≤ length held₀ + 1) where
  -- the places of the second half follow those of the first
  both_put : put (put held₀ (p + 1) (held_from row s (k / 2))) (p + k / 2) (held_from row (s + k / 2) (k - k / 2)) ≡ put held₀ (p + 1) (held_from row s (k / 2) ++ held_from row (s + k / 2) (k - k / 2))
  both_put =
      let z : p + k / 2 ≡ p + 1 + length (held_from row s (k / 2)) = omega (arith, length_held row s (k / 2)) in
      rw z (put_append held₀ (p + 1) (held_from row s (k / 2)) (held_from row (s + k / 2) (k - k / 2)) (omega arith))

  both_fit : p + 1 + length (held_from row s (k / 2) ++ held_from row (s + k / 2) (k - k / 2)) ≤ length held₀
  both_fit =
      omega (arith, length_held row s (k / 2), length_held row (s + k / 2) (k - k / 2), length-append (held_from row s (k / 2)) (held_from row (s + k / 2) (k - k / 2)))

  both_cut : (c : ℕ) → c ≡ column_of (least_in row s k)
      → set (put (put held₀ (p + 1) (held_from row s (k / 2))) (p + k / 2) (held_from row (s + k / 2) (k - k / 2))) p c ≡ put held₀ p (held_from row s k)
  both_cut c e =
      rw (both_put, e)
      (set_put held₀ p (column_of (least_in row s k)) (held_from row s (k / 2) ++ held_from row (s + k / 2) (k - k / 2)) both_fit
      ∙ ap (λ (h : List ℕ). put held₀ p h) (sym (held_halves row s k two)))

  both_held : (held : List ℕ) → held ≡ put (put held₀ (p + 1) (held_from row s (k / 2))) (p + k / 2) (held_from row (s + k / 2) (k - k / 2))
      → HeldAt held (p + 1) (held_from row s (k / 2)) × HeldAt held (p + k / 2) (held_from row (s + k / 2) (k - k / 2))
  both_held held e =
      let xs = held_from row s (k / 2) in
      let ys = held_from row (s + k / 2) (k - k / 2) in
      let z : p + 1 + length (held_from row s (k / 2)) ≡ p + k / 2 = omega (arith, length_held row s (k / 2)) in
      let whole : HeldAt held (p + 1) (xs ++ ys) = rw (e, both_put) (put_held held₀ (p + 1) (xs ++ ys) (omega arith)) in
      (holds_left held (p + 1) xs ys whole, rw z at (holds_right held (p + 1) xs ys whole))

-- a column that is the least, as it is held
pub column_least : (row : ℕ → ℕ) (s k c : ℕ) → by c (row c) ≡ least_in row s k → c ≡ column_of (least_in row s k)
unfolding column_of
column_least row s k c e = ap column_of e

-- ---- one row: the place of the stretch itself, from what is held for the halves

module _ (row held : List ℕ) (p s k l x : ℕ) (two : 2 ≤ k) (halves : HalvesHeld held row p s k) (first : l ≡ held_of held (p + 1) s (k / 2))
    (second : x ≡ held_of held (p + k / 2) (s + k / 2) (k - k / 2)) where
  pub cut_first : l < s + k / 2
  cut_first = rw first (half_least (lengths_in row) held (p + 1) s (k / 2) (omega arith) halves.0).1

  pub cut_second : x < s + k
  cut_second = let h = (half_least (lengths_in row) held (p + k / 2) (s + k / 2) (k - k / 2) (omega arith) halves.1).1 in omega (arith, h, second)

  pub cut_row_lem : (c : ℕ) → by c (lengths_in row c) ≡ lesser (by l (lengths_in row l)) (by x (lengths_in row x)) → set held p c ≡ cut_row p s k held row
  unfolding cut_row
  cut_row_lem c least =
      let lengths = lengths_in row in
      let f : by l (lengths l) ≡ least_in lengths s (k / 2) = rw first (half_least lengths held (p + 1) s (k / 2) (omega arith) halves.0).0 in
      let g : by x (lengths x) ≡ least_in lengths (s + k / 2) (k - k / 2) = rw second (half_least lengths held (p + k / 2) (s + k / 2) (k - k / 2) (omega arith) halves.1).0 in
      ap (λ (n : ℕ). set held p n) (column_least lengths s k c (cut_least lengths s k l x c f g least))

-- ---- one row: at most three columns

module _ (row : List ℕ) (p s : ℕ) (held : List ℕ) where
  pub small_none : (k : ℕ) → k < 2 → held ≡ filled_row held row p s k
  unfolding filled_row
  small_none k few = rw (held_few (lengths_in row) s k few) (sym (put_nothing held p))

  pub small_two : (c : ℕ) → p + 2 ≤ length held + 1 → by c (lengths_in row c) ≡ lesser (by s (lengths_in row s)) (by (s + 1) (lengths_in row (s + 1)))
      → set held p c ≡ filled_row held row p s 2
  unfolding filled_row
  small_two c room least =
      let lengths = lengths_in row in
      let all = cut_least lengths s 2 s (s + 1) c (sym (least_one lengths s)) (sym (least_one lengths (s + 1))) least in
      rw (held_few lengths s 1 (omega arith), held_few lengths (s + 1) 1 (omega arith), put_nothing held (p + 1), put_nothing held (p + 1)) at (both_cut lengths p s 2 held (omega arith) room c (column_least lengths s 2 c all))

pub small_three : (row : List ℕ) (p s : ℕ) (held : List ℕ) (x c : ℕ) → p + 3 ≤ length held + 1
    → by x (lengths_in row x) ≡ lesser (by (s + 1) (lengths_in row (s + 1))) (by (s + 2) (lengths_in row (s + 2)))
    → by c (lengths_in row c) ≡ lesser (by s (lengths_in row s)) (by x (lengths_in row x))
    → set (set held (p + 1) x) p c ≡ filled_row held row p s 3
unfolding filled_row
small_three row p s held x c room second whole =
    let lengths = lengths_in row in
    let e : s + 1 + 1 ≡ s + 2 = omega arith in
    let second₂ : by x (lengths x) ≡ lesser (by (s + 1) (lengths (s + 1))) (by (s + 1 + 1) (lengths (s + 1 + 1))) = rw e second in
    let rest = cut_least lengths (s + 1) 2 (s + 1) (s + 1 + 1) x (sym (least_one lengths (s + 1))) (sym (least_one lengths (s + 1 + 1))) second₂ in
    let all = cut_least lengths s 3 s x c (sym (least_one lengths s)) rest whole in
    rw (held_few lengths s 1 (omega arith), put_nothing held (p + 1), ← small_two row (p + 1) (s + 1) held x (omega arith) second₂) at (both_cut lengths p s 3 held (omega arith) room c (column_least lengths s 3 c all))

-- ---- one row, filled

module _ (row : List ℕ) (p s k : ℕ) (held : List ℕ) (long : length held ≡ index_row_places) (fits : p + k ≤ row_places) where
  pub row_long : length (filled_row held row p s k) ≡ index_row_places
  unfolding filled_row
  row_long = go (order k 2)
    where
      go : Order k 2 → length (filled_row held row p s k) ≡ index_row_places
      go (less _ few) = ap length (sym (small_none row p s held k few)) ∙ long
      go (more _ two) = length_put held p (held_from (lengths_in row) s k) (omega (arith, length_held (lengths_in row) s k)) ∙ long

  pub row_held : 1 ≤ k → HeldAt (filled_row held row p s k) p (held_from (lengths_in row) s k)
  unfolding filled_row
  row_held some = put_held held p (held_from (lengths_in row) s k) (omega arith)

  -- other places stay
  pub row_before : (q : ℕ) → q < p → get_or (filled_row held row p s k) q 0 ≡ get_or held q 0
  unfolding filled_row
  row_before q h = go (order k 1)
    where
      go : Order k 1 → get_or (filled_row held row p s k) q 0 ≡ get_or held q 0
      go (less _ few) = ap (λ (l : List ℕ). get_or l q 0) (sym (small_none row p s held k (omega arith)))
      go (more _ some) = put_before held p (held_from (lengths_in row) s k) (omega arith) q h

  pub row_behind : (q : ℕ) → p + k ≤ q + 1 → get_or (filled_row held row p s k) q 0 ≡ get_or held q 0
  unfolding filled_row
  row_behind q h = go (order k 1)
    where
      go : Order k 1 → get_or (filled_row held row p s k) q 0 ≡ get_or held q 0
      go (less _ few) = ap (λ (l : List ℕ). get_or l q 0) (sym (small_none row p s held k (omega arith)))
      go (more _ some) = put_behind held p (held_from (lengths_in row) s k) (omega arith) q (omega (arith, length_held (lengths_in row) s k))

  module _ (two : 2 ≤ k) where
    -- both halves, filled one after the other
    abbrev halves_filled : List ℕ
    halves_filled = filled_row (filled_row held row (p + 1) s (k / 2)) row (p + k / 2) (s + k / 2) (k - k / 2)

    pub row_halved : (l : List ℕ) → l ≡ halves_filled → HalvesHeld l row p s k
    unfolding filled_row
    row_halved l e = both_held (lengths_in row) p s k held two (omega arith) l e

    pub row_cut : cut_row p s k halves_filled row ≡ filled_row held row p s k
    unfolding filled_row cut_row
    row_cut = both_cut (lengths_in row) p s k held two (omega arith) (column_of (least_in (lengths_in row) s k)) refl

-- ---- each row

module _ (f : List ℕ → List ℕ → List ℕ) where
  pub each_tall : (index rows : List (List ℕ)) → length (each_row f index rows) ≡ length index
  unfolding each_row
  each_tall [] rows = refl
  each_tall (held ∷ index) [] = refl
  each_tall (held ∷ index) (row ∷ rows) = ap suc (each_tall index rows)

  pub each_at : (index rows : List (List ℕ)) (r : ℕ) → r < length index → r < length rows → get_or (each_row f index rows) r [] ≡ f (get_or index r []) (get_or rows r [])
  unfolding each_row
  each_at [] rows r l m = absurd (omega arith)
  each_at (held ∷ index) [] r l m = absurd (omega arith)
  each_at (held ∷ index) (row ∷ rows) zero l m = refl
  each_at (held ∷ index) (row ∷ rows) (suc r) l m = each_at index rows r (omega arith) (omega arith)

  each_none : (index : List (List ℕ)) → each_row f index [] ≡ index
  unfolding each_row
  each_none [] = refl
  each_none (held ∷ index) = refl

  each_next : (index rows : List (List ℕ)) (r : ℕ) → get_or (each_row f index (take r rows)) r [] ≡ get_or index r []
  unfolding each_row
  each_next [] rows r = refl
  each_next (held ∷ index) rows zero = refl
  each_next (held ∷ index) [] (suc r) = refl
  each_next (held ∷ index) (row ∷ rows) (suc r) = each_next index rows r

  each_more : (index rows : List (List ℕ)) (r : ℕ) → r < length index → r < length rows
      → set (each_row f index (take r rows)) r (f (get_or index r []) (get_or rows r [])) ≡ each_row f index (take (suc r) rows)
  unfolding each_row
  each_more [] rows r l m = absurd (omega arith)
  each_more (held ∷ index) [] r l m = absurd (omega arith)
  each_more (held ∷ index) (row ∷ rows) zero l m = ap (λ (t : List (List ℕ)). f held row ∷ t) (sym (each_none index))
  each_more (held ∷ index) (row ∷ rows) (suc r) l m = ap (λ (t : List (List ℕ)). f held row ∷ t) (each_more index rows r (omega arith) (omega arith))

  -- a loop over the rows: none is done; the row whose turn it is; one more; all
  module _ (before rows : List (List ℕ)) where
    pub each_start : before ≡ each_row f before (take 0 rows)
    each_start = sym (each_none before)

    module _ (index : List (List ℕ)) (r : ℕ) (done : index ≡ each_row f before (take r rows)) where
      pub each_here : get_or index r [] ≡ get_or before r []
      each_here = ap (λ (xs : List (List ℕ)). get_or xs r []) done ∙ each_next before rows r

      pub each_turn : (row : List ℕ) → r < length before → r < length rows → row ≡ f (get_or index r []) (get_or rows r []) → set index r row ≡ each_row f before (take (r + 1) rows)
      each_turn row l m e = rw (e, each_here, done, add-one r) (each_more before rows r l m)

      pub each_done : length rows ≤ r → index ≡ each_row f before rows
      each_done h = done ∙ ap (λ (xs : List (List ℕ)). each_row f before xs) (take_all r rows h)

  pub each_twice : (g : List ℕ → List ℕ → List ℕ) (index rows : List (List ℕ)) → each_row f (each_row g index rows) rows ≡ each_row (λ held row. f (g held row) row) index rows
  unfolding each_row
  each_twice g [] rows = refl
  each_twice g (held ∷ index) [] = refl
  each_twice g (held ∷ index) (row ∷ rows) = ap (λ (t : List (List ℕ)). f (g held row) row ∷ t) (each_twice g index rows)

  pub each_same : (g : List ℕ → List ℕ → List ℕ) (index rows : List (List ℕ))
      → ((r : ℕ) → r < length index → f (get_or index r []) (get_or rows r []) ≡ g (get_or index r []) (get_or rows r []))
      → each_row f index rows ≡ each_row g index rows
  unfolding each_row
  each_same g [] rows h = refl
  each_same g (held ∷ index) [] h = refl
  each_same g (held ∷ index) (row ∷ rows) h = rw (h 0 (omega arith), each_same g index rows (λ r l. h (suc r) (omega arith)))

-- ---- each row, filled

-- a single column needs no place
pub rows_few : (index rows : List (List ℕ)) (p s k : ℕ) → k < 2 → index ≡ fill_rows index rows p s k
unfolding fill_rows each_row
rows_few [] rows p s k few = refl
rows_few (held ∷ index) [] p s k few = refl
rows_few (held ∷ index) (row ∷ rows) p s k few = ap (λ (h : List ℕ). h ∷ index) (small_none row p s held k few) ∙ ap (λ (t : List (List ℕ)). filled_row held row p s k ∷ t) (rows_few index rows p s k few)

module _ (index rows : List (List ℕ)) (p s k : ℕ) (tall : length index ≡ length rows) (long : RowsLong index) (fits : p + k ≤ row_places) where
  pub rows_long : RowsLong (fill_rows index rows p s k)
  unfolding fill_rows
  rows_long r l =
      let fill : List ℕ → List ℕ → List ℕ = λ held row. filled_row held row p s k in
      let m : r < length index = omega (arith, each_tall fill index rows) in
      ap length (each_at fill index rows r m (omega arith)) ∙ row_long (get_or rows r []) p s k (get_or index r []) (long r m) fits

  -- both halves, one after the other, then the place of the whole
  module _ (two : 2 ≤ k) (one both : List (List ℕ)) (first : one ≡ fill_rows index rows (p + 1) s (k / 2)) (second : both ≡ fill_rows one rows (p + k / 2) (s + k / 2) (k - k / 2)) where
    abbrev first_half_lem : List ℕ → List ℕ → List ℕ
    first_half_lem held row = filled_row held row (p + 1) s (k / 2)

    abbrev second_half_lem : List ℕ → List ℕ → List ℕ
    second_half_lem held row = filled_row held row (p + k / 2) (s + k / 2) (k - k / 2)

    halves_are : both ≡ each_row second_half_lem (each_row first_half_lem index rows) rows
    unfolding fill_rows
    halves_are = second ∙ rw first

    pub rows_halved : RowsHalved both rows p s k
    rows_halved r l =
        let m : r < length index = omega arith in
        let row = get_or rows r [] in
        let here = each_at second_half_lem (each_row first_half_lem index rows) rows r (omega (arith, each_tall first_half_lem index rows)) l in
        row_halved row p s k (get_or index r []) (long r m) fits two (get_or both r []) (ap (λ (xs : List (List ℕ)). get_or xs r []) halves_are ∙ here ∙ ap (λ (held : List ℕ). second_half_lem held row) (each_at first_half_lem index rows r m l))

    pub rows_cut : (whole : List (List ℕ)) → whole ≡ cut_rows both rows p s k → whole ≡ fill_rows index rows p s k
    unfolding fill_rows
    rows_cut whole e =
        e
        ∙ ap (λ (xs : List (List ℕ)). cut_rows xs rows p s k) halves_are
        ∙ each_twice (cut_row p s k) second_half_lem (each_row first_half_lem index rows) rows
        ∙ each_twice (λ held row. cut_row p s k (second_half_lem held row) row) first_half_lem index rows
        ∙ each_same (λ held row. cut_row p s k (second_half_lem (first_half_lem held row) row) row) (λ held row. filled_row held row p s k) index rows (λ r l. row_cut (get_or rows r []) p s k (get_or index r []) (long r l) fits two)
