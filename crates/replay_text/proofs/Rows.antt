-- Rows whose first columns are filled row by row: what they hold, and what is kept.
use Rattle.std.proofs.Common.{arith, ◌≡◌, [], ◌∙◌, ap, ◌<◌, ◌≤◌, drop, take, length, ℕ, ◌+◌, ◌-◌, ◌*◌, List, ◌++◌, get_or, set}
use Rattle.std.proofs.lemmas.Grind.{get_or-set_at}
use Rattle.std.proofs.lemmas.List.{get_or-set_other, get_or_append_left, get_or-append_right, get_or-drop, get_or-take}
use Rattle.replay_text.specs.TextNumbers.{HoldsNumbers, KeepsOthers, number_at}

-- behind its first columns a row is as before
pub kept_behind : (places row : List ℕ) (cols j : ℕ) → length places ≡ cols → cols ≤ j → get_or (places ++ drop cols row) j 0 ≡ get_or row j 0
kept_behind places row cols j long far =
    let same : cols + (j - cols) ≡ j = omega arith in
    get_or-append_right places (drop cols row) cols j 0 long far ∙ get_or-drop cols row (j - cols) 0 ∙ ap (λ k. get_or row k 0) same

pub kept_more : (before rows : List (List ℕ)) (row : List ℕ) (at cols : ℕ) → at < length rows
    → ((j : ℕ) → cols ≤ j → get_or row j 0 ≡ get_or (get_or rows at []) j 0)
    → KeepsOthers before rows at cols → KeepsOthers before (set rows at row) (at + 1) cols
kept_more before rows row at cols inside same kept i j other = grind (arith, get_or-set_at, get_or-set_other, same j, kept i j)

pub kept_whole : (before rows : List (List ℕ)) (n at cols : ℕ) → length rows ≡ n → at ≡ n → n ≤ length before
    → KeepsOthers (take n before) rows at cols → KeepsOthers before (rows ++ drop n before) n cols
kept_whole before rows n at cols long all fit kept i j other = grind (arith, get_or_append_left, get_or-take, get_or-append_right, get_or-drop, kept i j)

pub held_more : (rows : List (List ℕ)) (row ns : List ℕ) (at cols : ℕ) → at < length rows
    → ((j : ℕ) → j < cols → get_or row j 0 ≡ number_at (drop (at * cols) ns) j)
    → HoldsNumbers rows at cols ns → HoldsNumbers (set rows at row) (at + 1) cols ns
held_more rows row ns at cols inside filled held i b j d =
    let before : i < at → get_or (get_or rows i []) j 0 ≡ number_at ns (i * cols + j) = λ t. held i t j d in
    grind (arith, get_or-set_at, get_or-set_other, get_or-drop, filled j)
