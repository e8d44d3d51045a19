-- `index_row` lends the places of a row.
use Rattle.std.proofs.Common.{◌≡◌, ◌+◌, ◌-◌, ◌*◌, ◌≤◌, ◌<◌, ℕ, List, get_or, length, take, drop, ap, ◌∙◌, arith}
use Rattle.std.proofs.lemmas.List.{get_or-take, get_or-drop, length-take-le}
use Rattle.std.proofs.lemmas.Option.{MatchOption-at_some}
use Rattle.definitions.specs.Limits.{index_row_places}
use Rattle.basics.specs.Sequences.{each_is}
use Rattle.index.specs.IndexRows.{held_row}
use Rattle.index.proofs.entries.index_row.Goals as goal

-- some places of a list, read one by one
places_are : (index row : List ℕ) (a n k : ℕ) → a + k ≤ length index → n ≡ length index - a → row ≡ take k (take n (drop a index)) → (j : ℕ) → j < k → get_or row j 0 ≡ get_or index (a + j) 0
places_are index row a n k fits m e j l = rw e (get_or-take k (take n (drop a index)) j 0 l ∙ get_or-take n (drop a index) j 0 (omega arith) ∙ get_or-drop a index j 0)

pub returns : goal.returns
unfolding held_row
returns c =
    let a = c.args in
    let chunk = MatchOption-at_some _ _ c.unwrap.result c.unwrap.ensures c.first_chunk.ensures.cases in
    let long = length-take-le 23 (take (length a.index.now - 23 * a.i) (drop (23 * a.i) a.index.now)) chunk.enough in
    each_is (λ k. get_or a.index.now (index_row_places * a.i + k) 0) c.unwrap.result.now index_row_places 0 (ap length chunk.same ∙ long)
    (places_are a.index.now c.unwrap.result.now (23 * a.i) (length a.index.now - 23 * a.i) 23 (omega arith) (omega arith) chunk.same)
