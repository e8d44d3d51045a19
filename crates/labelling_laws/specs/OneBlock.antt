-- One block in the labelling: invariants (a), (b) and (d). The laws are in proofs/.
--   Fit                        what is asked of a block
--   Reached Fine               what holds of its trace
--   inserted_most FewClosed    the intervals that all its calls can insert
--   Good                       what holds of a block with its trace
--   Welcome                    no activation is refused
use Rattle.std.specs.Prelude.{◌≡◌, true, ℕ, ◌+◌, ◌*◌, ◌≤◌, ◌<◌, get_or, length}
use Rattle.std.proofs.Math.Option.{some}
use mathlib.Core.List.{List}
use Rattle.definitions.specs.Limits.{max_length}
use Rattle.definitions.specs.Metres.{IsNumber}
use Rattle.definitions.specs.Lists.{mem, Every}
use Rattle.definitions.specs.Monge.{Monge, closed}
use Rattle.definitions.specs.Blocks.{Block}
use Rattle.definitions.specs.Best.{Best}
use Rattle.definitions.specs.Model.{parent, available, judge, Trace}
use Rattle.definitions.specs.Labelling.{BlockState, activation, place_of, Settled, label_of}
use Rattle.basics.specs.ListLaws.{Different}
use Rattle.heap_laws.specs.Lesser.{From}
use Rattle.heap_laws.specs.Sound.{Sound}
use Rattle.heap_laws.specs.TraceCounts.{Few}
use Rattle.labelling_laws.specs.Activated.{activated_by}

-- what is asked of a block of a network of n vertices
pub record Fit (n : ℕ) (b : Block) : Type 0 where
  pub rows_differ : Different b.rows
  pub cols_in_lem : (c : ℕ) → c < length b.cols → (1 ≤ get_or b.cols c 0) × (get_or b.cols c 0 ≤ n)
  pub short : (r c : ℕ) → r < length b.rows → c < length b.cols → IsNumber (b.lengths r c) → b.lengths r c ≤ max_length
  pub monge : Monge b.lengths (length b.rows) (length b.cols)

-- a vertex has a label, at most `level` and at most the least sum x
pub record Reached (xs : List Settled) (level v : ℕ) (x : Best) : Type 0 where
  pub label : ℕ
  pub is : label_of v xs ≡ some label
  pub near : label ≤ level
  pub least : From label x

-- `old` are the vertices whose rows have been activated, `xs` are the settled vertices, all sums handed out so far are at most `level`
pub record Fine (b : Block) (old xs : List Settled) (level : ℕ) (t : Trace) : Type 0 where
  pub sound : Sound b.lengths (length b.rows) (length b.cols) t.model
  -- (a) the activated rows are the settled vertices that are rows, with their labels
  pub rows_are : t.model.activated ≡ activated_by b.rows old
  -- (b) the floor is at most `level`, and the least sum of an available column is at least `level`
  pub floor : t.model.floor ≤ level
  pub ahead : (c : ℕ) → c < length b.cols → From level (available b.lengths t.model c)
  -- (d) the vertex of an extracted column has a label, at most the column's least sum
  pub behind : (c : ℕ) → mem c t.model.extracted ≡ true → Reached xs level (get_or b.cols c 0) (parent b.lengths t.model.activated c)
  -- every call was done
  pub done : Every (λ a. a.code ≡ 0) t.answers
  pub few : Few (closed b.lengths (length b.rows) (length b.cols)) t

-- ---- how many intervals all calls on a block insert

-- each row is activated and each column extracted at most once
unfoldable pub inserted_most : Block → ℕ
inserted_most b = (3 + closed b.lengths (length b.rows) (length b.cols)) * length b.rows + 2 * length b.cols

-- at most k columns are closed, or there is no row
abbrev pub FewClosed : ℕ → Block → Type 0
FewClosed k b = 0 < length b.rows → closed b.lengths (length b.rows) (length b.cols) ≤ k

-- ---- a block with its trace

pub record Good (n : ℕ) (old xs : List Settled) (level : ℕ) (s : BlockState) : Type 0 where
  pub fit : Fit n s.block
  pub fine : Fine s.block old xs level s.trace

-- no activation of a vertex with the label l is refused
abbrev pub Welcome : ℕ → ℕ → BlockState → Type 0
Welcome v l s = (r : ℕ) → place_of v 0 s.block.rows ≡ some r → judge (length s.block.rows) s.trace.model (activation r l) ≡ 0
