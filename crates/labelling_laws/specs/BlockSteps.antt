-- All blocks: what is said of a state of the labelling of a list of blocks. The laws are in proofs/.
--   block_at column_vertex    a block of a state, the vertex of its column
--   Labelled Inv              invariants (c) and (e) of the settled vertices, with those of each block
--   Choice                    what the chosen block says, and the arc into its column
--   Setting Holds             what is asked of the blocks and of the source; the invariant
-- `level` is the last sum handed out, at first 0.
use Rattle.std.proofs.Math.Path.{◌≡◌}
use Rattle.std.proofs.Math.Option.{some}
use Rattle.std.specs.Prelude.{get_or}
use mathlib.Core.List.{List, map}
use Prim.Native.Nat.{ℕ, suc, ◌+◌, ◌*◌, ◌≤◌, ◌<◌}
use Rattle.std.proofs.Math.ListN.{length}
use Rattle.definitions.specs.Limits.{max_vertices, max_length}
use Rattle.definitions.specs.Lists.{Every}
use Rattle.definitions.specs.Network.{Walk}
use Rattle.definitions.specs.Blocks.{Block}
use Rattle.definitions.specs.Best.{by}
use Rattle.definitions.specs.Labelling.{BlockState, least_of, State, label_of, no_block_state, arc_into}
use Rattle.basics.specs.ListLaws.{Different}
use Rattle.heap_laws.specs.Lesser.{From}
use Rattle.labelling_laws.specs.Walks.{BlockArc, Arrives}
use Rattle.labelling_laws.specs.OneBlock.{Fit, Good}

-- block i of a state, from 0, and the vertex of its column c
abbrev pub block_at : State → ℕ → BlockState
block_at st i = get_or st.blocks i no_block_state

abbrev pub column_vertex : BlockState → ℕ → ℕ
column_vertex s c = get_or s.block.cols c 0

-- ---- what holds of every state

module _ (bs : List Block) (n source : ℕ) where
  -- a settled vertex v with its label l, where all sums are at most `level` and `count` vertices are settled
  pub record Labelled (level count v l : ℕ) : Type 0 where
    pub low : 1 ≤ v
    pub high : v ≤ n
    pub near : l ≤ level
    -- (c) there is a walk of the label's length
    pub walk : Walk (BlockArc bs) source v l
    -- (e) each vertex settled before adds at most the longest length
    pub short : l + max_length ≤ max_length * count

  pub record Inv (st : State) (level : ℕ) : Type 0 where
    pub blocks_are : map (λ s. s.block) st.blocks ≡ bs
    pub good : Every (Good n st.settled st.settled level) st.blocks
    pub labels : Every (λ x. Labelled level (length st.settled) x.vertex x.label) st.settled
    pub different : Different (map (λ x. x.vertex) st.settled)

  module _ (small : n ≤ max_vertices) where
    -- what the choice of block i at the sum s says
    pub record Choice (st : State) (level i s : ℕ) : Type 0 where
      pub number_in : i < length st.blocks
      pub col : ℕ
      pub here : least_of (block_at st i) ≡ by col s
      pub rises : level ≤ s
      pub beyond : (j : ℕ) → j < length st.blocks → From s (least_of (block_at st j))
      pub found : Labelled s (suc (length st.settled)) (column_vertex (block_at st i) col) s
      pub arrives : Arrives bs st.settled (column_vertex (block_at st i) col) s (arc_into (block_at st i) col)

  -- ---- after any number of steps

  pub record Holds (st : State) : Type 0 where
    pub level : ℕ
    pub inv : Inv st level
    pub begins : label_of source st.settled ≡ some 0

  -- what is asked of the blocks and of the source
  pub record Setting : Type 0 where
    pub small : n ≤ max_vertices
    pub fits : Every (Fit n) bs
    pub low : 1 ≤ source
    pub high : source ≤ n
