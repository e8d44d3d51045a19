-- Where no block has an interval, the labels are the least lengths of walks over the arcs of the blocks.
--   labels_exact
use Rattle.std.specs.Prelude.{◌≡◌, List, ℕ, ◌+◌, ◌≤◌, ◌<◌, length}
use Rattle.std.proofs.Common.{sym, ◌∙◌, le_refl, arith}
use Rattle.std.proofs.Math.Option.{some}
use Rattle.std.proofs.lemmas.List.{length-map}
use Rattle.definitions.specs.Limits.{sum}
use Rattle.definitions.specs.Lists.{mem}
use Rattle.definitions.specs.Network.{Rectangle, Walk, stay, then}
use Rattle.definitions.specs.Blocks.{Block}
use Rattle.definitions.specs.Best.{Best, nobody, by}
use Rattle.definitions.proofs.Laws.LeastLaws.{Found, found_is}
use Rattle.definitions.specs.Model.{Model, parent, available}
use Rattle.definitions.specs.Labelling.{BlockState, least_of, place_of, Settled, State, label_of, no_block_state, chosen, steps, start, columns, labelling}
use Rattle.logic.specs.Tests.{Truth, holds, fails, truth}
use Rattle.basics.specs.ListLaws.{every_at}
use Rattle.heap_laws.specs.Lesser.{From, UpTo}
use Rattle.labelling_laws.proofs.VertexPlaces.{place_of_lem}
use Rattle.labelling_laws.specs.Labels.{Status, settled, unsettled}
use Rattle.labelling_laws.proofs.Labels.{status, labelled}
use Rattle.labelling_laws.proofs.Activated.{settled_up_to}
use Rattle.labelling_laws.specs.Walks.{ArcOf, BlockArc}
use Rattle.labelling_laws.specs.OneBlock.{Reached, Good}
use Rattle.labelling_laws.specs.BlockSteps.{block_at, Labelled, Setting, Holds}
use Rattle.labelling_laws.proofs.BlockSteps.{block_at_lem, steps_hold}
use Rattle.labelling_laws.proofs.Ends.{ends}
use Rattle.labelling_laws.specs.Exact.{BlockDistance}

-- a vertex has a label of at most l
record Within (xs : List Settled) (v l : ℕ) : Type 0 where
  label : ℕ
  is : label_of v xs ≡ some label
  short : label ≤ l

module _ (bs : List Block) (n source : ℕ) (st : State) (h : Holds bs n source st) (ended : chosen st ≡ nobody) where
  nothing : (i : ℕ) → i < length st.blocks → (c : ℕ) → c < length (block_at st i).block.cols
      → available (block_at st i).block.lengths (block_at st i).trace.model c ≡ nobody
  unfolding chosen least_of
  nothing i l c k =
      let top : Found (λ j. least_of (block_at st j)) 0 (length st.blocks) nobody = rw ended at (found_is (λ j. least_of (block_at st j)) 0 (length st.blocks)) in
      let s : BlockState = block_at st i in
      let low : Found (available s.block.lengths s.trace.model) 0 (length s.block.cols) nobody
      = rw (top i (omega arith) (omega arith)) at (found_is (available s.block.lengths s.trace.model) 0 (length s.block.cols)) in
      low c (omega arith) (omega arith)

  -- from a settled vertex along one arc
  one_arc : (u w l l' : ℕ) → Within st.settled u l → (i : ℕ) → i < length st.blocks → ArcOf (block_at st i).block u w l' → Within st.settled w (l + l')
  unfolding available
  one_arc u w l l' from i number_in arc = go (truth (mem arc.col m.extracted))
    where
      s : BlockState
      s = block_at st i

      e : Rectangle
      e = s.block.lengths

      m : Model
      m = s.trace.model

      good : Good n st.settled st.settled h.level s
      good = every_at _ st.blocks h.inv.good i no_block_state number_in

      at_row : place_of u 0 s.block.rows ≡ some arc.row
      at_row = rw arc.tail at (place_of_lem s.block.rows good.fit.rows_differ arc.row arc.row_in_lem)

      most : UpTo (sum from.label (e arc.row arc.col)) (parent e m.activated arc.col)
      most = rw good.fine.rows_are (settled_up_to e s.block.rows arc.col u arc.row from.label st.settled (λ q. arc.some_path (sym arc.length_is ∙ q)) from.is at_row)

      least_sum : (x : Best) (k : ℕ) → UpTo (sum from.label (e arc.row arc.col)) x → From k x → k ≤ l + l'
      least_sum nobody k p q = absurd p
      least_sum (by r s) k p q = omega (arith, from.short, arc.length_is)

      go : Truth (mem arc.col m.extracted) → Within st.settled w (l + l')
      go (holds t) =
          let r : Reached st.settled h.level w (parent e m.activated arc.col) = rw arc.head at (good.fine.behind arc.col t) in
          record { label = r.label; is = r.is; short = least_sum (parent e m.activated arc.col) r.label most r.least }
      go (fails t) =
          let unowned : parent e m.activated arc.col ≡ nobody = simp t at (nothing i number_in arc.col arc.col_in_lem) in
          absurd (rw unowned at most)

  along : {v l : ℕ} → Walk (BlockArc bs) source v l → Within st.settled v l
  along stay = record { label = 0; is = h.begins; short = le_refl 0 }
  along (then {u} {l} {v} {l'} p a) = one_arc u v l l' (along p) a.number
      (simp length-map at (rw (← h.inv.blocks_are) at a.number_in)) (rw (block_at_lem bs n source st a.number h.inv.blocks_are) at a.arc)

  exact : (v : ℕ) → BlockDistance bs source v (label_of v st.settled)
  exact v = go (status v st.settled)
    where
      go : Status v st.settled → BlockDistance bs source v (label_of v st.settled)
      go (settled l q) = rw q ((labelled v (Labelled bs n source h.level (length st.settled)) l st.settled h.inv.labels q).walk, λ k p. least (along p))
        where
          least : {k : ℕ} → Within st.settled v k → l ≤ k
          least w = let q : l ≡ w.label = cc in omega (arith, w.short)
      go (unsettled q) = rw q (λ k p. never (along p))
        where
          never : {k : ℕ} → Within st.settled v k → ⊥
          never w = let z : ◌≡◌ {A = ℕ} 0 1 = cc in omega arith

pub labels_exact : (bs : List Block) (n source : ℕ) → Setting bs n source → (v : ℕ) → BlockDistance bs source v (label_of v (labelling bs source).settled)
unfolding labelling
labels_exact bs n source given v =
    exact bs n source (steps (columns bs) (start bs source)) (steps_hold bs n source given (columns bs)) (unfold labelling in ends bs n source given) v
