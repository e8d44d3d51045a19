-- What a program's loop needs of the labelling, step by step.
--   start_is advance_old advance_new           the start, and a step by the two ways it can go
--   activated_at activated_none activated_one_lem  the activations of a step, block by block
--   least_in_lem least_none chosen_none            a block's least column, and that none is left
--   labels_length labels_none labels_at labels_read labels_set read_settled read_unsettled    the label buffer
use Rattle.std.specs.Prelude.{◌≡◌, refl, List, [], ◌∷◌, ◌++◌, map, ◌≢◌, ℕ, suc, ◌+◌, ◌-◌, ◌≤◌, ◌<◌, length, set, replicate}
use Rattle.std.proofs.Common.{sym, ◌∙◌, arith, length-set, get_or-set_same, get_or-set_other, ext_get_or}
use Rattle.std.proofs.Math.Option.{Option, none, some}
use Rattle.std.proofs.Math.ListN.{get_or, get_or-map}
use Rattle.std.proofs.lemmas.List.{length-map, length-replicate, get_or-replicate}
use Rattle.definitions.specs.Limits.{max_label, label_places, unreached}
use Rattle.definitions.specs.Lists.{up_from, Every}
use Rattle.definitions.specs.Network.{RouteArc}
use Rattle.definitions.specs.Blocks.{Block}
use Rattle.definitions.specs.Best.{nobody, by, Lowest}
use Rattle.definitions.proofs.Laws.LeastLaws.{Found, found_is}
use Rattle.definitions.specs.Model.{available, intervals}
use Rattle.definitions.specs.Labelling.{BlockState, activation, extraction, fresh_block, apply, least_of, place_of, activate_at, activate_vertex, settled_at, State, label_of, settle_as, settle, no_block_state, chosen, place_in, arc_into, extract_from, advance, start, held_label, labels}
use Rattle.logic.specs.Tests.{Equal, equal, differ, equality}
use Rattle.basics.specs.ListLaws.{every_all}
use Rattle.heap_laws.proofs.Extract.{found_none}
use Rattle.basics.specs.Sequences.{length_up_from, get_or_up_from, map_at}
use Rattle.labelling_laws.proofs.Labels.{label_new, label_other, status}
use Rattle.labelling_laws.specs.Labels.{Status, settled, unsettled}
use Rattle.labelling_laws.specs.BlockSteps.{block_at, column_vertex}

-- ---- the start and a step

pub start_is : (bs : List Block) (source : ℕ) → start bs source ≡ record { blocks = map (activate_vertex source 0) (map fresh_block bs); settled = settled_at source 0 none ∷ [] }
unfolding start settle settle_as label_of
start_is bs source = refl

module _ (st : State) (i c s : ℕ) (first : chosen st ≡ by i s) (here : least_of (block_at st i) ≡ by c s) where
  pub advance_old : (l : ℕ) → label_of (column_vertex (block_at st i) c) st.settled ≡ some l
      → advance st ≡ record { blocks = set st.blocks i (apply (block_at st i) extraction); settled = st.settled }
  unfolding advance extract_from settle settle_as place_in
  advance_old l h = rw (first, here, h)

  pub advance_new : label_of (column_vertex (block_at st i) c) st.settled ≡ none
      → advance st ≡ record {
        blocks = map (activate_vertex (column_vertex (block_at st i) c) s) (set st.blocks i (apply (block_at st i) extraction));
        settled = st.settled ++ settled_at (column_vertex (block_at st i) c) s (some (arc_into (block_at st i) c)) ∷ [];
      }
  unfolding advance extract_from settle settle_as place_in
  advance_new h = rw (first, here, h)

-- ---- block by block

pub activated_at : (v l : ℕ) (ss : List BlockState) (i : ℕ) → get_or (map (activate_vertex v l) ss) i no_block_state ≡ activate_vertex v l (get_or ss i no_block_state)
unfolding activate_vertex activate_at place_of
activated_at v l ss i = get_or-map (activate_vertex v l) ss i no_block_state

-- a block that has the vertex in no row, and one that has
pub activated_none : (v l : ℕ) (s : BlockState) → place_of v 0 s.block.rows ≡ none → activate_vertex v l s ≡ s
unfolding activate_vertex activate_at
activated_none v l s h = rw h

pub activated_one_lem : (v l : ℕ) (s : BlockState) (r : ℕ) → place_of v 0 s.block.rows ≡ some r → activate_vertex v l s ≡ apply s (activation r l)
unfolding activate_vertex activate_at
activated_one_lem v l s r h = rw h

-- ---- a block's least column

module _ (s : BlockState) where
  pub least_in_lem : (c l : ℕ) → least_of s ≡ by c l → c < length s.block.cols
  unfolding least_of
  least_in_lem c l q =
      let f : Lowest (available s.block.lengths s.trace.model) 0 (length s.block.cols) c l
      = rw q at (found_is (available s.block.lengths s.trace.model) 0 (length s.block.cols)) in
      omega (arith, f.high)

  -- where there is none, no interval is left
  pub least_none : least_of s ≡ nobody → intervals s.block.lengths (length s.block.cols) s.trace.model ≡ []
  unfolding least_of
  least_none q = found_none s.block.lengths (length s.block.cols) s.trace.model q

pub chosen_none : (st : State) → chosen st ≡ nobody → Every (λ s. intervals s.block.lengths (length s.block.cols) s.trace.model ≡ []) st.blocks
unfolding chosen
chosen_none st q =
    let f : Found (λ i. least_of (block_at st i)) 0 (length st.blocks) nobody = rw q at (found_is (λ i. least_of (block_at st i)) 0 (length st.blocks)) in
    every_all _ st.blocks no_block_state (λ i l. least_none (block_at st i) (f i (omega arith) (omega arith)))

-- ---- the label buffer

pub labels_length : (st : State) → length (labels st) ≡ label_places
unfolding labels
labels_length st = length-map (up_from 1 label_places) _ ∙ length_up_from 1 label_places

-- place i holds the label of vertex i + 1
pub labels_at : (st : State) (i : ℕ) → i < label_places → get_or (labels st) i 0 ≡ held_label (label_of (suc i) st.settled)
unfolding labels
labels_at st i l =
    let q : 1 + i ≡ suc i = omega arith in
    map_at (λ v. held_label (label_of v st.settled)) (up_from 1 label_places) i 0 0 (rw length_up_from l) ∙ rw (get_or_up_from 1 label_places i l, q)

pub labels_read : (st : State) (v : ℕ) → 1 ≤ v → v ≤ label_places → get_or (labels st) (v - 1) 0 ≡ held_label (label_of v st.settled)
labels_read st v l h = let q : suc (v - 1) ≡ v = omega arith in labels_at st (v - 1) (omega arith) ∙ rw q

-- nothing settled
pub labels_none : (ss : List BlockState) → labels (record { blocks = ss; settled = [] }) ≡ replicate label_places unreached
unfolding label_of held_label
labels_none ss = ext_get_or 0 _ _ (labels_length _ ∙ sym (length-replicate {A = ℕ} label_places unreached))
    (λ i l. let k : i < label_places = rw labels_length at l in labels_at _ i k ∙ sym (get_or-replicate label_places i unreached 0 k))

-- a vertex is settled: one store
pub labels_set : (st st' : State) (v l : ℕ) (a : Option RouteArc) → label_of v st.settled ≡ none → st'.settled ≡ st.settled ++ settled_at v l a ∷ [] → 1 ≤ v → v ≤ label_places
    → labels st' ≡ set (labels st) (v - 1) l
unfolding held_label
labels_set st st' v l a fresh grown low high = ext_get_or 0 _ _ (labels_length st' ∙ sym (length-set (labels st) (v - 1) l ∙ labels_length st))
    (λ i k. let j : i < label_places = rw labels_length at k in labels_at st' i j ∙ rw grown (at i j (equality i (v - 1))))
  where
    at : (i : ℕ) → i < label_places → Equal i (v - 1) → held_label (label_of (suc i) (st.settled ++ settled_at v l a ∷ [])) ≡ get_or (set (labels st) (v - 1) l) i 0
    at i k (equal t q) =
        let p : suc i ≡ v = omega arith in
        rw (p, label_new v (settled_at v l a) st.settled refl fresh, q) (sym (get_or-set_same (labels st) (v - 1) l 0 (rw labels_length (omega arith))))
    at i k (differ t q) =
        let p : suc i ≢ v = omega arith in
        rw (label_other (suc i) (settled_at v l a) st.settled p) (sym (get_or-set_other (labels st) (v - 1) i l 0 q ∙ labels_at st i k))

-- whether a vertex is settled, from its place in the buffer
module _ (st : State) (v : ℕ) (low : 1 ≤ v) (high : v ≤ label_places) where
  pub read_unsettled : ((l : ℕ) → label_of v st.settled ≡ some l → l ≤ max_label) → get_or (labels st) (v - 1) 0 ≡ unreached → label_of v st.settled ≡ none
  unfolding held_label
  read_unsettled short q = go (status v st.settled)
    where
      go : Status v st.settled → label_of v st.settled ≡ none
      go (settled l h) = let r : get_or (labels st) (v - 1) 0 ≡ l = labels_read st v low high ∙ rw h in absurd (omega (arith, short l h, q))
      go (unsettled h) = h

  pub read_settled : get_or (labels st) (v - 1) 0 ≢ unreached → (l : ℕ) × (label_of v st.settled ≡ some l)
  unfolding held_label
  read_settled q = go (status v st.settled)
    where
      go : Status v st.settled → (l : ℕ) × (label_of v st.settled ≡ some l)
      go (settled l h) = (l, h)
      go (unsettled h) = absurd (q (labels_read st v low high ∙ rw h))
