-- The trace of each block is that of a list of calls on a fresh model: what holds of every list of calls holds in the labelling.
--   made
use Rattle.std.specs.Prelude.{refl, List, [], ◌∷◌, ◌++◌, map, ℕ, zero, suc, get_or, length}
use Rattle.std.proofs.Common.{sym, ap, ◌∙◌}
use Rattle.std.proofs.Math.Option.{Option, none, some}
use Rattle.definitions.specs.Lists.{Every}
use Rattle.definitions.specs.Network.{RouteArc}
use Rattle.definitions.specs.Blocks.{Block}
use Rattle.definitions.specs.Best.{Best, nobody, by}
use Rattle.definitions.specs.Model.{Call, Trace, extend, trace_from, trace}
use Rattle.definitions.specs.Labelling.{BlockState, activation, extraction, fresh_block, apply, place_of, activate_at, activate_vertex, State, label_of, settle_as, settle, no_block_state, chosen, extract_from, advance, steps, start}
use Rattle.basics.specs.ListLaws.{every_map, every_set}
use Rattle.heap_laws.proofs.ModelCalls.{trace_snoc}
use Rattle.labelling_laws.proofs.VertexPlaces.{at_place}
use Rattle.labelling_laws.specs.BlockTraces.{Made}

fresh_made : (b : Block) → Made (fresh_block b)
unfolding fresh_block trace trace_from
fresh_made b = record { calls = []; trace_is = refl }

apply_made : (s : BlockState) (k : Call) → Made s → Made (apply s k)
unfolding apply
apply_made s k r = record {
  calls = r.calls ++ k ∷ [];
  trace_is = ap (λ (t : Trace). extend s.block.lengths (length s.block.rows) (length s.block.cols) t k) r.trace_is
      ∙ sym (trace_snoc s.block.lengths (length s.block.rows) (length s.block.cols) r.calls k);
}

activate_made : (v l : ℕ) (s : BlockState) → Made s → Made (activate_vertex v l s)
unfolding activate_vertex activate_at
activate_made v l s r = go (place_of v 0 s.block.rows)
  where
    go : (x : Option ℕ) → Made (activate_at x l s)
    go none = r
    go (some i) = apply_made s (activation i l) r

settle_made : (v l : ℕ) (a : Option RouteArc) (st : State) → Every Made st.blocks → Every Made (settle v l a st).blocks
unfolding settle settle_as
settle_made v l a st h = go (label_of v st.settled)
  where
    go : (x : Option ℕ) → Every Made (settle_as x v l a st).blocks
    go none = every_map Made Made (activate_vertex v l) st.blocks (activate_made v l) h
    go (some i) = h

none_made : Made no_block_state
unfolding trace trace_from
none_made = record { calls = []; trace_is = refl }

extract_made : (x : Best) (st : State) → Every Made st.blocks → Every Made (extract_from x st).blocks
unfolding extract_from
extract_made nobody st h = h
extract_made (by i s) st h = settle_made _ s _ _ (every_set Made st.blocks i _ h (apply_made (get_or st.blocks i no_block_state) extraction (at_place Made no_block_state st.blocks none_made h i)))

all_fresh : (bs : List Block) → Every Made (map fresh_block bs)
all_fresh [] = tt
all_fresh (b ∷ bs) = (fresh_made b, all_fresh bs)

pub made : (bs : List Block) (source m : ℕ) → Every Made (steps m (start bs source)).blocks
unfolding steps advance start
made bs source zero = settle_made source 0 none (record { blocks = map fresh_block bs; settled = [] }) (all_fresh bs)
made bs source (suc m) = extract_made (chosen (steps m (start bs source))) (steps m (start bs source)) (made bs source m)
