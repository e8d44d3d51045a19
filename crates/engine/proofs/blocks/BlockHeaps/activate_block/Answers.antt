-- `activate_block`: the heap is activated, and the key of its least sum falls in the tournament as that sum does.
use native.Mathlib.Omega.{arith}
use Rattle.engine.specs.Tree.TreeWords.{room}
use Rattle.engine.specs.Labeller.BlockCalls.{played_lower, played_same}
use Rattle.engine.proofs.blocks.BlockHeaps.activate_block.Goals as goal

pub activate_heap-activated-requires : goal.activate_heap-activated-requires
activate_heap-activated-requires c =
    let p = c.requires in
    record { blocks = p.blocks; states = p.states; held = p.running.held; accepts = p.accepts }

pub key-x-requires : goal.key-x-requires
key-x-requires c = let p = c.requires in omega (arith, p.running.held.parted.few, p.accepts.block_in, room)

pub lower_key-requires : goal.lower_key-requires
lower_key-requires c = let p = c.requires in omega (arith, p.running.held.parted.few, p.accepts.block_in, room)

pub returns-then-inserted-gt0 : goal.returns-then-inserted-gt0
returns-then-inserted-gt0 c =
    λ bs ss h a.
    let g = c.activate_heap-activated.ensures bs ss h.held a in
    record {
      kept = record {
        held = g.called.kept;
        played = played_lower ss _ _ _ _ _ _ _ (omega (arith, h.held.parted.few, a.block_in, room)) c.if-inserted-gt0.true h.played c.lower_key.ensures c.key-x.ensures g.falls;
      };
      inserted_is = g.called.inserted_is;
    }

pub returns-else-inserted-gt0 : goal.returns-else-inserted-gt0
returns-else-inserted-gt0 c =
    λ bs ss h a.
    let g = c.activate_heap-activated.ensures bs ss h.held a in
    record {
      kept = record { held = g.called.kept; played = played_same ss _ _ _ _ _ (omega (arith, c.if-inserted-gt0.false)) h.played g.falls };
      inserted_is = g.called.inserted_is;
    }
