-- `extract_block`: the key of the least sum that is left goes into the tournament.
use native.Mathlib.Omega.{arith}
use Rattle.engine.specs.Tree.TreeWords.{room}
use Rattle.engine.specs.Labeller.BlockCalls.{played_after}
use Rattle.engine.proofs.blocks.BlockHeaps.extract_block.Goals as goal

pub extract_heap-extracted-requires : goal.extract_heap-extracted-requires
extract_heap-extracted-requires c =
    let p = c.requires in
    record { blocks = p.blocks; states = p.states; held = p.running.held; block_in = p.block_in }

pub block_key-x-requires : goal.block_key-x-requires
block_key-x-requires c =
    let p = c.requires in
    let g = c.extract_heap-extracted.ensures p.blocks p.states p.running.held p.block_in in
    record { blocks = p.blocks; states = _; held = g.called.kept; block_in = p.block_in }

pub replace_key-requires : goal.replace_key-requires
replace_key-requires c =
    let p = c.requires in
    omega (arith, p.running.held.parted.few, p.block_in, room)

pub returns : goal.returns
returns c =
    λ bs ss h l.
    let g = c.extract_heap-extracted.ensures bs ss h.held l in
    record {
      called = record {
        kept = record {
          held = g.called.kept;
          played = played_after ss _ _ _ _ _ h.played c.replace_key.ensures (c.block_key-x.ensures _ _ g.called.kept l);
        };
        inserted_is = g.called.inserted_is;
      };
      answer_is = g.answer_is;
      parent_is = g.parent_is;
    }
