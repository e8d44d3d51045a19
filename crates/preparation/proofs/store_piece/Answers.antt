-- `store_piece`: after s turns the blocks of the first s splits are stored. The split that a turn reads from the list of all is split s of
-- the piece, cut between two of its places, so that no difference falls below 0.
use mathlib.Core.Path.{◌≡◌, sym}
use mathlib.Core.List.{List, map}
use Prim.Native.Nat.{ℕ, pred, ◌≤◌, ◌<◌, ◌+◌, ◌*◌}
use native.Mathlib.Numerals.{sub-one}
use native.Mathlib.Omega.{arith}
use borrow.Author.Rules.{rules}
use lib.ListN.{get_or, length, take}
use Rattle.definitions.specs.Limits.{max_size}
use Rattle.definitions.specs.Blocks.{splits_of, all_splits, windows}
use Rattle.splits.specs.declared.Split as code
use Rattle.splits.specs.Table.{flattened, no_split, split_of, split_in, first_split}
use Rattle.splits.proofs.Sizes.{first_small, cut_at, split_is}
use Rattle.splits.specs.Sizes.{Cut}
use Rattle.preparation.specs.Prepared.{place, split_placements, Stored}
use Rattle.preparation.specs.Numbers.{stored_none, stored_more, split_words_lem, placements_next, placements_all, length_placements}
use Rattle.preparation.proofs.store_piece.Goals as goal

module _ (m : ℕ) (small : m ≤ max_size) (list : List ℕ) (begin s : ℕ) (c : code.Split) (l : s < pred m) (e : list ≡ flattened all_splits) (f : begin ≡ first_split m)
    (h : c ≡ split_in list (begin + s)) where
  cut_here : Cut m (split_of c)
  cut_here = rw (split_is m small list begin s c l e f h) (cut_at m small s l)

  split_more : (before mid out : List ℕ) (b slot next end d : ℕ) → Stored before mid b slot next (map (place d) (windows (take s (splits_of m))))
      → Stored mid out (b + 2 * s) next end (split_placements d (split_of c)) → Stored before out b slot end (map (place d) (windows (take (s + 1) (splits_of m))))
  split_more before mid out b slot next end d p q =
      let n : 2 * s ≡ length (map (place d) (windows (take s (splits_of m)))) = sym (length_placements m small d s (omega arith)) in
      let q' : Stored mid out (b + length (map (place d) (windows (take s (splits_of m))))) next end (split_placements d (get_or (splits_of m) s no_split)) = rw (n, split_is m small list begin s c l e f h) at q in
      rw (placements_next m small d s l) (stored_more before mid out b slot next end _ _ p q')

pub loop-s-init : goal.loop-s-init
unfolding windows
loop-s-init c = record { sized = search rules; short = search rules; stored = stored_none _ _ _ }

pub overflow_add-begin : goal.overflow_add-begin
overflow_add-begin c = omega (arith, c.first_split-begin.ensures, first_small c.args.m c.requires.4)

pub store_split-next-requires : goal.store_split-next-requires
store_split-next-requires c =
    let l = c.loop-s in
    let k = cut_here c.args.m c.requires.4 c.args.splits.now _ l.s _ (omega arith) c.requires.0 c.first_split-begin.ensures c.split_in-c.ensures in
    (omega arith, omega arith, omega arith, k.before, k.after, omega (arith, k.inside))

pub loop-s-preserved : goal.loop-s-preserved
loop-s-preserved c =
    let l = c.loop-s in
    let first = c.first_split-begin.ensures in
    let read = c.split_in-c.ensures in
    let end = c.store_split-next.ensures.end in
    let few = split_words_lem c.args.m c.requires.4 c.args.d _ (cut_here c.args.m c.requires.4 c.args.splits.now _ l.s _ (omega arith) c.requires.0 first read) in
    record {
      sized = search rules;
      short = omega (arith, end, few);
      stored = split_more c.args.m c.requires.4 c.args.splits.now _ l.s _ (omega arith) c.requires.0 first read c.args.parts.now l.parts _ c.args.b c.args.slot l.next _ c.args.d l.invariant.stored c.store_split-next.ensures;
    }

pub returns : goal.returns
returns c =
    let l = c.loop-s in
    rw (placements_all c.args.m c.requires.4 c.args.d l.s (omega (arith, sub-one c.args.m))) at l.invariant.stored
