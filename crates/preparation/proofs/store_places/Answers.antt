-- `store_places`: when place k of the piece is next, those from k on are stored.
use Rattle.std.proofs.Common.{◌≡◌, ℕ, ◌+◌, ◌-◌, ◌*◌, ◌≤◌, List, suc, get_or, ◌∙◌, arith, rules}
use Rattle.definitions.specs.Limits.{row_places}
use Rattle.preparation.specs.Prepared.{store_place, store_places}
use Rattle.preparation.proofs.store_places.Goals as goal

next : (vertices before mid out : List ℕ) (d m k : ℕ) → 1 ≤ k → k ≤ m → mid ≡ store_places vertices d m before (m - k)
    → out ≡ store_place (row_places * d + (k - 1)) (get_or vertices (row_places * d + (k - 1)) 0) mid → out ≡ store_places vertices d m before (m - (k - 1))
unfolding store_places
next vertices before mid out d m k some few e f =
    let z : m - (k - 1) ≡ suc (m - k) = omega arith in
    let y : m - 1 - (m - k) ≡ k - 1 = omega arith in
    rw (z, y) (rw e at f)

pub loop-k-init : goal.loop-k-init
unfolding store_places
loop-k-init c = let z : c.args.m - c.args.m ≡ 0 = omega arith in record { sized = search rules; stored = rw z }

pub loop-k-preserved : goal.loop-k-preserved
loop-k-preserved c =
    let l = c.loop-k in
    record { sized = search rules; stored = next _ _ _ _ c.args.d _ l.k (omega arith) (omega arith) l.invariant.stored c.store_place.ensures }

pub returns : goal.returns
returns c =
    let l = c.loop-k in
    let z : c.args.m - l.k ≡ c.args.m = omega arith in
    l.invariant.stored ∙ rw z
