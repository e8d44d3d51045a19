-- `fill_places`: when piece d is next, those from d on are stored.
use Rattle.std.proofs.Common.{◌≡◌, ℕ, ◌-◌, suc, ap, ◌∙◌, length, arith, rules}
use Rattle.std.proofs.lemmas.List.{length-replicate}
use Rattle.definitions.specs.Limits.{max_pieces}
use Rattle.preparation.specs.Prepared.{place_count, places_from, places_of}
use Rattle.preparation.proofs.fill_places.Goals as goal

pub loop-d-init : goal.loop-d-init
unfolding places_from
loop-d-init c =
    let fresh = c.requires in
    record { sized = ap length fresh ∙ length-replicate {A = ℕ} place_count 0; stored = fresh }

pub loop-d-preserved : goal.loop-d-preserved
unfolding places_from
loop-d-preserved c =
    let l = c.loop-d in
    let z : max_pieces - (l.d - 1) ≡ suc (max_pieces - l.d) = omega arith in
    let y : max_pieces - 1 - (max_pieces - l.d) ≡ l.d - 1 = omega arith in
    record { sized = search rules; stored = rw (z, y) (c.store_places.ensures ∙ rw (l.invariant.stored, c.size_at.ensures.0)) }

pub returns : goal.returns
unfolding places_of
returns c =
    let l = c.loop-d in
    let z : max_pieces - l.d ≡ max_pieces = omega arith in
    l.invariant.stored ∙ rw z
