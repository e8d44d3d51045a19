-- The test of a rectangle computes the inequality, neither more nor less: the proof of `passes_exactly` in the file Blocks.
use Rattle.std.specs.Prelude.{◌≡◌, true, ℕ}
use Rattle.definitions.specs.Lists.{all}
use Rattle.definitions.specs.Network.{Rectangle}
use Rattle.definitions.specs.Monge.{Monge, corners, is_monge}
use Rattle.definitions.proofs.Laws.Members.{all_at, all_is}

pub is_monge_is : (e : Rectangle) (rows cols : ℕ) → is_monge e rows cols ≡ true → Monge e rows cols
unfolding is_monge
is_monge_is e rows cols t i j k l ij hj kl hl =
    let rows_pass = all_at (λ j. all (λ i. all (λ l. all (λ k. corners e i j k l) l) cols) j) rows t j hj in
    let two-rows = all_at (λ i. all (λ l. all (λ k. corners e i j k l) l) cols) j rows_pass i ij in
    all_at (λ k. corners e i j k l) l (all_at (λ l. all (λ k. corners e i j k l) l) cols two-rows l hl) k kl

pub is_monge_from : (e : Rectangle) (rows cols : ℕ) → Monge e rows cols → is_monge e rows cols ≡ true
unfolding is_monge
is_monge_from e rows cols ok = all_is _ rows (λ j hj. all_is _ j (λ i ij. all_is _ cols (λ l hl. all_is _ l (λ k kl. ok i j k l ij hj kl hl))))
