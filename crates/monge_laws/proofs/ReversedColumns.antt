-- The columns of a rectangle from the last one down: the inequality is then that of the columns as they stood, with its two rows exchanged. In the table of its piece the columns of a block stand
-- the other way round, and so it is checked as they stand there.
--   in_order exchanged            the check by neighbours, each two rows exchanged or not: it is the check of the rectangle, and of the reversed one
use Rattle.std.specs.Prelude.{◌≡◌, Bool, true, false}
use Rattle.std.proofs.Math.Path.{refl, ap}
use Rattle.std.proofs.Common.{◌∙◌, arith}
use Rattle.std.proofs.Math.Bool.{not}
use Prim.Native.Nat.{ℕ, zero, suc, pred, ◌-◌, ◌<◌}
use Rattle.std.proofs.Math.Dec.{eqb}
use Rattle.definitions.specs.Limits.{no_path}
use Rattle.definitions.specs.Lists.{all}
use Rattle.definitions.specs.Network.{Rectangle}
use Rattle.definitions.specs.Monge.{is_monge}
use Rattle.definitions.proofs.Laws.Members.{all_at, all_is}
use Rattle.logic.specs.Tests.{same_test}
use Rattle.basics.specs.ListLaws.{all_same}
use Rattle.monge_laws.specs.Inequality.{Corners}
use Rattle.monge_laws.specs.Neighbours.{last_below, agrees_at, neighbours, agree, is_open_row, is_monge_fast}
use Rattle.monge_laws.proofs.Neighbours.{agree_is, agree_from, fast_same}
use Rattle.monge_laws.specs.ReversedColumns.{reversed, agree_by, rows_agree}

-- ---- the same tests, the same neighbours

module _ (p q : ℕ → Bool) (same : (i : ℕ) → p i ≡ q i) where
  last_same : (n : ℕ) → last_below p n ≡ last_below q n
  unfolding last_below
  last_same zero = refl
  last_same (suc n) = rw (same n, last_same n)

  neighbours_same : (ok fit : ℕ → ℕ → Bool) → ((i j : ℕ) → ok i j ≡ fit i j) → (n : ℕ) → neighbours p ok n ≡ neighbours q fit n
  unfolding neighbours agrees_at
  neighbours_same ok fit h n = all_same _ _ n (λ l _. rw (same l, last_same l, h (pred (last_below q l)) l))

-- ---- one row and two rows, reversed

back : (cols k : ℕ) → k < cols → cols - 1 - (cols - 1 - k) ≡ k
back cols k h = omega arith

all_reversed : (p : ℕ → Bool) (n : ℕ) → all p n ≡ all (λ k. p (n - 1 - k)) n
all_reversed p n = same_test _ _
    (λ t. all_is _ n (λ k h. all_at p n t (n - 1 - k) (omega arith)))
    (λ t. all_is p n (λ k h. rw (← back n k h) (all_at (λ k. p (n - 1 - k)) n t (n - 1 - k) (omega arith))))

module _ (e : Rectangle) (cols : ℕ) where
  open_reversed : (i : ℕ) → is_open_row e cols i ≡ is_open_row (reversed e cols) cols i
  unfolding is_open_row
  open_reversed i = ap not (all_reversed (λ k. eqb (e i k) no_path) cols)

  both : (i j k l : ℕ) → Corners e j i k l → Corners e i j l k
  both i j k l f il jk = let n = f jk il in (n.1, n.0, omega (arith, n.2))

  agree_reversed : (i j : ℕ) → agree e cols j i ≡ agree (reversed e cols) cols i j
  agree_reversed i j = same_test _ _
      (λ t. agree_from (reversed e cols) i j cols (λ k l kl hl. both i j (cols - 1 - l) (cols - 1 - k) (agree_is e j i cols t (cols - 1 - l) (cols - 1 - k) (omega arith) (omega arith))))
      (λ t. agree_from e j i cols (λ k l kl hl. there k l (omega arith) hl (agree_is (reversed e cols) i j cols t (cols - 1 - l) (cols - 1 - k) (omega arith) (omega arith))))
    where
      there : (k l : ℕ) → k < cols → l < cols → Corners (reversed e cols) i j (cols - 1 - l) (cols - 1 - k) → Corners e j i k l
      there k l hk hl = rw (back cols k hk, back cols l hl) (λ f. both j i l k f)

-- ---- the check

module _ (e : Rectangle) (rows cols : ℕ) where
  pub in_order : rows_agree false e rows cols ≡ is_monge e rows cols
  unfolding rows_agree agree_by is_monge_fast
  in_order = fast_same e rows cols

  pub exchanged : rows_agree true e rows cols ≡ is_monge (reversed e cols) rows cols
  unfolding rows_agree agree_by is_monge_fast
  exchanged = neighbours_same _ _ (open_reversed e cols) _ _ (agree_reversed e cols) rows ∙ fast_same (reversed e cols) rows cols
