-- The runs are exactly the longest ones: the proofs behind the laws of `intervals` in the file `Model`, over RunProofs.
--   runs_are_longest          an interval is among the runs exactly if it is a longest run
--   run_least                 the columns of a run have a least sum
use Rattle.std.specs.Prelude.{◌≡◌, refl, true, ◌↔◌, ℕ, suc, pred, ◌-◌}
use Rattle.std.proofs.Common.{sym, ap, ◌∙◌, le_refl, arith}
use Rattle.definitions.specs.Best.{Best, nobody, by, least_from}
use Rattle.definitions.specs.Intervals.{interval, runs, Owned, LongestRun, is_kept}
use Rattle.definitions.proofs.Laws.LeastLaws.{Found, found_is}
use Rattle.definitions.proofs.Laws.RunProofs.{tag, tag_is, IsRun, Longest, runs_longest, kept_every, run_kept}

-- a parent as a number
tag_owned : (w : ℕ → Best) (p k : ℕ) → Owned w p k → tag (w k) ≡ suc p
unfolding tag
tag_owned w p k o = rw o.1

plain : (w : ℕ → Best) (n p f l : ℕ) → IsRun w 0 n p f l → LongestRun w n p f l
plain w n p f l r = record {
  ordered = r.ordered;
  inside = omega (arith, r.high);
  owned = λ k a b. tag_is (w k) p (r.owned k a b);
  before = λ a o. r.left (omega arith) (tag_owned w p (pred f) o);
  after = λ a o. r.right (omega arith) (tag_owned w p (suc l) o);
}

tagged : (w : ℕ → Best) (n p f l : ℕ) → LongestRun w n p f l → IsRun w 0 n p f l
tagged w n p f l r = record {
  low = omega arith;
  ordered = r.ordered;
  high = omega (arith, r.inside);
  owned = λ k a b. tag_owned w p k (r.owned k a b);
  left = λ a t. r.before (omega arith) (tag_is (w (pred f)) p t);
  right = λ a t. r.after (omega arith) (tag_is (w (suc l)) p t);
}

-- exactly the longest runs
pub runs_are_longest : (w : ℕ → Best) (n p f l : ℕ)
    → is_kept (interval p f l) (runs w 0 n) ≡ true ↔ LongestRun w n p f l
runs_are_longest w n p f l = (λ k. plain w n p f l (kept_every (Longest w 0 n) (interval p f l) (runs w 0 n) (runs_longest w 0 n) k), λ r. run_kept w 0 n p f l (tagged w n p f l r))

-- each has a column with a sum, so something is found among its columns
pub run_least : (w : ℕ → Best) (c n p f l : ℕ) → IsRun w c n p f l → (k : ℕ) × (s : ℕ) × (least_from w f (suc l - f) ≡ by k s)
unfolding tag
run_least w c n p f l r = go (least_from w f (suc l - f)) (found_is w f (suc l - f))
  where
    go : (x : Best) → Found w f (suc l - f) x → (k : ℕ) × (s : ℕ) × (x ≡ by k s)
    go nobody none =
        let z : tag nobody ≡ suc p = sym (ap tag (none f (le_refl f) (omega (arith, r.ordered)))) ∙ r.owned f (le_refl f) r.ordered in
        absurd (omega arith)
    go (by k s) found = (k, s, refl)
